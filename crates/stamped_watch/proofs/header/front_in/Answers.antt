use Rattle.std.proofs.Common.{rules}
use Rattle.stamp_core.specs.Limits.{bounds}
use Rattle.stamped_watch.specs.Header.{readers_in}
use Rattle.stamped_watch.specs.EventBytes.{number_in}
use Rattle.stamped_watch.proofs.header.front_in.Goals as goal

pub returns-in-Err-clause-fault : goal.returns-in-Err-clause-fault
returns-in-Err-clause-fault c = (
  search rules,
  (c.in-Some.has_data, search rules),
  record {
    limits = bounds c.in-Some-layout_in.layout (readers_in c.args.bytes.now) (number_in c.args.bytes.now);
    has = search rules;
    range = search rules;
  },
)
