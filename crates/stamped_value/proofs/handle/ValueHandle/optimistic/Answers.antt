use Rattle.std.proofs.Common.{rules}
use Rattle.stamped_value.proofs.Validating.{observed}
use Rattle.stamped_value.proofs.handle.ValueHandle.optimistic.Goals as goal

pub returns : goal.returns
returns g c = record {
  asks = record { lock = search rules; once = search rules; begins = search rules };
  made = search rules;
  last = λ some. observed _ _ _ _ c.ask.ensures.range c.in-Stamp.ensures.made some;
}
