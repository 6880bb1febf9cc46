use Rattle.std.proofs.Common.{arith}
use Rattle.stamp_core.proofs.TwoLayouts.{either_layout}
use Rattle.stamp_watch.proofs.candidates.read_stamp.Goals as goal

pub overflow_add-result : goal.overflow_add-result
overflow_add-result c = grind (
  arith,
  either_layout c.args.limits.layout,
  c.requires.version,
  c.requires.few,
  c.layout.ensures.in_range.versions,
  c.layout.ensures.in_range.readers,
  c.optimistic_stamp.ensures,
)
