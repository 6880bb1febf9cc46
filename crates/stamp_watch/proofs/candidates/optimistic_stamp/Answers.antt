use Rattle.std.proofs.Common.{arith}
use Rattle.stamp_core.proofs.TwoLayouts.{either_layout}
use Rattle.stamp_watch.proofs.candidates.optimistic_stamp.Goals as goal

pub overflow_add-result : goal.overflow_add-result
overflow_add-result c = grind (
  arith,
  either_layout c.args.limits.layout,
  c.requires,
  c.layout.ensures.in_range.versions,
)

pub overflow_mul-result : goal.overflow_mul-result
overflow_mul-result c = grind (
  arith,
  either_layout c.args.limits.layout,
  c.requires,
  c.layout.ensures.in_range.versions,
  c.version_unit.ensures,
  c.layout.ensures.layout,
)
