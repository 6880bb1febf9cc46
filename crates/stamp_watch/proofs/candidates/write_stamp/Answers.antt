use Rattle.std.proofs.Common.{arith}
use Rattle.stamp_core.proofs.TwoLayouts.{either_layout}
use Rattle.stamp_watch.proofs.candidates.write_stamp.Goals as goal

pub overflow_mul-result : goal.overflow_mul-result
overflow_mul-result c = grind (
  arith,
  either_layout c.args.limits.layout,
  c.requires,
  c.layout-layout.ensures.in_range.versions,
  c.version_unit.ensures,
  c.layout-layout.ensures.layout,
)

pub overflow_add-result : goal.overflow_add-result
overflow_add-result c = grind (
  arith,
  either_layout c.args.limits.layout,
  c.requires,
  c.layout-layout.ensures.in_range.versions,
  c.version_unit.ensures,
  c.layout-layout.ensures.layout,
  c.writer_unit.ensures,
)
