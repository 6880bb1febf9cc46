use Rattle.std.proofs.Common.{arith}
use Rattle.stamp_core.proofs.TwoLayouts.{either_layout}
use Rattle.stamp_watch.proofs.candidates.version_unit.Goals as goal

pub overflow_mul-result : goal.overflow_mul-result
overflow_mul-result c = grind (arith, either_layout c.args.layout, c.writer_unit.ensures)

pub returns : goal.returns
returns c = grind (arith, either_layout c.args.layout, c.writer_unit.ensures)
