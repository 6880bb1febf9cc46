use Rattle.std.proofs.Common.{◌≡◌, ◌%◌, ℕ}
use Rattle.std.specs.Prelude.{◌==◌}
use Rattle.stamp_picture.specs.Frames.{stride}
use Rattle.stamp_picture.specs.Sheet.{boxes_of, axis_box}
use Rattle.stamp_picture.proofs.OneByOne.{named}
use Rattle.stamp_picture.proofs.sheet.axis_boxes.Given as goal

abbrev pub invariant-loop-column : goal.invariant-loop-column
invariant-loop-column l =
    boxes_of l.boxes.items ≡ named (λ (n : ℕ). n % stride l.positions == 0) (axis_box l.positions l.lanes) l.column
