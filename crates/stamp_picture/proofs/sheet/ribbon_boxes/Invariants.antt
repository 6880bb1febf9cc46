use Rattle.std.proofs.Common.{◌≡◌, ◌++◌, drop}
use Rattle.stamp_picture.specs.Frames.{border}
use Rattle.stamp_picture.specs.Sheet.{boxes_of, ribbon_boxes}
use Rattle.stamp_picture.proofs.sheet.ribbon_boxes.Given as goal

abbrev pub invariant-loop-moment : goal.invariant-loop-moment
invariant-loop-moment l =
    boxes_of l.boxes.items ++ ribbon_boxes l.positions l.x l.state (drop l.moment-index l.ribbon) ≡
    ribbon_boxes l.positions border l.opening l.ribbon
