use Rattle.std.proofs.Common.{◌≡◌, ◌++◌, drop}
use Rattle.stamp_picture.specs.Sheet.{boxes_of, held_boxes, content_boxes}
use Rattle.stamp_picture.proofs.sheet.content_boxes.Given as goal

abbrev pub invariant-loop-moment : goal.invariant-loop-moment
invariant-loop-moment l =
    boxes_of l.boxes.items ++ held_boxes l.positions l.x l.held (drop l.moment-index l.ribbon) ≡
    content_boxes l.positions l.opening.content l.ribbon
