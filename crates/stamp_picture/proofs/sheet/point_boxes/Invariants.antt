use Rattle.std.proofs.Common.{◌≡◌, take}
use Rattle.stamp_picture.specs.Sheet.{boxes_of, point_boxes}
use Rattle.stamp_picture.proofs.sheet.point_boxes.Given as goal

abbrev pub invariant-loop-bar : goal.invariant-loop-bar
invariant-loop-bar l = boxes_of l.boxes.items ≡ point_boxes l.positions (take l.bar-index l.bars)
