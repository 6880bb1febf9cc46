use Rattle.std.proofs.Common.{◌≡◌, map, take}
use Rattle.stamp_picture.specs.Sheet.{boxes_of, bar_box}
use Rattle.stamp_picture.proofs.sheet.bar_boxes.Given as goal

abbrev pub invariant-loop-bar : goal.invariant-loop-bar
invariant-loop-bar l = boxes_of l.boxes.items ≡ map (bar_box l.verdict l.positions) (take l.bar-index l.bars)
