use Rattle.std.proofs.Common.{◌≡◌, ◌++◌, take}
use Rattle.stamp_picture.specs.Svg.{boxes_text}
use Rattle.stamp_picture.proofs.svg.push_boxes.Given as goal

abbrev pub invariant-loop-labelled : goal.invariant-loop-labelled
invariant-loop-labelled l = l.text.items ≡ l.fn.text.items ++ boxes_text (take l.labelled-index l.boxes)
