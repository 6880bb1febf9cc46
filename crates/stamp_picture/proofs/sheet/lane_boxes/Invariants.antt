use Rattle.std.proofs.Common.{◌≡◌, map}
use Rattle.std.specs.List.{range_with_len}
use Rattle.stamp_picture.specs.Sheet.{boxes_of, lane_box}
use Rattle.stamp_picture.proofs.sheet.lane_boxes.Given as goal

abbrev pub invariant-loop-lane : goal.invariant-loop-lane
invariant-loop-lane l = boxes_of l.boxes.items ≡ map (lane_box l.positions) (range_with_len 0 l.lane)
