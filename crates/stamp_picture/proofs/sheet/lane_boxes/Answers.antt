use Rattle.stamp_picture.specs.Sheet.{lane_box}
use Rattle.stamp_picture.proofs.OneByOne.{laned_more}
use Rattle.stamp_picture.proofs.sheet.lane_boxes.Goals as goal

pub loop-lane-preserved : goal.loop-lane-preserved
loop-lane-preserved c =
    laned_more (lane_box c.args.positions.now) c.loop-lane.lane _ _ _ c.loop-lane.invariant c.in_ok-push.ensures.items
    c.in_ok-lane_box.ensures
