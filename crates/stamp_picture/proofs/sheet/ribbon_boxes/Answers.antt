use Rattle.stamp_picture.proofs.OneByOne.{ribbon_more}
use Rattle.stamp_picture.proofs.sheet.ribbon_boxes.Goals as goal

pub loop-moment-preserved : goal.loop-moment-preserved
loop-moment-preserved c =
    rw c.point_x-until.ensures (ribbon_more c.args.positions.now c.loop-moment.x c.loop-moment.state c.args.ribbon.now
    c.loop-moment.moment-index c.moment-item.result _ _ _ _ c.loop-moment-test.true c.moment-item.is
    c.in_ok-push.ensures.items (rw c.point_x-until.ensures at c.in_ok-state_box.ensures) c.loop-moment.invariant)
