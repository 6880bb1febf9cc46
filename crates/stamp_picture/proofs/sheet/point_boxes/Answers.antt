use Rattle.std.proofs.Common.{refl}
use Rattle.stamp_picture.proofs.OneByOne.{shown_more, unshown_more}
use Rattle.stamp_picture.proofs.sheet.point_boxes.Goals as goal
use Rattle.stamp_picture.proofs.sheet.point_boxes.Goals.{then-bar+in_ok-point_box+in_ok-push, else-bar}

pub loop-bar-preserved : goal.loop-bar-preserved
loop-bar-preserved c =
    let positions = c.args.positions.now in
    let bars = c.args.bars.now in
    let i = c.loop-bar.bar-index in
    let b = c.bar-item.result in
    let old = c.loop-bar.boxes.items in
    elim c.if-bar.branch [
      | then-bar+in_ok-point_box+in_ok-push w ↦ rw w.boxes-is (shown_more positions bars i b old _ _
          c.loop-bar-test.true c.bar-item.is w.if-bar.true c.loop-bar.invariant w.in_ok-push.ensures.items
          w.in_ok-point_box.ensures)
      | else-bar w ↦ rw w.boxes-is (unshown_more positions bars i b old _ c.loop-bar-test.true c.bar-item.is
          w.if-bar.false c.loop-bar.invariant refl)
    ]
