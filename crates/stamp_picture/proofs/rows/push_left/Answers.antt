use Rattle.std.proofs.Common.{◌∙◌}
use Rattle.stamp_picture.specs.Rows.{left_text}
use Rattle.stamp_picture.proofs.Appending.{item_written}
use Rattle.stamp_picture.proofs.rows.push_left.Goals as goal

pub loop-moment-preserved : goal.loop-moment-preserved
loop-moment-preserved c =
    let moment = c.moment-item.result in
    item_written (left_text c.args.position) c.args.ribbon.now c.loop-moment.moment-index moment moment _ _ _
    c.loop-moment-test.true
    c.moment-item.is c.loop-moment.invariant
    (rw (c.deref.ensures ∙ c.in_ok-left.ensures) at c.in_ok-push_text.ensures)
