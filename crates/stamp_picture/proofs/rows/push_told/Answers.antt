use Rattle.std.proofs.Common.{◌∙◌}
use Rattle.stamp_picture.specs.Rows.{told_text}
use Rattle.stamp_picture.proofs.Appending.{item_written}
use Rattle.stamp_picture.proofs.rows.push_told.Goals as goal

pub loop-bar-preserved : goal.loop-bar-preserved
loop-bar-preserved c =
    let bar = c.bar-item.result in
    item_written (told_text c.args.position) c.args.there.now c.loop-bar.bar-index bar bar _ _ _ c.loop-bar-test.true
    c.bar-item.is c.loop-bar.invariant
    (rw (c.deref.ensures ∙ c.in_ok-told.ensures) at c.in_ok-push_text.ensures)
