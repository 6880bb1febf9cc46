use Rattle.std.proofs.Common.{◌∙◌, ℕ, get_or, refl}
use Rattle.stamp_picture.specs.Rows.{cut_text, row_text}
use Rattle.stamp_picture.proofs.Appending.{item_written}
use Rattle.stamp_picture.proofs.rows.push_rows.Goals as goal

pub loop-position-preserved : goal.loop-position-preserved
loop-position-preserved c =
    let positions = c.args.positions.now in
    let i = c.loop-position.position-index in
    item_written (λ (t : ℕ). cut_text c.args.width (row_text c.args.picture.now t)) positions i 0
    (get_or positions i 0) _ _ _
    c.loop-position-test.true refl c.loop-position.invariant
    (rw (c.deref.ensures.value ∙ c.in_ok-row.ensures) at c.in_ok-push_line.ensures)
