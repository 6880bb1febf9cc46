use Rattle.std.proofs.Common.{get_or, refl}
use Rattle.stamp_picture.specs.Markup.{escape}
use Rattle.stamp_picture.proofs.Appending.{item_written}
use Rattle.stamp_picture.proofs.markup.push_escaped.Goals as goal

pub loop-byte-preserved : goal.loop-byte-preserved
loop-byte-preserved c =
    let xs = c.args.piece.now in
    let i = c.loop-byte.byte-index in
    item_written escape xs i 0 (get_or xs i 0) _ _ _ c.loop-byte-test.true refl c.loop-byte.invariant
    c.in_ok-push_byte.ensures
