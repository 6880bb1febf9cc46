use Rattle.std.proofs.Common.{List, sym, subst, take}
use Rattle.stamp_core.specs.declared.entry.Entry.{Entry}
use Rattle.stamp_picture.specs.inner.Track.{IsTrack}
use Rattle.stamp_picture.proofs.EachInTurn.{taken_more}
use Rattle.stamp_picture.proofs.picture.track_after.Goals as goal

pub loop-entry-preserved : goal.loop-entry-preserved
loop-entry-preserved c =
    let more = taken_more c.args.entries.now c.loop-entry.entry-index c.entry-item.result c.loop-entry-test.true
    c.entry-item.is in
    subst (λ (xs : List Entry). IsTrack c.args.limits c.args.width xs c.advance.new.self) (sym more)
    (c.advance.ensures.behind c.args.width (take c.loop-entry.entry-index c.args.entries.now) c.loop-entry.invariant)
