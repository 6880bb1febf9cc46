use Rattle.std.proofs.Common.{List, sym, subst, arith}
use Rattle.std.specs.Prelude.{take}
use Rattle.stamp_runs.specs.declared.event.Event.{Event}
use Rattle.stamp_watch.specs.inner.Candidates.{IsNewestTold}
use Rattle.stamp_watch.proofs.NewestTold.{newest_on, newest_stays}
use Rattle.stamp_watch.proofs.Reading.{take_read}
use Rattle.stamp_watch.proofs.candidates.newest_told.Goals as goal
use Rattle.stamp_watch.proofs.candidates.newest_told.Goals.{in-Some, in_default}

pub loop-event-preserved : goal.loop-event-preserved
loop-event-preserved c =
    let past : List Event = take c.loop-event.event-index c.args.events.now in
    subst (λ (xs : List Event). IsNewestTold c.args.limits xs c.match-version_told.newest)
    (sym (take_read c.args.events.now c.loop-event.event-index c.event-item.result c.loop-event-test.true
    c.event-item.is)) (elim c.match-version_told.branch [
      | in-Some w ↦ newest_on c.args.limits past c.event-item.result w.in-Some.version c.loop-event.newest
          c.match-version_told.newest w.in-Some.ensures (grind (arith, w.newest-is, w.max-newest.ensures))
          (grind (arith, w.newest-is, w.max-newest.ensures)) (grind (arith, w.newest-is, w.max-newest.ensures))
          c.loop-event.invariant
      | in_default w ↦ subst (IsNewestTold c.args.limits _) (sym w.newest-is)
          (newest_stays c.args.limits past c.event-item.result c.loop-event.newest w.in_default.ensures
          c.loop-event.invariant)
    ])
