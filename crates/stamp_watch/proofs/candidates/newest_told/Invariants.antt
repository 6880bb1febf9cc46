use Rattle.std.specs.Prelude.{take}
use Rattle.stamp_watch.specs.inner.Candidates.{IsNewestTold}
use Rattle.stamp_watch.proofs.candidates.newest_told.Given as goal

abbrev pub invariant-loop-event : goal.invariant-loop-event
invariant-loop-event l = IsNewestTold l.limits (take l.event-index l.events) l.newest
