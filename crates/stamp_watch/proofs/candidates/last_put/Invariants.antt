use Rattle.stamp_watch.specs.inner.Candidates.{IsKnownPut}
use Rattle.stamp_watch.proofs.candidates.last_put.Given as goal

abbrev pub invariant-loop-place : goal.invariant-loop-place
invariant-loop-place l = IsKnownPut l.events l.last
