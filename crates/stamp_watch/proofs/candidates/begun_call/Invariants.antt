use Rattle.std.specs.Prelude.{take}
use Rattle.stamp_watch.specs.inner.Candidates.{IsOpenIn}
use Rattle.stamp_watch.proofs.candidates.begun_call.Given as goal

abbrev pub invariant-loop-place : goal.invariant-loop-place
invariant-loop-place l = IsOpenIn (take l.place l.events) l.lane l.last
