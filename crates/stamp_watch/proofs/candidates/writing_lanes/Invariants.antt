use Rattle.std.proofs.Common.{ℕ, ◌≡◌, ◌<◌, Some, length}
use Rattle.std.specs.List.{Contains}
use Rattle.stamp_core.specs.declared.call.Call.{Call}
use Rattle.stamp_watch.specs.declared.candidates.Issued.TheVariants.{OfWriter}
use Rattle.stamp_watch.specs.inner.Candidates.{IsOpen, stamps_given}
use Rattle.stamp_watch.proofs.candidates.writing_lanes.Given as goal

abbrev pub invariant-loop-place : goal.invariant-loop-place
invariant-loop-place l = (lane : ℕ) (call : Call) (is : IsOpen l.events lane call) → length is.before < l.place →
    stamps_given call ≡ Some OfWriter → Contains l.lanes.items lane
