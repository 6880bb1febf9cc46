use Rattle.stamp_sets.specs.inner.Lanes.{lanes_in}
use Rattle.stamp_sets.proofs.CountingLanes.{AreWithin}
use Rattle.stamp_sets.proofs.open_call.OpenCall.gives_way.Given as goal

abbrev pub invariant-loop-rest : goal.invariant-loop-rest
invariant-loop-rest l = AreWithin l.rest l.lanes

abbrev pub decreases-loop-rest : goal.decreases-loop-rest
decreases-loop-rest l = lanes_in l.rest
