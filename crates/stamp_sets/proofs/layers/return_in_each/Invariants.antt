use Rattle.stamp_sets.proofs.Layering.{ReturnedSoFar}
use Rattle.stamp_sets.proofs.layers.return_in_each.Given as goal

abbrev pub invariant-loop-position : goal.invariant-loop-position
invariant-loop-position l = ReturnedSoFar l.lane l.position-index l.initial.position-items l.position-items
