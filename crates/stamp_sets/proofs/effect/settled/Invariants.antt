use Rattle.stamp_sets.specs.Judged.{judged}
use Rattle.stamp_sets.proofs.Effects.{SettledSoFar}
use Rattle.stamp_sets.specs.inner.Lanes.{lanes_in}
use Rattle.stamp_sets.proofs.effect.settled.Given as goal

abbrev pub invariant-loop-rest : goal.invariant-loop-rest
invariant-loop-rest l = SettledSoFar (judged l.object) l.table l.lanes l.rest l.fn.position l.settled

abbrev pub decreases-loop-rest : goal.decreases-loop-rest
decreases-loop-rest l = lanes_in l.rest
