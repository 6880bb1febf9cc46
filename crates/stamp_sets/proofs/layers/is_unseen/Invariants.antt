use Rattle.stamp_sets.specs.Judged.{judged}
use Rattle.stamp_sets.specs.inner.Lanes.{lanes_in}
use Rattle.stamp_sets.proofs.Effects.{UnseenSoFar}
use Rattle.stamp_sets.proofs.layers.is_unseen.Given as goal

abbrev pub invariant-loop-rest : goal.invariant-loop-rest
invariant-loop-rest l = UnseenSoFar (judged l.object) l.table l.awaited l.in_effect l.state l.rest

abbrev pub decreases-loop-rest : goal.decreases-loop-rest
decreases-loop-rest l = lanes_in l.rest
