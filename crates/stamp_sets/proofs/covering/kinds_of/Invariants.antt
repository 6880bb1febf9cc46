use Rattle.stamp_sets.specs.Judged.{guarded}
use Rattle.stamp_sets.specs.inner.Covering.{AreKinds}
use Rattle.stamp_sets.specs.inner.Lanes.{lanes_in}
use Rattle.stamp_sets.proofs.covering.kinds_of.Given as goal

abbrev pub invariant-loop-rest : goal.invariant-loop-rest
invariant-loop-rest l = AreKinds guarded l.table l.kinds

abbrev pub decreases-loop-rest : goal.decreases-loop-rest
decreases-loop-rest l = lanes_in l.rest
