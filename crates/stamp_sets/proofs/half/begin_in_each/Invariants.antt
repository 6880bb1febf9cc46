use Rattle.stamp_sets.specs.Judged.{judged}
use Rattle.stamp_sets.proofs.Stepping.{BegunSoFar}
use Rattle.stamp_sets.proofs.half.begin_in_each.Given as goal

abbrev pub invariant-loop-position : goal.invariant-loop-position
invariant-loop-position l = BegunSoFar (judged l.object) l.begun l.lane l.position-index l.initial.position-items
    l.position-items
