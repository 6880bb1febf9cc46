use Rattle.stamp_sets.specs.Judged.{judged}
use Rattle.stamp_sets.specs.inner.Layer.{IsUnderWay}
use Rattle.stamp_sets.proofs.Trailing.{IsTrailing}
use Rattle.stamp_sets.proofs.layers.returned.Given as goal

abbrev pub invariant-loop-depth : goal.invariant-loop-depth
invariant-loop-depth l = IsUnderWay (judged l.object) l.table l.lane l.initial.layer.items l.done.items l.layer.items
    l.depth × IsTrailing (judged l.object) l.table l.lane l.start l.fn.trail l.trail l.done.items l.layer.items
