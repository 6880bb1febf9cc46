use Rattle.std.specs.Prelude.{take}
use Rattle.std.specs.List.{Contains}
use Rattle.stamp_sets.specs.Judged.{judged}
use Rattle.stamp_sets.specs.inner.Layer.{LooksAt}
use Rattle.stamp_sets.specs.inner.Trail.{AreNoted}
use Rattle.stamp_sets.proofs.layers.look_through.Given as goal

abbrev pub invariant-loop-position : goal.invariant-loop-position
invariant-loop-position l = LooksAt (judged l.object) l.table l.lane
    (take l.position-index l.layer) l.initial.done.items
    l.done.items l.initial.next.items l.next.items × AreNoted (judged l.object) l.table (Contains l.layer)
    l.initial.trail l.trail l.initial.next.items l.next.items
