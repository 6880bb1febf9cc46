use Rattle.std.proofs.Common.{◌≡◌, []}
use Rattle.std.specs.Prelude.{take}
use Rattle.std.specs.List.{Contains}
use Rattle.stamp_sets.specs.Judged.{judged}
use Rattle.stamp_sets.specs.inner.Start.{StartsWith}
use Rattle.stamp_sets.specs.inner.Trail.{AreNoted}
use Rattle.stamp_sets.proofs.start.take_up_each.Given as goal

abbrev pub invariant-loop-position : goal.invariant-loop-position
invariant-loop-position l = (l.initial.first.items ≡ [] →
    StartsWith (judged l.object) l.table l.lane (take l.position-index l.positions) l.first.items) ×
    AreNoted (judged l.object) l.table (Contains l.positions) l.initial.trail l.trail l.initial.first.items
    l.first.items
