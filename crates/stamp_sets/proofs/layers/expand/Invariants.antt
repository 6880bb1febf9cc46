use Rattle.std.proofs.Common.{◌≡◌, ℕ, ◌<◌, ◌≢◌}
use Rattle.std.specs.Int.{bit_at}
use Rattle.stamp_sets.specs.declared.position.Position.{Position}
use Rattle.stamp_sets.specs.Judged.{judged}
use Rattle.stamp_sets.specs.inner.Lanes.{lanes_in}
use Rattle.stamp_sets.specs.inner.Layer.{Expands}
use Rattle.stamp_sets.specs.inner.Trail.{AreNoted}
use Rattle.stamp_sets.proofs.layers.expand.Given as goal

abbrev pub invariant-loop-rest : goal.invariant-loop-rest
invariant-loop-rest l = Expands (judged l.object) l.table l.awaited l.position
    (λ (k : ℕ). (k < 64) × (bit_at l.rest k ≢ 1))
    l.initial.next.items l.next.items × AreNoted (judged l.object) l.table (λ (p : Position). p ≡ l.position)
    l.initial.trail l.trail l.initial.next.items l.next.items

abbrev pub decreases-loop-rest : goal.decreases-loop-rest
decreases-loop-rest l = lanes_in l.rest
