use Rattle.std.proofs.Common.{ℕ, ◌≢◌}
use Rattle.std.specs.Int.{bit_at}
use Rattle.stamp_sets.specs.Judged.{judged}
use Rattle.stamp_sets.specs.inner.Effect.{Frees}
use Rattle.stamp_sets.specs.inner.Lanes.{lanes_in}
use Rattle.stamp_sets.proofs.effect.all_freed.Given as goal

abbrev pub invariant-loop-rest : goal.invariant-loop-rest
invariant-loop-rest l = Frees (judged l.object) l.table l.awaited l.position.in_effect
    (λ (k : ℕ). bit_at l.rest k ≢ 1) l.position.free l.freed

abbrev pub decreases-loop-rest : goal.decreases-loop-rest
decreases-loop-rest l = lanes_in l.rest
