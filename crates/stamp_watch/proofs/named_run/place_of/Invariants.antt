use Rattle.std.proofs.Common.{ℕ, ◌≡◌, ◌<◌, get_or}
use Rattle.stamp_watch.specs.declared.moments.Moment.{Moment}
use Rattle.stamp_watch.proofs.named_run.place_of.Given as goal

abbrev pub invariant-loop-place : goal.invariant-loop-place
invariant-loop-place l = (k : ℕ) (d : Moment) → k < l.place → (get_or l.moments k d).entry ≡ l.entry →
    (get_or l.moments k d).is_return ≡ l.is_return → ⊥
