use Rattle.std.proofs.Common.{ℕ, ◌≡◌, ◌≤◌}
use Rattle.stamp_core.specs.Limits.{units}
use Rattle.stamp_core.specs.Stamp.{read_stamp}
use Rattle.stamp_watch.specs.inner.Candidates.{AreAdded}
use Rattle.stamp_watch.proofs.candidates.push_read_stamps.Given as goal

abbrev pub invariant-loop-fewer : goal.invariant-loop-fewer
invariant-loop-fewer l = AreAdded (λ s. (nth : ℕ) × (1 ≤ nth) × (nth ≤ l.fewer) ×
    (s ≡ read_stamp (units l.limits) l.version nth)) l.fn.stamps.items l.stamps.items
