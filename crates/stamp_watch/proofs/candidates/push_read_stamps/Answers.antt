use Rattle.std.proofs.Common.{◌≡◌, ◌⊎◌, ◌+◌, ◌≤◌, ℕ, sym, ◌∙◌, ap, subst, inl, inr, arith}
use Rattle.stamp_core.specs.Limits.{units}
use Rattle.stamp_core.specs.Stamp.{read_stamp}
use Rattle.stamp_watch.specs.inner.Candidates.{AreAdded}
use Rattle.stamp_watch.proofs.Gathering.{added_on}
use Rattle.stamp_watch.proofs.candidates.push_read_stamps.Goals as goal

pub loop-fewer-preserved : goal.loop-fewer-preserved
loop-fewer-preserved c = subst (AreAdded Q c.args.stamps.now.items) (sym c.in_ok-push.ensures.items)
    (added_on P Q c.args.stamps.now.items c.loop-fewer.stamps.items c.read_stamp.result either c.loop-fewer.invariant)
  where
    P : ℕ → Type 0
    P s = (nth : ℕ) × (1 ≤ nth) × (nth ≤ c.loop-fewer.fewer) ×
        (s ≡ read_stamp (units c.args.limits) c.args.version nth)

    Q : ℕ → Type 0
    Q s = (nth : ℕ) × (1 ≤ nth) × (nth ≤ c.loop-fewer.fewer + 1) ×
        (s ≡ read_stamp (units c.args.limits) c.args.version nth)

    cases : (nth : ℕ) → nth ≤ c.loop-fewer.fewer + 1 → (nth ≤ c.loop-fewer.fewer) ⊎ (nth ≡ c.loop-fewer.fewer + 1)
    cases nth most = grind (arith, most)

    by : (s : ℕ) (q : Q s) → (q.0 ≤ c.loop-fewer.fewer) ⊎ (q.0 ≡ c.loop-fewer.fewer + 1) →
        P s ⊎ (s ≡ c.read_stamp.result)
    by s q (inl less) = inl (q.0, q.1, less, q.3)
    by s q (inr last) =
        inr (q.3 ∙ ap (read_stamp (units c.args.limits) c.args.version) last ∙ sym c.read_stamp.ensures)

    either : (s : ℕ) → Q s → P s ⊎ (s ≡ c.read_stamp.result)
    either s q = by s q (cases q.0 q.2)
