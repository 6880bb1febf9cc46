use Rattle.std.proofs.Common.{◌≡◌, ◌⊎◌, ◌<◌, ◌≤◌, ℕ, subst, inl, inr, arith}
use Rattle.std.specs.List.{Contains}
use Rattle.std.proofs.lemmas.Bool.{cases_lt}
use Rattle.stamp_core.proofs.TwoLayouts.{either_layout}
use Rattle.stamp_watch.specs.inner.Candidates.{IsGiven}
use Rattle.stamp_watch.proofs.candidates.stamps_within.Goals as goal

pub overflow_add-version-end : goal.overflow_add-version-end
overflow_add-version-end c = grind (
  arith,
  either_layout c.args.limits.layout,
  c.requires,
  c.layout.ensures.in_range.versions,
)

pub loop-version-preserved : goal.loop-version-preserved
loop-version-preserved c version s more less of = by (cases_lt version c.loop-version.version)
  where
    by : (version < c.loop-version.version) ⊎ (c.loop-version.version ≤ version) →
        Contains c.push_stamps.new.stamps.items s
    by (inl before) = c.in_ok-push_stamps.ensures.kept s (c.loop-version.invariant version s more before of)
    by (inr last) = c.in_ok-push_stamps.ensures.added s
        (let same : version ≡ c.loop-version.version = omega (arith, less, last) in
        subst (λ (k : ℕ). IsGiven c.args.limits c.args.kind k s) same of)
