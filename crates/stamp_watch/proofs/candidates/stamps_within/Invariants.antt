use Rattle.std.proofs.Common.{ℕ, ◌≤◌, ◌<◌}
use Rattle.std.specs.List.{Contains}
use Rattle.stamp_watch.specs.inner.Candidates.{IsGiven}
use Rattle.stamp_watch.proofs.candidates.stamps_within.Given as goal

abbrev pub invariant-loop-version : goal.invariant-loop-version
invariant-loop-version l = (version s : ℕ) → l.fn.window.low ≤ version → version < l.version →
    IsGiven l.fn.limits l.fn.kind version s → Contains l.stamps.items s
