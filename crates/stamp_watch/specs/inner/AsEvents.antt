-- The moments of a history, before they are put in order.
use Rattle.std.specs.Prelude.{ℕ, ◌≡◌, ◌<◌, ◌+◌, ◌*◌, List, slice_get, Some, if◌then◌else◌}
use Rattle.std.specs.List.{All, AllPairs, Contains}
use Rattle.stamp_explain.specs.declared.observed.Observation.{Observation}
use Rattle.stamp_explain.specs.Observed.{IsReturnAt}
use Rattle.stamp_watch.specs.declared.moments.Moment.{Moment}
use Rattle.stamp_watch.specs.AsEvents.{beginning_of, return_of, IsMomentOf}

-- by entries: each begins, and then it returns
abbrev pub rank_of : Moment → ℕ
rank_of m = 2 * m.entry + (if m.is_return then 1 else 0)

-- all moments of the first k entries
pub record AreListed (entries : List Observation) (k : ℕ) (moments : List Moment) : Type 0 where
  pub each : All (IsMomentOf entries) moments
  pub begun : (i : ℕ) (e : Observation) → i < k → slice_get entries i ≡ Some e → Contains moments (beginning_of i e)
  pub returned : (i : ℕ) (at : IsReturnAt entries i) → i < k → Contains moments (return_of i at.return)
  pub below : All (λ (m : Moment). m.entry < k) moments
  pub rising : AllPairs (λ (m n : Moment). rank_of m < rank_of n) moments
