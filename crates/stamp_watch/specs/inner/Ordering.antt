-- The entries of an order in which calls took effect.
use Rattle.std.specs.Prelude.{ℕ, ◌≡◌, ◌≤◌, ◌<◌, List, length, map, slice_get, slice_index_or, Some}
use Rattle.std.specs.List.{All, AllPairs}
use Rattle.stamp_explain.specs.declared.observed.Observation.{Observation}
use Rattle.stamp_explain.specs.Observed.{ObservedHistory}
use Rattle.stamp_explain.specs.Explained.{IsOrderIn}
use Rattle.stamp_runs.specs.Trace.{Taken}
use Rattle.stamp_watch.specs.declared.moments.Moment.{Moment}
use Rattle.stamp_sets.specs.Order.{effect_at}
use Rattle.stamp_sets.specs.declared.order.EffectAt.{EffectAt}
use Rattle.stamp_watch.specs.AsEvents.{beginning_of}
use Rattle.stamp_watch.specs.Ordered.{ExplainsAt}

-- along so many moments: the lanes are among 64, and the points rise up to the last one
pub record AreAlong (n : ℕ) (effects : List EffectAt) : Type 0 where
  pub lanes : All (λ (x : EffectAt). x.lane < 64) effects
  pub within : All (λ (x : EffectAt). x.point ≤ n) effects
  pub rising : AllPairs (λ (x y : EffectAt). x.point ≤ y.point) effects

-- a history that is explained by these effects along its moments is so by the calls of these entries, in their order
abbrev pub AreEntriesOf : ObservedHistory → List Moment → List EffectAt → List ℕ → Type 0
AreEntriesOf h moments effects indices =
    (order : List Taken) → map effect_at order ≡ effects → ExplainsAt h moments order → IsOrderIn h indices

-- of the calls in this lane that begin at one of these moments this entry's begins last
pub record IsLastBegun (entries : List Observation) (lane : ℕ) (moments : List Moment) (i : ℕ) : Type 0 where
  pub entry : Observation
  pub is_entry : slice_get entries i ≡ Some entry
  pub its_lane : entry.thread ≡ lane
  pub number : ℕ
  pub at : slice_get moments number ≡ Some (beginning_of i entry)
  pub last : (j k : ℕ) (e : Observation) → slice_get entries j ≡ Some e → e.thread ≡ lane →
      slice_get moments k ≡ Some (beginning_of j e) → k ≤ number

-- each lane has the index of that entry
pub record AreLastBegun (entries : List Observation) (moments : List Moment) (last : List ℕ) : Type 0 where
  pub many : length last ≡ 64
  pub are : (lane i d : ℕ) → lane < 64 → IsLastBegun entries lane moments i → slice_index_or last lane d ≡ i
