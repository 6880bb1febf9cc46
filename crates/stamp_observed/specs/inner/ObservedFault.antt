-- The first fault of each kind, found by itself.
use Rattle.std.specs.Prelude.{ℕ, ◌≡◌, ◌+◌, ◌≤◌, ◌<◌, List, take, length, slice_get, Some}
use Rattle.std.specs.List.{All, AllPairs}
use Rattle.stamp_explain.specs.declared.observed.Observation.{Observation}
use Rattle.stamp_explain.specs.Observed.{IsInterval, DoNotOverlap}

-- the calls before this index are intervals, and the one there, if there is one, is none
pub record AreIntervalsTo (entries : List Observation) (index : ℕ) : Type 0 where
  pub within : index ≤ length entries
  pub before : All IsInterval (take index entries)
  pub broken : (e : Observation) → slice_get entries index ≡ Some e → ¬ IsInterval e

-- of the calls before this index none overlap, and with the one there some do
pub record IsFirstOverlap (entries : List Observation) (index : ℕ) : Type 0 where
  pub within : index < length entries
  pub before : AllPairs DoNotOverlap (take index entries)
  pub broken : ¬ AllPairs DoNotOverlap (take (index + 1) entries)
