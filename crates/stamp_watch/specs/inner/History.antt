-- The run of a history by numbers, as far as its contents are the record's.
use Rattle.std.specs.Prelude.{ℕ, ◌≡◌, ◌≤◌, ◌<◌, ◌+◌, true, List, length, slice_get, Option, Some, None}
use Rattle.stamp_explain.specs.Observed.{ObservedHistory}
use Rattle.stamp_runs.specs.declared.event.Event.{Event}
use Rattle.stamp_watch.specs.History.{NoneReturns}
use Rattle.stamp_watch.specs.Names.{AreContents}
use Rattle.stamp_watch.specs.declared.moments.Moment.{Moment}
use Rattle.stamp_watch.specs.inner.Trial.{AreNumberedSoFar, words_beside}

-- these are the events of the history's run by numbers, up to a return that is foreign
pub record IsToldRun (h : ObservedHistory) (moments : List Moment) (told : List Event) : Type 0 where
  pub contents : List (List ℕ)
  pub are : AreContents (words_beside h.width) contents
  pub so_far : AreNumberedSoFar h moments contents told

-- a call returns at the moment of this place
pub record IsReturnPlace (moments : List Moment) (place : ℕ) : Type 0 where
  pub moment : Moment
  pub here : slice_get moments place ≡ Some moment
  pub returns : moment.is_return ≡ true

-- this is the place of the first return from there on, or there is none
abbrev pub IsFirstReturn : List Moment → ℕ → Option ℕ → Type 0
IsFirstReturn moments from None = NoneReturns moments from (length moments)
IsFirstReturn moments from (Some place) =
    IsReturnPlace moments place × (from ≤ place) × NoneReturns moments from place

-- this is the place of the last return before there, or there is none
abbrev pub IsLastReturn : List Moment → ℕ → Option ℕ → Type 0
IsLastReturn moments to None = NoneReturns moments 0 to
IsLastReturn moments to (Some place) =
    IsReturnPlace moments place × (place < to) × NoneReturns moments (place + 1) to
