-- What is found of an observed history that is judged as the run of its events.
use Rattle.std.specs.Prelude.{ℕ, ◌≡◌, ◌≤◌, ◌<◌, ◌+◌, ◌++◌, List, map, slice_get, false, Some, Result, Ok, Err}
use Rattle.std.specs.Prelude.{codes, decimal}
use Rattle.stamp_core.specs.Record.{Recorded}
use Rattle.stamp_explain.specs.Observed.{ObservedHistory, IsReturnAt}
use Rattle.stamp_explain.specs.Explained.{IsExplained}
use Rattle.stamp_explain.specs.Cut.{IsStuck, cut_after, cut_before}
use Rattle.stamp_explain.specs.Points.{HasPoints}
use Rattle.stamp_runs.specs.declared.event.Event.{Event}
use Rattle.stamp_runs.specs.Names.{Names, event_by}
use Rattle.stamp_watch.specs.AsEvents.{AreEventsOf, AreNamesFor, return_of}
use Rattle.stamp_watch.specs.Verdict.{IsStuckWithin, IsTooManyAt}
use Rattle.stamp_watch.specs.declared.history.ExplainError.{ExplainError}
use Rattle.stamp_watch.specs.declared.history.ExplainError.TheVariants.{Stuck, StuckWithin, Undecided, Memory}
use Rattle.stamp_watch.specs.declared.moments.Moment.{Moment}

-- the run of a history: the events at its moments, with contents told by their numbers
pub record IsRunOf (h : ObservedHistory) (moments : List Moment) (run : List Event) : Type 0 where
  pub events : List Event
  pub are : AreEventsOf h moments events
  pub name : Names
  pub names : AreNamesFor h name
  pub run_is : run ≡ map (event_by name) events

-- the call of this entry returns at the moment of this place
pub record ReturnsAt (h : ObservedHistory) (moments : List Moment) (place i : ℕ) : Type 0 where
  pub at : IsReturnAt h.entries i
  pub here : slice_get moments place ≡ Some (return_of i at.return)

-- no call returns at the moments from the one place up to the other
abbrev pub NoneReturns : List Moment → ℕ → ℕ → Type 0
NoneReturns moments from to = (k : ℕ) (m : Moment) → from ≤ k → k < to → slice_get moments k ≡ Some m →
    m.is_return ≡ false

-- it is explained until this entry returns, and just before that more than so many different positions of the lock, or
-- of the record, are possible
pub record IsUndecided (h : ObservedHistory) (most i : ℕ) : Type 0 where
  pub moments : List Moment
  pub run : List Event
  pub is_run : IsRunOf h moments run
  pub place : ℕ
  pub there : ReturnsAt h moments place i
  pub explained : IsExplained (cut_before there.at.return i h)
  pub too_many : IsTooManyAt h.limits run most place

-- it is explained until the one entry returns, and not once the other one has; the run is stuck between two places of
-- which the one entry's return is the first behind the first, and the other's the last before the second
pub record IsStuckBetween (h : ObservedHistory) (most i j : ℕ) : Type 0 where
  pub moments : List Moment
  pub run : List Event
  pub is_run : IsRunOf h moments run
  pub place : ℕ
  pub there : ReturnsAt h moments place i
  pub last : ℕ
  pub then : ReturnsAt h moments last j
  pub explained : IsExplained (cut_before there.at.return i h)
  pub stuck : ¬ IsExplained (cut_after then.at.return j h)
  pub from : ℕ
  pub from_there : from ≤ place
  pub none_before : NoneReturns moments from place
  pub to : ℕ
  pub to_then : last < to
  pub none_behind : NoneReturns moments (last + 1) to
  pub within : IsStuckWithin h.limits run most from to

-- why it is not explained, or not known to be
abbrev pub IsRefusal : ObservedHistory → ℕ → ExplainError → Type 0
IsRefusal h most (Stuck i) = IsStuck h i
IsRefusal h most (StuckWithin i j) = IsStuckBetween h most i j
IsRefusal h most (Undecided i) = IsUndecided h most i
IsRefusal h most Memory = Unit {0}

-- it is explained; or why it is not
abbrev pub IsJudged : ObservedHistory → ℕ → Result (Unit {0}) ExplainError → Type 0
IsJudged h most (Ok done) = IsExplained h
IsJudged h most (Err refused) = IsRefusal h most refused

-- a recorded history of it that is linearized by its points; or why there is none
abbrev pub IsAnswer : ObservedHistory → ℕ → Result Recorded ExplainError → Type 0
IsAnswer h most (Ok made) = HasPoints h made
IsAnswer h most (Err refused) = IsRefusal h most refused

-- why there is no recorded history
abbrev pub explain_error_text : ExplainError → List ℕ
explain_error_text (Stuck i) = codes "no order explains the return of entry " ++ decimal i
explain_error_text (StuckWithin i j) =
    codes "no order explains the return of entry " ++ (decimal i ++ (codes ", or a later one up to that of entry " ++
    decimal j))
explain_error_text (Undecided i) = codes "undecided at the return of entry " ++ decimal i
explain_error_text Memory = codes "out of memory"
