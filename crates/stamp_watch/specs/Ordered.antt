-- An order in which calls took effect in a run, as one of its observed history.
use Rattle.std.specs.Prelude.{◌≡◌, ◌<◌, ◌≤◌, List, take, Some}
use Rattle.std.specs.List.{AllZip, Contains}
use Rattle.stamp_explain.specs.declared.observed.Returned.{Returned}
use Rattle.stamp_explain.specs.Observed.{ObservedHistory}
use Rattle.stamp_explain.specs.Explained.{Effect, IsExplainedBy}
use Rattle.stamp_runs.specs.Trace.{Taken}
use Rattle.stamp_watch.specs.declared.moments.Moment.{Moment}
use Rattle.stamp_watch.specs.AsEvents.{beginning_of, return_of}

-- the effect is of the call that is open in the lane at the point
pub record IsTakenAs (x : Taken) (y : Effect) : Type 0 where
  pub lane : y.entry.thread ≡ x.lane
  pub reply : y.reply ≡ x.reply
  pub began : y.entry.first < x.point
  pub still_open : (r : Returned) → y.entry.returned ≡ Some r → x.point ≤ r.last

-- the history is explained by effects that are those of this order, one after the other
pub record Explains (h : ObservedHistory) (order : List Taken) : Type 0 where
  pub effects : List Effect
  pub by : IsExplainedBy h effects
  pub taken : AllZip IsTakenAs order effects

-- so it is by the moments of a history: the call has begun among those before the point, and not returned
pub record IsTakenAt (moments : List Moment) (x : Taken) (y : Effect) : Type 0 where
  pub lane : y.entry.thread ≡ x.lane
  pub began : Contains (take x.point moments) (beginning_of y.index y.entry)
  pub still_open : (r : Returned) → ¬ Contains (take x.point moments) (return_of y.index r)

pub record ExplainsAt (h : ObservedHistory) (moments : List Moment) (order : List Taken) : Type 0 where
  pub effects : List Effect
  pub by : IsExplainedBy h effects
  pub taken : AllZip (IsTakenAt moments) order effects
