-- How a run is judged whose events are all known.
use Rattle.std.specs.Prelude.{ℕ, ◌≡◌, ◌≢◌, ◌+◌, ◌<◌, ◌≤◌, ◌++◌, List, [], ◌∷◌, length, take, drop}
use Rattle.std.specs.Prelude.{Option, Some, None, IsTrue, slice_get}
use Rattle.std.specs.Int.{bit_at}
use Rattle.stamp_core.specs.Limits.{Bounds}
use Rattle.stamp_runs.specs.declared.event.Event.{Event}
use Rattle.stamp_runs.specs.declared.event.Event.TheVariants as event
use Rattle.stamp_runs.specs.BothRun.{AreExplained}
use Rattle.stamp_runs.specs.OneWord.{is_small_call, is_small_reply}
use Rattle.stamp_sets.specs.declared.ending.Ending.{Ending}
use Rattle.stamp_watch.specs.declared.judge.Outcome.{Outcome}
use Rattle.stamp_watch.specs.declared.judge.Outcome.TheVariants.{Explained, Unexplained, TooMany}
use Rattle.stamp_sets.specs.declared.progress.Progress.{Progress}
use Rattle.stamp_sets.specs.declared.progress.Progress.TheVariants as progress
use Rattle.stamp_watch.specs.declared.verdict.Verdict.{Verdict}
use Rattle.stamp_watch.specs.declared.verdict.Verdict.TheVariants as verdict
use Rattle.stamp_sets.specs.declared.watch.Watch.{Watch}
use Rattle.stamp_watch.specs.AsObserved.{ending_of}
use Rattle.stamp_watch.specs.Foretold.{told_as}
use Rattle.stamp_watch.specs.Judging.{IsJudging}
use Rattle.stamp_watch.specs.Verdict.{AreTooMany, IsInFormUpTo}
use Rattle.stamp_sets.specs.Lanes.{SetsBit}
use Rattle.stamp_sets.specs.Tracing.{IsTracing}

abbrev pub IsFreeLane : ℕ → ℕ → Type 0
IsFreeLane busy lane = (lane < 64) × (bit_at busy lane ≢ 1)

abbrev pub IsTakenLane : ℕ → ℕ → Type 0
IsTakenLane busy lane = (lane < 64) × (bit_at busy lane ≡ 1)

-- the event is one that may come where the lanes of this number have an open call
abbrev pub MayComeIn : ℕ → Event → Type 0
MayComeIn busy (event.Begins lane call) = IsFreeLane busy lane × IsTrue (is_small_call call)
MayComeIn busy (event.Returns lane reply) = IsTakenLane busy lane × IsTrue (is_small_reply reply)
MayComeIn busy (event.Withdraws lane) = IsTakenLane busy lane

-- the lanes that have one then
abbrev pub SetsBusy : ℕ → Event → ℕ → Type 0
SetsBusy busy (event.Begins lane call) after = SetsBit busy after lane 1
SetsBusy busy (event.Returns lane reply) after = SetsBit busy after lane 0
SetsBusy busy (event.Withdraws lane) after = SetsBit busy after lane 0

-- those lanes, if the event may come
abbrev pub IsBusyThen : ℕ → Event → Option ℕ → Type 0
IsBusyThen busy e None = ¬ MayComeIn busy e
IsBusyThen busy e (Some after) = MayComeIn busy e × SetsBusy busy e after

-- these are all events, from the first on, that are in form
pub record AreTaken (events taken : List Event) : Type 0 where
  pub form : IsInFormUpTo events (length taken)
  pub same : taken ≡ take (length taken) events

-- the event with this number ends the call of the lane so; or it does not, and what comes then tells
abbrev pub IsEndBy : Event → ℕ → ℕ → Option Ending → Type 0
IsEndBy e lane n (Some ends) = (events : List Event) → ending_of lane n (e ∷ events) ≡ told_as ends
IsEndBy e lane n None = (events : List Event) → ending_of lane n (e ∷ events) ≡ ending_of lane (n + 1) events

-- behind some events a watch judges these, of which the first has this number
pub record IsJudgingOn (n : ℕ) (events : List Event) (watch : Watch) : Type 0 where
  pub limits : Bounds
  pub past : List Event
  pub judging : IsJudging limits n past events watch

-- it has seen these events, behind any others that it had seen, and is traced if it was; nothing comes then
pub record HasSeen (n : ℕ) (events : List Event) (old new : Watch) : Type 0 where
  pub judging : (limits : Bounds) (past : List Event) → IsJudging limits n past events old →
      IsJudging limits (n + length events) (past ++ events) [] new
  pub traced : (past : List Event) → IsTracing past old → IsTracing (past ++ events) new

-- these are all events of a run of so many, and a watch that had seen none has seen them
pub record HasSeenAll (many : ℕ) (events : List Event) (old new : Watch) : Type 0 where
  pub all : length events ≡ many
  pub seen : HasSeen 0 events old new

-- how the call that begins by this event ends among those that come, the first of which has this number
abbrev pub IsEndTold : Event → ℕ → List Event → Ending → Type 0
IsEndTold (event.Begins lane call) n ahead ends = told_as ends ≡ ending_of lane n ahead
IsEndTold (event.Returns lane reply) n ahead ends = Unit {0}
IsEndTold (event.Withdraws lane) n ahead ends = Unit {0}

-- what the answer to one more event means where all that comes is known
abbrev pub IsStep : Bounds → ℕ → List Event → Event → List Event → ℕ → Watch → Progress → Type 0
IsStep limits n past e ahead most new progress.Going = IsJudging limits (n + 1) (past ++ e ∷ []) ahead new
IsStep limits n past e ahead most new progress.Dead = ¬ AreExplained limits (past ++ e ∷ ahead)
IsStep limits n past e ahead most new progress.TooMany = AreTooMany limits n past (e ∷ ahead) most
IsStep limits n past e ahead most new progress.Refused = ⊥

-- the event is a return
abbrev pub IsReturn : Event → Type 0
IsReturn (event.Begins lane call) = ⊥
IsReturn (event.Returns lane reply) = Unit {0}
IsReturn (event.Withdraws lane) = ⊥

-- too many positions are told of at a return alone
abbrev pub IsManyAtReturn : Event → Progress → Type 0
IsManyAtReturn e progress.Going = Unit {0}
IsManyAtReturn e progress.Dead = Unit {0}
IsManyAtReturn e progress.TooMany = IsReturn e
IsManyAtReturn e progress.Refused = Unit {0}

-- the event at this place is a return
pub record ReturnsHere (events : List Event) (k : ℕ) : Type 0 where
  pub event : Event
  pub here : slice_get events k ≡ Some event
  pub is : IsReturn event

-- so it is where events are judged one by one
abbrev pub StopsAtReturn : List Event → Outcome → Type 0
StopsAtReturn events Explained = Unit {0}
StopsAtReturn events (Unexplained k) = Unit {0}
StopsAtReturn events (TooMany k) = ReturnsHere events k

-- a verdict that gives up does so at a return among these events, and one that breaks off does so behind them
abbrev pub GivesUpAmong : List Event → Verdict → Type 0
GivesUpAmong events verdict.Explained = Unit {0}
GivesUpAmong events (verdict.Stuck k) = Unit {0}
GivesUpAmong events (verdict.StuckWithin k m) = Unit {0}
GivesUpAmong events (verdict.Undecided k why) = ReturnsHere events k
GivesUpAmong events (verdict.Broken k) = k ≡ length events

-- what is found of events that come behind others; the first of them has this number
abbrev pub IsOutcome : Bounds → ℕ → List Event → List Event → ℕ → Outcome → Type 0
IsOutcome limits n past events most Explained = AreExplained limits (past ++ events)
IsOutcome limits n past events most (Unexplained k) =
    (k < length events) × AreExplained limits (past ++ take k events) × (¬ AreExplained limits (past ++ events))
IsOutcome limits n past events most (TooMany k) =
    (k < length events) × AreExplained limits (past ++ take k events) ×
    AreTooMany limits (n + k) (past ++ take k events) (drop k events) most

-- a watch from which any more of these events can be judged than so many, as a run that ends there
pub record IsBase (limits : Bounds) (n least : ℕ) (past events : List Event) (watch : Watch) : Type 0 where
  pub place : n ≡ length past
  pub judging : (m : ℕ) → least < m → m ≤ length events → IsJudging limits n past (take m events) watch

-- behind the others so many of these events are explained, and not all
pub record IsStuckBehind (limits : Bounds) (past events : List Event) (k : ℕ) : Type 0 where
  pub explained : AreExplained limits (past ++ take k events)
  pub stuck : ¬ AreExplained limits (past ++ events)

-- the verdict tells of one of the events with these numbers, if it tells of a stuck one; it gives up at
-- none, and breaks off at none
abbrev pub IsStuckAmong : ℕ → ℕ → Verdict → Type 0
IsStuckAmong from to verdict.Explained = Unit {0}
IsStuckAmong from to (verdict.Stuck k) = (from ≤ k) × (k < to)
IsStuckAmong from to (verdict.StuckWithin k m) = Unit {0}
IsStuckAmong from to (verdict.Undecided k why) = ⊥
IsStuckAmong from to (verdict.Broken k) = ⊥

-- so it is behind some events
pub record IsStuckFrom (n k : ℕ) (events : List Event) (watch : Watch) : Type 0 where
  pub limits : Bounds
  pub past : List Event
  pub base : IsBase limits n k past events watch
  pub stuck : IsStuckBehind limits past events k

-- the events are explained up to the one place, and not up to the other
pub record IsBetween (limits : Bounds) (events : List Event) (low high : ℕ) : Type 0 where
  pub apart : low < high
  pub within : high ≤ length events
  pub explained : AreExplained limits (take low events)
  pub stuck : ¬ AreExplained limits (take high events)
