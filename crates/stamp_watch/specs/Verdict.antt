-- What is found of a run that is judged from its events.
use Rattle.std.specs.Prelude.{ℕ, ◌≡◌, ◌⊎◌, ◌+◌, ◌-◌, ◌/◌, ◌<◌, ◌≤◌, true, List, ◌∷◌, length, take, drop}
use Rattle.std.specs.Prelude.{Option, Some, None}
use Rattle.std.specs.List.{All}
use Rattle.stamp_core.specs.Limits.{Bounds}
use Rattle.stamp_core.specs.declared.call.Call.{Call}
use Rattle.stamp_runs.specs.declared.event.Event.{Event}
use Rattle.stamp_runs.specs.declared.event.Event.TheVariants.{Begins, Returns, Withdraws}
use Rattle.stamp_runs.specs.OneWord.{is_small_call, is_small_reply}
use Rattle.stamp_runs.specs.Own.{AreInForm}
use Rattle.stamp_runs.specs.Run.{EndsNever}
use Rattle.stamp_runs.specs.BothRun.{AreExplained, AreStuckAt}
use Rattle.stamp_sets.specs.declared.open_call.OpenCall.{OpenCall}
use Rattle.stamp_watch.specs.declared.verdict.Verdict.{Verdict}
use Rattle.stamp_watch.specs.declared.verdict.Verdict.TheVariants.{Explained, Stuck, StuckWithin, Undecided, Broken}
use Rattle.stamp_watch.specs.declared.verdict.Why.TheVariants.{TooMany, TooFar}
use Rattle.stamp_sets.specs.declared.watch.Watch.{Watch}
use Rattle.stamp_watch.specs.AsObserved.{AreEnded, ending_of}
use Rattle.stamp_watch.specs.Foretold.{told_as}
use Rattle.stamp_sets.specs.Watch.{IsWatching, MoreArePossible, open_of}

-- an event in one of 64 lanes, whose contents have one word each
abbrev pub IsOfLane : Event → Type 0
IsOfLane (Begins lane call) = (lane < 64) × (is_small_call call ≡ true)
IsOfLane (Returns lane reply) = (lane < 64) × (is_small_reply reply ≡ true)
IsOfLane (Withdraws lane) = lane < 64

-- the events of a run of a lock and its record, in 64 lanes, each of which may come after those before it
pub record AreOfLanes (events : List Event) : Type 0 where
  pub form : AreInForm events
  pub lanes : All IsOfLane events

-- so they are up to this event, and no longer
pub record AreBrokenAt (events : List Event) (k : ℕ) : Type 0 where
  pub whole : AreOfLanes (take k events)
  pub broken : ¬ AreOfLanes (take (k + 1) events)

-- after some events more than so many different positions of the lock, or of the record, are possible for a watch that
-- is told of each open call how it ends among those that come; the first of these has this number
pub record AreTooMany (limits : Bounds) (n : ℕ) (past future : List Event) (most : ℕ) : Type 0 where
  pub watch : Watch
  pub limits_are : watch.limits ≡ limits
  pub watching : IsWatching past watch
  pub told : (lane : ℕ) (begun : OpenCall) → open_of watch lane ≡ Some begun →
      told_as begun.ends ≡ ending_of lane n future
  pub more : MoreArePossible past most watch

-- there is an event with this number, and it may come behind those before it
pub record MayComeNext (events : List Event) (k : ℕ) : Type 0 where
  pub there : k < length events
  pub whole : AreOfLanes (take (k + 1) events)

-- no more than so many of the events are in form
abbrev pub NoMoreAreOfLanes : List Event → ℕ → Type 0
NoMoreAreOfLanes events m = m < length events → ¬ AreOfLanes (take (m + 1) events)

-- so many of the events, from the first on, are in form, and no more
pub record IsInFormUpTo (events : List Event) (k : ℕ) : Type 0 where
  pub within : k ≤ length events
  pub whole : AreOfLanes (take k events)
  pub broken : NoMoreAreOfLanes events k

-- among the first m events each call ends that is open after k, or those m are all that are in form
pub record IsFarEnough (events : List Event) (k m : ℕ) : Type 0 where
  pub whole : AreOfLanes (take m events)
  pub far : AreEnded k (take k events) (drop k (take m events)) ⊎ NoMoreAreOfLanes events m

-- after k events there are too many positions, though it is told how the calls end
pub record IsTooManyAt (limits : Bounds) (events : List Event) (most k : ℕ) : Type 0 where
  pub known : ℕ
  pub far : IsFarEnough events k known
  pub too_many : AreTooMany limits k (take k events) (drop k (take known events)) most

-- the run is stuck between two places. Of the run that ends halfway between them there are too many positions
-- before some event
pub record IsStuckWithin (limits : Bounds) (events : List Event) (most k m : ℕ) : Type 0 where
  pub there : m ≤ length events
  pub whole : AreOfLanes (take m events)
  pub explained : AreExplained limits (take k events)
  pub stuck : ¬ AreExplained limits (take m events)
  pub cut : ℕ
  pub after : k < cut
  pub within : cut < m
  pub half : cut ≡ k + (m - k) / 2
  pub place : ℕ
  pub before : place < cut
  pub too_many : AreTooMany limits place (take place events) (drop place (take cut events)) most

-- the event begins a call, and none of so many events behind it ends that
pub record IsOpenFor (events : List Event) (k ahead : ℕ) : Type 0 where
  pub lane : ℕ
  pub call : Call
  pub later : List Event
  pub there : drop k events ≡ Begins lane call ∷ later
  pub many : ahead ≤ length later
  pub never : EndsNever lane (take ahead later)

-- where so many events are looked at for the end of a call, if not all; each of them may come
abbrev pub IsTooFar : List Event → ℕ → Option ℕ → Type 0
IsTooFar events k None = ⊥
IsTooFar events k (Some ahead) = IsOpenFor events k ahead × AreOfLanes (take (k + 1 + ahead) events)

-- what a verdict means
abbrev pub IsVerdict : Bounds → List Event → ℕ → Option ℕ → Verdict → Type 0
IsVerdict limits events most ahead Explained = AreOfLanes events × AreExplained limits events
IsVerdict limits events most ahead (Stuck k) = AreOfLanes (take (k + 1) events) × AreStuckAt limits events k
IsVerdict limits events most ahead (StuckWithin k m) = IsStuckWithin limits events most k m
IsVerdict limits events most ahead (Undecided k TooMany) =
    MayComeNext events k × AreExplained limits (take k events) × IsTooManyAt limits events most k
IsVerdict limits events most ahead (Undecided k TooFar) =
    MayComeNext events k × AreExplained limits (take k events) × IsTooFar events k ahead
IsVerdict limits events most ahead (Broken k) = AreBrokenAt events k × AreExplained limits (take k events)
