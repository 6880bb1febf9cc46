-- What is kept of a run since a mark, to know when its past is overtaken.
use Rattle.std.specs.Prelude.{ℕ, ◌≡◌, ◌≢◌, ◌⊎◌, ◌↔◌, ◌++◌, false, List, ◌∷◌, IsSome}
use Rattle.std.specs.Int.{bit_at}
use Rattle.stamp_core.specs.Call.{is_lock_call}
use Rattle.stamp_core.specs.declared.call.Call.{Call}
use Rattle.stamp_runs.specs.declared.event.Event.{Event}
use Rattle.stamp_runs.specs.declared.event.Event.TheVariants.{Begins}
use Rattle.stamp_runs.specs.Own.{open_after}
use Rattle.stamp_runs.specs.Renaming.{HasEnded, IsOvertaken, IsTold, OpenHaveEnded}
use Rattle.stamp_runs.specs.Run.{EndsNever}
use Rattle.stamp_watch.specs.declared.overtaking.Overtaking.{Overtaking}
use Rattle.stamp_watch.specs.declared.overtaking.Stage.{Stage}
use Rattle.stamp_watch.specs.declared.overtaking.Stage.TheVariants as stage

-- just these lanes have an open call after the events
abbrev pub AreOpen : List Event → ℕ → Type 0
AreOpen events lanes = (lane : ℕ) → IsSome (open_after events lane) ↔ (bit_at lanes lane ≡ 1)

-- of the calls that were open after the past just those of these lanes have not ended
pub record AreAwaited (past events : List Event) (lanes : ℕ) : Type 0 where
  pub ended : (lane : ℕ) → IsSome (open_after past lane) → (bit_at lanes lane ≡ 1) ⊎ HasEnded lane events
  pub awaited : (lane : ℕ) → bit_at lanes lane ≡ 1 → IsSome (open_after past lane) × EndsNever lane events

-- among the events a call of the record begins in this lane, and does not end
pub record HasBegun (events : List Event) (lane : ℕ) : Type 0 where
  pub before : List Event
  pub call : Call
  pub later : List Event
  pub there : events ≡ before ++ Begins lane call ∷ later
  pub of_record : is_lock_call call ≡ false
  pub unended : EndsNever lane later

-- so it is in just these lanes
abbrev pub HaveBegun : List Event → ℕ → Type 0
HaveBegun events lanes = (lane : ℕ) → (bit_at lanes lane ≡ 1) ↔ HasBegun events lane

-- it is not so of fewer of these events
abbrev pub NoSooner : (List Event → Type 0) → List Event → Type 0
NoSooner P events =
    (front : List Event) (next : Event) (rest : List Event) → events ≡ front ++ next ∷ rest → ¬ P front

-- of the calls that were open these have not ended, and before the last event some had not
pub record IsOpenStill (past since : List Event) (older : ℕ) : Type 0 where
  pub awaited : AreAwaited past since older
  pub sooner : NoSooner (OpenHaveEnded past) since

-- the calls that were open have ended, and these have begun since, of which none has told the content
pub record IsUntold (past since : List Event) (newer : ℕ) : Type 0 where
  pub first : List Event
  pub second : List Event
  pub parts : since ≡ first ++ second
  pub first_ended : OpenHaveEnded past first
  pub sooner : NoSooner (OpenHaveEnded past) first
  pub begun : HaveBegun second newer
  pub untold : ¬ IsTold second

-- then the content was told, and of the calls that were open these have not ended
pub record IsToldSince (past since : List Event) (older : ℕ) : Type 0 where
  pub first : List Event
  pub second : List Event
  pub third : List Event
  pub parts : since ≡ first ++ second ++ third
  pub first_ended : OpenHaveEnded past first
  pub sooner : NoSooner (OpenHaveEnded past) first
  pub told : IsTold second
  pub told_sooner : NoSooner IsTold second
  pub awaited : AreAwaited ((past ++ first) ++ second) third older

-- so far the past is overtaken
abbrev pub IsSoFar : List Event → List Event → ℕ → ℕ → Stage → Type 0
IsSoFar past since older newer stage.Open = IsOpenStill past since older
IsSoFar past since older newer stage.Untold = IsUntold past since newer
IsSoFar past since older newer stage.Told = IsToldSince past since older
IsSoFar past since older newer stage.Over = IsOvertaken past since

-- it knows of the events of the past, and those since the mark
pub record Follows (past since : List Event) (o : Overtaking) : Type 0 where
  pub open_are : AreOpen (past ++ since) o.«open»
  pub so_far : IsSoFar past since o.older o.newer o.stage

-- where calls are waited for there are some
abbrev pub IsSettled : ℕ → Stage → Type 0
IsSettled older stage.Open = older ≢ 0
IsSettled older stage.Told = older ≢ 0
IsSettled older _ = Unit {0}

-- it has taken these events
pub record Tracks (past since : List Event) (o : Overtaking) : Type 0 where
  pub follows : Follows past since o
  pub settled : IsSettled o.older o.stage
