-- A watch goes on by its two halves, and what it answers of them.
use Rattle.std.specs.Prelude.{ℕ, ◌≡◌, ◌++◌, List, [], ◌∷◌, Option}
use Rattle.stamp_runs.specs.BothRun.{AreExplained}
use Rattle.stamp_runs.specs.Run.{lane_of}
use Rattle.stamp_runs.specs.declared.event.Event.{Event}
use Rattle.stamp_sets.specs.declared.open_call.OpenCall.{OpenCall}
use Rattle.stamp_sets.specs.declared.progress.Progress.{Progress}
use Rattle.stamp_sets.specs.declared.progress.Progress.TheVariants.{Going, Dead, TooMany, Refused}
use Rattle.stamp_sets.specs.declared.watch.Watch.{Watch}
use Rattle.stamp_sets.specs.Tracing.{StaysTraced}
use Rattle.stamp_sets.specs.Watch.{IsHopeless, IsWatching, SetsOpen, open_of}

-- the half that an event is of takes it: its lane has this open call then, and the last return was at this place
pub record GoesOnBy (event : Event) (slot : Option OpenCall) (place : ℕ) (old new : Watch) : Type 0 where
  pub watching : (past : List Event) → IsWatching past old → IsWatching (past ++ event ∷ []) new
  pub tracing : StaysTraced event old new
  pub opens : SetsOpen (open_of old) (open_of new) (lane_of event) slot
  pub last : new.last ≡ place
  pub limits : new.limits ≡ old.limits

-- the watch where the last return was at another place
abbrev pub with_last : ℕ → Watch → Watch
with_last place watch = record {
  limits = watch.limits;
  lock = watch.lock;
  «record» = watch.record;
  lock_trace = watch.lock_trace;
  record_trace = watch.record_trace;
  last = place;
}

-- what the answer says to an event that was taken
abbrev pub IsAnswer : Watch → Progress → Type 0
IsAnswer watch Going = (past : List Event) → IsWatching past watch → AreExplained watch.limits past
IsAnswer watch Dead = (past : List Event) → IsWatching past watch → IsHopeless past watch
IsAnswer watch TooMany = ⊥
IsAnswer watch Refused = ⊥
