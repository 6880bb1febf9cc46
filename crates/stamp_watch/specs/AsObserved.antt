-- A run as an observed history: its positions are the numbers of the events.
use Rattle.std.specs.Prelude.{ℕ, ◌≡◌, ◌≢◌, ◌+◌, ◌==◌, true, List, [], ◌∷◌, take, drop, Some, None, if◌then◌else◌}
use Rattle.stamp_core.specs.Limits.{Bounds}
use Rattle.stamp_core.specs.declared.call.Call.{Call}
use Rattle.stamp_explain.specs.declared.observed.Observation.{Observation}
use Rattle.stamp_explain.specs.declared.observed.Returned.{Returned}
use Rattle.stamp_explain.specs.Observed.{ObservedHistory, observed_as}
use Rattle.stamp_explain.specs.Cut.{IsStuck}
use Rattle.stamp_runs.specs.declared.event.Event.{Event}
use Rattle.stamp_runs.specs.declared.event.Event.TheVariants.{Begins, Returns, Withdraws}
use Rattle.stamp_runs.specs.Run.{EndsBy}
use Rattle.stamp_watch.specs.Form.{is_busy_after}

-- how a call ends: not yet; by its return; it is withdrawn
pub data Ending : Type 0 where
  StaysOpen : Ending
  EndsReturned : Returned → Ending
  EndsWithdrawn : Ending

-- how the open call of this lane ends among these events, the first of which has this number
abbrev pub ending_of : ℕ → ℕ → List Event → Ending
ending_of lane n [] = StaysOpen
ending_of lane n (Begins other call ∷ events) = ending_of lane (n + 1) events
ending_of lane n (Returns other reply ∷ events) =
    if other == lane then EndsReturned (record { last = n; reply = reply }) else ending_of lane (n + 1) events
ending_of lane n (Withdraws other ∷ events) =
    if other == lane then EndsWithdrawn else ending_of lane (n + 1) events

-- the open calls of a run end among the events that come; the first of these has this number
pub record AreEnded (n : ℕ) (past future : List Event) : Type 0 where
  pub ends : (lane : ℕ) → is_busy_after past lane ≡ true → ending_of lane n future ≢ StaysOpen

-- the entry of the call that begins in this lane at this event, before others; one that is withdrawn has none
abbrev pub with_entry : ℕ → Call → ℕ → Ending → List Observation → List Observation
with_entry lane call n StaysOpen entries =
    record { thread = lane; call = call; first = n; returned = None } ∷ entries
with_entry lane call n (EndsReturned r) entries =
    record { thread = lane; call = call; first = n; returned = Some r } ∷ entries
with_entry lane call n EndsWithdrawn entries = entries

-- an entry for each beginning among these events, in their order
abbrev pub entries_from : ℕ → List Event → List Observation
entries_from n [] = []
entries_from n (Begins lane call ∷ events) =
    with_entry lane call n (ending_of lane (n + 1) events) (entries_from (n + 1) events)
entries_from n (Returns lane reply ∷ events) = entries_from (n + 1) events
entries_from n (Withdraws lane ∷ events) = entries_from (n + 1) events

-- the run as an observed history of a lock and its record of one word
abbrev pub observed_of : Bounds → List Event → ObservedHistory
observed_of limits events = observed_as limits 1 (entries_from 0 events)

-- the history is stuck at the entry that returned at this position
pub record IsStuckAtPosition (h : ObservedHistory) (position : ℕ) : Type 0 where
  pub entry : ℕ
  pub stuck : IsStuck h entry
  pub here : stuck.at.return.last ≡ position

-- none of the calls that are open after k events is withdrawn later
abbrev pub NoneIsWithdrawnLater : ℕ → List Event → Type 0
NoneIsWithdrawnLater k events =
    (lane : ℕ) → is_busy_after (take k events) lane ≡ true → ¬ EndsBy lane (Withdraws lane) (drop k events)
