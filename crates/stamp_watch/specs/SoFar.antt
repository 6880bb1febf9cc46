-- How far a run is judged.
use Rattle.std.specs.Prelude.{ℕ, ◌+◌, ◌≤◌, List, [], ◌∷◌, length, take, if◌then◌else◌}
use Rattle.std.proofs.Common.{zero, suc}
use Rattle.stamp_core.specs.Limits.{Bounds}
use Rattle.stamp_runs.specs.Run.{EndsNever}
use Rattle.stamp_runs.specs.declared.event.Event.{Event}
use Rattle.stamp_runs.specs.declared.event.Event.TheVariants.{Begins, Returns, Withdraws}
use Rattle.stamp_runs.specs.BothRun.{AreExplained}
use Rattle.stamp_watch.specs.Form.{is_busy_after}

-- so many of the events are explained, and no more come behind them than are looked at for the end of a call
pub record IsExplainedUpTo (limits : Bounds) (run : List Event) (ahead k : ℕ) : Type 0 where
  pub within : k ≤ length run
  pub explained : AreExplained limits (take k run)
  pub near : length run ≤ k + ahead

-- the event begins a call that none of the events behind it ends
abbrev pub IsUnended : Event → List Event → Type 0
IsUnended (Begins lane call) behind = EndsNever lane behind
IsUnended (Returns lane reply) behind = ⊥
IsUnended (Withdraws lane) behind = ⊥

-- there are none of these events, or the first begins a call that the others don't end
abbrev pub BeginWithOpenCall : List Event → Type 0
BeginWithOpenCall [] = Unit {0}
BeginWithOpenCall (event ∷ behind) = IsUnended event behind

-- how many of the first n lanes have an open call after these events
unfoldable pub open_below : ℕ → List Event → ℕ
open_below zero events = 0
open_below (suc n) events = (if is_busy_after events n then 1 else 0) + open_below n events

-- how many calls are open after these events, of which there is one at most in each of 64 lanes
abbrev pub open_calls : List Event → ℕ
open_calls events = open_below 64 events
