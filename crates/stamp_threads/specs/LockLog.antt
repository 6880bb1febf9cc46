-- Histories of a running lock: calls with their replies, each under the name of the pass that made
-- it.
use Rattle.std.specs.Prelude.{◌≡◌, ◌≢◌, List, [], ◌∷◌, Option, Some, IsTrue}
use Rattle.stamp_core.specs.Limits.{Bounds}
use Rattle.stamp_core.specs.LockEvent.{LockEvent}
use Rattle.stamp_core.specs.Call.{is_lock_call}
use Rattle.stamp_core.specs.Transition.{Transition, transition}
use Rattle.stamp_core.specs.History.{History, IsLegal, events_of}
use Rattle.stamp_core.specs.declared.call.Call.{Call}
use Rattle.stamp_core.specs.declared.reply.Reply.{Reply}
use Rattle.stamp_threads.specs.declared.pass_view.LogEntry.{LogEntry}

abbrev pub LockLog : Type 0
LockLog = List (LogEntry (Call × Reply))

-- the calls and replies, in the order of the log
abbrev pub history_in : LockLog → History
history_in [] = []
history_in (e ∷ log) = e.made ∷ history_in log

-- everything that happened to the lock
abbrev pub events_after : Bounds → LockLog → List LockEvent
events_after limits log = events_of limits (history_in log)

abbrev pub transition_after : Bounds → LockLog → Call → Option Transition
transition_after limits log call = transition limits (events_after limits log) call

abbrev pub AreLockCalls : LockLog → Type 0
AreLockCalls [] = Unit {0}
AreLockCalls (e ∷ log) = IsTrue (is_lock_call e.made.0) × AreLockCalls log

-- a legal history of calls of the lock; no record stands beside it
pub record IsLegalLog (limits : Bounds) (log : LockLog) : Type 0 where
  pub calls : AreLockCalls log
  pub legal : IsLegal limits 0 (history_in log)

-- after this history the call changes who holds the lock
pub record Appends (limits : Bounds) (log : LockLog) (call : Call) : Type 0 where
  pub appended : List LockEvent
  pub some : appended ≢ []
  pub reply : Reply
  pub transition_is : transition_after limits log call ≡ Some
      (record { appended = appended; reply = reply })
