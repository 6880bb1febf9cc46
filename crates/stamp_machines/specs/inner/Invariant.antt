-- What holds after every step of a schedule, also in the middle of calls.
use Rattle.std.specs.Prelude.{◌≡◌, ℕ, ◌+◌, ◌≤◌, List, length, drop, map, Option, Some, None}
use Rattle.std.specs.Prelude.{slice_index, slice_index_or}
use Rattle.stamp_core.specs.LockEvent.{LockEvent}
use Rattle.stamp_core.specs.History.{IsLegal, events_of, content_after}
use Rattle.stamp_core.specs.Linearized.{history_of}
use Rattle.stamp_machines.specs.LockNumber.{RepresentsAt, counts_at}
use Rattle.stamp_machines.specs.Job.{Job, job_of_call}
use Rattle.stamp_machines.specs.declared.shape.Shape.{Shape}
use Rattle.stamp_machines.specs.MachineState.{Stage, OnLock, OnRecord, record_limits}
use Rattle.stamp_machines.specs.Script.{Scripted}
use Rattle.stamp_machines.specs.World.{World, shape_of}
use Rattle.stamp_machines.specs.declared.state.Begun.{Begun}
use Rattle.stamp_machines.specs.inner.RecordKept.{RecordCallAt, RecordKept}

-- the record's call that a stage is of
abbrev pub record_call_at : Stage → Option RecordCallAt
record_call_at (OnLock seen) = None
record_call_at (OnRecord job stage) = Some (record { job = job; stage = stage })

abbrev pub record_call_in : Option Begun → Option RecordCallAt
record_call_in None = None
record_call_in (Some b) = record_call_at b.machine.stage

abbrev pub job_of_stage : Stage → Option Job
job_of_stage (OnLock seen) = None
job_of_stage (OnRecord job stage) = Some job

-- a call's machine has the script's shape, and its stage is one of its call
abbrev pub IsOf : Shape → Option Begun → Type 0
IsOf shape None = Unit {0}
IsOf shape (Some b) = (b.machine.shape ≡ shape) × (job_of_call b.machine.call ≡ job_of_stage b.machine.stage)

-- the events and the content that the finished calls leave
abbrev pub events_in : Scripted → World → List LockEvent
events_in script world = events_of script.limits (history_of world.entries)

abbrev pub content_in : Scripted → World → List ℕ
content_in script world = content_after script.width (history_of world.entries)

pub record Invariant (script : Scripted) (world : World) : Type 0 where
  -- the finished calls are a history of the sequential lock and record, with exactly these replies
  pub legal : IsLegal script.limits script.width (history_of world.entries)
  -- the lock word represents the events of this history
  pub represented : RepresentsAt script.limits (slice_index world.words 0) (events_in script world)
  -- the record's lock and its words are those of the content of this history
  pub record_kept : RecordKept (record_limits (shape_of script)) (slice_index world.words 1)
      (drop 2 world.words) (content_in script world) (map record_call_in world.begun)
  pub width : length (content_in script world) ≡ script.width
  pub words : length world.words ≡ 2 + script.width
  pub threads : length world.begun ≡ length script.threads
  pub begun : (t : ℕ) → IsOf (shape_of script) (slice_index_or world.begun t None)
  -- write mode of the record's lock is got at most once a step
  pub few : (counts_at (record_limits (shape_of script)) (slice_index world.words 1)).write_count
      ≤ world.position
