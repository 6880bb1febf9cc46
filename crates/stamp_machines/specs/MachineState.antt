-- A call under way.
use Rattle.std.specs.Prelude.{ℕ, Option, Some, None}
use Rattle.stamp_core.specs.Limits.{Bounds, widest}
use Rattle.stamp_core.specs.declared.call.Call.{Call}
use Rattle.stamp_machines.specs.Job.{Job, job_of_call}
use Rattle.stamp_machines.specs.RecordStage.{RecordStage, first_record_stage}
use Rattle.stamp_machines.specs.declared.shape.Shape.{Shape}

-- where a call stands between two of its accesses
pub data Stage : Type 0 where
  OnLock : Option ℕ → Stage  -- a lock phase on word 0, with the word that it has seen
  OnRecord : Job → RecordStage → Stage  -- a call of the record

pub record MachineState : Type 0 where
  pub shape : Shape
  pub call : Call
  pub stage : Stage

abbrev pub first_stage : Option Job → Stage
first_stage None = OnLock None
first_stage (Some job) = OnRecord job (first_record_stage job)

abbrev pub start : Shape → Call → MachineState
start shape call = record { shape = shape; call = call; stage = first_stage (job_of_call call) }

-- the limits of the record's lock
abbrev pub record_limits : Shape → Bounds
record_limits shape = widest shape.limits.layout

-- a lock that no record stands beside
abbrev pub lock_alone : Bounds → Shape
lock_alone limits = record { limits = limits; width = 0 }

-- the machine of a lock call there, which has seen this word
abbrev pub on_lock_alone : Bounds → Call → Option ℕ → MachineState
on_lock_alone limits call seen =
    record { shape = lock_alone limits; call = call; stage = OnLock seen }
