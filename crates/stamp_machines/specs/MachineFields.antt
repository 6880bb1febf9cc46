-- How a machine's fields are read as a call under way.
use Rattle.std.specs.Prelude.{◌≡◌, ◌⊎◌, ◌<◌, ◌≤◌, ◌^◌, ℕ, Bool, true, false, List, length, Option}
use Rattle.std.specs.Prelude.{Some, None, if◌then◌else◌}
use Rattle.stamp_core.specs.Call.{is_lock_call}
use Rattle.stamp_core.specs.declared.call.Call.{Call}
use Rattle.stamp_core.specs.declared.reply.Reply.{Reply}
use Rattle.stamp_core.specs.declared.reply.Reply.TheVariants.{No}
use Rattle.stamp_machines.specs.LockNumber.{IsAdmittedAt}
use Rattle.stamp_machines.specs.IsLockPhase.{IsChanging, IsLockPhase}
use Rattle.stamp_machines.specs.Job.{Job, Getting, job_of_call, is_get, new_words, stored_reply}
use Rattle.stamp_machines.specs.RecordStage as on_record
use Rattle.stamp_machines.specs.RecordStage.{call_for}
use Rattle.stamp_machines.specs.MachineState as states
use Rattle.stamp_machines.specs.MachineState.{MachineState, OnRecord, record_limits}
use Rattle.stamp_machines.specs.declared.shape.Shape.{Shape}
use Rattle.stamp_machines.specs.declared.stage.Stage.{Stage}
use Rattle.stamp_machines.specs.declared.stage.Stage.TheVariants.{OnLock, LoadingLock, Copying}
use Rattle.stamp_machines.specs.declared.stage.Stage.TheVariants.{Locking, Reading, Checking}
use Rattle.stamp_machines.specs.declared.stage.Stage.TheVariants.{Storing, Releasing}
use Rattle.stamp_machines.specs.declared.stage.OwnLockCall.{OwnLockCall}
use Rattle.stamp_machines.specs.declared.stage.OwnLockCall.TheVariants.{Share, Leave, Refuse, Upgrade}
use Rattle.stamp_machines.specs.declared.stage.OwnLockCall.TheVariants.{ReleaseFirst, Claim}
use Rattle.stamp_machines.specs.declared.machine.Machine.TheInside.{Inside}

abbrev pub or_get : Option Job → Job
or_get None = Getting
or_get (Some job) = job

-- the job of a call of the record; a lock call has none, and stands here as `Getting`
abbrev pub job_or_get : Call → Job
job_or_get call = or_get (job_of_call call)

-- with these words loaded
abbrev pub own_call_in : List ℕ → OwnLockCall → on_record.OwnLockCall
own_call_in loaded Share = on_record.Share
own_call_in loaded (Leave stamp) = on_record.Leave stamp loaded
own_call_in loaded (Refuse stamp) = on_record.Refuse stamp
own_call_in loaded (Upgrade stamp) = on_record.Upgrade stamp
own_call_in loaded (ReleaseFirst stamp) = on_record.ReleaseFirst stamp
own_call_in loaded Claim = on_record.Claim

-- its reply once its write lock is released
abbrev pub released_reply : Job → Bool → Reply
released_reply job is_stored = if is_stored then stored_reply job else No

abbrev pub stage_at : Call → List ℕ → Stage → states.Stage
stage_at call loaded (OnLock seen) = states.OnLock seen
stage_at call loaded LoadingLock = OnRecord (job_or_get call) on_record.LoadingLock
stage_at call loaded (Copying at_first) = OnRecord (job_or_get call) (on_record.Copying at_first loaded)
stage_at call loaded (Locking own_call seen) =
    OnRecord (job_or_get call) (on_record.Locking (own_call_in loaded own_call) seen)
stage_at call loaded (Reading stamp) = OnRecord (job_or_get call) (on_record.Reading stamp loaded)
stage_at call loaded (Checking stamp) = OnRecord (job_or_get call) (on_record.Checking stamp loaded)
stage_at call loaded (Storing stamp stored) = OnRecord (job_or_get call) (on_record.Storing stamp stored)
stage_at call loaded (Releasing stamp is_stored) =
    OnRecord (job_or_get call) (on_record.Releasing stamp (released_reply (job_or_get call) is_stored))

abbrev pub machine_state_of : Inside → MachineState
machine_state_of m = record { shape = m.shape; call = m.call; stage = stage_at m.call m.loaded m.stage }

-- a call of the record has the record's width
abbrev pub IsRecordCall : Shape → Call → Type 0
IsRecordCall shape call =
    (is_lock_call call ≡ false) × (0 < shape.width) × (shape.width ≤ 16)
    × ((is_get (job_or_get call) ≡ true) ⊎ (length (new_words (job_or_get call)) ≡ shape.width))

-- a put or a put_if of the record's width
abbrev pub IsPutCall : Shape → Call → Type 0
IsPutCall shape call =
    (is_lock_call call ≡ false) × (0 < shape.width) × (shape.width ≤ 16)
    × (is_get (job_or_get call) ≡ false) × (length (new_words (job_or_get call)) ≡ shape.width)

abbrev pub IsOwnLockCall : Shape → Call → List ℕ → OwnLockCall → Type 0
IsOwnLockCall shape call loaded Share = IsRecordCall shape call
IsOwnLockCall shape call loaded (Leave stamp) = IsRecordCall shape call × (1 ≤ length loaded)
IsOwnLockCall shape call loaded (Refuse stamp) = IsRecordCall shape call
IsOwnLockCall shape call loaded (Upgrade stamp) = IsPutCall shape call
IsOwnLockCall shape call loaded (ReleaseFirst stamp) = IsPutCall shape call
IsOwnLockCall shape call loaded Claim = IsPutCall shape call

abbrev pub IsStage : Shape → Call → List ℕ → Stage → Type 0
IsStage shape call loaded (OnLock seen) = IsLockPhase shape.limits call seen
IsStage shape call loaded LoadingLock = IsRecordCall shape call
IsStage shape call loaded (Copying at_first) =
    IsRecordCall shape call × IsAdmittedAt (record_limits shape) at_first
    × (length loaded ≤ shape.width)
IsStage shape call loaded (Locking own_call seen) =
    IsOwnLockCall shape call loaded own_call
    × IsChanging (record_limits shape) (call_for (own_call_in loaded own_call)) seen
IsStage shape call loaded (Reading stamp) = IsRecordCall shape call × (length loaded < shape.width)
IsStage shape call loaded (Checking stamp) =
    IsPutCall shape call × (length loaded < shape.width) × (stamp < 2 ^ 63)
IsStage shape call loaded (Storing stamp stored) =
    IsPutCall shape call × (stored < shape.width) × (stamp < 2 ^ 63)
IsStage shape call loaded (Releasing stamp is_stored) =
    (is_lock_call call ≡ false) × (stamp < 2 ^ 63)

abbrev pub IsAtStage : Inside → Type 0
IsAtStage m = IsStage m.shape m.call m.loaded m.stage
