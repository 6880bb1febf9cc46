-- The plan of a call, which is its next access, and where it stands after it.
use Rattle.std.specs.Prelude.{◌≡◌, ℕ, ◌<◌, ◌≤◌, List, [], ◌∷◌, length}
use Rattle.stamp_core.specs.declared.call.Call.{Call}
use Rattle.stamp_machines.specs.LockNumber.{IsAdmittedAt, counts_at}
use Rattle.stamp_machines.specs.Job.{Job}
use Rattle.stamp_machines.specs.RecordStage as on_record
use Rattle.stamp_machines.specs.RecordStage.{RecordStage, RecordStageTurn}
use Rattle.stamp_machines.specs.LocalAccess.{with_lock}
use Rattle.stamp_machines.specs.LockPhase as phases
use Rattle.stamp_machines.specs.LockPhase.{PhaseTurn, phase_plan, phase_after}
use Rattle.stamp_machines.specs.MachineState.{MachineState, Stage, OnLock, OnRecord, record_limits}
use Rattle.stamp_machines.specs.declared.shape.Shape.{Shape}
use Rattle.stamp_machines.specs.declared.machine.Turn.{Turn}
use Rattle.stamp_machines.specs.declared.machine.Turn.TheVariants.{Going, Done}
use Rattle.stamp_machines.specs.declared.access.Access.{Access}

-- a lock phase is on word 0; a call of the record has its lock at word 1
abbrev pub plan_in : Shape → Call → Stage → Access
plan_in shape call (OnLock seen) = with_lock 0 (phase_plan shape.limits call seen)
plan_in shape call (OnRecord job stage) =
    with_lock 1 (on_record.plan (record_limits shape) shape.width job stage)

abbrev pub plan_of : MachineState → Access
plan_of s = plan_in s.shape s.call s.stage

abbrev pub lock_turn : Shape → Call → PhaseTurn → Turn
lock_turn shape call (phases.Going seen) =
    Going (record { shape = shape; call = call; stage = OnLock seen })
lock_turn shape call (phases.Done r) = Done r

abbrev pub record_turn : Shape → Call → Job → RecordStageTurn → Turn
record_turn shape call job (on_record.Going stage) =
    Going (record { shape = shape; call = call; stage = OnRecord job stage })
record_turn shape call job (on_record.Done r) = Done r

abbrev pub after_in : Shape → Call → ℕ → Stage → Turn
after_in shape call found (OnLock seen) =
    lock_turn shape call (phase_after shape.limits call seen found)
after_in shape call found (OnRecord job stage) =
    record_turn shape call job (on_record.after (record_limits shape) shape.width job stage found)

-- where the call stands after its access has found this, or its reply
abbrev pub after_access : MachineState → ℕ → Turn
after_access s found = after_in s.shape s.call found s.stage

-- the accesses of a call found these words, one after another, and it stands here after them. A call
-- that has ended makes no access
abbrev pub Finds : List ℕ → Turn → Turn → Type 0
Finds [] turn after = turn ≡ after
Finds (word ∷ words) (Going s) after = Finds words (after_access s word) after
Finds (word ∷ words) (Done reply) after = ⊥

-- a version of the record's lock is left: write mode can still be acquired there
abbrev pub HasVersionLeft : Shape → ℕ → Type 0
HasVersionLeft shape found =
    (counts_at (record_limits shape) found).write_count < (record_limits shape).versions

-- what is read as a lock's word is one that the lock's limits admit, and where a call of the record
-- is about its lock, one with a version left
abbrev pub IsFoundAt : Shape → RecordStage → ℕ → Type 0
IsFoundAt shape on_record.LoadingLock found = IsAdmittedAt (record_limits shape) found
IsFoundAt shape (on_record.Copying at_first loaded) found =
    shape.width ≤ length loaded → IsAdmittedAt (record_limits shape) found
IsFoundAt shape (on_record.Locking e seen) found =
    IsAdmittedAt (record_limits shape) found × HasVersionLeft shape found
IsFoundAt shape (on_record.Reading s loaded) found = Unit {0}
IsFoundAt shape (on_record.Checking s loaded) found = Unit {0}
IsFoundAt shape (on_record.Storing s i) found = Unit {0}
IsFoundAt shape (on_record.Releasing s r) found = Unit {0}

abbrev pub IsFoundIn : Shape → Stage → ℕ → Type 0
IsFoundIn shape (OnLock seen) found = IsAdmittedAt shape.limits found
IsFoundIn shape (OnRecord job stage) found = IsFoundAt shape stage found

abbrev pub IsFound : MachineState → ℕ → Type 0
IsFound s found = IsFoundIn s.shape s.stage found
