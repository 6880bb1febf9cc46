-- The lock phase that a machine is in: on word 0 of a lock call, on word 1 of a call of the record.
use Rattle.std.specs.Prelude.{◌≡◌, ℕ, Option, Some, None}
use Rattle.stamp_core.specs.declared.call.Call.{Call}
use Rattle.stamp_machines.specs.LockCallSteps.{on_lock, PhaseLeads}
use Rattle.stamp_machines.specs.LockPhase.{PhaseTurn}
use Rattle.stamp_machines.specs.Machine.{lock_turn, record_turn}
use Rattle.stamp_machines.specs.MachineState.{MachineState, Stage, OnLock, OnRecord, record_limits}
use Rattle.stamp_machines.specs.PhaseState.{PhaseState}
use Rattle.stamp_machines.specs.RecordStage.{OwnLockCall, Locking, call_for, passed}
use Rattle.stamp_machines.specs.declared.machine.Turn.{Turn}
use Rattle.stamp_machines.specs.declared.shape.Shape.{Shape}

-- the phase, and the machine's turn by where the phase leads
pub record MachinePhase : Type 0 where
  pub state : PhaseState
  pub turn : PhaseTurn → Turn

-- where a call on the record's own lock, word 1, is
abbrev pub on_record_lock : Shape → OwnLockCall → Option ℕ → PhaseState
on_record_lock shape own_call seen =
    record { at = 1; limits = record_limits shape; call = call_for own_call; seen = seen }

abbrev pub phase_in : Shape → Call → Stage → Option MachinePhase
phase_in shape call (OnLock seen) =
    Some (record { state = on_lock shape.limits call seen; turn = lock_turn shape call })
phase_in shape call (OnRecord job (Locking own_call seen)) =
    Some (record {
      state = on_record_lock shape own_call seen;
      turn = λ t. record_turn shape call job (passed job own_call t);
    })
phase_in shape call (OnRecord job stage) = None

-- none between its phases, at the record's words
abbrev pub phase_of : MachineState → Option MachinePhase
phase_of m = phase_in m.shape m.call m.stage

-- what comes of finding this word: the machine's turn by where the phase leads
abbrev pub MachineLeads : MachinePhase → ℕ → Turn → Type 0
MachineLeads p found turn = (t : PhaseTurn) × PhaseLeads p.state found t × (turn ≡ p.turn t)
