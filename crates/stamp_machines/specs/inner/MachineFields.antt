-- How a machine goes on after an access, by its fields.
use Rattle.std.specs.Prelude.{◌≡◌, ℕ, List}
use Rattle.std.specs.declared.ops.ControlFlow.{ControlFlow}
use Rattle.std.specs.declared.ops.ControlFlow.TheVariants.{Continue, Break}
use Rattle.stamp_core.specs.declared.call.Call.{Call}
use Rattle.stamp_core.specs.declared.reply.Reply.{Reply}
use Rattle.stamp_machines.specs.declared.shape.Shape.{Shape}
use Rattle.stamp_machines.specs.declared.stage.Stage.{Stage}
use Rattle.stamp_machines.specs.declared.machine.Turn.{Turn}
use Rattle.stamp_machines.specs.declared.machine.Turn.TheVariants.{Going}
use Rattle.stamp_machines.specs.declared.machine.Turn.TheVariants as turned
use Rattle.stamp_machines.specs.MachineFields.{stage_at, IsStage}

-- a call that has these words loaded goes on at this stage
abbrev pub going_at : Shape → Call → List ℕ → Stage → Turn
going_at shape call loaded stage =
    Going (record { shape = shape; call = call; stage = stage_at call loaded stage })

-- the turn of a call that has these words loaded, with this reply
abbrev pub turn_in : Shape → Call → List ℕ → Reply → ControlFlow (Unit {0}) Stage → Turn
turn_in shape call loaded reply (Continue stage) = going_at shape call loaded stage
turn_in shape call loaded reply (Break _) = turned.Done reply

-- where it goes on with the words now loaded; the end of a call leaves them as they were
abbrev pub IsNextStage : Shape → Call → List ℕ → List ℕ → ControlFlow (Unit {0}) Stage → Type 0
IsNextStage shape call before loaded (Continue stage) = IsStage shape call loaded stage
IsNextStage shape call before loaded (Break _) = loaded ≡ before
