-- Which kind a step is of.
use Rattle.std.specs.Prelude.{◌-◌, ℕ, List, length, Option, Some, None, slice_get}
use Rattle.stamp_core.specs.declared.entry.Entry.{Entry}
use Rattle.stamp_machines.specs.Script.{Scripted}
use Rattle.stamp_machines.specs.World.{World}
use Rattle.stamp_machines.specs.Stepped.{AnswersStep}
use Rattle.stamp_machines.specs.declared.running.Stepped.{Stepped}
use Rattle.stamp_machines.specs.declared.running.Stepped.TheVariants as stepped
use Rattle.stamp_machines.specs.declared.state.StepKind.{StepKind}
use Rattle.stamp_machines.specs.declared.state.StepKind.TheVariants.{Idle, Going, Ended}

-- the thread's next step is of the kind of what it answers, ended with some entry
abbrev pub IsOfKind : Scripted → World → ℕ → StepKind → Type 0
IsOfKind script world thread Idle = AnswersStep script world thread stepped.Idle
IsOfKind script world thread Going = AnswersStep script world thread stepped.Going
IsOfKind script world thread Ended = (e : Entry) × AnswersStep script world thread (stepped.Ended e)

abbrev pub with_entry : Option Entry → Stepped
with_entry None = stepped.Idle
with_entry (Some e) = stepped.Ended e

-- with the last entry
abbrev pub outcome_of : List Entry → StepKind → Stepped
outcome_of entries Idle = stepped.Idle
outcome_of entries Going = stepped.Going
outcome_of entries Ended = with_entry (slice_get entries (length entries - 1))
