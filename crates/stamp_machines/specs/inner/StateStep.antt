-- What a step of a thread leaves of the state.
use Rattle.std.specs.Prelude.{◌≡◌, ◌+◌, ◌++◌, ℕ, List}
use Rattle.stamp_core.specs.declared.entry.Entry.{Entry}
use Rattle.stamp_machines.specs.Script.{Scripted}
use Rattle.stamp_machines.specs.World.{step, stamps_of}
use Rattle.stamp_machines.specs.StateFields.{world_at, stamps_at}
use Rattle.stamp_machines.specs.inner.StepKind.{IsOfKind}
use Rattle.stamp_machines.specs.declared.state.RunState.{RunState}
use Rattle.stamp_machines.specs.declared.state.StepKind.{StepKind}

-- the schedule's world after the step, the stamps of the finished calls, and the kind of the step
pub record IsStep (gone : List Entry) (script : Scripted) (old new : RunState) (thread position : ℕ)
    (kind : StepKind) : Type 0 where
  pub world : world_at gone new (position + 1) ≡ step script (world_at gone old position) thread
  pub stamps : (t : ℕ) → stamps_at new.workers.items t ≡ stamps_of t (gone ++ new.entries.items)
  pub of_kind : IsOfKind script (world_at gone old position) thread kind
