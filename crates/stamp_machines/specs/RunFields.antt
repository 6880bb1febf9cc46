-- How the fields of a run are read, and what each run keeps to.
use Rattle.std.specs.Prelude.{◌≡◌, ℕ, ◌≤◌, [], length}
use Rattle.stamp_machines.specs.declared.running.Run.TheInside.{Inside}
use Rattle.stamp_machines.specs.RunView.{RunView}
use Rattle.stamp_machines.specs.Script.{IsSound}
use Rattle.stamp_machines.specs.World.{execution_of, stamps_of}
use Rattle.stamp_machines.specs.StateFields.{world_at, stamps_at}

abbrev pub run_view_of : Inside → RunView
run_view_of r = record { script = r.script.now; steps = r.steps.items }

-- the words, the threads' calls and the entries are those of the schedule for the steps so far
pub record IsAt (r : Inside) : Type 0 where
  pub world : world_at [] r.state (length r.steps.items) ≡ execution_of r.script.now r.steps.items
  pub sound : IsSound r.script.now
  pub workers : length r.state.workers.items ≡ length r.script.now.threads
  pub stamps : (t : ℕ) → stamps_at r.state.workers.items t ≡ stamps_of t r.state.entries.items
  pub few : length r.steps.items ≤ 1000000
