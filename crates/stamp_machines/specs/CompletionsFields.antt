-- How the fields of a script's finished calls are read, and what they keep to.
use Rattle.std.specs.Prelude.{◌≡◌, ℕ, ◌≤◌, List, [], length, take, drop, slice_get, vec_len}
use Rattle.stamp_core.specs.declared.entry.Entry.{Entry}
use Rattle.stamp_machines.specs.Completing.{Completing}
use Rattle.stamp_machines.specs.Script.{Scripted}
use Rattle.stamp_machines.specs.World.{execution_of, finished_calls, stamps_of}
use Rattle.stamp_machines.specs.StateFields.{world_at, stamps_at}
use Rattle.stamp_machines.specs.declared.state.RunState.{RunState}
use Rattle.stamp_machines.specs.declared.completions.Completions.TheInside.{Inside}

-- what this many of the script's steps finish, and what the later ones do
abbrev pub calls_until : Scripted → ℕ → List Entry
calls_until script made = finished_calls script (take made script.steps)

abbrev pub calls_after : Scripted → ℕ → List Entry
calls_after script made = drop (length (calls_until script made)) (finished_calls script script.steps)

-- no entry but the last one is kept
abbrev pub completing_at : Scripted → RunState → ℕ → Completing
completing_at script s made =
    record {
      script = script;
      made = made;
      last = slice_get s.entries.items 0;
      rest = calls_after script made;
    }

abbrev pub completing_of : Inside → Completing
completing_of c = completing_at c.script.now c.state c.made

-- the words and the threads' calls are those of the schedule for the steps made
pub record IsAfter (script : Scripted) (s : RunState) (made : ℕ) : Type 0 where
  pub world : record (world_at [] s made) { entries = calls_until script made }
      ≡ execution_of script (take made script.steps)
  pub few : made ≤ length script.steps
  pub workers : vec_len s.workers ≡ length script.threads
  pub stamps : (t : ℕ) → stamps_at s.workers.items t ≡ stamps_of t (calls_until script made)

abbrev pub IsCompleting : Inside → Type 0
IsCompleting c = IsAfter c.script.now c.state c.made
