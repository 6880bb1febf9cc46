-- What the workers of a run keep of the finished calls.
use Rattle.std.specs.Prelude.{ℕ, List, [], map, Option, slice_index_or, ◌++◌}
use Rattle.stamp_core.specs.declared.entry.Entry.{Entry}
use Rattle.stamp_machines.specs.declared.state.Begun.{Begun}
use Rattle.stamp_machines.specs.declared.state.Worker.{Worker}
use Rattle.stamp_machines.specs.declared.state.RunState.{RunState}
use Rattle.stamp_machines.specs.World.{World}

abbrev pub begun_in : Worker → Option Begun
begun_in w = w.begun

abbrev pub stamps_in : Worker → List ℕ
stamps_in w = w.stamps.items

-- the stamps of a thread's finished calls, none for a thread that is not there
abbrev pub stamps_at : List Worker → ℕ → List ℕ
stamps_at workers thread = slice_index_or (map stamps_in workers) thread []

-- the schedule's world, where these entries came before those that are kept
abbrev pub world_at : List Entry → RunState → ℕ → World
world_at gone s position =
    record {
      words = s.words.items;
      begun = map begun_in s.workers.items;
      entries = gone ++ s.entries.items;
      position = position;
    }
