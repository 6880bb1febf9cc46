-- The room that a step takes, and what making it leaves as it was.
use Rattle.std.specs.Prelude.{◌≡◌, ℕ, map, Option, Some, None, vec_len, vec_capacity, ◌<◌}
use Rattle.stamp_machines.specs.declared.state.Worker.{Worker}
use Rattle.stamp_machines.specs.declared.state.RunState.{RunState}
use Rattle.stamp_machines.specs.StateFields.{begun_in, stamps_at}

-- there is room for one stamp more
abbrev pub HasRoom : Option Worker → Type 0
HasRoom None = Unit {0}
HasRoom (Some w) = vec_len w.stamps < vec_capacity w.stamps

-- what clients see of two states is the same
pub record SameState (old : RunState) (new : RunState) : Type 0 where
  pub words : new.words ≡ old.words
  pub begun : map begun_in new.workers.items ≡ map begun_in old.workers.items
  pub stamps : (t : ℕ) → stamps_at new.workers.items t ≡ stamps_at old.workers.items t
  pub workers : vec_len new.workers ≡ vec_len old.workers
  pub entries : new.entries.items ≡ old.entries.items
