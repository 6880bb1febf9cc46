-- A world in which a thread has begun a call.
use Rattle.std.specs.Prelude.{ℕ, Option, Some, None, slice_set}
use Rattle.stamp_machines.specs.declared.state.Begun.{Begun}
use Rattle.stamp_machines.specs.World.{World}

-- the world in which the thread has this call under way, or is left as it is
abbrev pub begun_with : World → ℕ → Option Begun → World
begun_with world thread None = world
begun_with world thread (Some b) = record world { begun = slice_set world.begun thread (Some b) }
