-- The recorded history that a run of a script gives.
use Rattle.std.specs.Prelude.{[], map}
use Rattle.stamp_core.specs.Record.{Recorded, recorded}
use Rattle.stamp_machines.specs.Interference.{cost}
use Rattle.stamp_machines.specs.Script.{Scripted}
use Rattle.stamp_machines.specs.World.{finished_calls}

-- the finished calls, in the order of their last steps
abbrev pub recorded_run : Scripted → Recorded
recorded_run script = recorded script.limits script.width (finished_calls script script.steps) []

-- and what each of them cost
abbrev pub reported_run : Scripted → Recorded
reported_run script =
    let entries = finished_calls script script.steps in
    recorded script.limits script.width entries (map (cost script script.steps) entries)
