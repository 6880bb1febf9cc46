-- What holds of an answer, memory aside.
use Rattle.std.specs.Prelude.{◌≢◌, ℕ, List, Vec, Result, Ok, Err}
use Rattle.std.specs.declared.alloc.Global.{Global}
use Rattle.stamp_cli.specs.declared.faults.ServeFault.{ServeFault}
use Rattle.stamp_cli.specs.declared.faults.ServeFault.TheVariants.{Memory}
use Rattle.stamp_cli.specs.declared.line.Line as made
use Rattle.stamp_cli.specs.Answer.{LineView, line_in}

-- memory aside, the fact holds of what a function returned
abbrev pub UnlessMemory : (Result (List ℕ) ServeFault → Type 0) → Result (Vec ℕ Global) ServeFault → Type 0
UnlessMemory P (Ok line) = P (Ok line.items)
UnlessMemory P (Err e) = e ≢ Memory → P (Err e)

-- the same of a line
abbrev pub LineUnlessMemory : (Result LineView ServeFault → Type 0) → Result made.Line ServeFault → Type 0
LineUnlessMemory P (Ok line) = P (Ok (line_in line))
LineUnlessMemory P (Err e) = e ≢ Memory → P (Err e)
