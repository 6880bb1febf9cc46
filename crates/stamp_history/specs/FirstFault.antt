-- The first fault of a script, after those of its fields.
use Rattle.std.specs.Prelude.{ℕ, ◌==◌, ◌&&◌, not, nat_le, nat_lt, List, length, position, Bool}
use Rattle.std.specs.Prelude.{true, Option, Some, None, if◌then◌else◌}
use Rattle.std.specs.List.{list_all}
use Rattle.std.specs.Option.{option_map_or}
use Rattle.stamp_machines.specs.declared.script_error.ScriptError.{ScriptError}
use Rattle.stamp_machines.specs.declared.script_error.ScriptError.TheVariants.{TooManyThreads}
use Rattle.stamp_machines.specs.declared.script_error.ScriptError.TheVariants.{TooManyCalls}
use Rattle.stamp_machines.specs.declared.script_error.ScriptError.TheVariants.{TooManySteps}
use Rattle.stamp_machines.specs.declared.script_error.ScriptError.TheVariants.{NoSuchThread}
use Rattle.stamp_machines.specs.declared.script_error.ScriptError.TheVariants.{RecordWidth}
use Rattle.stamp_machines.specs.Script.{Scripted}
use Rattle.stamp_machines.specs.declared.script.ScriptCall.{ScriptCall}
use Rattle.stamp_machines.specs.declared.script.ScriptCall.TheVariants.{Get, Put, PutIf}

-- a call of the record needs a record, and words of its width
abbrev pub suits : ℕ → ScriptCall → Bool
suits width Get = nat_lt 0 width
suits width (Put words) = nat_lt 0 width && (length words == width)
suits width (PutIf expected words) = nat_lt 0 width && (length expected == width) && (length words == width)
suits width _ = true

-- no thread has more than 10,000 calls
abbrev pub are_short : List (List ScriptCall) → Bool
are_short threads = list_all (λ calls. nat_le (length calls) 10000) threads

abbrev pub are_suited : ℕ → List (List ScriptCall) → Bool
are_suited width threads = list_all (list_all (suits width)) threads

-- the first step that is of none of this many threads
abbrev pub first_unknown : ℕ → List ℕ → Option ℕ
first_unknown threads steps = position (λ thread. nat_le threads thread) steps

abbrev pub width_fault : Scripted → Option ScriptError
width_fault script =
    if nat_le script.width 16 && are_suited script.width script.threads then None else Some RecordWidth

-- more than 64 threads, 10,000 calls of one or 1,000,000 steps; then a step of no thread; then the width
unfoldable pub first_fault : Scripted → Option ScriptError
first_fault script =
    if nat_lt 64 (length script.threads) then Some TooManyThreads
    else if not (are_short script.threads) then Some TooManyCalls
    else if nat_lt 1000000 (length script.steps) then Some TooManySteps
    else option_map_or (λ i. Some (NoSuchThread i)) (first_unknown (length script.threads) script.steps)
    (width_fault script)
