-- The script that a text is, or the first fault in the order of the fields, and then of the script.
use Rattle.std.specs.Prelude.{ℕ, List, Result, Ok, Err}
use Rattle.std.specs.Option.{option_map_or}
use Rattle.serde_json.specs.Data.{Data}
use Rattle.stamp_machines.specs.Script.{Scripted}
use Rattle.stamp_history.specs.declared.read_error.ReadError.{ReadError}
use Rattle.stamp_history.specs.declared.read_error.ReadError.TheVariants.{BadScript}
use Rattle.stamp_history.specs.declared.text_kind.TextKind.TheVariants as text
use Rattle.stamp_history.specs.LimitFields.{limits}
use Rattle.stamp_history.specs.FirstFault.{first_fault}
use Rattle.stamp_history.specs.JsonReading.{◌>>=◌, json_of}
use Rattle.stamp_history.specs.ScriptValue.{top, width, threads, steps}

-- what the fields hold
unfoldable pub script_in : Data → Result Scripted ReadError
script_in d = do
  _ ← top d
  found_limits ← limits text.Script d
  found_width ← width d
  found_threads ← threads d
  found_steps ← steps d
  Ok (record { limits = found_limits; width = found_width; threads = found_threads; steps = found_steps })

-- a script without a fault
abbrev pub faultless : Scripted → Result Scripted ReadError
faultless script = option_map_or (λ fault. Err (BadScript fault)) (first_fault script) (Ok script)

unfoldable pub script_of : List ℕ → Result Scripted ReadError
script_of bytes = do
  d ← json_of bytes
  script ← script_in d
  faultless script
