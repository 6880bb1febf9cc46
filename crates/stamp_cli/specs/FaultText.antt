-- The line on standard error for each fault.
use Rattle.std.specs.Prelude.{ℕ, List, ◌++◌, codes, decimal}
use Rattle.stamp_machines.specs.declared.script_error.ScriptError.{ScriptError}
use Rattle.stamp_machines.specs.declared.script_error.ScriptError.TheVariants.{TooManyThreads}
use Rattle.stamp_machines.specs.declared.script_error.ScriptError.TheVariants.{TooManyCalls}
use Rattle.stamp_machines.specs.declared.script_error.ScriptError.TheVariants.{TooManySteps}
use Rattle.stamp_machines.specs.declared.script_error.ScriptError.TheVariants.{NoSuchThread}
use Rattle.stamp_machines.specs.declared.script_error.ScriptError.TheVariants.{RecordWidth}
use Rattle.stamp_history.specs.Field.{field_text}
use Rattle.stamp_history.specs.declared.read_error.ReadError.{ReadError}
use Rattle.stamp_history.specs.declared.read_error.ReadError.TheVariants as read
use Rattle.stamp_cli.specs.declared.faults.ServeFault.{ServeFault}
use Rattle.stamp_cli.specs.declared.faults.ServeFault.TheVariants.{ReadFault, TooLong, Refused}
use Rattle.stamp_cli.specs.declared.faults.ServeFault.TheVariants.{Waits, Memory, WriteFault}
use Rattle.stamp_cli.specs.declared.faults.ServeFault.TheVariants.{BadReply}

abbrev pub script_error_text : ScriptError → List ℕ
script_error_text TooManyThreads = codes "too many threads"
script_error_text TooManyCalls = codes "too many calls"
script_error_text TooManySteps = codes "too many steps"
script_error_text (NoSuchThread i) = codes "no thread at step " ++ decimal i
script_error_text RecordWidth = codes "record width"

-- what is wrong, without the name of the program that says it
abbrev pub read_error_text : ReadError → List ℕ
read_error_text read.NotJson = codes "not json"
read_error_text (read.NotHistory field) = codes "not a history: " ++ field_text field
read_error_text (read.Limit field) = codes "over a limit: " ++ field_text field
read_error_text read.Memory = codes "memory"
read_error_text (read.NotScript field) = codes "not a script: " ++ field_text field
read_error_text (read.BadScript e) = codes "script refused: " ++ script_error_text e

abbrev pub cause_text : ServeFault → List ℕ
cause_text ReadFault = codes "read fault"
cause_text TooLong = codes "input over 16777216 bytes"
cause_text (Refused e) = read_error_text e
cause_text (Waits i) = codes "call " ++ decimal i ++ codes " waits"
cause_text Memory = codes "memory"
cause_text WriteFault = codes "write fault"
cause_text (BadReply i) = codes "bad reply at entry " ++ decimal i

-- the line of the program of this name
abbrev pub named_fault_text : List ℕ → ServeFault → List ℕ
named_fault_text name fault = name ++ codes ": " ++ cause_text fault

abbrev pub fault_text : ServeFault → List ℕ
fault_text fault = named_fault_text (codes "stamped") fault
