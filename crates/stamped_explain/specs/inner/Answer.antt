-- What holds of an answer, memory aside, and which faults are of an end of the command.
use Rattle.std.specs.Prelude.{◌≢◌, Bool, false, Result, Ok, Err}
use Rattle.stamp_cli.specs.declared.faults.ServeFault.{ServeFault}
use Rattle.stamp_cli.specs.declared.faults.ServeFault.TheVariants.{Memory}
use Rattle.stamp_cli.specs.inner.Refusal as refusal
use Rattle.stamped_explain.specs.declared.faults.ExplainFault.{ExplainFault}
use Rattle.stamped_explain.specs.declared.faults.ExplainFault.TheVariants.{Serve, NoInput}
use Rattle.stamped_explain.specs.declared.answer.LineAndNote as made
use Rattle.stamped_explain.specs.Answer.{LineAndNoteView, view_in}

-- memory aside, the fact holds of what a function returned
abbrev pub HoldsUnlessMemory : (Result LineAndNoteView ServeFault → Type 0) →
    Result made.LineAndNote ServeFault → Type 0
HoldsUnlessMemory P (Ok answer) = P (Ok (view_in answer))
HoldsUnlessMemory P (Err e) = e ≢ Memory → P (Err e)

-- the same with the program's own faults
abbrev pub HoldsOfInputUnlessMemory : (Result LineAndNoteView ExplainFault → Type 0) →
    Result made.LineAndNote ExplainFault → Type 0
HoldsOfInputUnlessMemory P (Ok answer) = P (Ok (view_in answer))
HoldsOfInputUnlessMemory P (Err e) = e ≢ Serve Memory → P (Err e)

-- an end of the command failed, and not what was read
abbrev pub is_of_end : ExplainFault → Bool
is_of_end (Serve fault) = refusal.is_of_end fault
is_of_end NoInput = false
