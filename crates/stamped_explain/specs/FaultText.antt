-- The line on standard error for each fault.
use Rattle.std.specs.Prelude.{ℕ, List, codes}
use Rattle.stamp_cli.specs.FaultText.{named_fault_text}
use Rattle.stamped_explain.specs.declared.faults.ExplainFault.{ExplainFault}
use Rattle.stamped_explain.specs.declared.faults.ExplainFault.TheVariants.{Serve, NoInput}

abbrev pub explain_fault_text : ExplainFault → List ℕ
explain_fault_text (Serve fault) = named_fault_text (codes "stamped_explain") fault
explain_fault_text NoInput = codes "stamped_explain: no input"
