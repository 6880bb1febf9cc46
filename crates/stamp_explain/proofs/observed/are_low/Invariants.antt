use Rattle.std.specs.Prelude.{take}
use Rattle.std.specs.List.{All}
use Rattle.stamp_explain.specs.Observed.{IsLow}
use Rattle.stamp_explain.proofs.observed.are_low.Given as goal

abbrev pub invariant-loop-entry : goal.invariant-loop-entry
invariant-loop-entry l = All IsLow (take l.entry-index l.entries)
