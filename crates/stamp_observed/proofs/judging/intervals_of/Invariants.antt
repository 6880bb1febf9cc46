use Rattle.std.proofs.Common.{take}
use Rattle.std.specs.List.{All}
use Rattle.stamp_explain.specs.Observed.{IsInterval}
use Rattle.stamp_observed.proofs.judging.intervals_of.Given as goal

abbrev pub invariant-loop-i : goal.invariant-loop-i
invariant-loop-i l = All IsInterval (take l.i l.entries)
