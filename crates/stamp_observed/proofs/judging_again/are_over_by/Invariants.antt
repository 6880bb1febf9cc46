use Rattle.std.specs.Prelude.{take}
use Rattle.std.specs.List.{All}
use Rattle.stamp_observed.specs.inner.Over.{IsOverBy}
use Rattle.stamp_observed.proofs.judging_again.are_over_by.Given as goal

abbrev pub invariant-loop-call : goal.invariant-loop-call
invariant-loop-call l = All (IsOverBy l.last) (take l.call-index l.call-items)
