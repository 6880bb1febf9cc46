use Rattle.std.specs.Prelude.{take}
use Rattle.std.specs.List.{All}
use Rattle.stamp_explain.specs.declared.observed.Observation.{Observation}
use Rattle.stamp_explain.specs.Observed.{DoNotOverlap}
use Rattle.stamp_explain.proofs.observed.overlaps_none.Given as goal

abbrev pub invariant-loop-other : goal.invariant-loop-other
invariant-loop-other l = All (λ (other : Observation). DoNotOverlap other l.entry) (take l.other-index l.others)
