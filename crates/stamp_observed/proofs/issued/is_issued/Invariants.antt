use Rattle.std.specs.Prelude.{take}
use Rattle.std.specs.List.{All}
use Rattle.stamp_explain.specs.declared.observed.Observation.{Observation}
use Rattle.stamp_observed.specs.Issued.{Issues}
use Rattle.stamp_observed.proofs.issued.is_issued.Given as goal

abbrev pub invariant-loop-call : goal.invariant-loop-call
invariant-loop-call l = All (λ (e : Observation). ¬ Issues l.by l.position l.stamp e) (take l.call-index l.calls)
