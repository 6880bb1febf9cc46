use Rattle.std.proofs.Common.{◌≢◌}
use Rattle.std.specs.Prelude.{take}
use Rattle.std.specs.List.{All}
use Rattle.stamp_sets.specs.declared.position.Position.{Position}
use Rattle.stamp_sets.proofs.position.is_among.Given as goal

abbrev pub invariant-loop-other : goal.invariant-loop-other
invariant-loop-other l = All (λ (q : Position). q ≢ l.position) (take l.other-index l.list)
