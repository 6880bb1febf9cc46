use Rattle.std.proofs.Common.{◌≡◌}
use Rattle.std.specs.Prelude.{take}
use Rattle.std.specs.Int.{bit_at}
use Rattle.std.specs.List.{All}
use Rattle.stamp_sets.specs.declared.position.Position.{Position}
use Rattle.stamp_sets.proofs.layers.is_in_each.Given as goal

abbrev pub invariant-loop-position : goal.invariant-loop-position
invariant-loop-position l = All (λ (p : Position). bit_at p.in_effect l.lane ≡ 1) (take l.position-index l.positions)
