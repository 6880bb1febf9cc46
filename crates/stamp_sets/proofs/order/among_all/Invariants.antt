use Rattle.std.proofs.Common.{◌≡◌}
use Rattle.std.specs.Prelude.{map, take}
use Rattle.stamp_sets.specs.inner.Order.{told_among}
use Rattle.stamp_sets.proofs.order.among_all.Given as goal

abbrev pub invariant-loop-effect : goal.invariant-loop-effect
invariant-loop-effect l = l.all.items ≡ map (told_among l.numbers l.events) (take l.effect-index l.effects)
