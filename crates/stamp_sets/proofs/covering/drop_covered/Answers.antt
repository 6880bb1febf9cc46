use Rattle.std.proofs.Common.{◌≡◌, ◌<◌, List, length, sym, ◌∙◌, ap, subst, arith}
use Rattle.stamp_sets.specs.declared.object.Object.TheVariants.{Record}
use Rattle.stamp_sets.specs.declared.position.Position.{Position}
use Rattle.stamp_sets.specs.Judged.{guarded}
use Rattle.stamp_sets.specs.inner.Covering.{IsCoveredAt, IsThinned}
use Rattle.stamp_sets.proofs.Overwriting.{judged_lawful}
use Rattle.stamp_sets.proofs.Thinning.{one_dropped}
use Rattle.stamp_sets.proofs.covering.drop_covered.Goals as goal

pub loop-at-preserved-then-is_covered : goal.loop-at-preserved-then-is_covered
loop-at-preserved-then-is_covered c table are = subst
    (λ (xs : List Position). IsThinned guarded table c.args.positions.now.items xs) (sym c.remove.ensures.items)
    (one_dropped guarded table (judged_lawful Record) (λ n s t first other. first ∙ sym other)
    c.args.positions.now.items c.loop-at.positions.items c.loop-at.at
    (record { state = 0; in_effect = 0; free = 0 }) less (c.loop-at.invariant table are)
    (subst (λ (xs : List Position). IsCoveredAt guarded table c.loop-at.at xs) c.as_slice.ensures.value
    (c.is_covered.ensures c.if-is_covered.true table are)))
  where
    less : c.loop-at.at < length c.loop-at.positions.items
    less = let same : length c.as_slice.result.now ≡ length c.loop-at.positions.items =
        ap (λ (xs : List Position). length xs) c.as_slice.ensures.value in
        omega (arith, c.loop-at-test.true, c.len.ensures, c.as_slice.ensures.len, same)
