use Rattle.std.proofs.Common.{◌≡◌, List, length, sym, ◌∙◌, ap, subst, arith}
use Rattle.std.specs.Prelude.{drop}
use Rattle.std.specs.Int.{bit_at}
use Rattle.std.specs.List.{All}
use Rattle.std.proofs.lemmas.List.{take_at}
use Rattle.stamp_sets.specs.declared.position.Position.{Position}
use Rattle.stamp_sets.specs.inner.Layer.{AreReturned}
use Rattle.stamp_sets.proofs.Layering.{returned_none, returned_more, all_returned, taken_rest}
use Rattle.stamp_sets.proofs.layers.return_in_each.Goals as goal

pub loop-position-init : goal.loop-position-init
loop-position-init c = returned_none c.args.lane c.deref_mut-position-items.result.now

pub returned_from-requires-clause-taken : goal.returned_from-requires-clause-taken
returned_from-requires-clause-taken c = taken_rest c.args.lane c.loop-position.position-index
    c.deref_mut-position-items.result.now c.loop-position.position-items (record { state = 0; in_effect = 0; free = 0 })
    c.loop-position-test.true c.loop-position.invariant
    (subst (λ (xs : List Position). All (λ (p : Position). bit_at p.in_effect c.args.lane ≡ 1) xs)
    (sym c.deref_mut-position-items.ensures.value) c.requires.taken)

pub loop-position-preserved : goal.loop-position-preserved
loop-position-preserved c = returned_more c.args.lane c.loop-position.position-index
    c.deref_mut-position-items.result.now c.loop-position.position-items (record { state = 0; in_effect = 0; free = 0 })
    c.returned_from.result (omega (arith, c.loop-position.auto.position-items, c.loop-position-test.true))
    c.returned_from.ensures c.loop-position.invariant

pub returns : goal.returns
returns c =
    let long : length c.loop-position.position-items ≡ c.args.positions.now.len =
    c.loop-position.auto.position-items ∙
    ap (λ (xs : List Position). length xs) c.deref_mut-position-items.ensures.value ∙
    sym c.args.positions.now.ok.0 in
    subst (λ (ys : List Position). AreReturned c.args.lane c.args.positions.now.items ys)
    (sym (take_at c.loop-position.position-items
    (drop (length c.loop-position.position-items) c.args.positions.now.items) c.args.positions.now.len long))
    (subst (λ (xs : List Position). AreReturned c.args.lane xs c.loop-position.position-items)
    c.deref_mut-position-items.ensures.value
    (all_returned c.args.lane c.loop-position.position-index c.deref_mut-position-items.result.now
    c.loop-position.position-items
    (omega (arith, c.loop-position.auto.position-items, c.loop-position-test.false)) c.loop-position.invariant))
