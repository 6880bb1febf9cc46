use Rattle.std.proofs.Common.{◌≡◌, List, length, sym, ◌∙◌, ap, subst, arith}
use Rattle.std.specs.Prelude.{drop}
use Rattle.std.specs.List.{All}
use Rattle.std.proofs.lemmas.List.{take_at}
use Rattle.stamp_sets.specs.declared.position.Position.{Position}
use Rattle.stamp_sets.specs.Judged.{judged}
use Rattle.stamp_sets.specs.inner.State.{IsState}
use Rattle.stamp_sets.specs.inner.Step.{AreBegun}
use Rattle.stamp_sets.proofs.Stepping.{so_far_none, so_far_more, all_begun, states_rest}
use Rattle.stamp_sets.proofs.half.begin_in_each.Goals as goal

pub loop-position-init : goal.loop-position-init
loop-position-init c = so_far_none (judged c.args.object.now) c.args.begun.now c.args.lane
    c.deref_mut-position-items.result.now

pub begun_in-requires-clause-state : goal.begun_in-requires-clause-state
begun_in-requires-clause-state c = states_rest (judged c.args.object.now) c.args.begun.now c.args.lane
    c.loop-position.position-index c.deref_mut-position-items.result.now c.loop-position.position-items
    (record { state = 0; in_effect = 0; free = 0 }) c.loop-position-test.true c.loop-position.invariant
    (subst (λ (xs : List Position). All (λ (p : Position). IsState (judged c.args.object.now) p.state) xs)
    (sym c.deref_mut-position-items.ensures.value) c.requires.states)

pub loop-position-preserved : goal.loop-position-preserved
loop-position-preserved c = so_far_more (judged c.args.object.now) c.args.begun.now c.args.lane
    c.loop-position.position-index
    c.deref_mut-position-items.result.now c.loop-position.position-items (record { state = 0; in_effect = 0; free = 0 })
    c.begun_in.result (omega (arith, c.loop-position.auto.position-items, c.loop-position-test.true))
    c.begun_in.ensures c.loop-position.invariant

pub returns : goal.returns
returns c =
    let long : length c.loop-position.position-items ≡ c.args.positions.now.len =
    c.loop-position.auto.position-items ∙
    ap (λ (xs : List Position). length xs) c.deref_mut-position-items.ensures.value ∙
    sym c.args.positions.now.ok.0 in
    subst (λ (ys : List Position). AreBegun (judged c.args.object.now) c.args.begun.now c.args.lane
    c.args.positions.now.items ys)
    (sym (take_at c.loop-position.position-items
    (drop (length c.loop-position.position-items) c.args.positions.now.items) c.args.positions.now.len long))
    (subst (λ (xs : List Position). AreBegun (judged c.args.object.now) c.args.begun.now c.args.lane xs
    c.loop-position.position-items)
    c.deref_mut-position-items.ensures.value
    (all_begun (judged c.args.object.now) c.args.begun.now c.args.lane c.loop-position.position-index
    c.deref_mut-position-items.result.now c.loop-position.position-items
    (omega (arith, c.loop-position.auto.position-items, c.loop-position-test.false)) c.loop-position.invariant))
