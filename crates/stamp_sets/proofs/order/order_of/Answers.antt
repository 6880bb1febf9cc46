use Rattle.std.proofs.Common.{◌≡◌, ℕ, List, sym, ◌∙◌, ap, subst}
use Rattle.std.specs.Prelude.{map, reverse}
use Rattle.std.specs.List.{Contains}
use Rattle.stamp_runs.specs.Trace.{Move, order_of}
use Rattle.stamp_sets.specs.declared.position.Position.{Position}
use Rattle.stamp_sets.specs.declared.trail.Entry.{Entry}
use Rattle.stamp_sets.specs.Judged.{judged}
use Rattle.stamp_sets.specs.Order.{effect_at}
use Rattle.stamp_sets.specs.Tracing.{IsTracedBy, Says, events_in}
use Rattle.stamp_sets.specs.inner.Order.{told_among}
use Rattle.stamp_sets.proofs.ReadingBack.{traced_order}
use Rattle.stamp_sets.proofs.order.order_of.Goals as goal

pub returns-clause-order : goal.returns-clause-order
returns-clause-order c past keeps many = record {
  own = c.in_ok-own.own.items;
  is = traced_order (judged c.args.half.now.object) past c.args.half.now.table.items
      (reverse c.args.trace.now.entries) c.in-Some.position.now c.in_ok-own.own.items is same;
  told = c.in_ok-order.ensures ∙
      ap (λ (ns : List ℕ). map (told_among ns c.args.events) c.as_slice-3.result.now) c.as_slice-4.ensures ∙
      ap (map (told_among c.args.trace.now.numbers c.args.events)) c.as_slice-3.ensures.value;
}
  where
    is : IsTracedBy (judged c.args.half.now.object) past c.args.half.now.table.items
        (reverse c.args.trace.now.entries) c.in-Some.position.now
    is = keeps.each c.in-Some.position.now (let at = c.in-Some.ensures.lookup in
        subst (λ (xs : List Position). Contains xs c.in-Some.position.now) c.as_slice.ensures.value
        (0, at.3.0, sym at.1))

    same : (moves : List Move) → Says (reverse c.args.trace.now.entries) c.in-Some.position.now moves →
        map effect_at (order_of moves) ≡ reverse c.in_ok-own.own.items
    same moves says = c.in_ok-own.ensures moves
        (ap (λ (es : List Entry). events_in (reverse es)) c.as_slice-2.ensures ∙ is.events ∙ sym many ∙
        sym c.events.ensures.events)
        (subst (λ (es : List Entry). Says (reverse es) c.in-Some.position.now moves) (sym c.as_slice-2.ensures) says)
