use Rattle.std.proofs.Common.{length, subst}
use Rattle.stamp_sets.specs.Watch.{IsUntold}
use Rattle.stamp_watch.specs.inner.History.{IsToldRun}
use Rattle.stamp_watch.specs.inner.Judging.{HasSeenAll}
use Rattle.stamp_watch.proofs.OrderTold.{along_moments, is_order_in, order_told}
use Rattle.stamp_watch.proofs.history.explain.Goals as goal
use Rattle.stamp_watch.proofs.history.explain.Goals.{In_ok-judged}

module _ (c : In_ok-judged) where
  told_here : IsToldRun c.args.observed.now c.in_ok-moments.moments.items c.in_ok-told.told.items
  told_here = rw c.as_slice.ensures.value at c.in_ok-told.ensures

  untold_here : IsUntold c.in_ok-watch.watch c.args.observed.now.limits
  untold_here = subst (IsUntold c.in_ok-watch.watch) c.limits.ensures c.in_ok-watch.ensures.untold

  seen_here : HasSeenAll (length c.in_ok-moments.moments.items) c.in_ok-told.told.items c.in_ok-watch.watch
      c.judged.new.watch
  seen_here = rw (c.as_slice-2.ensures.value, c.as_slice-3.ensures.value) at c.in_ok-judged.ensures.seen

pub unreachable-requires : goal.unreachable-requires
unreachable-requires c =
    let at = (goal.at.unreachable-requires c).In_ok-judged in
    order_told c.args.observed.now c.requires c.in_ok-moments.moments.items c.in_ok-moments.ensures
    c.in_ok-told.told.items (told_here at) c.in_ok-watch.watch c.judged.new.watch c.in_ok-watch.ensures.tracing
    (untold_here at) (seen_here at) (rw c.in_default.is at c.in_ok-effects.ensures.order)

pub entries_in_order-requires-clause-along : goal.entries_in_order-requires-clause-along
entries_in_order-requires-clause-along c =
    let at = (goal.at.entries_in_order-requires-clause-along c).In_ok-judged in
    rw (c.as_slice-4.ensures.value, c.as_slice-5.ensures.value) (along_moments c.args.observed.now c.requires
    c.in_ok-moments.moments.items c.in_ok-moments.ensures c.in_ok-told.told.items (told_here at) c.in_ok-watch.watch
    c.judged.new.watch c.in_ok-watch.ensures.tracing (untold_here at) (seen_here at) c.in-Some.effects.items
    (rw c.in-Some.is at c.in_ok-effects.ensures.order))

pub recorded_in_order-requires-clause-order : goal.recorded_in_order-requires-clause-order
recorded_in_order-requires-clause-order c =
    let at = (goal.at.recorded_in_order-requires-clause-order c).In_ok-judged in
    rw c.as_slice-6.ensures.value (is_order_in c.args.observed.now c.requires c.in_ok-moments.moments.items
    c.in_ok-moments.ensures c.in_ok-told.told.items (told_here at) c.in_ok-watch.watch c.judged.new.watch
    c.in_ok-watch.ensures.tracing (untold_here at) (seen_here at) c.in-Some.effects.items
    (rw c.in-Some.is at c.in_ok-effects.ensures.order) c.in_ok-order.order.items
    (rw (c.as_slice-4.ensures.value, c.as_slice-5.ensures.value) at c.in_ok-order.ensures.whole))
