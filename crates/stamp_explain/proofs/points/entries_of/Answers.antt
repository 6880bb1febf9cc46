use Rattle.std.proofs.Common.{◌≡◌, sym, subst, arith}
use Rattle.stamp_explain.specs.inner.Points.{IsLinearizationOf}
use Rattle.stamp_explain.specs.Observed.{IsLow}
use Rattle.stamp_explain.specs.Points.{IsLastTold}
use Rattle.stamp_explain.proofs.MakingEntries.{MakesNext, all_made, call_inside, has_points, makes_next, makes_none}
use Rattle.stamp_explain.proofs.MakingEntries.{points_are_recorded}
use Rattle.stamp_explain.proofs.Spreading.{points_from}
use Rattle.stamp_explain.proofs.points.entries_of.Goals as goal
use Rattle.stamp_explain.proofs.points.entries_of.Goals.{After-end_of-end, After-loop-call, After-point_for-parts}

told : (c : After-end_of-end) → IsLastTold c.args.observed.now.entries c.end_of-end.result
told c = rw c.entries-entries.ensures.entries at c.end_of-end.ensures.told

pub loop-call-init : goal.loop-call-init
loop-call-init c = rw c.in_ok-made.ensures.items (makes_none c.args.observed.now c.args.order.now c.end_of-end.result
    c.requires.observed (told (goal.at.loop-call-init c).After-end_of-end))

pub bounds-entries-call : goal.bounds-entries-call
bounds-entries-call c = rw c.entries-entries.ensures.entries (call_inside c.args.observed.now c.args.order.now
    c.requires.order c.loop-call.call-index c.call-item.result c.loop-call-test.true c.call-item.is)

pub offset_bounds-entries-call : goal.offset_bounds-entries-call
offset_bounds-entries-call c = omega (
  arith,
  call_inside c.args.observed.now c.args.order.now c.requires.order c.loop-call.call-index c.call-item.result
      c.loop-call-test.true c.call-item.is,
  c.entries-entries.ensures.small.entries,
)

-- the entry of this call is made next
made : (c : After-point_for-parts) (o : IsLinearizationOf c.args.observed.now c.args.order.now) →
    MakesNext o.order c.end_of-end.result c.loop-call.call-index c.call-item.result c.loop-call.made.items
    c.loop-call.next.position c.loop-call.next.earlier c.index-entries-call.result
made c o = makes_next c.args.observed.now c.args.order.now c.end_of-end.result c.loop-call.call-index
    c.call-item.result c.loop-call.made.items c.loop-call.next.position c.loop-call.next.earlier
    c.index-entries-call.result c.entries-entries.result.now o c.loop-call-test.true c.call-item.is
    c.entries-entries.ensures.entries c.index-entries-call.is (c.loop-call.invariant o)

pub overflow_mul-point : goal.overflow_mul-point
overflow_mul-point c =
    let at = made (goal.at.overflow_mul-point c).After-point_for-parts c.requires.order in
    omega (arith, at.position, c.point_for-parts.ensures.position, c.end_of-end.ensures.low)

pub overflow_add-point : goal.overflow_add-point
overflow_add-point c =
    let at = made (goal.at.overflow_add-point c).After-point_for-parts c.requires.order in
    omega (
      arith,
      at.position,
      at.few,
      c.point_for-parts.ensures.position,
      c.point_for-parts.ensures.earlier,
      c.end_of-end.ensures.low,
    )

pub entry_of-requires-clause-low : goal.entry_of-requires-clause-low
entry_of-requires-clause-low c =
    subst IsLow (sym (rw c.entries-entries.ensures.entries at c.index-entries-call.is))
    (c.entries-entries.ensures.small.positions c.call-item.result.index c.index-entries-call.result
    (call_inside c.args.observed.now c.args.order.now c.requires.order c.loop-call.call-index c.call-item.result
    c.loop-call-test.true c.call-item.is))

pub overflow_add-next : goal.overflow_add-next
overflow_add-next c =
    let at = made (goal.at.overflow_add-next c).After-point_for-parts c.requires.order in
    omega (arith, at.few, c.point_for-parts.ensures.earlier)

pub loop-call-preserved : goal.loop-call-preserved
loop-call-preserved c = λ o. rw (
  c.in_ok-push.ensures.items,
  c.entry_of.ensures,
  c.point_for-parts.ensures.position,
  c.point_for-parts.ensures.earlier,
) (made (goal.at.loop-call-preserved c).After-point_for-parts o).next

-- of all calls they are made
all : (c : After-loop-call) →
    c.loop-call.made.items ≡ points_from c.end_of-end.result 0 0 c.requires.order.order
all c = all_made c.args.observed.now c.args.order.now c.end_of-end.result c.loop-call.call-index
    c.loop-call.made.items c.loop-call.next.position c.loop-call.next.earlier c.requires.order
    (c.loop-call.invariant c.requires.order) c.loop-call-test.false

pub returns-clause-points : goal.returns-clause-points
returns-clause-points c = rw (all c) (has_points c.args.observed.now c.args.order.now c.end_of-end.result
    c.requires.order c.requires.observed (told (goal.at.returns-clause-points c).After-end_of-end))

pub returns-clause-recorded : goal.returns-clause-recorded
returns-clause-recorded c = rw (all c) (points_are_recorded c.args.observed.now c.args.order.now
    c.end_of-end.result c.requires.order c.requires.observed c.entries-entries.ensures.small
    (told (goal.at.returns-clause-recorded c).After-end_of-end))
