use Rattle.std.proofs.Common.{arith}
use Rattle.stamp_explain.proofs.TakingCalls.{admits, all_taken, next_inside, taken_more, taken_none, takes_some}
use Rattle.stamp_explain.proofs.replaying.replied_in_order.Goals as goal

pub loop-index-init : goal.loop-index-init
loop-index-init c = λ o. rw c.in_ok-calls.ensures.items
    (taken_none c.args.observed.now c.args.order.now c.opening-state.result o c.opening-state.ensures)

pub bounds-entries-index : goal.bounds-entries-index
bounds-entries-index c = rw c.entries-entries.ensures.entries
    (next_inside c.args.observed.now c.args.order.now c.requires.order c.loop-index.index-index c.loop-index-test.true)

pub offset_bounds-entries-index : goal.offset_bounds-entries-index
offset_bounds-entries-index c = omega (
  arith,
  next_inside c.args.observed.now c.args.order.now c.requires.order c.loop-index.index-index c.loop-index-test.true,
  c.entries-entries.ensures.small.entries,
)

pub take-requires : goal.take-requires
take-requires c = admits c.args.observed.now c.requires.order.order c.loop-index.index-index c.loop-index.state
    c.loop-index.calls.items c.limits.result c.limits.ensures (c.loop-index.invariant c.requires.order)

pub unreachable-requires : goal.unreachable-requires
unreachable-requires c = takes_some c.args.observed.now c.args.order.now c.requires.order c.loop-index.index-index
    c.index-entries-index.result c.entries-entries.result.now c.limits.result c.loop-index.state c.take.new.self
    c.loop-index.calls.items c.requires.observed c.loop-index-test.true c.entries-entries.ensures.entries
    c.limits.ensures c.in_default.ensures (c.loop-index.invariant c.requires.order)

pub loop-index-preserved : goal.loop-index-preserved
loop-index-preserved c = λ o. rw c.in_ok-push.ensures.items
    (taken_more c.args.observed.now c.args.order.now o c.loop-index.index-index c.index-entries-index.result
    c.entries-entries.result.now c.limits.result c.loop-index.state c.take.new.self c.in-Some.reply
    c.loop-index.calls.items c.requires.observed c.loop-index-test.true c.entries-entries.ensures.entries
    c.limits.ensures c.in-Some.ensures (c.loop-index.invariant o))

pub returns : goal.returns
returns c = all_taken c.args.observed.now c.args.order.now c.requires.order c.loop-index.index-index
    c.loop-index.state c.loop-index.calls.items (omega (arith, c.loop-index-test.false))
    (c.loop-index.invariant c.requires.order)
