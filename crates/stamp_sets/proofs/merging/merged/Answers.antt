use Rattle.std.proofs.Common.{◌<◌, ◌+◌, arith}
use Rattle.stamp_sets.proofs.MergingOrders.{merged_all, merging_none, merging_one, merging_other}
use Rattle.stamp_sets.proofs.merging.merged.Goals as goal
use Rattle.stamp_sets.proofs.merging.merged.Goals.{then-ahead-gt0, else-ahead-gt0+then-behind-gt0}

pub loop-ahead-init : goal.loop-ahead-init
loop-ahead-init c = merging_none c.args.first.now c.args.second.now c.new-order.result.items c.new-order.ensures.items

pub loop-ahead-preserved-in-Continue-1 : goal.loop-ahead-preserved-in-Continue-1
loop-ahead-preserved-in-Continue-1 c = merging_one c.args.first.now c.args.second.now c.loop-ahead.ahead
    c.loop-ahead.behind c.loop-ahead.order.items _ (c.is_next.ensures.first c.if-is_next.true)
    c.in_ok-push.ensures.items c.loop-ahead.invariant

pub loop-ahead-preserved : goal.loop-ahead-preserved
loop-ahead-preserved c = merging_other c.args.first.now c.args.second.now c.loop-ahead.ahead c.loop-ahead.behind
    c.loop-ahead.order.items c.push-else-is_next.new.self.items (c.is_next.ensures.second c.if-is_next.false some)
    c.in_ok-push-2.ensures.items c.loop-ahead.invariant
  where
    some : 0 < c.loop-ahead.ahead + c.loop-ahead.behind
    some = elim c.if-ahead-gt0.branch [
      | then-ahead-gt0 w ↦ omega (arith, w.if-ahead-gt0.true)
      | else-ahead-gt0+then-behind-gt0 w ↦ omega (arith, w.if-behind-gt0.true)
    ]

pub returns : goal.returns
returns c = merged_all c.args.first.now c.args.second.now c.loop-ahead.ahead c.loop-ahead.behind
    c.loop-ahead.order.items (omega (arith, c.if-ahead-gt0.false)) (omega (arith, c.if-behind-gt0.false))
    c.loop-ahead.invariant
