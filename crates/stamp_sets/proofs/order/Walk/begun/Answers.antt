use Rattle.std.proofs.Common.{refl}
use Rattle.stamp_sets.proofs.ReadingBack.{back_taken}
use Rattle.stamp_sets.proofs.order.Walk.begun.Goals as goal

pub returns : goal.returns
returns c older order walks = back_taken older order c.args.self.now c.args.lane walks c.saturating_sub-self-2.result
    c.saturating_sub-self-2.ensures _ (c.has_lane.ensures.0 c.if-not-has_lane.false) refl c.without_lane-self.ensures
    refl refl refl c.in_ok-push.ensures.items
