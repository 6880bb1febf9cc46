use Rattle.std.proofs.Common.{refl}
use Rattle.stamp_sets.proofs.ReadingBack.{back_returned}
use Rattle.stamp_sets.proofs.order.Walk.returned.Goals as goal

pub returns : goal.returns
returns c older order walks = back_returned older order c.args.self.now _ c.args.lane walks refl
    c.with_lane-self.ensures refl c.saturating_sub-self.ensures refl refl
