use Rattle.stamp_explain.specs.Explained.{IsOrderIn}
use Rattle.stamp_explain.proofs.TakingCalls.{HasTaken}
use Rattle.stamp_explain.proofs.replaying.replied_in_order.Given as goal

abbrev pub invariant-loop-index : goal.invariant-loop-index
invariant-loop-index l = (o : IsOrderIn l.observed l.order) →
    HasTaken l.observed o.order l.index-index l.state l.calls.items
