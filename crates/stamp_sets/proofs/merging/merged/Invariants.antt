use Rattle.std.proofs.Common.{◌+◌}
use Rattle.stamp_sets.proofs.MergingOrders.{AreMerging}
use Rattle.stamp_sets.proofs.merging.merged.Given as goal

abbrev pub invariant-loop-ahead : goal.invariant-loop-ahead
invariant-loop-ahead l = AreMerging l.first l.second l.ahead l.behind l.order.items

abbrev pub decreases-loop-ahead : goal.decreases-loop-ahead
decreases-loop-ahead l = l.ahead + l.behind
