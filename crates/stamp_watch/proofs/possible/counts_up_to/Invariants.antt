use Rattle.std.proofs.Common.{◌≡◌}
use Rattle.stamp_watch.specs.Possible.{counts_below}
use Rattle.stamp_watch.proofs.possible.counts_up_to.Given as goal

abbrev pub invariant-loop-count : goal.invariant-loop-count
invariant-loop-count l = l.replies.items ≡ counts_below l.count
