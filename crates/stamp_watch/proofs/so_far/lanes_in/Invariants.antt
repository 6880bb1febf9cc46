use Rattle.std.specs.Prelude.{◌≡◌, ◌+◌}
use Rattle.stamp_sets.specs.inner.Lanes.{lanes_in}
use Rattle.stamp_watch.proofs.so_far.lanes_in.Given as goal

abbrev pub invariant-loop-rest : goal.invariant-loop-rest
invariant-loop-rest l = lanes_in l.lanes ≡ l.count + lanes_in l.rest

abbrev pub decreases-loop-rest : goal.decreases-loop-rest
decreases-loop-rest l = lanes_in l.rest
