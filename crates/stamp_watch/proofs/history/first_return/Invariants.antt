use Rattle.stamp_watch.specs.History.{NoneReturns}
use Rattle.stamp_watch.proofs.history.first_return.Given as goal

abbrev pub invariant-loop-place : goal.invariant-loop-place
invariant-loop-place l = NoneReturns l.moments l.from l.place
