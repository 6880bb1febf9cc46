use Rattle.std.proofs.Common.{◌≡◌, ◌+◌}
use Rattle.std.specs.Prelude.{drop}
use Rattle.stamp_watch.specs.AsObserved.{ending_of}
use Rattle.stamp_watch.proofs.ahead.end_ahead.Given as goal

abbrev pub invariant-loop-k : goal.invariant-loop-k
invariant-loop-k l = ending_of l.lane (l.first + l.k) (drop l.k l.events) ≡ ending_of l.lane l.first l.events
