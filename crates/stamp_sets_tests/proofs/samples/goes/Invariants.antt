use Rattle.stamp_sets.specs.Watch.{IsWatched}
use Rattle.stamp_sets_tests.proofs.samples.goes.Given as goal

abbrev pub invariant-loop-step : goal.invariant-loop-step
invariant-loop-step l = IsWatched l.watch
