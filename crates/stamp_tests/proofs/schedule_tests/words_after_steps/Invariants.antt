use Rattle.std.proofs.Common.{◌≡◌}
use Rattle.stamp_tests.proofs.schedule_tests.words_after_steps.Given as goal

abbrev pub invariant-loop-thread : goal.invariant-loop-thread
invariant-loop-thread l = l.run.script ≡ l.script
