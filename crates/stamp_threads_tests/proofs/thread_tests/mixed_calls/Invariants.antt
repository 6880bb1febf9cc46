use Rattle.std.proofs.Common.{◌≡◌}
use Rattle.stamp_threads_tests.proofs.thread_tests.mixed_calls.Given as goal

abbrev pub invariant-loop : goal.invariant-loop
invariant-loop g l = l.pass.table ≡ l.lock.table
