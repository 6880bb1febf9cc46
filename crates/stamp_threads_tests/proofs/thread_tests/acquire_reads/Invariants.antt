use Rattle.std.proofs.Common.{◌≡◌}
use Rattle.stamp_threads_tests.proofs.thread_tests.acquire_reads.Given as goal

abbrev pub invariant-loop : goal.invariant-loop
invariant-loop l = l.pass.table ≡ l.lock.table
