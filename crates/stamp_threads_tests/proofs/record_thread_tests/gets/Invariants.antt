use Rattle.std.proofs.Common.{◌≡◌}
use Rattle.stamp_threads_tests.proofs.record_thread_tests.gets.Given as goal

abbrev pub invariant-loop : goal.invariant-loop
invariant-loop l = l.pass.table ≡ l.shared.table
