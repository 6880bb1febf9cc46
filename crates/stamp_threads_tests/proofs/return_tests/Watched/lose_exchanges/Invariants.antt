use Rattle.std.proofs.Common.{◌≡◌}
use Rattle.stamp_threads_tests.proofs.return_tests.Watched.lose_exchanges.Given as goal

abbrev pub invariant-loop : goal.invariant-loop
invariant-loop g l = l.pass.table ≡ l.self.lock.table
