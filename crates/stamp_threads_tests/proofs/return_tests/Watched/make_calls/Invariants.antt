use Rattle.std.proofs.Common.{◌≡◌}
use Rattle.stamp_threads_tests.proofs.return_tests.Watched.make_calls.Given as goal

abbrev pub invariant-loop-call : goal.invariant-loop-call
invariant-loop-call g l = l.pass.table ≡ l.self.lock.table
