use Rattle.std.proofs.Common.{◌≡◌}
use Rattle.timings.proofs.lock.pairs.known_pairs.Given as goal

abbrev pub invariant-loop : goal.invariant-loop
invariant-loop l = l.pass.table ≡ l.lock.table
