use Rattle.std.proofs.Common.{◌≡◌}
use Rattle.timings.proofs.record.calls.gets.Given as goal

abbrev pub invariant-loop : goal.invariant-loop
invariant-loop l = l.pass.table ≡ l.shared.table
