use Rattle.std.proofs.Common.{◌≡◌}
use Rattle.timings.proofs.record.side_by_side.put_until_over.Given as goal

abbrev pub invariant-loop-i : goal.invariant-loop-i
invariant-loop-i g l = l.pass.table ≡ l.shared.table
