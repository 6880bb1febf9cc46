use Rattle.std.proofs.Common.{◌≡◌}
use Rattle.lent_table.specs.Table.{none}
use Rattle.lent_table_tests.proofs.count_lock_tests.add_some.Given as goal

abbrev pub invariant-loop : goal.invariant-loop
invariant-loop l = (l.seat.table_id ≡ l.number.table_id) × (l.seat.me.1 ≡ none)
