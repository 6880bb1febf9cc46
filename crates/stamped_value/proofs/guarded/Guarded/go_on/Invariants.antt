use Rattle.std.proofs.Common.{◌≡◌}
use Rattle.stamped_value.specs.ValueMade.{Seen}
use Rattle.stamped_value.specs.inner.Deciding.{IsToDecide}
use Rattle.stamped_value.proofs.guarded.Guarded.go_on.Given as goal

abbrev pub ghosts-load : goal.ghosts-load
ghosts-load g a = record { limits = a.table.now.key.limits; call = a.call.now }

abbrev pub ghosts-exchange : goal.ghosts-exchange
ghosts-exchange g a = record { limits = a.table.now.key.limits; call = a.call.now }

-- it is to decide whatever it was to decide when it went on
abbrev pub invariant-loop : goal.invariant-loop
invariant-loop g l = record {
  table : l.seat.table_id ≡ l.self.table;
  goes_on : (v : Seen g.row.T.Denot) → IsToDecide l.self.limits l.call v l.fn.word l.fn.seat.me
      → IsToDecide l.self.limits l.call v l.found l.seat.me;
}
