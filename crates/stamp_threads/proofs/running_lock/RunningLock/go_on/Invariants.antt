use Rattle.stamp_threads.specs.LockPass.{LockPassView, first_of}
use Rattle.stamp_threads.specs.inner.LockPass.{IsAtSeat}
use Rattle.stamp_threads.specs.inner.GoesAsMachine.{IsToDecide}
use Rattle.stamp_threads.proofs.running_lock.RunningLock.go_on.Given as goal

abbrev pub ghosts-load : goal.ghosts-load
ghosts-load g a = record { limits = a.table.now.key.limits; call = a.call.now }

abbrev pub ghosts-exchange : goal.ghosts-exchange
ghosts-exchange g a = record { limits = a.table.now.key.limits; call = a.call.now }

-- it is to decide whatever it was to decide when it went on
abbrev pub invariant-loop : goal.invariant-loop
invariant-loop g l = record {
  seat : IsAtSeat l.table.table_id l.seat.table_id l.seat.me;
  goes_on : (v : LockPassView) → IsToDecide l.self.limits l.call v l.fn.word (first_of l.fn.seat.me.0)
      → IsToDecide l.self.limits l.call v l.found (first_of l.seat.me.0);
}
