use Rattle.std.proofs.Common.{◌≡◌}
use Rattle.stamped_lock.specs.RecordCalls.{Tried}
use Rattle.stamped_lock.specs.inner.RecordCalls.{handle_of}
use Rattle.stamped_lock.proofs.record_calls.try_update.Given as goal

abbrev pub invariant-loop : goal.invariant-loop
invariant-loop g l = (l.pass.table ≡ l.running.table)
    × Tried (handle_of l.running l.initial.pass.view) (handle_of l.running l.pass.view)
