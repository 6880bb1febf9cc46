use Rattle.stamped_lock.specs.inner.RecordCalls.{handle_of}
use Rattle.stamped_lock.proofs.cell_handle.CellHandle.try_update.Goals as goal

pub try_update-requires-clause-callable : goal.try_update-requires-clause-callable
try_update-requires-clause-callable g c value seen is rule s =
    c.requires value (handle_of c.self.inside.running.now seen) is (rw (← c.self.view_is) s)
