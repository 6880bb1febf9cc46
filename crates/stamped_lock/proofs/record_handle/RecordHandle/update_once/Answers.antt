use Rattle.stamped_lock.specs.inner.RecordCalls.{handle_of}
use Rattle.stamped_lock.proofs.record_handle.RecordHandle.update_once.Goals as goal

pub update_once-requires-clause-callable : goal.update_once-requires-clause-callable
update_once-requires-clause-callable g c value seen is rule s =
    c.requires.callable value (handle_of c.self.inside.running.now seen) is rule (rw (← c.self.view_is) s)
