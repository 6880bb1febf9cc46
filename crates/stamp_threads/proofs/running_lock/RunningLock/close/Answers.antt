use Rattle.stamp_threads.proofs.ClosedLock.{closes}
use Rattle.stamp_threads.proofs.running_lock.RunningLock.close.Goals as goal

pub returns : goal.returns
returns c = rw (← c.self.view_is, ← c.pass.view_is, ← c.self.invariant.0)
    (closes _ _ _ _ _ _ _ c.pass.invariant c.close_with-closed.ensures.values.2 c.word-word.ensures)
