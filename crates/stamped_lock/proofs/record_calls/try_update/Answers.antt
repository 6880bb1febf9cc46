use Rattle.stamped_lock.proofs.Tries.{seen_further}
use Rattle.stamped_lock.proofs.record_calls.try_update.Goals as goal

pub try_update_once-requires-clause-callable : goal.try_update_once-requires-clause-callable
try_update_once-requires-clause-callable g c value seen is rule s =
    c.requires.callable value seen is rule (seen_further _ _ _ _ _ c.loop.invariant.1 s)
