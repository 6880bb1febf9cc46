use Rattle.stamped_lock.proofs.Tries.{seen_further}
use Rattle.stamped_lock.proofs.record_calls.update.Goals as goal

pub update_once-requires-clause-callable : goal.update_once-requires-clause-callable
update_once-requires-clause-callable g c value seen is rule s =
    c.requires.callable value seen is rule (seen_further _ _ _ _ _ c.loop.invariant.1 s)
