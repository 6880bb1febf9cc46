use Rattle.std.proofs.Common.{refl}
use Rattle.stamped_lock.proofs.Tries.{put_if_made}
use Rattle.stamped_lock.proofs.record_calls.put_if_once.Goals as goal

pub returns-clause-ok : goal.returns-clause-ok
returns-clause-ok g c =
    rw (← c.in-Some-Some.ensures.same, ← c.in-Some-Some.ensures'.same)
    (put_if_made _ _ _ _ _ _ refl c.in_ok-put.ensures.ok)
