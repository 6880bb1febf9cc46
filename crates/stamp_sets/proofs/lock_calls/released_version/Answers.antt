use Rattle.stamp_sets.specs.inner.Alike.ReleasesRead.{by_unlock_read, by_unlock}
use Rattle.stamp_sets.proofs.DoingSame.{some_released}
use Rattle.stamp_sets.proofs.lock_calls.released_version.Goals as goal

pub returns-in-UnlockRead : goal.returns-in-UnlockRead
returns-in-UnlockRead c = rw c.in-UnlockRead.is
    (some_released c.args.layout c.read_version.result _ _ (λ k is. by_unlock_read c.in-UnlockRead.stamp is)
    c.read_version.ensures)

pub returns-in-Unlock : goal.returns-in-Unlock
returns-in-Unlock c = rw c.in-Unlock.is
    (some_released c.args.layout c.read_version-in-Unlock.result _ _ (λ k is. by_unlock c.in-Unlock.stamp is)
    c.read_version-in-Unlock.ensures)
