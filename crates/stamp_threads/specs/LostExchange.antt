-- An exchange that lost, where the call can't be answered without a change.
use Rattle.std.specs.Prelude.{◌≢◌, ℕ, [], ◌∷◌}
use mathlib.Core.List.{IsPrefix}
use Rattle.stamp_core.specs.Limits.{Bounds}
use Rattle.stamp_core.specs.declared.call.Call.{Call}
use Rattle.stamp_threads.specs.PassView.{HasFound, MadeNoCallSince}
use Rattle.stamp_threads.specs.LockLog.{LockLog, Appends}
use Rattle.stamp_threads.specs.LockPass.{LockPassView, IsConsistentWith, LeavesWord}

-- The load of the call and its exchange found the two words. Two legal histories, of which the second
-- begins with the first, left them, and after each the call changes the lock. The pass v has come
-- to know the second, and made no call: it is w then.
pub record LostExchange (limits : Bounds) (call : Call) (loaded found : ℕ) (v w : LockPassView) : Type 0
  where
    pub differ : loaded ≢ found
    pub has_found : HasFound v (loaded ∷ found ∷ []) w
    pub first : LockLog
    pub at_first : LeavesWord limits v loaded first
    pub at_second : LeavesWord limits v found w.known
    pub longer : IsPrefix first w.known
    pub first_appends : Appends limits first call
    pub second_appends : Appends limits w.known call
    pub no_call : MadeNoCallSince v w
    pub consistent : IsConsistentWith limits w
