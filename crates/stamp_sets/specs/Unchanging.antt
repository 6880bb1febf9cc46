-- Calls of the lock whose reply tells that they change nothing.
use Rattle.std.specs.Prelude.{◌==◌, ◌||◌, Bool, true, false}
use Rattle.stamp_core.specs.declared.call.Call.{Call}
use Rattle.stamp_core.specs.declared.call.Call.TheVariants.{TryWrite, TryRead, WriteLock, Optimistic, Validate}
use Rattle.stamp_core.specs.declared.call.Call.TheVariants.{UnlockWrite, UnlockRead, Unlock, ToWrite, ToRead}
use Rattle.stamp_core.specs.declared.call.Call.TheVariants.{ToOptimistic, TryUnlockWrite, TryUnlockRead}
use Rattle.stamp_core.specs.declared.call.Call.TheVariants.{IsWriteLocked, IsReadLocked, ReadCount}
use Rattle.stamp_core.specs.declared.reply.Reply.{Reply}
use Rattle.stamp_core.specs.declared.reply.Reply.TheVariants.{Stamp, No, Mismatch}
use Rattle.stamp_core.specs.LockDecision.{reply_as}
use Rattle.stamp_core.specs.LockCall.{call_as}
use Rattle.stamp_core.specs.declared.lock_decision.LockReply.TheVariants as lock
use Rattle.stamp_sets.specs.declared.ending.Ending.{Ending}
use Rattle.stamp_sets.specs.declared.ending.Ending.TheVariants.{Returns, Withdraws, Never}
use Rattle.stamp_sets.specs.declared.open_call.OpenCall.{OpenCall}
use Rattle.stamp_sets.specs.declared.small_call.SmallCall.{SmallCall}
use Rattle.stamp_sets.specs.declared.small_call.SmallCall.TheVariants as asked
use Rattle.stamp_sets.specs.declared.small_call.SmallReply.{SmallReply}
use Rattle.stamp_sets.specs.declared.small_call.SmallReply.TheVariants as told

-- a call that acquires tells by 0 that it did not, a conversion also by its own stamp; a release by a mismatch or
-- by no;
-- questions change nothing
abbrev pub changes_nothing : Call → Reply → Bool
changes_nothing TryWrite (Stamp s) = s == 0
changes_nothing TryRead (Stamp s) = s == 0
changes_nothing WriteLock (Stamp s) = s == 0
changes_nothing Optimistic _ = true
changes_nothing (Validate s) _ = true
changes_nothing (UnlockWrite s) Mismatch = true
changes_nothing (UnlockRead s) Mismatch = true
changes_nothing (Unlock s) Mismatch = true
changes_nothing (ToWrite s) (Stamp r) = (r == 0) || (r == s)
changes_nothing (ToRead s) (Stamp r) = (r == 0) || (r == s)
changes_nothing (ToOptimistic s) (Stamp r) = (r == 0) || (r == s)
changes_nothing TryUnlockWrite No = true
changes_nothing TryUnlockRead No = true
changes_nothing IsWriteLocked _ = true
changes_nothing IsReadLocked _ = true
changes_nothing ReadCount _ = true
changes_nothing _ _ = false

-- so do a get, and a put_if that is answered no
abbrev pub small_unchanging : SmallCall → SmallReply → Bool
small_unchanging (asked.OfLock call) (told.OfLock reply) = changes_nothing (call_as call) (reply_as reply)
small_unchanging (asked.OfLock call) (told.Content number) = false
small_unchanging asked.Get reply = true
small_unchanging (asked.Put number) reply = false
small_unchanging (asked.PutIf expected number) (told.OfLock lock.No) = true
small_unchanging (asked.PutIf expected number) _ = false

-- a call that returns with such a reply
abbrev pub told_unchanging : Ending → SmallCall → Bool
told_unchanging (Returns reply place) call = small_unchanging call reply
told_unchanging Withdraws call = false
told_unchanging Never call = false

abbrev pub reads_only : OpenCall → Bool
reads_only begun = told_unchanging begun.ends begun.asks
