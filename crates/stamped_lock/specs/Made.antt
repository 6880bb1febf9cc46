-- What a handle's calls promise.
use Rattle.std.specs.Prelude.{◌≡◌, Result, Ok, Err}
use Rattle.stamp_core.specs.declared.call.Call.{Call}
use Rattle.stamp_core.specs.declared.reply.Reply.{Reply}
use Rattle.stamp_core.specs.declared.reply.Reply.TheVariants as reply
use Rattle.stamp_threads.specs.Made as by_pass
use Rattle.stamp_threads.specs.LostExchange.{LostExchange}
use Rattle.stamp_threads.specs.declared.lost.Lost.{Lost}
use Rattle.stamped_lock.specs.LockHandleView.{LockHandleView}
use Rattle.stamped_lock.specs.declared.unlock_error.UnlockError.{UnlockError}
use Rattle.stamped_lock.specs.declared.unlock_error.UnlockError.TheVariants as unlock

-- the call was made with this reply: one legal history that begins with all that the handle knew, and
-- ends with this call; h' is the handle after it
pub record Made (call : Call) (reply : Reply) (h h' : LockHandleView) : Type 0 where
  pub same : h'.running ≡ h.running
  pub made : by_pass.Made h.running.limits call reply h.pass h'.pass

-- the exchange of the call lost: the call was not made, and changed nothing
pub record HasLost (call : Call) (lost : Lost) (h h' : LockHandleView) : Type 0 where
  pub same : h'.running ≡ h.running
  pub exchange : LostExchange h.running.limits call lost.loaded lost.found h.pass h'.pass

-- the call was made, and this answer is its reply, or its exchange lost
abbrev pub MadeOrLost : {A : Type 0} → Call → (A → Reply) → Result A Lost → LockHandleView → LockHandleView →
    Type 0
MadeOrLost call reply_of (Ok answer) h h' = Made call (reply_of answer) h h'
MadeOrLost call reply_of (Err lost) h h' = HasLost call lost h h'

-- the release was made, or refused as a mismatch, or its exchange lost
abbrev pub UnlockedOrLost : Call → Result (Unit {0}) UnlockError → LockHandleView → LockHandleView → Type 0
UnlockedOrLost call (Ok _) h h' = Made call reply.Done h h'
UnlockedOrLost call (Err unlock.Mismatch) h h' = Made call reply.Mismatch h h'
UnlockedOrLost call (Err (unlock.Lost lost)) h h' = HasLost call lost h h'
