-- What is known of a call that is tried until a time is over.
use Rattle.std.specs.Prelude.{◌≡◌, ℕ, ◌++◌, replicate}
use mathlib.Core.List.{IsPrefix}
use Rattle.stamp_core.specs.declared.call.Call.{Call}
use Rattle.stamp_core.specs.declared.reply.Reply.{Reply}
use Rattle.stamp_core.specs.declared.reply.Reply.TheVariants.{Stamp}
use Rattle.stamp_threads.specs.PassView.{IsSamePass}
use Rattle.stamped_lock.specs.LockHandleView.{LockHandleView}
use Rattle.stamped_lock.specs.Made.{Made}

-- the handle has made this call some times, and no other: each was answered that the mode isn't free
pub record NotFree (call : Call) (h h' : LockHandleView) : Type 0 where
  pub same : h'.running ≡ h.running
  pub begins : IsPrefix h.pass.known h'.pass.known
  pub times : ℕ
  pub own : h'.pass.own ≡ h.pass.own ++ replicate times (call, Stamp 0)
  pub same_pass : IsSamePass h.pass h'.pass

-- and then once more, with this reply
pub record TriedAtLast (call : Call) (reply : Reply) (h h' : LockHandleView) : Type 0 where
  pub between : LockHandleView
  pub before : NotFree call h between
  pub made : Made call reply between h'
