-- What a guard is seen as, and what its drop may do.
use Rattle.std.specs.Prelude.{◌⊎◌, ℕ}
use Rattle.stamp_core.specs.declared.call.Call.{Call}
use Rattle.stamp_core.specs.declared.reply.Reply.TheVariants.{Done, Mismatch}
use Rattle.stamped_lock.specs.LockHandleView.{LockHandleView}
use Rattle.stamped_lock.specs.Made.{Made}

-- its handle, as the last call left it, and its stamp
pub record GuardView : Type 0 where
  pub handle : LockHandleView
  pub stamp : ℕ

-- the handle can make this release: it is done, or refused since another had made it
pub record CanRelease (call : Call) (h : LockHandleView) : Type 0 where
  pub after : LockHandleView
  pub made : Made call Done h after ⊎ Made call Mismatch h after
