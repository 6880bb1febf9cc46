-- The word that a lock ends with.
use Rattle.std.specs.Prelude.{◌≡◌, ℕ, false}
use Rattle.stamp_threads.specs.PassName.{HasGivenAll, AreRooted}
use Rattle.stamp_threads.specs.PassView.{made_by, every}
use Rattle.stamp_threads.specs.LockLog.{LockLog}
use Rattle.stamp_threads.specs.LockPass.{LockPassView, LockView, LeavesWord}

-- it represents a legal history that begins with what the pass knows, has just its calls under its
-- name, and none under a name that it never gave. Its names have roots; where passes may not enter,
-- these are the first root alone
pub record Closes (lock : LockView) (v : LockPassView) (word : ℕ) : Type 0 where
  pub log : LockLog
  pub left : LeavesWord lock.limits v word log
  pub own : made_by every v.name log ≡ v.own
  pub given : HasGivenAll v.name v.splits log
  pub roots : ℕ
  pub rooted : AreRooted roots log
  pub one_root : lock.enterable ≡ false → roots ≡ 1
