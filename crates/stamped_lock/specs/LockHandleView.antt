-- What a handle is seen as.
use Rattle.stamp_threads.specs.LockPass.{LockPassView, LockView}

-- its lock, and what its pass knows
pub record LockHandleView : Type 0 where
  pub running : LockView
  pub pass : LockPassView
