-- Two passes that met.
use Rattle.stamp_core.specs.Limits.{Bounds}
use Rattle.stamp_threads.specs.PassView.{PassesMet}
use Rattle.stamp_threads.specs.LockPass.{LockPassView, IsConsistentWith}

-- v' and w' are v and w after they met: both know one history, which is legal, and where the entries
-- of either are just its own calls
pub record LockPassesMet (limits : Bounds) (v w v' w' : LockPassView) : Type 0 where
  pub met : PassesMet v w v' w'
  pub all_consistent : IsConsistentWith limits v' × IsConsistentWith limits w'
