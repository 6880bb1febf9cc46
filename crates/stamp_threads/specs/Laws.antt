-- What holds of any two passes that meet.
use Rattle.std.specs.Prelude.{ℕ}
use Rattle.stamp_core.specs.Limits.{Bounds}
use Rattle.stamp_threads.specs.PassView.{every}
use Rattle.stamp_threads.specs.LockLog as lock_log
use Rattle.stamp_threads.specs.LockPass.{LockPassView}
use Rattle.stamp_threads.specs.LockPassesMet.{LockPassesMet}
use Rattle.stamp_threads.specs.RecordLog.{is_call}
use Rattle.stamp_threads.specs.RecordLog as record_log
use Rattle.stamp_threads.specs.RecordPass.{RecordPassView}
use Rattle.stamp_threads.specs.RecordCall.{RecordPassesMet}
use Rattle.stamp_threads.specs.OneHistory.{Agree}

-- Passes of a lock that meet agreed before they met.
abbrev pub LockPassesAgree : Type 0
LockPassesAgree = (limits : Bounds) (v w v' w' : LockPassView) →
    LockPassesMet limits v w v' w' → Agree every (lock_log.IsLegalLog limits) v w

-- Passes of a record that meet agreed before they met.
abbrev pub RecordPassesAgree : Type 0
RecordPassesAgree = (width : ℕ) (v w v' w' : RecordPassView) →
    RecordPassesMet width v w v' w' → Agree is_call (record_log.IsLegalLog width) v w
