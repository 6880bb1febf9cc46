-- Calls that release read mode alike.
use Rattle.std.specs.Prelude.{ℕ}
use Rattle.stamp_core.specs.Layout.{Units}
use Rattle.stamp_core.specs.StampKind.{HasKind}
use Rattle.stamp_core.specs.declared.call.Call.{Call}
use Rattle.stamp_core.specs.declared.call.Call.TheVariants.{UnlockRead, Unlock}
use Rattle.stamp_core.specs.declared.stamps.StampKind.TheVariants.{Read}

-- the number is a read stamp of this version
pub record IsReadOf (u : Units) (k s : ℕ) : Type 0 where
  pub nth : ℕ
  pub kind : HasKind u s (Read k nth)

-- the call releases read mode by a read stamp of this version
pub data ReleasesRead (u : Units) (k : ℕ) : Call → Type 0 where
  by_unlock_read : (s : ℕ) → IsReadOf u k s → ReleasesRead u k (UnlockRead s)
  by_unlock : (s : ℕ) → IsReadOf u k s → ReleasesRead u k (Unlock s)
