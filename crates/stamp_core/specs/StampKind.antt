-- What a number is as a stamp.
use Rattle.std.specs.Prelude.{ℕ, ◌≡◌, ◌≤◌}
use Rattle.stamp_core.specs.Layout.{Units}
use Rattle.stamp_core.specs.Stamp.{read_stamp, IsWriteStamp, IsOptimisticStamp, IsStamp}
use Rattle.stamp_core.specs.declared.stamps.StampKind.{StampKind}
use Rattle.stamp_core.specs.declared.stamps.StampKind.TheVariants.{Write, Read, Optimistic, Neither}

-- the fact holds of some version
abbrev pub OfSomeVersion : (ℕ → Type 0) → Type 0
OfSomeVersion P = (k : ℕ) × P k

-- a read stamp is the c-th of version k; what is of neither kind is a stamp of no version
abbrev pub HasKind : Units → ℕ → StampKind → Type 0
HasKind u s (Write k) = IsWriteStamp u k s
HasKind u s (Read k c) = (1 ≤ c) × (c ≤ u.readers) × (k ≤ u.versions) × (s ≡ read_stamp u k c)
HasKind u s (Optimistic k) = IsOptimisticStamp u k s
HasKind u s Neither = (k : ℕ) → IsStamp u k s → ⊥
