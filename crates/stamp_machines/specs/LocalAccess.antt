-- An access as a stage sees it: to its lock's word, or to a word of the record.
use Rattle.std.specs.Prelude.{ℕ, ◌+◌}
use Rattle.stamp_machines.specs.declared.access.Access.{Access}
use Rattle.stamp_machines.specs.declared.access.Access.TheVariants.{Load, Cas, Store}

pub data LocalAccess : Type 0 where
  LoadLock : LocalAccess
  CasLock : ℕ → ℕ → LocalAccess
  LoadWord : ℕ → LocalAccess
  StoreWord : ℕ → ℕ → LocalAccess

-- on the common words, where the lock is word i; the record's words come after both locks
abbrev pub with_lock : ℕ → LocalAccess → Access
with_lock i LoadLock = Load i
with_lock i (CasLock old new) = Cas i old new
with_lock i (LoadWord j) = Load (2 + j)
with_lock i (StoreWord j value) = Store (2 + j) value
