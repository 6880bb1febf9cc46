-- Which number is which stamp, and which stamps are held and valid after events.
use Rattle.std.specs.Prelude.{ℕ, ◌≡◌, ◌≤◌, ◌<◌, ◌+◌, ◌*◌, ◌⊎◌, ◌==◌, ◌&&◌, ◌||◌, nat_lt, nat_le, Bool, List}
use Rattle.stamp_core.specs.LockEvent.{LockEvent, Counts, write_count, writers, readers}
use Rattle.stamp_core.specs.Layout.{Units}
use Rattle.stamp_core.specs.Limits.{Bounds, units}

-- the stamp of the k-th write acquisition
abbrev pub write_stamp : Units → ℕ → ℕ
write_stamp u k = u.version * k + u.writer

-- the stamp of an optimistic read after k write acquisitions
abbrev pub optimistic_stamp : Units → ℕ → ℕ
optimistic_stamp u k = u.version * (k + 1)

-- the stamp of the c-th reader at a time, after k write acquisitions
abbrev pub read_stamp : Units → ℕ → ℕ → ℕ
read_stamp u k c = u.version * (k + 1) + c

-- the write stamp of version k
pub record IsWriteStamp (u : Units) (k s : ℕ) : Type 0 where
  pub some : 1 ≤ k
  pub most : k ≤ u.versions
  pub number : s ≡ write_stamp u k

-- a read stamp of version k
pub record IsReadStamp (u : Units) (k s : ℕ) : Type 0 where
  pub nth : ℕ
  pub some : 1 ≤ nth
  pub most : nth ≤ u.readers
  pub version : k ≤ u.versions
  pub number : s ≡ read_stamp u k nth

-- the optimistic stamp of version k
pub record IsOptimisticStamp (u : Units) (k s : ℕ) : Type 0 where
  pub version : k ≤ u.versions
  pub number : s ≡ optimistic_stamp u k

abbrev pub IsStamp : Units → ℕ → ℕ → Type 0
IsStamp u k s = IsWriteStamp u k s ⊎ IsReadStamp u k s ⊎ IsOptimisticStamp u k s

-- the stamp matches the writer that is there
abbrev pub IsHeldWrite : Bounds → List LockEvent → ℕ → Type 0
IsHeldWrite limits events s = IsWriteStamp (units limits) (write_count events) s × (writers events ≡ 1)

-- the stamp matches readers of this version, of whom there are some
abbrev pub IsHeldRead : Bounds → List LockEvent → ℕ → Type 0
IsHeldRead limits events s = IsReadStamp (units limits) (write_count events) s × (0 < readers events)

-- the stamp matches a mode that is held
abbrev pub IsHeld : Bounds → List LockEvent → ℕ → Type 0
IsHeld limits events s = IsHeldWrite limits events s ⊎ IsHeldRead limits events s

-- the stamp is of this version, and write mode is free or the stamp is a write stamp (StampedLock.validate)
abbrev pub IsValid : Bounds → List LockEvent → ℕ → Type 0
IsValid limits events s =
    let u = units limits in
    let k = write_count events in
    IsStamp u k s × ((writers events ≡ 0) ⊎ IsWriteStamp u k s)

-- the same as tests, after k write acquisitions within the range: laws.tests_are_exact ties them to the facts above
abbrev pub is_write_stamp : Units → ℕ → ℕ → Bool
is_write_stamp u k s = nat_lt 0 k && (s == write_stamp u k)

abbrev pub is_read_stamp : Units → ℕ → ℕ → Bool
is_read_stamp u k s = nat_le (read_stamp u k 1) s && nat_le s (read_stamp u k u.readers)

abbrev pub is_stamp : Units → ℕ → ℕ → Bool
is_stamp u k s = is_write_stamp u k s || is_read_stamp u k s || (s == optimistic_stamp u k)

abbrev pub is_held_write : Units → Counts → ℕ → Bool
is_held_write u c s = (c.writers == 1) && is_write_stamp u c.write_count s

abbrev pub is_held_read : Units → Counts → ℕ → Bool
is_held_read u c s = nat_lt 0 c.readers && is_read_stamp u c.write_count s

abbrev pub is_valid : Units → Counts → ℕ → Bool
is_valid u c s = is_stamp u c.write_count s && ((c.writers == 0) || is_write_stamp u c.write_count s)
