-- What happens to a lock: lists of lock events, the oldest first, and what is counted in them.
-- StampedLock, class comment: the state is a version and a mode.
use Rattle.std.specs.Prelude.{ℕ, ◌-◌, Bool, true, false, List, count_by}

-- one change of who holds the lock
pub data LockEvent : Type 0 where
  WriteAcquired : LockEvent
  WriteReleased : LockEvent
  ReadAcquired : LockEvent
  ReadReleased : LockEvent

abbrev pub is_write_acquired : LockEvent → Bool
is_write_acquired WriteAcquired = true
is_write_acquired WriteReleased = false
is_write_acquired ReadAcquired = false
is_write_acquired ReadReleased = false

abbrev pub is_write_released : LockEvent → Bool
is_write_released WriteAcquired = false
is_write_released WriteReleased = true
is_write_released ReadAcquired = false
is_write_released ReadReleased = false

abbrev pub is_read_acquired : LockEvent → Bool
is_read_acquired WriteAcquired = false
is_read_acquired WriteReleased = false
is_read_acquired ReadAcquired = true
is_read_acquired ReadReleased = false

abbrev pub is_read_released : LockEvent → Bool
is_read_released WriteAcquired = false
is_read_released WriteReleased = false
is_read_released ReadAcquired = false
is_read_released ReadReleased = true

-- the version: how often write mode was acquired so far
abbrev pub write_count : List LockEvent → ℕ
write_count events = count_by is_write_acquired events

-- how many hold write mode now
abbrev pub writers : List LockEvent → ℕ
writers events = write_count events - count_by is_write_released events

-- how many hold read mode now
abbrev pub readers : List LockEvent → ℕ
readers events = count_by is_read_acquired events - count_by is_read_released events

-- the three counts together
pub record Counts : Type 0 where
  pub write_count : ℕ
  pub writers : ℕ
  pub readers : ℕ

abbrev pub counts : List LockEvent → Counts
counts events = record { write_count = write_count events; writers = writers events; readers = readers events }
