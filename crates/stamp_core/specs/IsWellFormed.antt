-- Which lists of lock events can happen under limits.
-- StampedLock, class comment on writing and reading: write mode is exclusive.
use Rattle.std.specs.Prelude.{ℕ, ◌≡◌, ◌<◌, ◌≤◌, List, take, count_by}
use Rattle.stamp_core.specs.LockEvent.{LockEvent, Counts, counts, write_count, is_write_released}
use Rattle.stamp_core.specs.LockEvent.{is_read_acquired, is_read_released}
use Rattle.stamp_core.specs.Limits.{Bounds}

-- one writer or readers alone, and no more than the limits allow
pub record CountsAreWithin (limits : Bounds) (c : Counts) : Type 0 where
  pub one_writer : c.writers ≤ 1
  pub readers : c.readers ≤ limits.readers
  pub apart : 0 < c.writers → c.readers ≡ 0
  pub versions : c.write_count ≤ limits.versions

-- nothing was released that had not been acquired, and the counts are within the limits
pub record Obeys (limits : Bounds) (events : List LockEvent) : Type 0 where
  pub write_acquired : count_by is_write_released events ≤ write_count events
  pub read_acquired : count_by is_read_released events ≤ count_by is_read_acquired events
  pub within : CountsAreWithin limits (counts events)

-- so it was at every moment: of each beginning of the list
pub record IsWellFormed (limits : Bounds) (events : List LockEvent) : Type 0 where
  pub always : (n : ℕ) → Obeys limits (take n events)
