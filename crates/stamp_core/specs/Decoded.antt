-- How a word is read back: the counts of its number. Public contracts speak of events, but for `decide` on numbers.
use Rattle.std.specs.Prelude.{ℕ, ◌≤◌, ◌<◌, ◌+◌, ◌-◌, ◌^◌, ◌/◌, ◌%◌, ◌==◌, List, [], ◌∷◌, if◌then◌else◌}
use Rattle.stamp_core.specs.LockEvent.{LockEvent, Counts}
use Rattle.stamp_core.specs.LockEvent.LockEvent.{WriteAcquired, WriteReleased, ReadAcquired, ReadReleased}
use Rattle.stamp_core.specs.Layout.{Units, units_of}
use Rattle.stamp_core.specs.Word.{LockWord}

-- the number is that of a state
pub record IsNumber (u : Units) (n : ℕ) : Type 0 where
  pub low : u.version ≤ n
  pub high : n + u.writer < 2 ^ 63
  pub holders : n % u.version ≤ u.writer

abbrev pub IsState : LockWord → Type 0
IsState w = IsNumber (units_of w.layout) w.bits

unfoldable pub counts_of : Units → ℕ → Counts
counts_of u n =
    if n % u.version == u.writer
    then record { write_count = n / u.version; writers = 1; readers = 0 }
    else record { write_count = n / u.version - 1; writers = 0; readers = n % u.version }

abbrev pub counts_in : LockWord → Counts
counts_in w = counts_of (units_of w.layout) w.bits

-- the counts once an event has happened, and once several have
abbrev pub after_event : Counts → LockEvent → Counts
after_event c WriteAcquired = record { write_count = c.write_count + 1; writers = 1; readers = c.readers }
after_event c WriteReleased = record { write_count = c.write_count; writers = 0; readers = c.readers }
after_event c ReadAcquired = record { write_count = c.write_count; writers = c.writers; readers = c.readers + 1 }
after_event c ReadReleased = record { write_count = c.write_count; writers = c.writers; readers = c.readers - 1 }

abbrev pub after_events : Counts → List LockEvent → Counts
after_events c [] = c
after_events c (event ∷ appended) = after_events (after_event c event) appended
