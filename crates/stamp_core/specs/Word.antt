-- The lock's word, and the events that it represents.
use Rattle.std.specs.Prelude.{ℕ, ◌≡◌, ◌+◌, ◌*◌, ◌==◌, List, if◌then◌else◌}
use Rattle.stamp_core.specs.LockEvent.{LockEvent, Counts, counts}
use Rattle.stamp_core.specs.Layout.{Units}
use Rattle.stamp_core.specs.Limits.{Bounds, units, AreInRange}
use Rattle.stamp_core.specs.IsWellFormed.{IsWellFormed}
use Rattle.stamp_core.specs.declared.layout.Layout.{Layout}

-- a number in a layout
pub record LockWord : Type 0 where
  pub layout : Layout
  pub bits : ℕ

abbrev pub word_in : Layout → ℕ → LockWord
word_in layout number = record { layout = layout; bits = number }

-- the number as a word of the limits' layout
abbrev pub word_at : Bounds → ℕ → LockWord
word_at limits number = word_in limits.layout number

-- the number of these counts
abbrev pub word_number : Units → Counts → ℕ
word_number u c = if c.writers == 0 then u.version * (c.write_count + 1) + c.readers else
    u.version * c.write_count + u.writer

-- the events can happen under the limits, and the word is the number of their counts
pub record Represents (limits : Bounds) (word : LockWord) (events : List LockEvent) : Type 0 where
  pub well_formed : IsWellFormed limits events
  pub layout : word.layout ≡ limits.layout
  pub spelled : word.bits ≡ word_number (units limits) (counts events)

-- the word represents some events under the limits
pub record IsAdmitted (limits : Bounds) (word : LockWord) : Type 0 where
  pub events : List LockEvent
  pub represented : Represents limits word events

-- the fact holds of all events that the word represents, whatever the limits
abbrev pub HoldsForEvents : LockWord → (List LockEvent → Type 0) → Type 0
HoldsForEvents word P = (limits : Bounds) (events : List LockEvent) → AreInRange limits →
    Represents limits word events → P events
