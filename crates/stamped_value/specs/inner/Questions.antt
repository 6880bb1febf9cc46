-- Which calls only ask, and the one test that a question for the last value is.
use Rattle.std.specs.Prelude.{◌≡◌, ℕ, ◌%◌, ◌/◌, ◌==◌, false}
use Rattle.stamp_core.specs.Layout.{Units}
use Rattle.stamp_core.specs.declared.call.Call.{Call}
use Rattle.stamp_core.specs.declared.call.Call.TheVariants.{Optimistic, Validate, IsWriteLocked, IsReadLocked}
use Rattle.stamp_core.specs.declared.call.Call.TheVariants.{ReadCount}

-- whatever happened to the lock, they change nothing and wait for nobody
abbrev pub IsQuestion : Call → Type 0
IsQuestion Optimistic = Unit {0}
IsQuestion (Validate s) = Unit {0}
IsQuestion IsWriteLocked = Unit {0}
IsQuestion IsReadLocked = Unit {0}
IsQuestion ReadCount = Unit {0}
IsQuestion _ = ⊥

-- no writer is in the word of this number, and above the readers' bits the stamp is the same
abbrev pub IsReadersStamp : Units → ℕ → ℕ → Type 0
IsReadersStamp u word s = ((word % u.version == u.writer) ≡ false) × (word / u.writer ≡ s / u.writer)
