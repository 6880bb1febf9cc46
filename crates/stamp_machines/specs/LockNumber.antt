-- A number in the common words, read as a lock's word under limits.
use Rattle.std.specs.Prelude.{ℕ, List}
use Rattle.stamp_core.specs.LockEvent.{LockEvent, Counts}
use Rattle.stamp_core.specs.Limits.{Bounds}
use Rattle.stamp_core.specs.Word.{Represents, IsAdmitted, word_at}
use Rattle.stamp_core.specs.Decoded.{counts_in}

-- how often write mode was acquired, and who holds the lock
abbrev pub counts_at : Bounds → ℕ → Counts
counts_at limits number = counts_in (word_at limits number)

abbrev pub RepresentsAt : Bounds → ℕ → List LockEvent → Type 0
RepresentsAt limits number events = Represents limits (word_at limits number) events

abbrev pub IsAdmittedAt : Bounds → ℕ → Type 0
IsAdmittedAt limits number = IsAdmitted limits (word_at limits number)
