-- The mode that a seat of a guarded value holds.
use Rattle.std.specs.Prelude.{◌≡◌, ◌<◌, ℕ, Bool, true, false, List}
use Rattle.lent_table.specs.Table.{Hold, none, reads, writes}
use Rattle.stamp_core.specs.Limits.{Bounds, units}
use Rattle.stamp_core.specs.LockEvent.{LockEvent, Counts, counts}
use Rattle.stamp_core.specs.Stamp.{IsReadStamp, IsWriteStamp}
use Rattle.stamped_value.specs.declared.view.Held.{Held}
use Rattle.stamped_value.specs.declared.view.Held.TheVariants.{Free, Reading, Writing}
use Rattle.stamped_value.specs.Values.{IsLastOf}

-- what the seat has of the value by the mode: a reader has the last value that it knows
abbrev pub HasHold : {T : Type 0} → Held → List T → Hold T → Type 0
HasHold Free values hold = hold ≡ none
HasHold {T} (Reading s) values hold = (x : T) × (hold ≡ reads x) × IsLastOf values x
HasHold {T} (Writing s) values hold = (x : T) × (hold ≡ writes x)

-- by these counts its stamp matches
abbrev pub MatchesAt : Bounds → Counts → Held → Type 0
MatchesAt limits c Free = Unit {0}
MatchesAt limits c (Reading s) = IsReadStamp (units limits) c.write_count s × (0 < c.readers)
MatchesAt limits c (Writing s) = IsWriteStamp (units limits) c.write_count s × (c.writers ≡ 1)

-- and so it does after these events
abbrev pub Matches : Bounds → List LockEvent → Held → Type 0
Matches limits events held = MatchesAt limits (counts events) held

-- the stamp by which it is held; 0 where none is
abbrev pub stamp_held : Held → ℕ
stamp_held Free = 0
stamp_held (Reading s) = s
stamp_held (Writing s) = s

-- whether it is write mode
abbrev pub is_writing : Held → Bool
is_writing Free = false
is_writing (Reading s) = false
is_writing (Writing s) = true
