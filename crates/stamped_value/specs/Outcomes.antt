-- What a seat has of the value after a call.
use Rattle.std.specs.Prelude.{◌≡◌}
use Rattle.lent_table.specs.Table.{reads, writes}
use Rattle.stamped_value.specs.Values.{IsLastOf}
use Rattle.stamped_value.specs.ValueMade.{Seen}

module _ {T : Type 0} where
  -- it writes on the last of the values that it knows, which it hasn't written yet
  abbrev pub WritesLast : Seen T → Type 0
  WritesLast v = (x : T) × (v.1 ≡ writes x) × IsLastOf v.0.values x

  -- it writes on what it read
  abbrev pub WritesWhatRead : Seen T → Seen T → Type 0
  WritesWhatRead v w = (x : T) × (v.1 ≡ reads x) × (w.1 ≡ writes x)

  -- it reads what it has written
  abbrev pub ReadsWhatWritten : Seen T → Seen T → Type 0
  ReadsWhatWritten v w = (x : T) × (v.1 ≡ writes x) × (w.1 ≡ reads x)

  -- what it has written is the last of the values
  abbrev pub LeavesWhatWritten : Seen T → Seen T → Type 0
  LeavesWhatWritten v w = (x : T) × (v.1 ≡ writes x) × IsLastOf w.0.values x
