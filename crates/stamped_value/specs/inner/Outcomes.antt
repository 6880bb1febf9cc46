-- What a reader has after its acquisition.
use Rattle.std.specs.Prelude.{◌≡◌}
use Rattle.lent_table.specs.Table.{reads}
use Rattle.stamped_value.specs.Values.{IsLastOf}
use Rattle.stamped_value.specs.ValueMade.{Seen}

-- it reads the last of the values that it knows
abbrev pub ReadsLast : {T : Type 0} → Seen T → Type 0
ReadsLast {T} v = (x : T) × (v.1 ≡ reads x) × IsLastOf v.0.values x
