-- A seat, after a write through `value_mut`.
use Rattle.lent_table.specs.declared.shared.Seat.{Seat}
use Rattle.lent_table.specs.Table.{writes}

-- the seat, with x as the value that it may write
abbrev pub seat_with : {T V : Type 0} → Seat T V → T → Seat T V
seat_with it x = record { marker = it.marker; table_id = it.table_id; id = it.id; me = (it.me.0, writes x) }
