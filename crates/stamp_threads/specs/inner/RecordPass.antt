-- The seats of passes at a running record's table.
use Rattle.std.specs.Prelude.{◌≡◌, ◌+◌, List}
use Rattle.atomic_table.specs.Seated.{TableId}
use Rattle.atomic_table.specs.Table.{Me}
use Rattle.stamp_threads.specs.declared.record_view.RecordShape.{RecordShape}
use Rattle.stamp_threads.specs.declared.record_view.RecordPhase.TheVariants.{Idle}
use Rattle.stamp_threads.specs.inner.Seats as seats
use Rattle.stamp_threads.specs.RecordPass.{RecordPassView, first_of}

abbrev pub second_of : List RecordPassView → RecordPassView
second_of vs = seats.second_of Idle vs

-- the view of a seat, and the slots that it holds: none here
abbrev pub Seated : Type 0
Seated = Me (Unit {0}) (List RecordPassView)

-- one pass stands at a seat of a record's table, which has a word more than the record; and two,
-- which meet there
abbrev pub IsAtSeat : TableId → RecordShape → TableId → Seated → Type 0
IsAtSeat table shape seat me = seats.IsAtSeat Idle table (shape.width + 1) seat me

abbrev pub AreAtSeat : TableId → RecordShape → TableId → Seated → Type 0
AreAtSeat table shape seat me = seats.AreAtSeat Idle table (shape.width + 1) seat me

-- both passes of a seat are between two calls
abbrev pub AreIdle : List RecordPassView → Type 0
AreIdle vs = ((first_of vs).phase ≡ Idle) × ((second_of vs).phase ≡ Idle)
