-- The seats of passes at a running lock's table.
use Rattle.std.specs.Prelude.{List}
use Rattle.atomic_table.specs.Seated.{TableId}
use Rattle.atomic_table.specs.Table.{Me}
use Rattle.stamp_threads.specs.inner.Seats as seats
use Rattle.stamp_threads.specs.LockPass.{LockPassView}

abbrev pub second_of : List LockPassView → LockPassView
second_of vs = seats.second_of tt vs

-- the view of a seat, and the slots that it holds: none here
abbrev pub Seated : Type 0
Seated = Me (Unit {0}) (List LockPassView)

-- one pass stands at a seat of a lock's table, which has one word; and two, which meet there
abbrev pub IsAtSeat : TableId → TableId → Seated → Type 0
IsAtSeat table seat me = seats.IsAtSeat tt table 1 seat me

abbrev pub AreAtSeat : TableId → TableId → Seated → Type 0
AreAtSeat table seat me = seats.AreAtSeat tt table 1 seat me
