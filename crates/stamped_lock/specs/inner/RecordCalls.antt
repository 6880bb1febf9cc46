-- A handle made of a record and a pass, and one try of an update that may be declined.
use Rattle.std.specs.Prelude.{◌≡◌, ◌≤◌, ℕ, List, Option, Some, None, Result, Ok, Err}
use Rattle.stamp_threads.specs.declared.faults.PutFault.{PutFault}
use Rattle.stamp_threads.specs.declared.faults.PutFault.TheVariants.{Busy, Lost, Spent}
use Rattle.stamp_threads.specs.declared.record_view.RecordShape.{RecordShape}
use Rattle.stamp_threads.specs.RecordPass.{RecordPassView, RecordView}
use Rattle.stamped_lock.specs.RecordCalls.{RecordHandleView, RefusesUpdate, Updated, SeenAtLast}

-- a handle of this record, whose pass is this one
abbrev pub handle_of : RecordView → RecordPassView → RecordHandleView
handle_of r v = record { running = r; pass = v }

-- a handle's record has n words
abbrev pub HasWidth : ℕ → RecordShape → Type 0
HasWidth n shape = (shape.width ≡ n) × (1 ≤ n) × (n ≤ 16)

-- the closure, of which Ran is known, was asked once: it answered a value, which was put over the old one,
-- or declined the old one, which the record held, and then no call was made
abbrev pub Attempted : {T : Type 0} → (T → Option T → Type 0) → (List ℕ → Type 0) → (T → Type 0) →
    (T → List ℕ) → Result T T → RecordHandleView → RecordHandleView → Type 0
Attempted Ran P IsValue words (Ok old) h h' = IsValue old × P (words old)
    × Updated (λ value. Ran old (Some value)) words old h h'
Attempted Ran P IsValue words (Err old) h h' = IsValue old × Ran old None × SeenAtLast P (words old) h h'

-- an update by a closure that may decline, of which Ran is known, was refused: as spent only where it answered
-- a value on the old one, which the record held
abbrev pub RefusesTry : {T : Type 0} → (T → Option T → Type 0) → (List ℕ → Type 0) → (T → List ℕ) →
    PutFault → RecordHandleView → RecordHandleView → Type 0
RefusesTry Ran P words (Busy word) h h' = RefusesUpdate P (Busy word) h h'
RefusesTry Ran P words (Lost loaded found) h h' = RefusesUpdate P (Lost loaded found) h h'
RefusesTry {T} Ran P words (Spent word) h h' = (old : T) × (value : T) × Ran old (Some value)
    × RefusesUpdate (λ row. row ≡ words old) (Spent word) h h'
