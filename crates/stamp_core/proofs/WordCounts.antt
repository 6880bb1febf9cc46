-- A word's number gives back the counts of the events that it represents.
use Rattle.std.proofs.Common.{zero, suc, ◌/◌, ◌%◌, ◌≡◌, ℕ, ◌+◌, ◌-◌, ◌<◌, ◌≤◌, ◌==◌, List, arith, true, false}
use Rattle.std.proofs.lemmas.Bool.Decides.{nat_tests}
use Rattle.stamp_core.specs.LockEvent.{LockEvent, counts}
use Rattle.stamp_core.specs.Layout.{units_of}
use Rattle.stamp_core.specs.Limits.{Bounds, AreInRange}
use Rattle.stamp_core.specs.Word.{LockWord, word_number, Represents}
use Rattle.stamp_core.specs.Decoded.{counts_in, counts_of}
use Rattle.stamp_core.specs.declared.layout.Layout.{Layout}
use Rattle.stamp_core.proofs.TwoLayouts.{either_layout}
use Rattle.stamp_core.proofs.WellFormedPush.{obeys_now}

-- a word's number gives back what it was made of
counts_at : (l : Layout) (w k wr r : ℕ) → r ≤ (units_of l).readers → (0 < wr → r ≡ 0) → wr ≤ 1 → w ≡
    word_number (units_of l) (record { write_count = k; writers = wr; readers = r }) → counts_of (units_of l) w ≡
    record { write_count = k; writers = wr; readers = r }
unfolding counts_of
counts_at l w k zero r few apart one e =
    let u = either_layout l in
    let q : w / (units_of l).version ≡ k + 1 = grind arith in
    let m : w % (units_of l).version ≡ r = grind arith in
    let t : (w % (units_of l).version == (units_of l).writer) ≡ false = grind (arith, nat_tests) in
    let d : w / (units_of l).version - 1 ≡ k = omega arith in
    rw t cc
counts_at l w k (suc zero) r few apart one e =
    let u = either_layout l in
    let q : w / (units_of l).version ≡ k = grind arith in
    let m : w % (units_of l).version ≡ (units_of l).writer = grind arith in
    let t : (w % (units_of l).version == (units_of l).writer) ≡ true = grind (arith, nat_tests) in
    let n : 0 ≡ r = omega arith in
    rw t cc
counts_at l w k (suc (suc wr)) r few apart one e = absurd (omega arith)

-- a word has the counts of all events that it represents
pub counts_in-represented : (limits : Bounds) (word : LockWord) (events : List LockEvent) → AreInRange limits →
    Represents limits word events → counts_in word ≡ counts events
counts_in-represented limits word events range represented =
    let now = obeys_now limits events represented.well_formed in
    rw represented.layout
    (counts_at limits.layout word.bits (counts events).write_count (counts events).writers (counts events).readers
    (omega arith) now.within.apart now.within.one_writer represented.spelled)
