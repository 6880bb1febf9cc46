-- What is asked of a word tells its counts.
use Rattle.std.proofs.Common.{◌≡◌, ◌⊎◌, ℕ, ◌==◌, Bool, true, false, refl, sym, ◌∙◌, ap, inl, inr}
use Rattle.std.proofs.Common.{⊎_elim}
use Rattle.std.specs.Prelude.{not, ◌↔◌, IsTrue}
use Rattle.stamp_core.specs.LockEvent.{Counts, counts, write_count, writers}
use Rattle.stamp_core.specs.Limits.{Bounds, AreInRange}
use Rattle.stamp_core.specs.Layout.{units_of}
use Rattle.stamp_core.specs.Word.{LockWord, IsAdmitted, HoldsForEvents}
use Rattle.stamp_core.specs.Decoded.{counts_in, counts_of}
use Rattle.stamp_core.specs.declared.layout.Layout.{Layout}
use Rattle.stamp_machines.specs.LockNumber.{counts_at}
use Rattle.stamp_core.proofs.OneHolder.{one_holder}
use Rattle.stamp_core.proofs.WordCounts.{counts_in-represented}

none_where_not : (b : Bool) (k : ℕ) → (IsTrue b ↔ (k ≡ 1)) → (k ≡ 0) ⊎ (k ≡ 1) → not b ≡ (k == 0)
none_where_not true k told either = let one : k ≡ 1 = told.0 refl in rw one refl
none_where_not false k told (inl none) = rw none refl
none_where_not false k told (inr one) = let no : IsTrue false = told.1 one in cc

pub writers_told : (limits : Bounds) (w : LockWord) (b : Bool) → AreInRange limits →
    IsAdmitted limits w → HoldsForEvents w (λ events. IsTrue b ↔ (writers events ≡ 1)) →
    not b ≡ ((counts_in w).writers == 0)
writers_told limits w b range a told =
    let same : counts_in w ≡ counts a.events =
    counts_in-represented limits w a.events range a.represented in
    let writers_are : (counts_in w).writers ≡ writers a.events =
    ap (λ (c : Counts). c.writers) same in
    none_where_not b (counts_in w).writers
    (rw writers_are (told limits a.events range a.represented))
    (⊎_elim (λ none. inl none) (λ one. inr one.0) (one_holder (units_of w.layout) w.bits))

pub writes_told : (limits : Bounds) (w : LockWord) (n : ℕ) → AreInRange limits →
    IsAdmitted limits w → HoldsForEvents w (λ events. n ≡ write_count events) →
    n ≡ (counts_in w).write_count
writes_told limits w n range a told =
    told limits a.events range a.represented
    ∙ sym (ap (λ (c : Counts). c.write_count)
    (counts_in-represented limits w a.events range a.represented))

-- a word of the limits' layout, by its number
pub writes_at : (limits : Bounds) (w : LockWord) (n : ℕ) → AreInRange limits → IsAdmitted limits w →
    HoldsForEvents w (λ events. n ≡ write_count events) → n ≡ (counts_at limits w.bits).write_count
writes_at limits w n range a told =
    writes_told limits w n range a told
    ∙ ap (λ (l : Layout). (counts_of (units_of l) w.bits).write_count) a.represented.layout
