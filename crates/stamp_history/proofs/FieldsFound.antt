-- The fields of a history, or of an observed one, are found in the value that they are written as.
use Rattle.std.proofs.Common.{◌≡◌, ◌⊎◌, ◌≤◌, ℕ, suc, ◌+◌, List, [], ◌∷◌, length, map, refl, ap, inl, inr}
use Rattle.std.proofs.Common.{arith, Ok, Result}
use Rattle.std.proofs.lemmas.Bool.{le-leb, eq-eqb}
use Rattle.serde_json.specs.Data.{Data, array, Items}
use Rattle.serde_json.specs.Events.{items_len}
use Rattle.serde_json.specs.View.{items_of}
use Rattle.stamp_core.specs.Layout.{units_of}
use Rattle.stamp_core.specs.Limits.{Bounds, AreInRange, bounds}
use Rattle.stamp_core.specs.declared.layout.Layout.{Layout}
use Rattle.stamp_core.specs.declared.layout.Layout.TheVariants.{One, Two}
use Rattle.stamp_history.specs.declared.read_error.ReadError.{ReadError}
use Rattle.stamp_history.specs.declared.text_kind.TextKind.TheVariants as text
use Rattle.stamp_history.specs.HistoryFields.{format, width, listed_entries, pair_at, reported, report}
use Rattle.stamp_history.specs.HistoryText.{pair_data, with_entries}
use Rattle.stamp_history.specs.LimitFields as limit
use Rattle.stamp_history.specs.JsonReading.{◌>>=◌, each}

-- what is read after the format, the limits and the width is read of what they were written of
pub fields_found : {A : Type 0} (l : Layout) (readers versions w : ℕ) (d : Data) (ps : List (ℕ × ℕ)) →
    AreInRange (bounds l readers versions) → w ≤ 16 → (later : Bounds → ℕ → Result A ReadError) →
    (format (with_entries d (bounds l readers versions) w ps) >>= λ _.
    limit.limits text.History (with_entries d (bounds l readers versions) w ps) >>= λ limits.
    width (with_entries d (bounds l readers versions) w ps) >>= later limits) ≡ later (bounds l readers versions) w
unfolding limit.limits units_of
fields_found One readers versions w d [] range most later =
    rw (
      le-leb 1 readers range.some_reader,
      le-leb readers 127 range.readers,
      le-leb versions 36028797018963966 range.versions,
      le-leb w 16 most,
    ) refl
fields_found One readers versions w d (p ∷ ps) range most later =
    rw (
      le-leb 1 readers range.some_reader,
      le-leb readers 127 range.readers,
      le-leb versions 36028797018963966 range.versions,
      le-leb w 16 most,
    ) refl
fields_found Two readers versions w d [] range most later =
    rw (
      le-leb 1 readers range.some_reader,
      le-leb readers 65535 range.readers,
      le-leb versions 70368744177662 range.versions,
      le-leb w 16 most,
    ) refl
fields_found Two readers versions w d (p ∷ ps) range most later =
    rw (
      le-leb 1 readers range.some_reader,
      le-leb readers 65535 range.readers,
      le-leb versions 70368744177662 range.versions,
      le-leb w 16 most,
    ) refl

-- so are the entries, each of which is found in its item
pub listed_found : {A : Type 0} (one : ℕ → Data → Result A ReadError) (ds : Items) (xs : List A) (limits : Bounds)
    (w : ℕ) (ps : List (ℕ × ℕ)) → items_len ds ≤ 640000 → each one 0 ds ≡ Ok xs →
    (listed_entries (with_entries (array ds) limits w ps) >>= each one 0) ≡ Ok xs
listed_found one ds xs limits w ps few found = rw (le-leb (items_len ds) 640000 few, found) refl

pub mapped_len : {A : Type 0} (write : A → Data) (xs : List A) → items_len (items_of (map write xs)) ≡ length xs
mapped_len write [] = refl
mapped_len write (x ∷ xs) = ap suc (mapped_len write xs)

pairs_found : (i : ℕ) (ps : List (ℕ × ℕ)) → each pair_at i (items_of (map pair_data ps)) ≡ Ok ps
pairs_found i [] = refl
pairs_found i (p ∷ ps) = rw (pairs_found (i + 1) ps) refl

one_each : (n count : ℕ) → (suc n ≡ 0) ⊎ (suc n ≡ count) → suc n ≡ count
one_each n count (inl none) = absurd (omega arith)
one_each n count (inr same) = same

-- and the report, if there is one
pub report_found : (l : Layout) (readers versions w : ℕ) (d : Data) (ps : List (ℕ × ℕ)) (count : ℕ) →
    (length ps ≡ 0) ⊎ (length ps ≡ count) → report count (with_entries d (bounds l readers versions) w ps) ≡ Ok ps
unfolding reported
report_found One readers versions w d [] count known = refl
report_found Two readers versions w d [] count known = refl
report_found One readers versions w d (p ∷ ps) count known =
    rw (
      mapped_len pair_data ps,
      eq-eqb (suc (length ps)) count (one_each (length ps) count known),
      pairs_found 1 ps,
    ) refl
report_found Two readers versions w d (p ∷ ps) count known =
    rw (
      mapped_len pair_data ps,
      eq-eqb (suc (length ps)) count (one_each (length ps) count known),
      pairs_found 1 ps,
    ) refl
