-- What was read makes a recorded history.
use Rattle.std.proofs.Common.{◌≡◌, ◌⊎◌, ◌≤◌, ◌==◌, ℕ, ◌+◌, suc, List, [], ◌∷◌, length, refl}
use Rattle.std.proofs.Common.{sym, ◌∙◌, ap, subst, inl, inr, arith, Bool, true, false, Option, Some}
use Rattle.std.proofs.Common.{None, Result, Ok, Err, option_and_then}
use Rattle.std.specs.Prelude.{nat_le, nat_lt, if◌then◌else◌, codes}
use Rattle.std.specs.List.{All}
use Rattle.std.proofs.lemmas.List.Elements.{All-nil, All-cons}
use Rattle.std.proofs.lemmas.Bool.{ltb-true, leb-true, eqb-true}
use Rattle.serde_json.specs.Data.{Data, Items, no_items, item}
use Rattle.serde_json.specs.Events.{items_len}
use Rattle.stamp_core.specs.Call.{call_suits}
use Rattle.stamp_core.specs.Record.{EntrySuits}
use Rattle.stamp_core.specs.declared.entry.Entry.{Entry}
use Rattle.stamp_history.specs.declared.field.Field.TheVariants as part
use Rattle.stamp_history.specs.declared.read_error.ReadError.{ReadError}
use Rattle.stamp_history.specs.declared.read_error.ReadError.TheVariants.{NotHistory, Limit}
use Rattle.stamp_history.specs.EntryValue as value
use Rattle.stamp_history.specs.HistoryFields.{suited, entry_at, pair_at, counted, listed_entries}
use Rattle.stamp_history.specs.HistoryFields.{entries, listed_report, reported, report, width}
use Rattle.stamp_history.specs.JsonValue.{has_key, whole_under, list_under}
use Rattle.stamp_history.specs.JsonReading.{◌>>=◌, kind, ranged, each}
use Rattle.stamp_history.proofs.EachItem.{bind_ok}

-- what is in range was found, and passes the test
pub ranged_ok : {A : Type 0} (mistake over : ReadError) (fits : A → Bool) (found : Option A) (x : A) →
    ranged mistake over fits found ≡ Ok x → (found ≡ Some x) × (fits x ≡ true)
ranged_ok mistake over fits None x e = cc
ranged_ok {A} mistake over fits (Some y) x e = by (fits y) refl e
  where
    by : (b : Bool) → fits y ≡ b → (if b then Ok y else Err over) ≡ Ok x → (Some y ≡ Some x) × (fits x ≡ true)
    by true test e = let same : y ≡ x = cc in (ap Some same, subst (λ (z : A). fits z ≡ true) same test)
    by false test e = cc

pub each_len : {A : Type 0} (one : ℕ → Data → Result A ReadError) (i : ℕ) (ds : Items) (xs : List A) → each one i ds ≡
    Ok xs → length xs ≡ items_len ds
each_len one i no_items xs e = let none : [] ≡ xs = cc in sym (ap length none)
each_len one i (item d ds) xs e =
    let first = bind_ok (one i d) (λ x. each one (i + 1) ds >>= λ later. Ok (x ∷ later)) xs e in
    let rest = bind_ok (each one (i + 1) ds) (λ later. Ok (first.0 ∷ later)) xs first.2 in
    let n = each_len one (i + 1) ds rest.0 rest.1 in
    let last : Ok (first.0 ∷ rest.0) ≡ Ok xs = rest.2 in
    let all : first.0 ∷ rest.0 ≡ xs = cc in
    sym (ap length all) ∙ ap suc n

pub each_all : {A : Type 0} (P : A → Type 0) (one : ℕ → Data → Result A ReadError) →
    ((j : ℕ) (d : Data) (x : A) → one j d ≡ Ok x → P x) → (i : ℕ) (ds : Items) (xs : List A) → each one i ds ≡
    Ok xs → All P xs
each_all P one holds i no_items xs e = let none : [] ≡ xs = cc in subst (All P) none (All-nil P)
each_all P one holds i (item d ds) xs e =
    let first = bind_ok (one i d) (λ x. each one (i + 1) ds >>= λ later. Ok (x ∷ later)) xs e in
    let rest = bind_ok (each one (i + 1) ds) (λ later. Ok (first.0 ∷ later)) xs first.2 in
    let last : Ok (first.0 ∷ rest.0) ≡ Ok xs = rest.2 in
    let all : first.0 ∷ rest.0 ≡ xs = cc in
    subst (All P) all (All-cons P first.0 rest.0 (holds i d first.0 first.1)
    (each_all P one holds (i + 1) ds rest.0 rest.1))

-- what a test lets through passes it
pub let_through : {A : Type 0} (test : A → Bool) (found : Option A) (x : A) →
    option_and_then (λ y. if test y then Some y else None) found ≡ Some x → test x ≡ true
let_through test None x e = cc
let_through {A} test (Some y) x e = by (test y) refl e
  where
    by : (b : Bool) → test y ≡ b → (if b then Some y else None) ≡ Some x → test x ≡ true
    by true is e = let same : y ≡ x = cc in subst (λ (z : A). test z ≡ true) same is
    by false is e = cc

entry_suits : (w i : ℕ) (d : Data) (e : Entry) → entry_at w i d ≡ Ok e → EntrySuits w e
entry_suits w i d e h =
    let in_range = ranged_ok (NotHistory (part.Entry i)) (Limit (part.Entry i)) (λ (x : Entry). nat_lt x.thread 64)
    (option_and_then (suited w) (value.entry d)) e h in
    record {
      thread = ltb-true e.thread 64 in_range.1;
      call = let_through (λ (x : Entry). call_suits w x.call) (value.entry d) e in_range.0;
    }

pub known_width : (d : Data) (w : ℕ) → width d ≡ Ok w → w ≤ 16
known_width d w h = leb-true w 16 (ranged_ok (NotHistory part.Width) (Limit part.Width) (λ n. nat_le n 16)
    (whole_under (codes "width") d) w h).1

-- the items under `entries` are no more than 640,000, and P holds of each as it is read
pub listed_known : {A : Type 0} (P : A → Type 0) (one : ℕ → Data → Result A ReadError) →
    ((j : ℕ) (d : Data) (x : A) → one j d ≡ Ok x → P x) → (d : Data) (xs : List A) →
    (listed_entries d >>= each one 0) ≡ Ok xs → (length xs ≤ 640000) × All P xs
listed_known P one holds d xs h =
    let listed = bind_ok (listed_entries d) (each one 0) xs h in
    let in_range = ranged_ok (NotHistory part.Entries) (Limit part.Entries) (λ ds. nat_le (items_len ds) 640000)
    (list_under (codes "entries") d) listed.0 listed.1 in
    let most = leb-true (items_len listed.0) 640000 in_range.1 in
    let n = each_len one 0 listed.0 xs listed.2 in
    (omega arith, each_all P one holds 0 listed.0 xs listed.2)

pub known_entries : (w : ℕ) (d : Data) (es : List Entry) → entries w d ≡ Ok es → (length es ≤ 640000) ×
    All (EntrySuits w) es
unfolding entries
known_entries w = listed_known (EntrySuits w) (entry_at w) (entry_suits w)

counted_ok : (count : ℕ) (found : Option Items) (ds : Items) →
    kind (NotHistory part.Report) (option_and_then (counted count) found) ≡ Ok ds → items_len ds ≡ count
counted_ok count None ds h = cc
counted_ok count (Some xs) ds h = by (items_len xs == count) refl h
  where
    by : (b : Bool) → (items_len xs == count) ≡ b → kind (NotHistory part.Report) (if b then Some xs else None) ≡
        Ok ds → items_len ds ≡ count
    by true test h = let e : xs ≡ ds = cc in subst (λ (z : Items). items_len z ≡ count) e
        (eqb-true (items_len xs) count test)
    by false test h = cc

known_reported : (count : ℕ) (d : Data) (pairs : List (ℕ × ℕ)) → reported count d ≡ Ok pairs → length pairs ≡ count
unfolding reported
known_reported count d pairs h =
    let listed = bind_ok (listed_report count d) (each pair_at 0) pairs h in
    each_len pair_at 0 listed.0 pairs listed.2 ∙ counted_ok count (list_under (codes "report") d) listed.0 listed.1

pub known_report : (count : ℕ) (d : Data) (pairs : List (ℕ × ℕ)) → report count d ≡ Ok pairs → (length pairs ≡ 0) ⊎
    (length pairs ≡ count)
known_report count d pairs h = by (has_key (codes "report") d) h
  where
    by : (b : Bool) → (if b then reported count d else Ok []) ≡ Ok pairs → (length pairs ≡ 0) ⊎ (length pairs ≡ count)
    by true h = inr (known_reported count d pairs h)
    by false h = let none : [] ≡ pairs = cc in inl (sym (ap length none))
