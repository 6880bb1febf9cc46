-- The fields of a history over a JSON value, in their order: what each holds, or its fault.
use Rattle.std.specs.Prelude.{ℕ, ◌==◌, ◌||◌, List, [], ◌∷◌, Bool, false, Option, Some, None, Result}
use Rattle.std.specs.Prelude.{Ok, Err, nat_le, nat_lt, option_and_then, option_map, if◌then◌else◌}
use Rattle.std.specs.Prelude.{codes, ⊤}
use Rattle.serde_json.specs.Data.{Data, Items, no_items, item}
use Rattle.serde_json.specs.Events.{items_len}
use Rattle.serde_json.specs.Find as find
use Rattle.stamp_core.specs.Call.{call_suits}
use Rattle.stamp_core.specs.declared.entry.Entry.{Entry}
use Rattle.stamp_history.specs.declared.field.Field.TheVariants as part
use Rattle.stamp_history.specs.declared.read_error.ReadError.{ReadError}
use Rattle.stamp_history.specs.declared.read_error.ReadError.TheVariants.{NotHistory, Limit}
use Rattle.stamp_history.specs.EntryValue as value
use Rattle.stamp_history.specs.JsonValue.{has_key, has_keys, whole, whole_under, list_under}
use Rattle.stamp_history.specs.JsonReading.{◌>>=◌, kind, ranged, each}

-- the keys of format 1 and of format 2, each without a report and with one
abbrev pub keys : List (List ℕ)
keys = codes "entries" ∷ codes "format" ∷ codes "readers" ∷ codes "versions" ∷ codes "width" ∷ []

abbrev pub keys_with_report : List (List ℕ)
keys_with_report = codes "entries" ∷ codes "format" ∷ codes "readers" ∷ codes "report" ∷ codes "versions" ∷
    codes "width" ∷ []

abbrev pub keys_with_layout : List (List ℕ)
keys_with_layout = codes "entries" ∷ codes "format" ∷ codes "layout" ∷ codes "readers" ∷ codes "versions" ∷
    codes "width" ∷ []

abbrev pub keys_with_both : List (List ℕ)
keys_with_both = codes "entries" ∷ codes "format" ∷ codes "layout" ∷ codes "readers" ∷ codes "report" ∷
    codes "versions" ∷ codes "width" ∷ []

abbrev pub top : Data → Result ⊤ ReadError
top d = if has_keys keys d || has_keys keys_with_report d || has_keys keys_with_layout d || has_keys keys_with_both
    d then Ok tt else Err (NotHistory part.Top)

abbrev pub is_number : ℕ → Option ℕ → Bool
is_number n None = false
is_number n (Some m) = m == n

-- an object with a layout is of format 2
abbrev pub format : Data → Result ⊤ ReadError
format d = if is_number (if has_key (codes "layout") d then 2 else 1) (whole_under (codes "format") d) then
    Ok tt else Err (NotHistory part.Format)

abbrev pub width : Data → Result ℕ ReadError
width d = ranged (NotHistory part.Width) (Limit part.Width) (λ n. nat_le n 16) (whole_under (codes "width") d)

-- the items under `entries`, no more than 640,000
abbrev pub listed_entries : Data → Result Items ReadError
listed_entries d = ranged (NotHistory part.Entries) (Limit part.Entries) (λ ds. nat_le (items_len ds) 640000)
    (list_under (codes "entries") d)

-- an entry whose call suits the width
abbrev pub suited : ℕ → Entry → Option Entry
suited w e = if call_suits w e.call then Some e else None

abbrev pub entry_at : ℕ → ℕ → Data → Result Entry ReadError
entry_at w i d = ranged (NotHistory (part.Entry i)) (Limit (part.Entry i)) (λ e. nat_lt e.thread 64)
    (option_and_then (suited w) (value.entry d))

unfoldable pub entries : ℕ → Data → Result (List Entry) ReadError
entries w d = do
  list ← listed_entries d
  each (entry_at w) 0 list

-- two whole numbers
abbrev pub listed_pair : Items → Option (ℕ × ℕ)
listed_pair no_items = None
listed_pair (item own no_items) = None
listed_pair (item own (item changes no_items)) =
    option_and_then (λ n. option_map (λ m. (n, m)) (whole changes)) (whole own)
listed_pair (item own (item changes (item further rest))) = None

abbrev pub pair_at : ℕ → Data → Result (ℕ × ℕ) ReadError
pair_at i d = kind (NotHistory part.Report) (option_and_then listed_pair (find.as_array d))

-- as many items as there are entries
abbrev pub counted : ℕ → Items → Option Items
counted count ds = if items_len ds == count then Some ds else None

abbrev pub listed_report : ℕ → Data → Result Items ReadError
listed_report count d = kind (NotHistory part.Report) (option_and_then (counted count) (list_under (codes "report") d))

unfoldable pub reported : ℕ → Data → Result (List (ℕ × ℕ)) ReadError
reported count d = do
  list ← listed_report count d
  each pair_at 0 list

-- a history without the key has no report
abbrev pub report : ℕ → Data → Result (List (ℕ × ℕ)) ReadError
report count d = if has_key (codes "report") d then reported count d else Ok []
