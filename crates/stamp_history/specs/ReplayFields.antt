-- The fields of a replay over a JSON value, beside its limits: what each holds, or its fault.
use Rattle.std.specs.Prelude.{ℕ, ◌||◌, List, [], ◌∷◌, Result, Ok, Err, nat_le, if◌then◌else◌, codes, ⊤}
use Rattle.serde_json.specs.Data.{Data, Items}
use Rattle.serde_json.specs.Events.{items_len}
use Rattle.stamp_core.specs.declared.call.Call.{Call}
use Rattle.stamp_history.specs.declared.field.Field.TheVariants as part
use Rattle.stamp_history.specs.declared.read_error.ReadError.{ReadError}
use Rattle.stamp_history.specs.declared.read_error.ReadError.TheVariants.{NotScript, Limit}
use Rattle.stamp_history.specs.JsonValue.{has_keys, list_under}
use Rattle.stamp_history.specs.LockCall.{lock_call}
use Rattle.stamp_history.specs.JsonReading.{◌>>=◌, kind, ranged, each}

-- the keys without a layout, and with one
abbrev pub keys : List (List ℕ)
keys = codes "calls" ∷ codes "readers" ∷ codes "versions" ∷ []

abbrev pub keys_with_layout : List (List ℕ)
keys_with_layout = codes "calls" ∷ codes "layout" ∷ codes "readers" ∷ codes "versions" ∷ []

abbrev pub top : Data → Result ⊤ ReadError
top d = if has_keys keys d || has_keys keys_with_layout d then Ok tt else Err (NotScript part.Top)

-- the items under `calls`, no more than 640,000
abbrev pub listed_calls : Data → Result Items ReadError
listed_calls d = ranged (NotScript part.Calls) (Limit part.Calls) (λ ds. nat_le (items_len ds) 640000)
    (list_under (codes "calls") d)

abbrev pub call_at : ℕ → Data → Result Call ReadError
call_at i d = kind (NotScript (part.Call i)) (lock_call d)

unfoldable pub calls : Data → Result (List Call) ReadError
calls d = do
  list ← listed_calls d
  each call_at 0 list
