-- The fields of an observed history over a JSON value: what each holds, or its fault.
use Rattle.std.specs.Prelude.{ℕ, ◌&&◌, ◌||◌, List, Bool, true, Option, Some, None, Result, Ok, Err, nat_lt, ⊤}
use Rattle.std.specs.Prelude.{option_and_then, if◌then◌else◌}
use Rattle.serde_json.specs.Data.{Data}
use Rattle.stamp_core.specs.Call.{call_suits}
use Rattle.stamp_explain.specs.declared.observed.Observation.{Observation}
use Rattle.stamp_explain.specs.declared.observed.Returned.{Returned}
use Rattle.stamp_history.specs.declared.field.Field.TheVariants as part
use Rattle.stamp_history.specs.declared.read_error.ReadError.{ReadError}
use Rattle.stamp_history.specs.declared.read_error.ReadError.TheVariants.{NotHistory, Limit}
use Rattle.stamp_history.specs.HistoryFields.{keys, keys_with_layout, listed_entries}
use Rattle.stamp_history.specs.JsonValue.{has_keys}
use Rattle.stamp_history.specs.JsonReading.{◌>>=◌, ranged, each}
use Rattle.stamp_observed.specs.ObservationValue as value

-- the keys of a history without a report
abbrev pub top : Data → Result ⊤ ReadError
top d = if has_keys keys d || has_keys keys_with_layout d then Ok tt else Err (NotHistory part.Top)

-- an entry whose call suits the width
abbrev pub suited : ℕ → Observation → Option Observation
suited w e = if call_suits w e.call then Some e else None

-- positions are below 2 to the 58
abbrev pub ends_in_range : Option Returned → Bool
ends_in_range None = true
ends_in_range (Some r) = nat_lt r.last 288230376151711744

abbrev pub is_in_range : Observation → Bool
is_in_range e = nat_lt e.thread 64 && nat_lt e.first 288230376151711744 && ends_in_range e.returned

abbrev pub entry_at : ℕ → ℕ → Data → Result Observation ReadError
entry_at w i d = ranged (NotHistory (part.Entry i)) (Limit (part.Entry i)) is_in_range
    (option_and_then (suited w) (value.observation d))

unfoldable pub entries : ℕ → Data → Result (List Observation) ReadError
entries w d = do
  list ← listed_entries d
  each (entry_at w) 0 list
