-- The observed history that a text is, or the first fault in the order of the fields.
use Rattle.std.specs.Prelude.{ℕ, List, Result, Ok}
use Rattle.serde_json.specs.Data.{Data}
use Rattle.stamp_explain.specs.Observed.{ObservedHistory, observed_as}
use Rattle.stamp_history.specs.declared.read_error.ReadError.{ReadError}
use Rattle.stamp_history.specs.declared.text_kind.TextKind.TheVariants as text
use Rattle.stamp_history.specs.HistoryFields.{format, width}
use Rattle.stamp_history.specs.LimitFields.{limits}
use Rattle.stamp_history.specs.JsonReading.{◌>>=◌, json_of}
use Rattle.stamp_observed.specs.ObservedFields.{top, entries}

unfoldable pub observed_in : Data → Result ObservedHistory ReadError
observed_in d = do
  _ ← top d
  _ ← format d
  found_limits ← limits text.History d
  found_width ← width d
  found_entries ← entries found_width d
  Ok (observed_as found_limits found_width found_entries)

unfoldable pub observed_of : List ℕ → Result ObservedHistory ReadError
observed_of bytes = do
  d ← json_of bytes
  observed_in d
