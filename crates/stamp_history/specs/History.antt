-- The recorded history that a text is, or the first fault in the order of the fields.
use Rattle.std.specs.Prelude.{ℕ, List, length, Result, Ok}
use Rattle.serde_json.specs.Data.{Data}
use Rattle.stamp_core.specs.Record.{Recorded, recorded}
use Rattle.stamp_history.specs.declared.read_error.ReadError.{ReadError}
use Rattle.stamp_history.specs.declared.text_kind.TextKind.TheVariants as text
use Rattle.stamp_history.specs.HistoryFields.{top, format, width, entries, report}
use Rattle.stamp_history.specs.LimitFields.{limits}
use Rattle.stamp_history.specs.JsonReading.{◌>>=◌, json_of}

unfoldable pub recorded_in : Data → Result Recorded ReadError
recorded_in d = do
  _ ← top d
  _ ← format d
  found_limits ← limits text.History d
  found_width ← width d
  found_entries ← entries found_width d
  found_report ← report (length found_entries) d
  Ok (recorded found_limits found_width found_entries found_report)

unfoldable pub recorded_of : List ℕ → Result Recorded ReadError
recorded_of bytes = do
  d ← json_of bytes
  recorded_in d
