-- The fields of the limits over a JSON value, in their order: what each holds, or its fault.
use Rattle.std.specs.Prelude.{ℕ, ◌==◌, ◌&&◌, Option, Some, None, Result, Ok, Err, nat_le, if◌then◌else◌, codes}
use Rattle.serde_json.specs.Data.{Data}
use Rattle.stamp_core.specs.Layout.{units_of}
use Rattle.stamp_core.specs.Limits.{Bounds, bounds}
use Rattle.stamp_core.specs.declared.layout.Layout.{Layout}
use Rattle.stamp_core.specs.declared.layout.Layout.TheVariants.{One, Two}
use Rattle.stamp_history.specs.declared.field.Field.{Field}
use Rattle.stamp_history.specs.declared.field.Field.TheVariants as part
use Rattle.stamp_history.specs.declared.read_error.ReadError.{ReadError}
use Rattle.stamp_history.specs.declared.read_error.ReadError.TheVariants.{NotScript, NotHistory, Limit}
use Rattle.stamp_history.specs.declared.text_kind.TextKind.{TextKind}
use Rattle.stamp_history.specs.declared.text_kind.TextKind.TheVariants.{Replay, Script, History}
use Rattle.stamp_history.specs.JsonValue.{has_key, whole_under}
use Rattle.stamp_history.specs.JsonReading.{◌>>=◌, ranged}

-- the fault of a field of another kind, in a text that is read as one of these
abbrev pub mistake : TextKind → Field → ReadError
mistake Replay field = NotScript field
mistake Script field = NotScript field
mistake History field = NotHistory field

-- the layout of this number
abbrev pub numbered_layout : TextKind → Option ℕ → Result Layout ReadError
numbered_layout text None = Err (mistake text part.Layout)
numbered_layout text (Some n) = if n == 1 then Ok One else if n == 2 then Ok Two else Err (mistake text part.Layout)

-- layout 1, where none is given
abbrev pub layout : TextKind → Data → Result Layout ReadError
layout text d = if has_key (codes "layout") d then numbered_layout text (whole_under (codes "layout") d) else Ok One

abbrev pub readers : TextKind → Layout → Data → Result ℕ ReadError
readers text l d = ranged (mistake text part.Readers) (Limit part.Readers)
    (λ n. nat_le 1 n && nat_le n (units_of l).readers) (whole_under (codes "readers") d)

abbrev pub versions : TextKind → Layout → Data → Result ℕ ReadError
versions text l d = ranged (mistake text part.Versions) (Limit part.Versions) (λ n. nat_le n (units_of l).versions)
    (whole_under (codes "versions") d)

unfoldable pub limits : TextKind → Data → Result Bounds ReadError
limits text d = do
  found_layout ← layout text d
  found_readers ← readers text found_layout d
  found_versions ← versions text found_layout d
  Ok (bounds found_layout found_readers found_versions)
