-- The text of a field.
use Rattle.std.specs.Prelude.{ℕ, List, [], ◌++◌, codes, decimal}
use Rattle.stamp_history.specs.declared.field.Field.{Field}
use Rattle.stamp_history.specs.declared.field.Field.TheVariants.{Top, Format, Layout, Readers}
use Rattle.stamp_history.specs.declared.field.Field.TheVariants.{Versions, Width, Calls, Call}
use Rattle.stamp_history.specs.declared.field.Field.TheVariants.{Threads, ThreadCall, Steps, Step}
use Rattle.stamp_history.specs.declared.field.Field.TheVariants.{Entries, Entry, Report}

-- the name, without the positions
abbrev pub field_name : Field → List ℕ
field_name Top = codes "top"
field_name Format = codes "format"
field_name Layout = codes "layout"
field_name Readers = codes "readers"
field_name Versions = codes "versions"
field_name Width = codes "width"
field_name Calls = codes "calls"
field_name (Call i) = codes "call"
field_name Threads = codes "threads"
field_name (ThreadCall t i) = codes "call"
field_name Steps = codes "steps"
field_name (Step i) = codes "step"
field_name Entries = codes "entries"
field_name (Entry i) = codes "entry"
field_name Report = codes "report"

-- the positions, each after a space
abbrev pub positions : Field → List ℕ
positions (Call i) = codes " " ++ decimal i
positions (ThreadCall t i) = codes " " ++ decimal t ++ codes " " ++ decimal i
positions (Step i) = codes " " ++ decimal i
positions (Entry i) = codes " " ++ decimal i
positions _ = []

abbrev pub field_text : Field → List ℕ
field_text field = field_name field ++ positions field
