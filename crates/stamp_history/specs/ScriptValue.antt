-- The fields of a script over a JSON value, in their order: what each holds, or its fault.
use Rattle.std.specs.Prelude.{ℕ, ◌&&◌, ◌||◌, List, [], ◌∷◌, Bool, true, Option, Some, None, Result}
use Rattle.std.specs.Prelude.{Ok, Err, is_some, option_and_then, if◌then◌else◌, codes, ⊤}
use Rattle.serde_json.specs.Data.{Data, Items, no_items, item}
use Rattle.serde_json.specs.Find as find
use Rattle.stamp_machines.specs.declared.script.ScriptCall.{ScriptCall}
use Rattle.stamp_history.specs.declared.field.Field.TheVariants as part
use Rattle.stamp_history.specs.declared.read_error.ReadError.{ReadError}
use Rattle.stamp_history.specs.declared.read_error.ReadError.TheVariants.{NotScript}
use Rattle.stamp_history.specs.JsonValue.{has_keys, whole, whole_under, list_under}
use Rattle.stamp_history.specs.JsonReading.{◌>>=◌, kind, each}
use Rattle.stamp_history.specs.ScriptCallValue.{script_call}

-- the keys without a layout, and with one
abbrev pub keys : List (List ℕ)
keys = codes "readers" ∷ codes "steps" ∷ codes "threads" ∷ codes "versions" ∷ codes "width" ∷ []

abbrev pub keys_with_layout : List (List ℕ)
keys_with_layout = codes "layout" ∷ codes "readers" ∷ codes "steps" ∷ codes "threads" ∷ codes "versions" ∷
    codes "width" ∷ []

abbrev pub top : Data → Result ⊤ ReadError
top d = if has_keys keys d || has_keys keys_with_layout d then Ok tt else Err (NotScript part.Top)

-- of any size here: its range is a matter of the script
abbrev pub width : Data → Result ℕ ReadError
width d = kind (NotScript part.Width) (whole_under (codes "width") d)

abbrev pub are_lists : Items → Bool
are_lists no_items = true
are_lists (item d ds) = is_some (find.as_array d) && are_lists ds

abbrev pub as_lists : Items → Option Items
as_lists ds = if are_lists ds then Some ds else None

-- the items under `threads`, each of which is a list
abbrev pub listed_threads : Data → Result Items ReadError
listed_threads d = kind (NotScript part.Threads) (option_and_then as_lists (list_under (codes "threads") d))

-- item i of thread t
abbrev pub call_at : ℕ → ℕ → Data → Result ScriptCall ReadError
call_at t i d = kind (NotScript (part.ThreadCall t i)) (script_call d)

-- the calls of thread t
abbrev pub thread_at : ℕ → Data → Result (List ScriptCall) ReadError
thread_at t d = do
  list ← kind (NotScript part.Threads) (find.as_array d)
  each (call_at t) 0 list

unfoldable pub threads : Data → Result (List (List ScriptCall)) ReadError
threads d = do
  list ← listed_threads d
  each thread_at 0 list

abbrev pub step_at : ℕ → Data → Result ℕ ReadError
step_at i d = kind (NotScript (part.Step i)) (whole d)

abbrev pub listed_steps : Data → Result Items ReadError
listed_steps d = kind (NotScript part.Steps) (list_under (codes "steps") d)

unfoldable pub steps : Data → Result (List ℕ) ReadError
steps d = do
  list ← listed_steps d
  each step_at 0 list
