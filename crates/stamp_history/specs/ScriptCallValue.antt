-- The calls of a script as JSON: a list of the call's name, and of its stamp or words.
use Rattle.std.specs.Prelude.{ℕ, List, Option, Some, None, option_and_then, option_map, if◌then◌else◌, codes}
use Rattle.std.specs.Option.{option_map_or}
use Rattle.std.specs.Str.{bytes_eq}
use Rattle.serde_json.specs.Data.{Data, Items, no_items, item}
use Rattle.serde_json.specs.Find as find
use Rattle.stamp_machines.specs.declared.script.Arg.{Arg}
use Rattle.stamp_machines.specs.declared.script.Arg.TheVariants.{Number, Of}
use Rattle.stamp_machines.specs.declared.script.ScriptCall.{ScriptCall}
use Rattle.stamp_machines.specs.declared.script.ScriptCall.TheVariants.{TryWrite, TryRead}
use Rattle.stamp_machines.specs.declared.script.ScriptCall.TheVariants.{WriteLock, ReadLock}
use Rattle.stamp_machines.specs.declared.script.ScriptCall.TheVariants.{Optimistic, Validate}
use Rattle.stamp_machines.specs.declared.script.ScriptCall.TheVariants.{UnlockWrite, UnlockRead}
use Rattle.stamp_machines.specs.declared.script.ScriptCall.TheVariants.{Unlock, ToWrite, ToRead}
use Rattle.stamp_machines.specs.declared.script.ScriptCall.TheVariants.{ToOptimistic}
use Rattle.stamp_machines.specs.declared.script.ScriptCall.TheVariants.{TryUnlockWrite}
use Rattle.stamp_machines.specs.declared.script.ScriptCall.TheVariants.{TryUnlockRead}
use Rattle.stamp_machines.specs.declared.script.ScriptCall.TheVariants.{IsWriteLocked, IsReadLocked}
use Rattle.stamp_machines.specs.declared.script.ScriptCall.TheVariants.{ReadCount, Get, Put, PutIf}
use Rattle.stamp_history.specs.JsonValue.{whole}
use Rattle.stamp_history.specs.WordsValue.{words}

-- the stamp of a thread's call: two whole numbers, of the thread and of the call
abbrev pub stamp_of_call : Items → Option Arg
stamp_of_call no_items = None
stamp_of_call (item thread no_items) = None
stamp_of_call (item thread (item call no_items)) = option_and_then (λ t. option_map (Of t) (whole call)) (whole thread)
stamp_of_call (item thread (item call (item further rest))) = None

-- a stamp: a whole number, or that of a thread's call
abbrev pub stamp : Data → Option Arg
stamp d = option_map_or stamp_of_call (find.as_array d) (option_map Number (whole d))

-- the call of this name that takes nothing
abbrev pub plain_call : List ℕ → Option ScriptCall
plain_call name =
    if bytes_eq name (codes "try_write") then Some TryWrite
    else if bytes_eq name (codes "try_read") then Some TryRead
    else if bytes_eq name (codes "write_lock") then Some WriteLock
    else if bytes_eq name (codes "read_lock") then Some ReadLock
    else if bytes_eq name (codes "optimistic") then Some Optimistic
    else if bytes_eq name (codes "try_unlock_write") then Some TryUnlockWrite
    else if bytes_eq name (codes "try_unlock_read") then Some TryUnlockRead
    else if bytes_eq name (codes "is_write_locked") then Some IsWriteLocked
    else if bytes_eq name (codes "is_read_locked") then Some IsReadLocked
    else if bytes_eq name (codes "read_count") then Some ReadCount
    else if bytes_eq name (codes "get") then Some Get
    else None

-- the call of this name that takes a stamp
abbrev pub stamp_call : List ℕ → Arg → Option ScriptCall
stamp_call name arg =
    if bytes_eq name (codes "validate") then Some (Validate arg)
    else if bytes_eq name (codes "unlock_write") then Some (UnlockWrite arg)
    else if bytes_eq name (codes "unlock_read") then Some (UnlockRead arg)
    else if bytes_eq name (codes "unlock") then Some (Unlock arg)
    else if bytes_eq name (codes "to_write") then Some (ToWrite arg)
    else if bytes_eq name (codes "to_read") then Some (ToRead arg)
    else if bytes_eq name (codes "to_optimistic") then Some (ToOptimistic arg)
    else None

-- the call of this name and one argument: words for `put`, a stamp for the others
abbrev pub call_with : List ℕ → Data → Option ScriptCall
call_with name d =
    if bytes_eq name (codes "put") then option_map Put (words d)
    else option_and_then (stamp_call name) (stamp d)

-- the call of this name and two arguments: the words to be found, and those to be written
abbrev pub call_with_two : List ℕ → Data → Data → Option ScriptCall
call_with_two name expected new =
    if bytes_eq name (codes "put_if") then option_and_then (λ found. option_map (PutIf found) (words new))
    (words expected)
    else None

-- the call of the items of a list
abbrev pub listed_call : Items → Option ScriptCall
listed_call no_items = None
listed_call (item name no_items) = option_and_then plain_call (find.as_str name)
listed_call (item name (item argument no_items)) = option_and_then (λ text. call_with text argument) (find.as_str name)
listed_call (item name (item expected (item new no_items))) =
    option_and_then (λ text. call_with_two text expected new) (find.as_str name)
listed_call (item name (item expected (item new (item further rest)))) = None

abbrev pub script_call : Data → Option ScriptCall
script_call d = option_and_then listed_call (find.as_array d)
