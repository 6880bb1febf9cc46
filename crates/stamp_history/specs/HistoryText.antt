-- The JSON value that a recorded history is written as, and its text.
use Rattle.std.specs.Prelude.{ℕ, List, [], ◌∷◌, ◌++◌, map, codes}
use Rattle.serde_json.specs.Data.{Data, string, array, object, Items, no_items, item, Members, no_members, member}
use Rattle.serde_json.specs.Written.{compact_text}
use Rattle.serde_json.specs.View.{items_of}
use Rattle.stamp_core.specs.Limits.{Bounds}
use Rattle.stamp_core.specs.Record.{Recorded}
use Rattle.stamp_core.specs.declared.call.Call.{Call}
use Rattle.stamp_core.specs.declared.call.Call.TheVariants.{TryWrite, TryRead, WriteLock, ReadLock}
use Rattle.stamp_core.specs.declared.call.Call.TheVariants.{Optimistic, Validate, UnlockWrite}
use Rattle.stamp_core.specs.declared.call.Call.TheVariants.{UnlockRead, Unlock, ToWrite, ToRead}
use Rattle.stamp_core.specs.declared.call.Call.TheVariants.{ToOptimistic, TryUnlockWrite}
use Rattle.stamp_core.specs.declared.call.Call.TheVariants.{TryUnlockRead, IsWriteLocked}
use Rattle.stamp_core.specs.declared.call.Call.TheVariants.{IsReadLocked, ReadCount, Get, Put}
use Rattle.stamp_core.specs.declared.call.Call.TheVariants.{PutIf}
use Rattle.stamp_core.specs.declared.entry.Entry.{Entry}
use Rattle.stamp_core.specs.declared.layout.Layout.{Layout}
use Rattle.stamp_core.specs.declared.layout.Layout.TheVariants.{One, Two}
use Rattle.stamp_history.specs.ReplayText.{number_data, words_data, reply_data}

abbrev pub call_name : Call → List ℕ
call_name TryWrite = codes "try_write"
call_name TryRead = codes "try_read"
call_name WriteLock = codes "write_lock"
call_name ReadLock = codes "read_lock"
call_name Optimistic = codes "optimistic"
call_name (Validate stamp) = codes "validate"
call_name (UnlockWrite stamp) = codes "unlock_write"
call_name (UnlockRead stamp) = codes "unlock_read"
call_name (Unlock stamp) = codes "unlock"
call_name (ToWrite stamp) = codes "to_write"
call_name (ToRead stamp) = codes "to_read"
call_name (ToOptimistic stamp) = codes "to_optimistic"
call_name TryUnlockWrite = codes "try_unlock_write"
call_name TryUnlockRead = codes "try_unlock_read"
call_name IsWriteLocked = codes "is_write_locked"
call_name IsReadLocked = codes "is_read_locked"
call_name ReadCount = codes "read_count"
call_name Get = codes "get"
call_name (Put words) = codes "put"
call_name (PutIf expected words) = codes "put_if"

-- what the call takes, each stamp as its number
abbrev pub arguments : Call → Items
arguments (Validate stamp) = item (number_data stamp) no_items
arguments (UnlockWrite stamp) = item (number_data stamp) no_items
arguments (UnlockRead stamp) = item (number_data stamp) no_items
arguments (Unlock stamp) = item (number_data stamp) no_items
arguments (ToWrite stamp) = item (number_data stamp) no_items
arguments (ToRead stamp) = item (number_data stamp) no_items
arguments (ToOptimistic stamp) = item (number_data stamp) no_items
arguments (Put words) = item (words_data words) no_items
arguments (PutIf expected words) = item (words_data expected) (item (words_data words) no_items)
arguments _ = no_items

abbrev pub call_data : Call → Data
call_data c = array (item (string (call_name c)) (arguments c))

abbrev pub entry_data : Entry → Data
entry_data e =
    object (member (codes "call") (call_data e.call)
    (member (codes "first") (number_data e.first)
    (member (codes "last") (number_data e.last)
    (member (codes "point") (number_data e.point)
    (member (codes "reply") (reply_data e.reply)
    (member (codes "thread") (number_data e.thread) no_members))))))

abbrev pub entries_data : List Entry → Data
entries_data entries = array (items_of (map entry_data entries))

-- of an entry of the report: the call's own steps, and the changes by others meanwhile
abbrev pub pair_data : ℕ × ℕ → Data
pair_data pair = array (item (number_data pair.0) (item (number_data pair.1) no_items))

abbrev pub report_data : List (ℕ × ℕ) → Data
report_data report = array (items_of (map pair_data report))

abbrev pub format_of : Layout → ℕ
format_of One = 1
format_of Two = 2

-- the key `layout` stands there in layout 2 alone, and `report` where there is one
abbrev pub with_layout : Layout → Members → Members
with_layout One rest = rest
with_layout Two rest = member (codes "layout") (number_data 2) rest

abbrev pub with_report : List (ℕ × ℕ) → Members → Members
with_report [] rest = rest
with_report (pair ∷ pairs) rest = member (codes "report") (report_data (pair ∷ pairs)) rest

-- the keys in the order of their bytes, after the entries
abbrev pub after_entries : Bounds → ℕ → List (ℕ × ℕ) → Members
after_entries limits width report =
    member (codes "format") (number_data (format_of limits.layout))
    (with_layout limits.layout
    (member (codes "readers") (number_data limits.readers)
    (with_report report
    (member (codes "versions") (number_data limits.versions)
    (member (codes "width") (number_data width) no_members)))))

-- an object of entries and of what comes after them
abbrev pub with_entries : Data → Bounds → ℕ → List (ℕ × ℕ) → Data
with_entries entries limits width report =
    object (member (codes "entries") entries (after_entries limits width report))

abbrev pub history_data : Recorded → Data
history_data r = with_entries (entries_data r.entries) r.limits r.width r.report

-- without spaces
unfoldable pub history_text : Recorded → List ℕ
history_text r = compact_text (history_data r)

-- the text as a program writes it, with a line feed
abbrev pub history_line : Recorded → List ℕ
history_line r = history_text r ++ 10 ∷ []
