-- Calls of an observed history out of JSON values.
use Rattle.std.specs.Prelude.{Option, Some, None, if◌then◌else◌, option_map, codes}
use Rattle.serde_json.specs.Data.{Data}
use Rattle.serde_json.specs.Find as find
use Rattle.stamp_explain.specs.declared.observed.Observation.{Observation}
use Rattle.stamp_explain.specs.declared.observed.Returned.{Returned}
use Rattle.stamp_history.specs.EntryValue.{◌>>=◌}
use Rattle.stamp_history.specs.HistoryCall.{history_call}
use Rattle.stamp_history.specs.JsonValue.{has_members, whole_under}
use Rattle.stamp_history.specs.ReplyValue.{reply}

-- an object of five members, of which two tell the return
unfoldable pub returned : Data → Option Returned
returned d = do
  last ← whole_under (codes "last") d
  replied ← find.get (codes "reply") d
  answer ← reply replied
  if has_members 5 d then Some (record { last = last; reply = answer }) else None

-- an object of three members doesn't tell it: the call is under way
abbrev pub end : Data → Option (Option Returned)
end d = if has_members 3 d then Some None else option_map Some (returned d)

-- an object that has these keys too
unfoldable pub observation : Data → Option Observation
observation d = do
  called ← find.get (codes "call") d
  call ← history_call called
  first ← whole_under (codes "first") d
  thread ← whole_under (codes "thread") d
  ended ← end d
  Some (record { thread = thread; call = call; first = first; returned = ended })
