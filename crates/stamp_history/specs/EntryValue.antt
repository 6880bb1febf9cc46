-- Entries of a history out of JSON values.
use Rattle.std.specs.Prelude.{Option, Some, None, if◌then◌else◌, codes}
use Rattle.serde_json.specs.Data.{Data}
use Rattle.serde_json.specs.Find as find
use Rattle.stamp_core.specs.declared.entry.Entry.{Entry}
use Rattle.stamp_history.specs.HistoryCall.{history_call}
use Rattle.stamp_history.specs.JsonValue.{has_members, whole_under}
use Rattle.stamp_history.specs.ReplyValue.{reply}

-- what is there, if both are
infixl 10 ◌>>=◌
abbrev pub ◌>>=◌ : {A B : Type 0} → Option A → (A → Option B) → Option B
None >>= f = None
(Some x) >>= f = f x

-- an object of six members, which have these keys
unfoldable pub entry : Data → Option Entry
entry d = do
  called ← find.get (codes "call") d
  call ← history_call called
  first ← whole_under (codes "first") d
  last ← whole_under (codes "last") d
  point ← whole_under (codes "point") d
  replied ← find.get (codes "reply") d
  answer ← reply replied
  thread ← whole_under (codes "thread") d
  if has_members 6 d then Some (record {
    thread = thread;
    call = call;
    reply = answer;
    first = first;
    point = point;
    last = last;
  }) else None
