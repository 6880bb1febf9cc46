-- Histories of a running record: calls with their replies, and write marks, each under the name of
-- the pass that made it.
use Rattle.std.specs.Prelude.{◌≡◌, ℕ, ◌+◌, Bool, true, false, List, [], ◌∷◌, ◌++◌, map, length}
use Rattle.stamp_core.specs.Limits.{Bounds}
use Rattle.stamp_core.specs.Call.{is_lock_call}
use Rattle.stamp_core.specs.History.{History, IsLegal, content_after}
use Rattle.stamp_core.specs.declared.layout.Layout.{Layout}
use Rattle.stamp_core.specs.declared.call.Call.TheVariants.{Put, PutIf}
use Rattle.stamp_core.specs.declared.reply.Reply.TheVariants.{Yes}
use Rattle.stamp_threads.specs.declared.pass_view.LogEntry.{LogEntry}
use Rattle.stamp_threads.specs.declared.record_view.RecordEvent.{RecordEvent}
use Rattle.stamp_threads.specs.declared.record_view.RecordEvent.TheVariants.{Mark, Called}
use Rattle.stamp_threads.specs.PassView.{made_by}
use Rattle.stamp_threads.specs.RecordWord.{word_with}

abbrev pub RecordLog : Type 0
RecordLog = List (LogEntry RecordEvent)

-- the calls and replies, in the order of the log; marks are passed over
abbrev pub calls_in : RecordEvent → History
calls_in Mark = []
calls_in (Called call reply) = (call, reply) ∷ []

abbrev pub history_in : RecordLog → History
history_in [] = []
history_in (e ∷ log) = calls_in e.made ++ history_in log

-- what the record holds
abbrev pub content_in : ℕ → RecordLog → List ℕ
content_in width log = content_after width (history_in log)

abbrev pub AreRecordCalls : History → Type 0
AreRecordCalls [] = Unit {0}
AreRecordCalls (e ∷ es) = (is_lock_call e.0 ≡ false) × AreRecordCalls es

-- a legal history of calls of the record, whatever the limits of a lock beside it
pub record IsLegalLog (width : ℕ) (log : RecordLog) : Type 0 where
  pub calls : AreRecordCalls (history_in log)
  pub legal : (limits : Bounds) → IsLegal limits width (history_in log)

-- how many of the events are puts; a put_if that was answered yes is one
abbrev pub put_in : RecordEvent → ℕ
put_in (Called (Put words) reply) = 1
put_in (Called (PutIf expected words) Yes) = 1
put_in _ = 0

abbrev pub puts_in : List RecordEvent → ℕ
puts_in [] = 0
puts_in (e ∷ es) = put_in e + puts_in es

abbrev pub puts : RecordLog → ℕ
puts log = puts_in (map (λ e. e.made) log)

-- what a log leaves, entry by entry
abbrev pub leaving : {C : Type 0} → (C → LogEntry RecordEvent → C) → C → RecordLog → C
leaving f c [] = c
leaving f c (e ∷ log) = leaving f (f c e) log

abbrev pub locked_then : Bool → RecordEvent → Bool
locked_then locked Mark = true
locked_then locked (Called (Put words) reply) = false
locked_then locked (Called (PutIf expected words) Yes) = false
locked_then locked _ = locked

-- a mark stands after all puts: somebody has write mode
abbrev pub is_locked : RecordLog → Bool
is_locked log = leaving (λ locked e. locked_then locked e.made) false log

abbrev pub marker_then : List ℕ → List ℕ → RecordEvent → List ℕ
marker_then marker name Mark = name
marker_then marker name _ = marker

-- the name of the pass that made the last mark
abbrev pub marker_in : RecordLog → List ℕ
marker_in log = leaving (λ marker e. marker_then marker e.name e.made) [] log

-- the lock word
abbrev pub word_after : Layout → RecordLog → ℕ
word_after layout log = word_with layout (puts log) (is_locked log)

-- the event is a call, and no mark
abbrev pub is_call : RecordEvent → Bool
is_call Mark = false
is_call (Called call reply) = true

abbrev pub is_mark : RecordEvent → Bool
is_mark Mark = true
is_mark (Called call reply) = false

abbrev pub marks_of : List ℕ → RecordLog → ℕ
marks_of name log = length (made_by is_mark name log)
