-- The note of what is found of a stream.
use Rattle.std.specs.Prelude.{ℕ, ◌≡◌, ◌++◌, List, Option, Some, None, Result, Ok, Err, String, codes, decimal}
use Rattle.std.specs.Prelude.{string_bytes}
use Rattle.std.specs.declared.alloc.AllocError.{AllocError}
use Rattle.std.specs.declared.alloc.Global.{Global}
use Rattle.stamp_core.specs.Texts.{call_text, reply_text}
use Rattle.stamp_core.specs.declared.reply.Reply.{Reply}
use Rattle.stamp_runs.specs.declared.event.Event.{Event}
use Rattle.stamp_watch.specs.declared.ended_call.EndedCall.{EndedCall}
use Rattle.stamped_watch.specs.declared.finding.Finding.{Finding}
use Rattle.stamped_watch.specs.declared.finding.Finding.TheVariants.{Stuck, StuckWithin, Late}
use Rattle.stamped_watch.specs.declared.header.Header.{Header}
use Rattle.stamped_watch.specs.declared.orders.Watching.{Watching}
use Rattle.stamp_watch.specs.EndedCall.{IsEndedAt}
use Rattle.stamped_watch.specs.Possible.{AreToldOf, items_in, possible_text}
use Rattle.stamped_watch.specs.declared.stuck_end.StuckEnd.{StuckEnd}
use Rattle.stamped_watch.specs.Stream.{IsStream}

abbrev pub end_text : Option Reply → List ℕ
end_text (Some reply) = codes "answered " ++ reply_text reply
end_text None = codes "was withdrawn"

-- the call that ends at the event, and how
abbrev pub ended_text : ℕ → EndedCall → List ℕ
ended_text k ended = codes "stamped_watch: event " ++ (decimal k ++ (codes ", lane " ++ (decimal ended.lane ++
    (codes ": " ++ (call_text ended.call ++ (codes " " ++ end_text ended.reply))))))

-- and which replies were possible, as far as is told
abbrev pub stuck_text : ℕ → EndedCall → Option (List Reply) → List ℕ
stuck_text k ended replies = ended_text k ended ++ possible_text replies

abbrev pub within_text : List ℕ
within_text = codes "stamped_watch: no order explains the run; from which event on is undecided"

abbrev pub late_text : ℕ → List ℕ
late_text ahead = codes "stamped_watch: a call was open for nearly " ++ (decimal ahead ++
    codes " events; a larger --ahead may tell more")

-- the call ends at the event of this number in the stream
pub record EndsThere (bytes : List ℕ) (k : ℕ) (ended : EndedCall) : Type 0 where
  pub header : Header
  pub events : List Event
  pub rest : List ℕ
  pub stream : IsStream bytes header events rest
  pub ends : IsEndedAt events k ended

-- the call that ends at the event of this number in the stream, and the replies that it could have had
pub record IsStuckEnd (most ahead : ℕ) (bytes : List ℕ) (k : ℕ) (end : StuckEnd) : Type 0 where
  pub there : EndsThere bytes k end.ended
  pub told : AreToldOf most ahead bytes k end.ended (items_in end.replies)

-- the text tells of those
pub record IsStuckNote (most ahead : ℕ) (bytes : List ℕ) (k : ℕ) (text : List ℕ) : Type 0 where
  pub end : StuckEnd
  pub is : IsStuckEnd most ahead bytes k end
  pub says : text ≡ stuck_text k end.ended (items_in end.replies)

-- the note of what is found of a stream that is stuck, unexplained, or not judged further for calls that began late. In
-- its place: memory was refused. Of another there is none
abbrev pub IsNote : Watching → List ℕ → Finding → Result (Option (String Global)) AllocError → Type 0
IsNote asked bytes (Stuck k) (Ok (Some text)) = IsStuckNote asked.most asked.ahead bytes k (string_bytes text)
IsNote asked bytes (Stuck k) (Ok None) = ⊥
IsNote asked bytes (Stuck k) (Err e) = Unit {0}
IsNote asked bytes (StuckWithin k m) (Ok (Some text)) = string_bytes text ≡ within_text
IsNote asked bytes (StuckWithin k m) (Ok None) = ⊥
IsNote asked bytes (StuckWithin k m) (Err e) = Unit {0}
IsNote asked bytes (Late k) (Ok (Some text)) = string_bytes text ≡ late_text asked.ahead
IsNote asked bytes (Late k) (Ok None) = ⊥
IsNote asked bytes (Late k) (Err e) = Unit {0}
IsNote asked bytes finding note = note ≡ Ok None
