-- Lock and record, taken through calls.
use Rattle.std.specs.Prelude.{ℕ, ◌≡◌, ◌<◌, List, ◌++◌, Option, Some, None, IsTrue, MatchOption}
use Rattle.stamp_core.specs.LockEvent.{LockEvent}
use Rattle.stamp_core.specs.Limits.{Bounds}
use Rattle.stamp_core.specs.Word.{Represents}
use Rattle.stamp_core.specs.Call.{call_suits}
use Rattle.stamp_core.specs.Content.{RecordReplies, content_next}
use Rattle.stamp_core.specs.Transition.{transition}
use Rattle.stamp_core.specs.History.{IsReply, appended_by}
use Rattle.stamp_core.specs.declared.call.Call.{Call}
use Rattle.stamp_core.specs.declared.reply.Reply.{Reply}
use Rattle.stamp_explain.specs.declared.replaying.State.{State}

-- the lock's word represents these events, and the record holds this content, if there is one
pub record IsStateAfter (limits : Bounds) (width : ℕ) (events : List LockEvent) (content : List ℕ) (state : State) :
    Type 0 where
  pub word : Represents limits state.word events
  pub held : 0 < width → state.content ≡ content

-- the record gives the call this reply, and holds this content afterwards; or it gives none
abbrev pub RecordAnswers : List ℕ → Call → Option (List ℕ × Reply) → Type 0
RecordAnswers content call None = (reply : Reply) → ¬ RecordReplies content call reply
RecordAnswers content call (Some x) = RecordReplies content call x.1 × (x.0 ≡ content_next content call x.1)

-- after whatever events and content: the call has this reply, and leaves lock and record in the next state; or it has
-- none
pub record Takes (limits : Bounds) (call : Call) (state next : State) (found : Option Reply) : Type 0 where
  pub after : (width : ℕ) (events : List LockEvent) (content : List ℕ) → IsTrue (call_suits width call) →
      IsStateAfter limits width events content state →
      MatchOption found ((reply : Reply) → ¬ IsReply limits events content call reply)
      (λ reply. IsReply limits events content call reply × IsStateAfter limits width
      (events ++ appended_by (transition limits events call)) (content_next content call reply) next)
