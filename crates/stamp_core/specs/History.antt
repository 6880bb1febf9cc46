-- Sequential histories of lock and record: the events and the content that they leave, and which are legal.
-- A legal history is one of the sequential specification.
use Rattle.std.specs.Prelude.{ℕ, ◌≡◌, List, [], ◌∷◌, ◌++◌, Option, Some, None}
use Rattle.std.specs.Bool.{MatchBool}
use Rattle.stamp_core.specs.LockEvent.{LockEvent}
use Rattle.stamp_core.specs.Limits.{Bounds}
use Rattle.stamp_core.specs.Call.{is_lock_call}
use Rattle.stamp_core.specs.Content.{zeros, content_next, RecordReplies}
use Rattle.stamp_core.specs.Transition.{Transition, transition}
use Rattle.stamp_core.specs.declared.call.Call.{Call}
use Rattle.stamp_core.specs.declared.reply.Reply.{Reply}

-- calls with their replies, the oldest first
abbrev pub History : Type 0
History = List (Call × Reply)

-- the events that a transition appends; none appends none
abbrev pub appended_by : Option Transition → List LockEvent
appended_by None = []
appended_by (Some t) = t.appended

-- the transition has this reply
abbrev pub Replies : Option Transition → Reply → Type 0
Replies None reply = ⊥
Replies (Some t) reply = t.reply ≡ reply

-- the content that calls leave of this content
abbrev pub content_from : List ℕ → History → List ℕ
content_from content [] = content
content_from content (e ∷ es) = content_from (content_next content e.0 e.1) es

-- these events with those that the calls append
abbrev pub events_from : Bounds → List LockEvent → History → List LockEvent
events_from limits events [] = events
events_from limits events (e ∷ es) = events_from limits (events ++ appended_by (transition limits events e.0)) es

-- the events of a history; the record's calls append none
abbrev pub events_of : Bounds → History → List LockEvent
events_of limits history = events_from limits [] history

-- the words of the last put, or of the last put_if that was answered yes; zeros where there is none
abbrev pub content_after : ℕ → History → List ℕ
content_after width history = content_from (zeros width) history

-- the reply of the lock, or of the record
abbrev pub IsReply : Bounds → List LockEvent → List ℕ → Call → Reply → Type 0
IsReply limits events content call reply = MatchBool (is_lock_call call)
    (Replies (transition limits events call) reply) (RecordReplies content call reply)

-- each call has just this reply after those before it
abbrev pub IsLegalFrom : Bounds → List LockEvent → List ℕ → History → Type 0
IsLegalFrom limits events content [] = Unit {0}
IsLegalFrom limits events content (e ∷ es) =
    IsReply limits events content e.0 e.1 × IsLegalFrom limits
    (events ++ appended_by (transition limits events e.0)) (content_next content e.0 e.1) es

-- so it is from the opening on, with a record of this many words
abbrev pub IsLegal : Bounds → ℕ → History → Type 0
IsLegal limits width history = IsLegalFrom limits [] (zeros width) history
