-- Contents by other names: a content is told by another one.
use Rattle.std.specs.Prelude.{ℕ, ◌≡◌, List}
use Rattle.stamp_core.specs.declared.call.Call.{Call}
use Rattle.stamp_core.specs.declared.call.Call.TheVariants.{Put, PutIf}
use Rattle.stamp_core.specs.declared.reply.Reply.{Reply}
use Rattle.stamp_core.specs.declared.reply.Reply.TheVariants.{Content}
use Rattle.stamp_runs.specs.declared.event.Event.{Event}
use Rattle.stamp_runs.specs.declared.event.Event.TheVariants.{Begins, Returns, Withdraws}

-- the name of each content
abbrev pub Names : Type 0
Names = List ℕ → List ℕ

-- different contents have different names
abbrev pub AreDifferent : Names → Type 0
AreDifferent name = (a b : List ℕ) → name a ≡ name b → a ≡ b

-- a call, a reply and an event, with their contents by name
abbrev pub call_by : Names → Call → Call
call_by name (Put words) = Put (name words)
call_by name (PutIf expected words) = PutIf (name expected) (name words)
call_by name call = call

abbrev pub reply_by : Names → Reply → Reply
reply_by name (Content words) = Content (name words)
reply_by name reply = reply

abbrev pub event_by : Names → Event → Event
event_by name (Begins lane call) = Begins lane (call_by name call)
event_by name (Returns lane reply) = Returns lane (reply_by name reply)
event_by name (Withdraws lane) = Withdraws lane

-- so it is of each content that a call, a reply and an event tell
abbrev pub EachOfCall : (List ℕ → Type 0) → Call → Type 0
EachOfCall P (Put words) = P words
EachOfCall P (PutIf expected words) = P expected × P words
EachOfCall P call = Unit {0}

abbrev pub EachOfReply : (List ℕ → Type 0) → Reply → Type 0
EachOfReply P (Content words) = P words
EachOfReply P reply = Unit {0}

abbrev pub EachOfEvent : (List ℕ → Type 0) → Event → Type 0
EachOfEvent P (Begins lane call) = EachOfCall P call
EachOfEvent P (Returns lane reply) = EachOfReply P reply
EachOfEvent P (Withdraws lane) = Unit {0}
