-- Sequential objects that answer calls: the lock, and a guarded record.
use Rattle.std.specs.Prelude.{ℕ, ◌≡◌, ◌++◌, List}
use Rattle.stamp_core.specs.LockEvent.{LockEvent}
use Rattle.stamp_core.specs.Limits.{Bounds}
use Rattle.stamp_core.specs.Transition.{transition}
use Rattle.stamp_core.specs.History.{Replies, appended_by}
use Rattle.stamp_core.specs.Content.{RecordReplies, content_next}
use Rattle.stamp_core.specs.declared.call.Call.{Call}
use Rattle.stamp_core.specs.declared.reply.Reply.{Reply}

-- an object: in a state a call may get this reply, and leave that state
abbrev pub Object : Type 0 → Type 1
Object S = S → Call → Reply → S → Type 0

-- the lock answers the call so, and these are its events then
pub record LockStep (limits : Bounds) (s : List LockEvent) (call : Call) (reply : Reply) (next : List LockEvent) : Type
    0 where
  pub replies : Replies (transition limits s call) reply
  pub appends : next ≡ s ++ appended_by (transition limits s call)

-- the record answers the call so, and these are its words then
pub record RecordStep (content : List ℕ) (call : Call) (reply : Reply) (next : List ℕ) : Type 0 where
  pub replies : RecordReplies content call reply
  pub leaves : next ≡ content_next content call reply
