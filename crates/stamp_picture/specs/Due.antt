-- What lock or record would have answered.
use Rattle.std.specs.Prelude.{ℕ, ◌≡◌, List, Option, Some, None, true}
use Rattle.stamp_core.specs.Limits.{Bounds}
use Rattle.stamp_core.specs.LockEvent.{LockEvent}
use Rattle.stamp_core.specs.Call.{is_lock_call}
use Rattle.stamp_core.specs.Transition.{transition}
use Rattle.stamp_core.specs.History.{IsReply, events_of, content_after}
use Rattle.stamp_core.specs.Linearized.{history_of}
use Rattle.stamp_core.specs.declared.call.Call.{Call}
use Rattle.stamp_core.specs.declared.entry.Entry.{Entry}
use Rattle.stamp_core.specs.declared.reply.Reply.{Reply}

-- the reply to a call after events and with this content; none where the lock has no transition, so that the call
-- waits
abbrev pub DueAfter : Bounds → List LockEvent → List ℕ → Call → Option Reply → Type 0
DueAfter limits events content call None = (is_lock_call call ≡ true) × (transition limits events call ≡ None)
DueAfter limits events content call (Some reply) = IsReply limits events content call reply

-- the reply that is due to a call after these entries
abbrev pub IsReplyDue : Bounds → ℕ → List Entry → Call → Option Reply → Type 0
IsReplyDue limits width before call due =
    DueAfter limits (events_of limits (history_of before)) (content_after width (history_of before)) call due
