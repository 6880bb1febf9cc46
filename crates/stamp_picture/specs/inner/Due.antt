-- What the record alone would have answered.
use Rattle.std.specs.Prelude.{ℕ, ◌≡◌, List, Option, Some, None, true}
use Rattle.stamp_core.specs.Call.{is_lock_call}
use Rattle.stamp_core.specs.Content.{RecordReplies}
use Rattle.stamp_core.specs.declared.call.Call.{Call}
use Rattle.stamp_core.specs.declared.reply.Reply.{Reply}

-- the reply of a record that holds this content; none to a call of the lock
abbrev pub ContentAnswers : List ℕ → Call → Option Reply → Type 0
ContentAnswers content call None = is_lock_call call ≡ true
ContentAnswers content call (Some reply) = RecordReplies content call reply
