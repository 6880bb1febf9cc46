-- What lock and record reply after entries.
use Rattle.std.specs.Prelude.{ℕ, List}
use Rattle.stamp_core.specs.Limits.{Bounds}
use Rattle.stamp_core.specs.Content.{RecordReplies}
use Rattle.stamp_core.specs.Transition.{transition}
use Rattle.stamp_core.specs.History.{Replies, events_of, content_after}
use Rattle.stamp_core.specs.Linearized.{history_of}
use Rattle.stamp_core.specs.declared.entry.Entry.{Entry}

-- the entry's reply is the lock's to its call, after the entries before it
abbrev pub LockReplies : Bounds → List Entry → Entry → Type 0
LockReplies limits before e = Replies (transition limits (events_of limits (history_of before)) e.call) e.reply

-- the entry's reply is the record's to its call, after the entries before it
abbrev pub ContentReplies : ℕ → List Entry → Entry → Type 0
ContentReplies width before e = RecordReplies (content_after width (history_of before)) e.call e.reply
