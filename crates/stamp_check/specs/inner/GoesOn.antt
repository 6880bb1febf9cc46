-- What lock and record do at a call of a history that has this reply.
use Rattle.std.specs.Prelude.{ℕ, ◌≡◌, List, ◌++◌, Option, MatchOption}
use Rattle.stamp_core.specs.LockEvent.{LockEvent}
use Rattle.stamp_core.specs.Limits.{Bounds}
use Rattle.stamp_core.specs.Word.{Represents, word_at}
use Rattle.stamp_core.specs.Content.{RecordReplies, content_next}
use Rattle.stamp_core.specs.Transition.{transition}
use Rattle.stamp_core.specs.History.{Replies, appended_by}
use Rattle.stamp_core.specs.declared.call.Call.{Call}
use Rattle.stamp_core.specs.declared.reply.Reply.{Reply}

-- the number of the word that a call of the lock leaves, where the lock replies so after whatever
-- events the word represents
pub record LockGoesOn (limits : Bounds) (bits : ℕ) (call : Call) (reply : Reply) (found : Option ℕ) : Type 0 where
  pub after : (events : List LockEvent) → Represents limits (word_at limits bits) events →
      MatchOption found (¬ Replies (transition limits events call) reply)
      (λ next. Replies (transition limits events call) reply ×
      Represents limits (word_at limits next) (events ++ appended_by (transition limits events call)))

-- the content that a call of the record leaves, where the record replies so
abbrev pub RecordGoesOn : List ℕ → Call → Reply → Option (List ℕ) → Type 0
RecordGoesOn content call reply found =
    MatchOption found (¬ RecordReplies content call reply)
    (λ next. RecordReplies content call reply × (next ≡ content_next content call reply))
