-- What a guarded record holds, and what its calls are answered.
use Rattle.std.specs.Prelude.{ℕ, Bool, ◌≡◌, List, replicate, nat_eq, if◌then◌else◌}
use Rattle.std.specs.Cmp.Lexicographic.{pointwise}
use Rattle.stamp_core.specs.declared.call.Call.{Call}
use Rattle.stamp_core.specs.declared.call.Call.TheVariants.{Get, Put, PutIf}
use Rattle.stamp_core.specs.declared.reply.Reply.{Reply}
use Rattle.stamp_core.specs.declared.reply.Reply.TheVariants.{Yes, No, Done, Content}

-- what a record of this many words holds at first
abbrev pub zeros : ℕ → List ℕ
zeros width = replicate width 0

abbrev pub same_words : List ℕ → List ℕ → Bool
same_words = pointwise nat_eq

-- what the record holds after a call and its reply: the words of a put, or of a put_if that was answered yes
abbrev pub content_next : List ℕ → Call → Reply → List ℕ
content_next content (Put words) reply = words
content_next content (PutIf expected words) Yes = words
content_next content _ _ = content

-- the reply of a record that holds this content
abbrev pub RecordReplies : List ℕ → Call → Reply → Type 0
RecordReplies content Get reply = reply ≡ Content content
RecordReplies content (Put words) reply = reply ≡ Done
RecordReplies content (PutIf expected words) reply = reply ≡ (if same_words content expected then Yes else No)
RecordReplies content _ reply = ⊥
