-- The replies to calls, appended to a text.
use Rattle.std.specs.Prelude.{◌≡◌, ◌++◌, ℕ, List, Result, Ok, Err}
use Rattle.serde_json.specs.Written.{compact_text}
use Rattle.stamp_core.specs.Limits.{Bounds}
use Rattle.stamp_core.specs.Word.{LockWord}
use Rattle.stamp_core.specs.Replayed.{IsReplayed, WaitsAt}
use Rattle.stamp_core.specs.declared.call.Call.{Call}
use Rattle.stamp_core.specs.declared.reply.Reply.{Reply}
use Rattle.stamp_history.specs.ReplayText.{replies_data}
use Rattle.stamp_history.specs.declared.read_error.ReadError.TheVariants.{Memory}
use Rattle.stamp_history.specs.declared.answer_error.AnswerError.{AnswerError}
use Rattle.stamp_history.specs.declared.answer_error.AnswerError.TheVariants.{Refused, Waits}

-- to calls: the list of the replies, appended to a text, and the word; or the call that waits
abbrev pub RepliesTo : Bounds → List Call → List ℕ → List ℕ → Result LockWord AnswerError → Type 0
RepliesTo limits calls old new (Ok word) = (replies : List Reply) ×
    (new ≡ old ++ compact_text (replies_data replies)) × IsReplayed limits calls replies word
RepliesTo limits calls old new (Err (Waits i)) = WaitsAt limits calls i
RepliesTo limits calls old new (Err (Refused e)) = e ≡ Memory
