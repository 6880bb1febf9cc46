-- What the text of a replay is answered.
use Rattle.std.specs.Prelude.{◌≡◌, ◌≢◌, ℕ, List, Result, Ok, Err, Vec}
use Rattle.std.specs.declared.alloc.Global.{Global}
use Rattle.stamp_core.specs.Word.{LockWord}
use Rattle.stamp_core.specs.Replayed.{IsReplayed, WaitsAt}
use Rattle.stamp_core.specs.declared.reply.Reply.{Reply}
use Rattle.stamp_history.specs.Replay.{Replay, replay_of}
use Rattle.stamp_history.specs.ReplayText.{replayed_text}
use Rattle.stamp_history.specs.declared.read_error.ReadError.{ReadError}
use Rattle.stamp_history.specs.declared.read_error.ReadError.TheVariants.{Memory}
use Rattle.stamp_history.specs.declared.answer_error.AnswerError.{AnswerError}
use Rattle.stamp_history.specs.declared.answer_error.AnswerError.TheVariants.{Refused, Waits}

-- the text has the replies to the calls, and the word that they leave
pub record IsReplayedText (replay : Replay) (text : List ℕ) : Type 0 where
  pub replies : List Reply
  pub word : LockWord
  pub replayed : IsReplayed replay.limits replay.calls replies word
  pub is : text ≡ replayed_text replies word.bits

-- the answer to a reading: the text of the replies, the call that waits, or the reading's refusal
abbrev pub IsReplayTextAnswer : Result Replay ReadError → Result (List ℕ) AnswerError → Type 0
IsReplayTextAnswer (Ok replay) (Ok text) = IsReplayedText replay text
IsReplayTextAnswer (Ok replay) (Err (Waits i)) = WaitsAt replay.limits replay.calls i
IsReplayTextAnswer (Ok replay) (Err (Refused e)) = ⊥
IsReplayTextAnswer (Err e) (Ok text) = ⊥
IsReplayTextAnswer (Err e) (Err fault) = fault ≡ Refused e

-- memory aside
abbrev pub AnswersReplayText : List ℕ → Result (Vec ℕ Global) AnswerError → Type 0
AnswersReplayText bytes (Ok text) = IsReplayTextAnswer (replay_of bytes) (Ok text.items)
AnswersReplayText bytes (Err fault) = fault ≢ Refused Memory → IsReplayTextAnswer (replay_of bytes) (Err fault)
