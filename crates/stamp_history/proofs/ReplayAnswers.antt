-- From the parts of a text's answer to the answer.
use Rattle.std.proofs.Common.{◌≡◌, ◌≢◌, ℕ, List, Vec, Result, Ok, Err, sym, ◌∙◌, ap, subst}
use Rattle.std.specs.Prelude.{IsErrAnd}
use Rattle.std.specs.declared.alloc.Global.{Global}
use Rattle.serde_json.specs.Written.{compact_text}
use Rattle.stamp_core.specs.Word.{LockWord}
use Rattle.stamp_core.specs.Replayed.{IsReplayed}
use Rattle.stamp_core.specs.declared.reply.Reply.{Reply}
use Rattle.stamp_history.specs.Replay.{Replay, replay_of}
use Rattle.stamp_history.specs.ReplayText.{replayed_data, replayed_text}
use Rattle.stamp_history.specs.ReplayAnswer.{IsReplayTextAnswer, AnswersReplayText}
use Rattle.stamp_history.specs.inner.ReplayAnswer.{RepliesTo}
use Rattle.stamp_history.specs.declared.read_error.ReadError.{ReadError}
use Rattle.stamp_history.specs.declared.read_error.ReadError.TheVariants.{Memory}
use Rattle.stamp_history.specs.declared.answer_error.AnswerError.{AnswerError}
use Rattle.stamp_history.specs.declared.answer_error.AnswerError.TheVariants.{Refused, Waits}

-- the text of the replies
pub answered : (bytes : List ℕ) (replay : Replay) → replay_of bytes ≡ Ok replay →
    (replies : List Reply) (word : LockWord) → IsReplayed replay.limits replay.calls replies word → (number : ℕ) →
    number ≡ word.bits → {text : List ℕ} → text ≡ compact_text (replayed_data replies number) →
    IsReplayTextAnswer (replay_of bytes) (Ok text)
unfolding replayed_text
answered bytes replay reading replies word replayed number bits {text} is =
    rw reading (record {
      replies = replies;
      word = word;
      replayed = replayed;
      is = is ∙ ap (λ (n : ℕ). compact_text (replayed_data replies n)) bits;
    })

-- a refusal of the reading, passed on
pub refused : (bytes : List ℕ) (r : Result (Vec ℕ Global) AnswerError) (e : ReadError) →
    IsErrAnd r (λ f. f ≡ Refused e) → (e ≢ Memory → replay_of bytes ≡ Err e) → AnswersReplayText bytes r
refused bytes (Ok text) e handed reading = absurd handed
refused bytes (Err f) e handed reading = λ other.
    let not_memory : e ≢ Memory = λ m. other (handed ∙ ap Refused m) in
    rw (reading not_memory) handed

-- a call that waits, passed on
pub waited : (bytes : List ℕ) (replay : Replay) (old new : List ℕ) (r : Result (Vec ℕ Global) AnswerError)
    (f : AnswerError) → replay_of bytes ≡ Ok replay → IsErrAnd r (λ g. g ≡ f) →
    RepliesTo replay.limits replay.calls old new (Err f) → AnswersReplayText bytes r
waited bytes replay old new (Ok text) f reading handed replies = absurd handed
waited bytes replay old new (Err g) f reading handed replies =
    subst (λ (h : AnswerError). AnswersReplayText bytes (Err h)) (sym handed) (λ other. by f other replies)
  where
    by : (h : AnswerError) → h ≢ Refused Memory → RepliesTo replay.limits replay.calls old new (Err h) →
        IsReplayTextAnswer (replay_of bytes) (Err h)
    by (Waits i) other waits = rw reading waits
    by (Refused e) other memory = absurd (other (ap Refused memory))
