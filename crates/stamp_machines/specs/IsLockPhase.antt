-- What a lock call under way keeps to.
use Rattle.std.specs.Prelude.{◌≡◌, ℕ, Option, Some, None, true}
use Rattle.stamp_core.specs.Call.{is_lock_call}
use Rattle.stamp_core.specs.Limits.{Bounds}
use Rattle.stamp_core.specs.Word.{LockWord, IsAdmitted, word_at}
use Rattle.stamp_core.specs.CountedDecision.{decision}
use Rattle.stamp_core.specs.declared.call.Call.{Call}
use Rattle.stamp_core.specs.declared.reply.Reply.{Reply}
use Rattle.stamp_core.specs.declared.decision.Decision.TheVariants.{Change}

-- what the call does to a word
pub record Changing (limits : Bounds) (call : Call) (old : ℕ) : Type 0 where
  pub admitted : IsAdmitted limits (word_at limits old)
  pub new : LockWord
  pub reply : Reply
  pub decided : decision limits old call ≡ Change new reply

-- the word that was seen is one that the call changes
abbrev pub IsChanging : Bounds → Call → Option ℕ → Type 0
IsChanging limits call None = Unit {0}
IsChanging limits call (Some old) = Changing limits call old

-- a lock call under way, which has seen such a word, or has seen none
abbrev pub IsLockPhase : Bounds → Call → Option ℕ → Type 0
IsLockPhase limits call seen = (is_lock_call call ≡ true) × IsChanging limits call seen
