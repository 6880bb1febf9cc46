-- What a decision is, by the counts of a word's number.
use Rattle.std.specs.Prelude.{ℕ, List, [], ◌∷◌, Option, Some, None}
use Rattle.stamp_core.specs.LockEvent.{LockEvent, Counts}
use Rattle.stamp_core.specs.Limits.{Bounds, units}
use Rattle.stamp_core.specs.Word.{LockWord, word_at, word_number}
use Rattle.stamp_core.specs.Transition.{Transition, row}
use Rattle.stamp_core.specs.Decoded.{counts_in, after_events}
use Rattle.stamp_core.specs.declared.call.Call.{Call}
use Rattle.stamp_core.specs.declared.reply.Reply.{Reply}
use Rattle.stamp_core.specs.declared.decision.Decision.{Decision}
use Rattle.stamp_core.specs.declared.decision.Decision.TheVariants.{Answer, Change, Wait}

abbrev pub by_events : Bounds → Counts → List LockEvent → Reply → Decision
by_events limits c [] reply = Answer reply
by_events limits c (event ∷ appended) reply =
    Change (word_at limits (word_number (units limits) (after_events c (event ∷ appended)))) reply

abbrev pub by_transition : Bounds → Counts → Option Transition → Decision
by_transition limits c None = Wait
by_transition limits c (Some t) = by_events limits c t.appended t.reply

abbrev pub decision_of : Bounds → LockWord → Call → Decision
decision_of limits word call = by_transition limits (counts_in word) (row limits (counts_in word) call)

-- what a call does to the word of this number. The crates above name it, and know of it what
-- laws.decisions_are_transitions says
unfoldable pub decision : Bounds → ℕ → Call → Decision
decision limits number call = decision_of limits (word_at limits number) call
