-- What a decision on a word has to be, whatever events the word represents.
use Rattle.std.specs.Prelude.{ℕ, ◌≡◌, ◌≢◌, ◌<◌, ◌^◌, List, [], ◌++◌, Option, Some, None, MatchOption}
use Rattle.stamp_core.specs.LockEvent.{LockEvent}
use Rattle.stamp_core.specs.Limits.{Bounds}
use Rattle.stamp_core.specs.Word.{LockWord, Represents}
use Rattle.stamp_core.specs.Transition.{transition}
use Rattle.stamp_core.specs.History.{appended_by, Replies}
use Rattle.stamp_core.specs.declared.call.Call.{Call}
use Rattle.stamp_core.specs.declared.reply.Reply.{Reply}
use Rattle.stamp_core.specs.declared.reply.Reply.TheVariants.{Stamp}
use Rattle.stamp_core.specs.declared.decision.Decision.{Decision}
use Rattle.stamp_core.specs.declared.decision.Decision.TheVariants.{Answer, Change, Wait}

-- the call's transition after these events appends nothing, and has this reply
abbrev pub Stays : Bounds → List LockEvent → Call → Reply → Type 0
Stays limits events call reply = transition limits events call ≡ Some (record { appended = []; reply = reply })

-- the call's transition after these events appends some, and has this reply; the new word is
-- another one and represents the events with those appended
pub record Moves (limits : Bounds) (events : List LockEvent) (call : Call) (old new : LockWord) (reply : Reply) :
    Type 0 where
  pub appended : List LockEvent
  pub some : appended ≢ []
  pub transition_is : transition limits events call ≡ Some (record { appended = appended; reply = reply })
  pub represented : Represents limits new (events ++ appended)
  pub other : new ≢ old

-- the word answers the call with this reply
abbrev pub Answers : Bounds → LockWord → Call → Reply → Type 0
Answers limits word call reply = (events : List LockEvent) → Represents limits word events →
    Stays limits events call reply

-- the call changes the old word to the new one, with this reply
abbrev pub Changes : Bounds → LockWord → Call → LockWord → Reply → Type 0
Changes limits old call new reply = (events : List LockEvent) → Represents limits old events →
    Moves limits events call old new reply

-- the call has no transition on this word: it waits
abbrev pub HasNone : Bounds → LockWord → Call → Type 0
HasNone limits word call = (events : List LockEvent) → Represents limits word events →
    transition limits events call ≡ None

-- the decision is the call's transition, whatever events the word represents
abbrev pub Decides : Bounds → LockWord → Call → Decision → Type 0
Decides limits word call (Answer reply) = Answers limits word call reply
Decides limits word call (Change new reply) = Changes limits word call new reply
Decides limits word call Wait = HasNone limits word call

-- the word that a call leaves, which represents the events with those appended, and its reply; none
-- where the call has no transition
pub record IsTransition (limits : Bounds) (word : LockWord) (call : Call) (found : Option (LockWord × Reply)) :
    Type 0 where
  pub after : (events : List LockEvent) → Represents limits word events →
      MatchOption found (transition limits events call ≡ None)
      (λ x. Represents limits x.0 (events ++ appended_by (transition limits events call)) ×
      Replies (transition limits events call) x.1)

-- the stamp in a reply, and 0 where there is none
abbrev pub stamp_in : Reply → ℕ
stamp_in (Stamp s) = s
stamp_in _ = 0

-- the stamp that is answered is below 2^63
abbrev pub StampIsBelowTop : Decision → Type 0
StampIsBelowTop (Answer reply) = stamp_in reply < 2 ^ 63
StampIsBelowTop (Change new reply) = stamp_in reply < 2 ^ 63
StampIsBelowTop Wait = Unit {0}
