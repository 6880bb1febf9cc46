-- One transition of the sequential lock on a word.
use Rattle.std.proofs.Common.{refl, Some, None}
use Rattle.std.proofs.lemmas.List.{append-nil}
use Rattle.stamp_core.specs.Limits.{Bounds}
use Rattle.stamp_core.specs.Word.{LockWord}
use Rattle.stamp_core.specs.Decision.{Answers, Changes, HasNone, IsTransition}
use Rattle.stamp_core.specs.declared.call.Call.{Call}
use Rattle.stamp_core.specs.declared.reply.Reply.{Reply}

pub answered : (limits : Bounds) (word : LockWord) (call : Call) (reply : Reply) → Answers limits word call reply →
    IsTransition limits word call (Some (word, reply))
answered limits word call reply answers = record {
  after = λ events represented. rw (answers events represented, append-nil events) (represented, refl);
}

pub changed : (limits : Bounds) (word new : LockWord) (call : Call) (reply : Reply) →
    Changes limits word call new reply → IsTransition limits word call (Some (new, reply))
changed limits word new call reply changes = record {
  after = λ events represented. let m = changes events represented in rw m.transition_is (m.represented, refl);
}

pub waited : (limits : Bounds) (word : LockWord) (call : Call) → HasNone limits word call →
    IsTransition limits word call None
waited limits word call none = record { after = none }
