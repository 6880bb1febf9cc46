-- What holds of the calls of any object.
use Rattle.std.proofs.Common.{ℕ, ◌≡◌, List, true, sym, subst}
use Rattle.stamp_core.specs.Content.{RecordReplies}
use Rattle.stamp_core.specs.LockCall.{call_as}
use Rattle.stamp_core.specs.LockDecision.{reply_as}
use Rattle.stamp_core.specs.Limits.{Bounds}
use Rattle.stamp_core.specs.declared.lock_call.LockCall.{LockCall}
use Rattle.stamp_core.specs.declared.lock_call.LockCall.TheVariants.{TryWrite}
use Rattle.stamp_core.specs.declared.lock_decision.LockReply.{LockReply}
use Rattle.stamp_core.specs.declared.lock_decision.LockReply.TheVariants.{No}
use Rattle.stamp_core.specs.declared.reply.Reply.{Reply}
use Rattle.stamp_runs.specs.LockRun.{DoSame}
use Rattle.stamp_runs.specs.Object.{LockStep}
use Rattle.stamp_runs.specs.Run.{AreAlike}
use Rattle.stamp_sets.specs.declared.object.Object.{Object}
use Rattle.stamp_sets.specs.declared.object.Object.TheVariants.{Lock, Record}
use Rattle.stamp_sets.specs.declared.small_call.SmallCall.{SmallCall}
use Rattle.stamp_sets.specs.declared.small_call.SmallCall.TheVariants.{OfLock, Get, PutIf}
use Rattle.stamp_sets.specs.declared.small_call.SmallReply.{SmallReply}
use Rattle.stamp_sets.specs.declared.small_call.SmallReply.TheVariants as small
use Rattle.stamp_sets.specs.Judged.{judged}
use Rattle.stamp_sets.specs.SmallCall.{call_of}
use Rattle.stamp_sets.specs.inner.Effect.{ChangesNothing}
use Rattle.stamp_sets.specs.Unchanging.{changes_nothing}
use Rattle.stamp_runs.proofs.Objects.{does_as}
use Rattle.stamp_sets.proofs.DoingSame.{same_back}
use Rattle.stamp_sets.proofs.Unchanging.{unchanging_stays}

-- the record answers no call of the lock
pub not_of_record : (call : LockCall) (content : List ℕ) (reply : Reply) → RecordReplies content (call_as call) reply →
    ⊥
not_of_record TryWrite content reply none = none
not_of_record _ content reply none = none

pub unchanging_of_lock : (call : LockCall) (reply : LockReply) →
    changes_nothing (call_as call) (reply_as reply) ≡ true → (object : Object) →
    ChangesNothing (judged object) (OfLock call) (small.OfLock reply)
unchanging_of_lock call reply still (Lock limits) s next step =
    unchanging_stays limits (call_as call) (reply_as reply) still s next step
unchanging_of_lock call reply still Record s next step =
    absurd (not_of_record call s (reply_as reply) step.replies)

pub get_changes_nothing : (reply : SmallReply) (object : Object) → ChangesNothing (judged object) Get reply
get_changes_nothing reply (Lock limits) s next step = absurd step.replies
get_changes_nothing reply Record s next step = step.leaves

pub put_if_changes_nothing : (expected number : ℕ) (object : Object) →
    ChangesNothing (judged object) (PutIf expected number) (small.OfLock No)
put_if_changes_nothing expected number (Lock limits) s next step = absurd step.replies
put_if_changes_nothing expected number Record s next step = step.leaves

pub alike_of_lock : (limits : Bounds) (first second : LockCall) (object : Object) (call other : SmallCall) →
    object ≡ Lock limits → call ≡ OfLock first → other ≡ OfLock second →
    DoSame limits (call_as first) (call_as second) →
    AreAlike (judged object).step (call_of call) (call_of other)
alike_of_lock limits first second object call other is one two same =
    subst (λ (o : Object). AreAlike (judged o).step (call_of call) (call_of other)) (sym is)
    (subst (λ (k : SmallCall). AreAlike (LockStep limits) (call_of k) (call_of other)) (sym one)
    (subst (λ (k : SmallCall). AreAlike (LockStep limits) (call_as first) (call_of k)) (sym two) (record {
      does = does_as limits (call_as first) (call_as second) same;
      done_by = does_as limits (call_as second) (call_as first) (same_back limits (call_as first) (call_as second)
          same);
    })))
