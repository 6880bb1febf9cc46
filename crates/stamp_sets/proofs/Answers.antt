-- The effect of a call by the one reply that it has in the states of a number.
use Rattle.std.specs.Prelude.{slice_index_or}
use Rattle.std.proofs.Common.{ℕ, ◌≡◌, ◌∙◌, refl, sym, ap, subst, None}
use Rattle.stamp_core.specs.declared.call.Call.{Call}
use Rattle.stamp_core.specs.declared.lock_decision.LockReply.TheVariants as lock
use Rattle.stamp_core.specs.declared.reply.Reply.{Reply}
use Rattle.stamp_core.specs.declared.reply.Reply.TheVariants.{Stamp, Yes, No, Done, Mismatch, Count, Content}
use Rattle.stamp_sets.specs.declared.ending.Ending.{Ending}
use Rattle.stamp_sets.specs.declared.ending.Ending.TheVariants.{Never, Returns, Withdraws}
use Rattle.stamp_sets.specs.declared.open_call.OpenCall.{OpenCall}
use Rattle.stamp_sets.specs.declared.small_call.SmallReply.{SmallReply}
use Rattle.stamp_sets.specs.declared.small_call.SmallReply.TheVariants as small
use Rattle.stamp_sets.specs.Judged.{Judged}
use Rattle.stamp_sets.specs.SmallCall.{call_of, reply_of}
use Rattle.stamp_sets.specs.Told.{MayGet}
use Rattle.stamp_sets.specs.inner.Effect.{IsEffect, Leaves}
use Rattle.stamp_sets.specs.inner.Ended.{IsReturn}

-- the small reply that tells a reply of one word or none
abbrev told_by : Reply → SmallReply
told_by (Stamp s) = small.OfLock (lock.Stamp s)
told_by Yes = small.OfLock lock.Yes
told_by No = small.OfLock lock.No
told_by Done = small.OfLock lock.Done
told_by Mismatch = small.OfLock lock.Mismatch
told_by (Count n) = small.OfLock (lock.Count n)
told_by (Content words) = small.Content (slice_index_or words 0 0)

told_back : (reply : SmallReply) → told_by (reply_of reply) ≡ reply
told_back (small.OfLock lock.Yes) = refl
told_back _ = refl

-- other small replies tell others
pub one_reply : (reply other : SmallReply) → reply_of reply ≡ reply_of other → reply ≡ other
one_reply reply other same = sym (told_back reply) ∙ ap told_by same ∙ told_back other

-- the call has this reply in each state of the number, and leaves one of the other number
pub record IsAnswered {S : Type 0} (o : Judged S) (number : ℕ) (call : Call) (told : SmallReply) (then : ℕ) : Type 0
  where
    pub some : (s : S) → o.holds number s → (next : S) × (o.step s call (reply_of told) next × o.holds then next)
    pub only : (s next : S) (other : Reply) → o.holds number s → o.step s call other next →
        (other ≡ reply_of told) × o.holds then next

-- and none changes
abbrev pub Stays : {S : Type 0} → Judged S → ℕ → Call → Type 0
Stays {S} o number call = (s next : S) (reply : Reply) → o.holds number s → o.step s call reply next → next ≡ s

module _ {S : Type 0} (o : Judged S) (number then : ℕ) (begun : OpenCall) (call : Call) (told : SmallReply)
    (asks : call_of begun.asks ≡ call) (is : IsAnswered o number call told then) where
  may_return : (ends : Ending) → IsReturn ends told → MayGet ends (reply_of told)
  may_return (Returns reply place) same = ap reply_of same
  may_return Withdraws none = none
  may_return Never none = absurd none

  never : (ends : Ending) → (IsReturn ends told → ⊥) → MayGet ends (reply_of told) → ends ≡ Never
  never (Returns reply place) not same = absurd (not (one_reply reply told same))
  never Withdraws not none = absurd none
  never Never not some = refl

  stepped : (s next : S) (reply : Reply) → o.step s (call_of begun.asks) reply next → o.step s call reply next
  stepped s next reply step = subst (λ (c : Call). o.step s c reply next) asks step

  got : (s next : S) (reply : Reply) → o.holds number s → MayGet begun.ends reply →
      o.step s (call_of begun.asks) reply next → MayGet begun.ends (reply_of told)
  got s next reply holds gets step = subst (λ (r : Reply). MayGet begun.ends r)
      (is.only s next reply holds (stepped s next reply step)).0 gets

  pub taken : MayGet begun.ends (reply_of told) → Leaves o number begun then
  taken gets = record {
    some = λ s holds. let one = is.some s holds in record {
      reply = reply_of told;
      next = one.0;
      may = gets;
      step = subst (λ (c : Call). o.step s c (reply_of told) one.0) (sym asks) one.1.0;
      holds = one.1.1;
    };
    each = λ s next reply holds gets_it step. (is.only s next reply holds (stepped s next reply step)).1;
  }

  pub returned : IsReturn begun.ends told → Leaves o number begun then
  returned is_return = taken (may_return begun.ends is_return)

  -- it may not get the reply
  pub not_taken : ¬ MayGet begun.ends (reply_of told) → IsEffect o number begun None
  not_taken not s next reply holds gets step = absurd (not (got s next reply holds gets step))

  -- it does not return with it, and changes nothing
  pub not_returned : Stays o number call → o.overwrites begun ≡ None → ¬ IsReturn begun.ends told →
      IsEffect o number begun None
  not_returned stays overwrites not s next reply holds gets step = (
    never begun.ends not (got s next reply holds gets step),
    stays s next reply holds (stepped s next reply step),
    overwrites,
  )
