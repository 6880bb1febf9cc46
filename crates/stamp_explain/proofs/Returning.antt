-- What is seen when a call returns, with another reply or with none.
use Rattle.std.proofs.Common.{◌≡◌, ◌+◌, ℕ, sym, subst, Option, None, Some, Result, Ok, Err, IfOk}
use Rattle.std.specs.Prelude.{slice_get}
use Rattle.stamp_core.specs.declared.reply.Reply.{Reply}
use Rattle.stamp_explain.specs.declared.observed.Observation.{Observation}
use Rattle.stamp_explain.specs.declared.observed.Returned.{Returned}
use Rattle.stamp_explain.specs.Observed.{ObservedHistory, IsObserved}
use Rattle.stamp_explain.specs.Possible.{IsSeenUntil, seen_with, with_reply}
use Rattle.stamp_explain.proofs.Replying.{replied_is_observed}
use Rattle.stamp_explain.proofs.Seeing.{seen_explains_as_much}

-- the call of an observed history that has returned so
pub record ReturnsSo (h : ObservedHistory) (i : ℕ) (e : Observation) (r : Returned) : Type 0 where
  pub is_entry : slice_get h.entries i ≡ Some e
  pub returned : e.returned ≡ Some r
  pub observed : IsObserved h

-- with another reply it may be observed, too
pub tried_is_observed : {h : ObservedHistory} {i : ℕ} {e : Observation} {r : Returned} (reply : Reply) →
    ReturnsSo h i e r → IsObserved (with_reply i e r reply h)
tried_is_observed {h} {i} {e} {r} reply is = replied_is_observed i e r reply is.is_entry is.returned is.observed

-- and so may what is seen
seen_with_is_observed : {h : ObservedHistory} {i : ℕ} {e : Observation} {r : Returned} (reply : Option Reply) →
    ReturnsSo h i e r → IsObserved (seen_with i e r reply h)
seen_with_is_observed {h} {i} {e} {r} None is = (seen_explains_as_much h r.last i is.observed).0
seen_with_is_observed {h} {i} {e} {r} (Some reply) is = (seen_explains_as_much (with_reply i e r reply h) r.last
    (i + 1) (tried_is_observed reply is)).0

-- what was made is what is seen then
pub is_seen_until : {E : Type 0} {h : ObservedHistory} {i : ℕ} {e : Observation} {r : Returned} (reply : Option Reply)
    (made : Result ObservedHistory E) → ReturnsSo h i e r →
    IfOk made (λ (seen : ObservedHistory). seen ≡ seen_with i e r reply h) →
    IfOk made (λ (seen : ObservedHistory). IsSeenUntil h i reply seen)
is_seen_until {E} {h} {i} {e} {r} reply (Ok seen) is same = record {
  at = record { entry = e; return = r; is_entry = is.is_entry; returned = is.returned };
  is = same;
}
is_seen_until reply (Err refused) is same = tt

-- and may be observed
pub until_is_observed : {E : Type 0} {h : ObservedHistory} {i : ℕ} {e : Observation} {r : Returned}
    (reply : Option Reply) (made : Result ObservedHistory E) → ReturnsSo h i e r →
    IfOk made (λ (seen : ObservedHistory). seen ≡ seen_with i e r reply h) →
    IfOk made (λ (seen : ObservedHistory). IsObserved seen)
until_is_observed reply (Ok seen) is same = subst IsObserved (sym same) (seen_with_is_observed reply is)
until_is_observed reply (Err refused) is same = tt
