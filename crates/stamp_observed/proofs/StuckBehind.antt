-- A history that is stuck behind an opening, and one made small of it, are stuck at the same call.
use Rattle.std.proofs.Common.{◌≡◌, ℕ, List, length, arith, refl, ap, subst, ◌∙◌}
use Rattle.std.proofs.Common.{◌+◌, ◌≤◌}
use Rattle.std.specs.Prelude.{slice_get}
use Rattle.std.proofs.lemmas.Bool.Decides.{nat_tests}
use Rattle.stamp_core.specs.Layout.{Units, narrow, wide, units_of}
use Rattle.stamp_core.specs.Limits.{Bounds, units}
use Rattle.stamp_core.specs.declared.call.Call.{Call}
use Rattle.stamp_core.specs.declared.call.Call.TheVariants as of_lock
use Rattle.stamp_core.specs.declared.layout.Layout.{Layout}
use Rattle.stamp_core.specs.declared.layout.Layout.TheVariants.{One, Two}
use Rattle.stamp_core.specs.declared.reply.Reply.{Reply}
use Rattle.stamp_core.specs.declared.reply.Reply.TheVariants as answered
use Rattle.stamp_explain.specs.declared.observed.Observation.{Observation}
use Rattle.stamp_explain.specs.declared.observed.Returned.{Returned}
use Rattle.stamp_explain.specs.Cut.{IsStuck}
use Rattle.stamp_explain.specs.Observed.{ObservedHistory, IsObserved, IsReturnAt, observed_as}
use Rattle.stamp_observed.specs.declared.behind.StuckHistory.{StuckHistory}
use Rattle.stamp_observed.specs.declared.fault.Fault.{Fault}
use Rattle.stamp_observed.specs.declared.candidate.Candidate.{Candidate}
use Rattle.stamp_observed.specs.Behind.{IsStuckWith, IsStuckWithFew}
use Rattle.stamp_observed.specs.Issued.{writes_by}
use Rattle.stamp_observed.specs.Renumbering.{renumbered_stamp, renumbered_call, renumbered_reply}
use Rattle.stamp_observed.specs.Small.{IsRenumbered, IsStuckAs}
use Rattle.stamp_observed.specs.inner.Behind.{IsFaultWith, IsStuckBehind, LeavesOutFew}
use Rattle.stamp_observed.specs.inner.Candidate.{history_of, return_in, stand_in}
use Rattle.stamp_observed.proofs.Judged.{last_of}

-- the history of a candidate is stuck at its last call, which is that of the fault
pub found_behind : (none history : ObservedHistory) (fault : Fault) (c : Candidate) (place : ℕ) (e : Observation) →
    history ≡ history_of none fault c → IsObserved history → place ≡ length c.others.items →
    IsStuck history place → IsFaultWith e fault → IsStuckBehind none.limits none.width e
    (record { history = history; place = place; last = c.last; versions = c.versions })
found_behind none history fault c place e made observed here stuck is = record {
  fault = fault;
  with = is;
  observed = observed;
  limits_are = ap (λ (g : ObservedHistory). g.limits) made;
  width_is = ap (λ (g : ObservedHistory). g.width) made;
  there = record {
    entry = stand_in (units none.limits) fault c;
    return = return_in (units none.limits) fault c;
    is_entry = ap (λ (g : ObservedHistory). slice_get g.entries place) made ∙
        ap (λ (n : ℕ). slice_get (history_of none fault c).entries n) here ∙
        last_of c.others.items (stand_in (units none.limits) fault c);
    returned = refl;
  };
  stuck = stuck;
  last_is = refl;
  renumbered = record {
    thread = ap (λ (f : Observation). f.thread) is.call_is;
    call = ap (λ (f : Observation). renumbered_call (units none.limits) c.versions f.call) is.call_is;
    reply = refl;
  };
}

-- under the limits and the width that the empty history tells
pub behind_told : (none : ObservedHistory) (limits : Bounds) (width : ℕ) (entries : List Observation) (e : Observation)
    (found : StuckHistory) → none ≡ observed_as limits width entries →
    IsStuckBehind none.limits none.width e found → IsStuckBehind limits width e found
behind_told none limits width entries e found same is =
    subst (λ (h : ObservedHistory). IsStuckBehind h.limits h.width e found) same is

narrow_twice : (k j s : ℕ) →
    renumbered_stamp narrow j (renumbered_stamp narrow k s) ≡ renumbered_stamp narrow (k + j) s
narrow_twice k j s = grind (arith, nat_tests)

wide_twice : (k j s : ℕ) → renumbered_stamp wide j (renumbered_stamp wide k s) ≡ renumbered_stamp wide (k + j) s
wide_twice k j s = grind (arith, nat_tests)

-- first so many versions are left out, and then so many more
stamp_twice : (layout : Layout) (k j s : ℕ) →
    renumbered_stamp (units_of layout) j (renumbered_stamp (units_of layout) k s) ≡
    renumbered_stamp (units_of layout) (k + j) s
unfolding units_of
stamp_twice One k j s = narrow_twice k j s
stamp_twice Two k j s = wide_twice k j s

call_twice : (layout : Layout) (k j : ℕ) (call : Call) →
    renumbered_call (units_of layout) j (renumbered_call (units_of layout) k call) ≡
    renumbered_call (units_of layout) (k + j) call
call_twice layout k j (of_lock.Validate s) = ap of_lock.Validate (stamp_twice layout k j s)
call_twice layout k j (of_lock.UnlockWrite s) = ap of_lock.UnlockWrite (stamp_twice layout k j s)
call_twice layout k j (of_lock.UnlockRead s) = ap of_lock.UnlockRead (stamp_twice layout k j s)
call_twice layout k j (of_lock.Unlock s) = ap of_lock.Unlock (stamp_twice layout k j s)
call_twice layout k j (of_lock.ToWrite s) = ap of_lock.ToWrite (stamp_twice layout k j s)
call_twice layout k j (of_lock.ToRead s) = ap of_lock.ToRead (stamp_twice layout k j s)
call_twice layout k j (of_lock.ToOptimistic s) = ap of_lock.ToOptimistic (stamp_twice layout k j s)
call_twice layout k j other = refl

reply_twice : (layout : Layout) (k j : ℕ) (answer : Reply) →
    renumbered_reply (units_of layout) j (renumbered_reply (units_of layout) k answer) ≡
    renumbered_reply (units_of layout) (k + j) answer
reply_twice layout k j (answered.Stamp s) = ap answered.Stamp (stamp_twice layout k j s)
reply_twice layout k j other = refl

renumbered_twice : (layout : Layout) (k j : ℕ) (e f g : Observation) (r s t : Returned) →
    IsRenumbered (units_of layout) k e r f s → IsRenumbered (units_of layout) j f s g t →
    IsRenumbered (units_of layout) (k + j) e r g t
renumbered_twice layout k j e f g r s t first second = record {
  thread = second.thread ∙ first.thread;
  call = second.call ∙ ap (λ (c : Call). renumbered_call (units_of layout) j c) first.call ∙ call_twice layout k j e.call;
  reply = second.reply ∙ ap (λ (a : Reply). renumbered_reply (units_of layout) j a) first.reply ∙
      reply_twice layout k j r.reply;
}

-- one place has one call, and one return
same_entry : (entries : List Observation) (i : ℕ) (a b : IsReturnAt entries i) → a.entry ≡ b.entry
same_entry entries i a b = cc (a.is_entry, b.is_entry)

same_return : (entries : List Observation) (i : ℕ) (a b : IsReturnAt entries i) → a.return ≡ b.return
same_return entries i a b =
    let same = same_entry entries i a b in
    let returned = ap (λ (e : Observation). e.returned) same in cc (a.returned, b.returned, returned)

-- what is stuck as such a history is, is stuck at the call
pub stuck_with : (limits : Bounds) (width : ℕ) (e : Observation) (most : ℕ) (found : StuckHistory)
    (small : ObservedHistory) → IsStuckBehind limits width e found →
    IsStuckAs found.history most found.place small → IsStuckWith limits width e small
stuck_with limits width e most found small is so =
    let units_are = ap (λ (b : Bounds). units b) is.limits_are in
    let entry = same_entry found.history.entries found.place so.at is.there in
    let return = same_return found.history.entries found.place so.at is.there in
    let second : IsRenumbered (units limits) so.versions is.there.entry is.there.return so.there.entry
    so.there.return = record {
      thread = so.renumbered.thread ∙ ap (λ (o : Observation). o.thread) entry;
      call = so.renumbered.call ∙
          ap (λ (u : Units). renumbered_call u so.versions so.at.entry.call) units_are ∙
          ap (λ (o : Observation). renumbered_call (units limits) so.versions o.call) entry;
      reply = so.renumbered.reply ∙
          ap (λ (u : Units). renumbered_reply u so.versions so.at.return.reply) units_are ∙
          ap (λ (r : Returned). renumbered_reply (units limits) so.versions r.reply) return;
    } in record {
      observed = so.observed;
      limits_are = so.limits ∙ is.limits_are;
      width_is = so.width ∙ is.width_is;
      return = is.fault.returned;
      returned = is.with.returned;
      place = so.place;
      there = so.there;
      stuck = so.stuck;
      whole = so.whole;
      versions = found.versions + so.versions;
      renumbered = renumbered_twice limits.layout found.versions so.versions e is.there.entry so.there.entry
          is.fault.returned is.there.return so.there.return is.renumbered second;
    }

-- and no more versions are left out, if that is so where no more can be
pub stuck_with_few : (limits : Bounds) (width : ℕ) (e : Observation) (most : ℕ) (found : StuckHistory)
    (small : ObservedHistory) (few : ℕ) → IsStuckBehind limits width e found →
    IsStuckAs found.history most found.place small → LeavesOutFew few found → IsStuckWithFew limits width few e small
unfolding stuck_with
stuck_with_few limits width e most found small few is so leaves =
    let last : so.at.return.last ≡ found.last =
    ap (λ (r : Returned). r.last) (same_return found.history.entries found.place so.at is.there) ∙ is.last_is in
    let writes = ap (λ (n : ℕ). writes_by n found.history.entries) last in
    let within : found.versions + so.versions ≤ few = omega (arith, leaves, so.kept.few, writes) in
    record { stuck = stuck_with limits width e most found small is so; few = within }

-- a larger number of versions
pub few_more : {limits : Bounds} {width : ℕ} {e : Observation} {small : ObservedHistory} {few more : ℕ} →
    few ≤ more → IsStuckWithFew limits width few e small → IsStuckWithFew limits width more e small
few_more le is = record { stuck = is.stuck; few = omega (arith, is.few, le) }
