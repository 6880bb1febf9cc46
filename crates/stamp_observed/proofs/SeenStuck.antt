-- What was seen of a stuck history when the call returned at whose return it is stuck: it is stuck as the history is.
use Rattle.std.proofs.Common.{◌≡◌, ◌≢◌, ℕ, ◌+◌, ◌≤◌, ◌<◌, List, length, get_or, set, refl, sym, ◌∙◌, ap, subst, arith}
use Rattle.std.proofs.Common.{Option, None, Some, Result, Ok, Err, IfOk}
use Rattle.std.specs.Prelude.{slice_get, not, nat_lt, Bool, true, if◌then◌else◌, ◌==◌, ◌&&◌, ◌||◌, MatchOption, Any}
use Rattle.std.proofs.lemmas.Bool.Decides.{nat_tests}
use Rattle.std.proofs.lemmas.List.{set-get_or}
use Rattle.std.proofs.lemmas.Option.{get_or_from_slice_get, same_Some, slice_get-get_or, slice_get_within}
use Rattle.stamp_core.specs.Limits.{units}
use Rattle.stamp_core.specs.Layout.{Units}
use Rattle.stamp_core.specs.declared.reply.Reply.{Reply}
use Rattle.stamp_core.specs.declared.reply.Reply.TheVariants.{Stamp}
use Rattle.stamp_explain.specs.declared.observed.Observation.{Observation}
use Rattle.stamp_explain.specs.declared.observed.Returned.{Returned}
use Rattle.stamp_explain.specs.Observed.{ObservedHistory, IsObserved}
use Rattle.stamp_explain.specs.Explained.{IsExplained}
use Rattle.stamp_explain.specs.Cut.{IsStuck, cut, cut_entry, returned_by, seen_at}
use Rattle.stamp_explain.specs.inner.Cut.{index_then}
use Rattle.stamp_explain.specs.Possible.{AreAllPossible, IsPossible, IsSeenUntil, with_reply}
use Rattle.stamp_explain.proofs.Answered.{asked_there, ended, seen_answered, seen_index}
use Rattle.stamp_explain.proofs.Entries.{is_begun}
use Rattle.stamp_explain.proofs.Replying.{possible_is_seen, seen_is_possible}
use Rattle.stamp_explain.proofs.Seeing.{seen_explains_as_much}
use Rattle.stamp_observed.specs.declared.fault.Fault.{Fault}
use Rattle.stamp_observed.specs.Issued.{AreStampsKept, Issues}
use Rattle.stamp_observed.specs.Small.{ArePossibleAt, ArePossibleToo, IsStuckAs, renumbered_possible}
use Rattle.stamp_observed.specs.inner.Fault.{IsFaultOf, replies_in}
use Rattle.stamp_observed.proofs.CutAgain.{index_next, index_same, seen_cut, seen_twice}
use Rattle.stamp_observed.proofs.NoneLeftOut.{call_stays, reply_stays, same_replies, stamp_stays}

-- a call that returned earlier is known so
known_before : (last b m : ℕ) (e : Observation) (q : Returned) → e.returned ≡ Some q → q.last < last →
    cut_entry last b m e ≡ e
known_before last b m e q at lt = ap (λ (t : Bool). if t then e else record e { returned = None })
    (ap (returned_by last b m) at ∙ back)
  where
    back : (nat_lt q.last last || ((q.last == last) && nat_lt m b)) ≡ true
    back = grind (arith, nat_tests)

begun_by_then : (first end last : ℕ) → first ≤ end → end < last → not (nat_lt last first) ≡ true
begun_by_then first end last le lt = grind (arith, nat_tests)

-- a call that issues a stamp before a position had returned by then
issuer_return : (whose : Option ℕ) (position stamp : ℕ) (x : Observation) → Issues whose position stamp x →
    (q : Returned) × ((x.returned ≡ Some q) × (q.last < position))
issuer_return whose position stamp x is = by x.returned refl is.1
  where
    by : (o : Option Returned) → x.returned ≡ o →
        MatchOption o ⊥ (λ (r : Returned). (r.last < position) × (r.reply ≡ Stamp stamp)) →
        (q : Returned) × ((x.returned ≡ Some q) × (q.last < position))
    by None same none = absurd none
    by (Some q) same issues = (q, (same, issues.0))

-- an observed history, and one of its calls that has returned
record HasReturn (h : ObservedHistory) (i : ℕ) (e : Observation) (r : Returned) : Type 0 where
  observed : IsObserved h
  is_entry : slice_get h.entries i ≡ Some e
  returned : e.returned ≡ Some r

module _ (h : ObservedHistory) (i : ℕ) (e : Observation) (r : Returned) (is : HasReturn h i e r) where
  -- what is seen when that call has returned, and its index there
  abbrev seen : ObservedHistory
  seen = seen_at r.last (i + 1) h

  abbrev index : ℕ
  index = index_then r.last i h.entries

  le : e.first ≤ r.last
  le = ended h i e r is.observed is.is_entry is.returned

  begun : is_begun r.last e ≡ true
  begun = test e.first r.last le
    where
      test : (n m : ℕ) → n ≤ m → not (nat_lt m n) ≡ true
      test n m le = grind (arith, nat_tests)

  seen_entry : slice_get seen.entries index ≡ Some e
  seen_entry = asked_there h i e r is.is_entry is.returned le

  seen_observed : IsObserved seen
  seen_observed = (seen_explains_as_much h r.last (i + 1) is.observed).0

  next : index + 1 ≡ index_then r.last (i + 1) h.entries
  next = index_next r.last i h.entries e is.is_entry begun

  -- nothing in it is later
  seen_whole : seen_at r.last (index + 1) seen ≡ seen
  seen_whole = seen_twice h r.last (i + 1) (index + 1) next

  -- it is stuck there, too
  seen_stuck : IsStuck h i → IsStuck seen index
  seen_stuck stuck = record {
    at = record { entry = e; return = r; is_entry = seen_entry; returned = is.returned };
    explained = subst IsExplained (sym (seen_cut h r.last i (i + 1) index (omega arith) refl))
        ((seen_explains_as_much h r.last i is.observed).1.0
        (subst (λ (q : Returned). IsExplained (cut q.last i h)) same stuck.explained));
    stuck = λ explained. stuck.stuck (subst (λ (q : Returned). IsExplained (cut q.last (i + 1) h)) (sym same)
        ((seen_explains_as_much h r.last (i + 1) is.observed).1.1
        (subst IsExplained (seen_cut h r.last (i + 1) (i + 1) (index + 1) (omega arith) next) explained)));
  }
    where
      same : stuck.at.return ≡ r
      same = same_Some stuck.at.return r (sym stuck.at.returned ∙ ap (λ (o : Observation). o.returned)
          (same_Some stuck.at.entry e (sym stuck.at.is_entry ∙ is.is_entry)) ∙ is.returned)

  -- with another reply of the call the same is seen of both
  seen_with : (reply : Reply) → seen_at r.last (index + 1) (with_reply index e r reply seen) ≡
      seen_at r.last (i + 1) (with_reply i e r reply h)
  seen_with reply =
      seen_answered seen index e r reply seen_entry is.returned le ∙
      ap (λ (k : ℕ). with_reply k e r reply (seen_at r.last (index + 1) seen)) (index_same r.last index
      (cut r.last (i + 1) h).entries inside) ∙
      ap (with_reply index e r reply) seen_whole ∙
      sym (seen_answered h i e r reply is.is_entry is.returned le)
    where
      inside : index ≤ length seen.entries
      inside = omega (arith, slice_get_within seen.entries index e seen_entry)

  -- so the same replies are possible
  possible_there : (reply : Reply) → IsPossible h i reply → IsPossible seen index reply
  possible_there reply possible = seen_is_possible {h = seen} {i = index} e r seen_entry is.returned seen_observed
      (subst IsExplained (sym (seen_with reply))
      (possible_is_seen {h = h} {i = i} e r is.is_entry is.returned is.observed possible))

  possible_here : (reply : Reply) → IsPossible seen index reply → IsPossible h i reply
  possible_here reply possible = seen_is_possible {h = h} {i = i} e r is.is_entry is.returned is.observed
      (subst IsExplained (seen_with reply)
      (possible_is_seen {h = seen} {i = index} e r seen_entry is.returned seen_observed possible))

  all_there : (replies : List Reply) → AreAllPossible h i replies → AreAllPossible seen index replies
  all_there replies are = record {
    each = λ k d lt. possible_there (get_or replies k d) (are.each k d lt);
    whole = λ reply misses possible. are.whole reply misses (possible_here reply possible);
    once = are.once;
  }

  possible_too : (u : Units) (most : ℕ) (replies : Option (List Reply)) → ArePossibleAt h most i replies →
      ArePossibleToo seen index (renumbered_possible u 0 replies)
  possible_too u most None are = tt
  possible_too u most (Some replies) are = (replies, (all_there replies are, same_replies u replies))

  -- a call that had returned before it stands there, too
  issued_there : (by : Option ℕ) (stamp : ℕ) → Any (Issues by e.first stamp) h.entries →
      Any (Issues by e.first stamp) seen.entries
  issued_there by stamp (k, x, lt, at, is_issuer) =
      let back = issuer_return by e.first stamp x is_issuer in
      let there : slice_get h.entries k ≡ Some x = slice_get-get_or h.entries k x lt ∙ ap Some at in
      let within : x.first ≤ back.0.last = ended h k x back.0 is.observed there back.1.0 in
      let now = seen_index r.last (i + 1) 0 h.entries k x there
      (begun_by_then x.first back.0.last r.last within (omega (arith, back.1.1, le)))
      (λ m _. known_before r.last (i + 1) m x back.0 back.1.0 (omega (arith, back.1.1, le))) in (
        index_then r.last k h.entries,
        x,
        slice_get_within seen.entries (index_then r.last k h.entries) x now,
        get_or_from_slice_get seen.entries (index_then r.last k h.entries) x x now,
        is_issuer,
      )

  kept_there : AreStampsKept h e r 0 seen.entries e.first
  kept_there = record {
    few = omega arith;
    answer = λ none. reply_stays (units h.limits) r.reply ∙ none;
    issued = λ stamp taken some by is_by before. record {
      some = subst (λ (s : ℕ). s ≢ 0) (stamp_stays (units h.limits) stamp) some;
      issued = subst (λ (s : ℕ). Any (Issues by e.first s) seen.entries) (stamp_stays (units h.limits) stamp)
          (issued_there by stamp before);
    };
  }

  seen_as : (most : ℕ) (replies : Option (List Reply)) → IsStuck h i → ArePossibleAt h most i replies →
      IsStuckAs h most i seen
  seen_as most replies stuck possible = record {
    observed = seen_observed;
    limits = refl;
    width = refl;
    at = record { entry = e; return = r; is_entry = is.is_entry; returned = is.returned };
    place = index;
    there = record { entry = e; return = r; is_entry = seen_entry; returned = is.returned };
    stuck = seen_stuck stuck;
    whole = seen_whole;
    versions = 0;
    renumbered = record {
      thread = refl;
      call = call_stays (units h.limits) e.call;
      reply = reply_stays (units h.limits) r.reply;
    };
    kept = kept_there;
    replies = replies;
    possible = possible;
    too = possible_too (units h.limits) most replies possible;
  }

  -- with its own reply again the history is as it was
  same_reply : with_reply i e r r.reply h ≡ h
  same_reply = ap (λ (es : List Observation). record h { entries = es })
      (ap (set h.entries i) own ∙ set-get_or h.entries i e)
    where
      own : record e { returned = Some r } ≡ get_or h.entries i e
      own = ap (λ (o : Option Returned). record e { returned = o }) (sym is.returned) ∙
          sym (get_or_from_slice_get h.entries i e e is.is_entry)

  is_seen : (made : ObservedHistory) → IsSeenUntil h i (Some r.reply) made → made ≡ seen
  is_seen made until =
      until.is ∙
      ap (λ (o : Observation). seen_at until.at.return.last (i + 1) (with_reply i o until.at.return r.reply h))
      same_entry ∙
      ap (λ (q : Returned). seen_at q.last (i + 1) (with_reply i e q r.reply h)) same_return ∙
      ap (seen_at r.last (i + 1)) same_reply
    where
      same_entry : until.at.entry ≡ e
      same_entry = same_Some until.at.entry e (sym until.at.is_entry ∙ is.is_entry)

      same_return : until.at.return ≡ r
      same_return = same_Some until.at.return r (sym until.at.returned ∙ ap (λ (o : Observation). o.returned)
          same_entry ∙ is.returned)

seen_stuck_as : (h : ObservedHistory) (most i : ℕ) (fault : Fault) (made : ObservedHistory) → IsObserved h →
    IsStuck h i → IsFaultOf h most fault → fault.entry ≡ i → IsSeenUntil h i (Some fault.returned.reply) made →
    IsStuckAs h most i made
seen_stuck_as h most i fault made observed stuck is same until =
    subst (IsStuckAs h most i) (sym (is_seen h i fault.call fault.returned has made until))
    (seen_as h i fault.call fault.returned has most (replies_in fault.possible) stuck
    (subst (λ (k : ℕ). ArePossibleAt h most k (replies_in fault.possible)) same is.possible))
  where
    has : HasReturn h i fault.call fault.returned
    has = record {
      observed = observed;
      is_entry = subst (λ (k : ℕ). slice_get h.entries k ≡ Some fault.call) same is.is_entry;
      returned = is.returned;
    }

-- so is what was made of it, unless memory was refused
pub made_stuck_as : {E : Type 0} (h : ObservedHistory) (most i : ℕ) (fault : Fault) (made : Result ObservedHistory E) →
    IsObserved h → IsStuck h i → IsFaultOf h most fault → fault.entry ≡ i →
    IfOk made (λ (seen : ObservedHistory). IsSeenUntil h i (Some fault.returned.reply) seen) →
    IfOk made (λ (seen : ObservedHistory). IsStuckAs h most i seen)
made_stuck_as h most i fault (Ok made) observed stuck is same until =
    seen_stuck_as h most i fault made observed stuck is same until
made_stuck_as h most i fault (Err refused) observed stuck is same until = tt
