-- A decision on a word is the call's transition, for all events that the word represents.
use Rattle.std.proofs.Common.{◌≡◌, ◌⊎◌, ℕ, ◌<◌, ◌^◌, Bool, true, false, List, [], ◌∷◌, refl, sym}
use Rattle.std.proofs.Common.{◌∙◌, ap, subst, inl, inr, ⊎_elim, zero, suc, arith, Option, Some}
use Rattle.std.proofs.Common.{None, if◌then◌else◌}
use Rattle.std.specs.Prelude.{◌&&◌, ◌==◌, nat_lt, IsTrue}
use Rattle.stamp_core.specs.LockEvent.{LockEvent, Counts, counts}
use Rattle.stamp_core.specs.Layout.{units_of}
use Rattle.stamp_core.specs.Limits.{Bounds, AreInRange, units}
use Rattle.stamp_core.specs.IsWellFormed.{CountsAreWithin}
use Rattle.stamp_core.specs.Stamp.{optimistic_stamp, is_held_write, is_held_read, IsStamp}
use Rattle.stamp_core.specs.Word.{LockWord, word_at, word_number, IsAdmitted}
use Rattle.stamp_core.specs.Call.{is_lock_call}
use Rattle.stamp_core.specs.Transition.{Transition, transition, row, may_write, may_read}
use Rattle.stamp_core.specs.Decision.{Decides, stamp_in, StampIsBelowTop}
use Rattle.stamp_core.specs.Decoded.{counts_in, after_events}
use Rattle.stamp_core.specs.CountedDecision.{by_events, by_transition, decision_of, decision}
use Rattle.stamp_core.specs.Laws.{DecisionsAreTransitions, OnlyLockingWaits}
use Rattle.stamp_core.specs.declared.layout.Layout.{Layout}
use Rattle.stamp_core.specs.declared.call.Call.{Call}
use Rattle.stamp_core.specs.declared.call.Call.TheVariants.{TryWrite, TryRead, WriteLock, ReadLock}
use Rattle.stamp_core.specs.declared.call.Call.TheVariants.{Optimistic, Validate, UnlockWrite}
use Rattle.stamp_core.specs.declared.call.Call.TheVariants.{UnlockRead, Unlock, ToWrite, ToRead}
use Rattle.stamp_core.specs.declared.call.Call.TheVariants.{ToOptimistic, TryUnlockWrite}
use Rattle.stamp_core.specs.declared.call.Call.TheVariants.{TryUnlockRead, IsWriteLocked}
use Rattle.stamp_core.specs.declared.call.Call.TheVariants.{IsReadLocked, ReadCount, Get, Put}
use Rattle.stamp_core.specs.declared.call.Call.TheVariants.{PutIf}
use Rattle.stamp_core.specs.declared.reply.Reply.{Reply}
use Rattle.stamp_core.specs.declared.reply.Reply.TheVariants.{Stamp, Yes, No, Done, Mismatch, Count, Content}
use Rattle.stamp_core.proofs.WellFormedPush.{push_all, obeys_now}
use Rattle.stamp_core.proofs.TransitionsKeep.{KeepsBy, row_keeps}
use Rattle.stamp_core.proofs.WordCounts.{counts_in-represented}
use Rattle.stamp_core.proofs.WordNumbers.{stamp_is_state, is_state}
use Rattle.stamp_core.proofs.StampValidity.{IssuesBy, row_issues}

-- on counts that the events have
decided_by : (limits : Bounds) (word : LockWord) (call : Call) → AreInRange limits →
    (appended : List LockEvent) (reply : Reply) → row limits (counts_in word) call ≡
    Some (record { appended = appended; reply = reply }) →
    Decides limits word call (by_events limits (counts_in word) appended reply)
decided_by limits word call range [] reply is = λ events represented.
    let same : counts_in word ≡ counts events = counts_in-represented limits word events range represented in
    ap (λ (c : Counts). row limits c call) (sym same) ∙ is
decided_by limits word call range (event ∷ appended) reply is = λ events represented.
    let same : counts_in word ≡ counts events = counts_in-represented limits word events range represented in
    let now = obeys_now limits events represented.well_formed in
    let transition_is : transition limits events call ≡
    Some (record { appended = event ∷ appended; reply = reply }) =
    ap (λ (c : Counts). row limits c call) (sym same) ∙ is in
    let allowed = subst (KeepsBy limits (counts events)) transition_is
    (row_keeps limits (counts events) range.some_reader now.within call).kept in
    let after = push_all limits (event ∷ appended) events represented.well_formed allowed.0 in
    let number : word_number (units limits) (after_events (counts_in word) (event ∷ appended)) ≡
    word_number (units limits) (after_events (counts events) (event ∷ appended)) =
    ap (λ (c : Counts). word_number (units limits) (after_events c (event ∷ appended))) same in
    record {
      appended = event ∷ appended;
      some = λ none. cc;
      transition_is = transition_is;
      represented = record {
        well_formed = after.0;
        layout = refl;
        spelled = number ∙
            ap (λ (c : Counts). word_number (units limits) c) (sym after.1);
      };
      other = λ same_word. allowed.1 (sym number ∙ ap (λ (w : LockWord). w.bits) same_word ∙ represented.spelled);
    }

pub decides : (limits : Bounds) (word : LockWord) (call : Call) → AreInRange limits →
    Decides limits word call (decision_of limits word call)
decides limits word call range = by (row limits (counts_in word) call) refl
  where
    by : (t : Option Transition) → row limits (counts_in word) call ≡ t →
        Decides limits word call (by_transition limits (counts_in word) t)
    by None none = λ events represented.
        let same : counts_in word ≡ counts events = counts_in-represented limits word events range represented in
        ap (λ (c : Counts). row limits c call) (sym same) ∙ none
    by (Some t) is = decided_by limits word call range t.appended t.reply is

pub decisions_are_transitions : DecisionsAreTransitions
unfolding decision
decisions_are_transitions limits number call range = decides limits (word_at limits number) call range

pub decision_is : (limits : Bounds) (word : LockWord) (call : Call) → word.layout ≡ limits.layout →
    decision_of limits word call ≡ decision limits word.bits call
unfolding decision
decision_is limits word call same = ap (λ (l : Layout). decision_of limits
    (record { layout = l; bits = word.bits }) call) same

-- the stamps that are answered leave room above them
number_fits : (l : Layout) (k s : ℕ) → IsStamp (units_of l) k s → s < 2 ^ 63
number_fits l k s stamp = let n = stamp_is_state l k s stamp in omega (arith, n.high)

stamp_fits : (limits : Bounds) (c : Counts) (t : Transition) (r : Reply) → t.reply ≡ r →
    IssuesBy (units limits) c (Some t) → stamp_in r < 2 ^ 63
stamp_fits limits c t (Stamp zero) e issued = omega arith
stamp_fits limits c t (Stamp (suc s)) e issued =
    number_fits limits.layout _ (suc s) (issued (suc s) e (λ q. absurd (omega (arith, q)))).0
stamp_fits limits c t Yes e issued = omega arith
stamp_fits limits c t No e issued = omega arith
stamp_fits limits c t Done e issued = omega arith
stamp_fits limits c t Mismatch e issued = omega arith
stamp_fits limits c t (Count n) e issued = omega arith
stamp_fits limits c t (Content words) e issued = omega arith

transition_fits : (limits : Bounds) (c : Counts) (t : Option Transition) → IssuesBy (units limits) c t →
    StampIsBelowTop (by_transition limits c t)
transition_fits limits c None issued = tt
transition_fits limits c (Some t) issued = by t.appended
  where
    by : (appended : List LockEvent) → StampIsBelowTop (by_events limits c appended t.reply)
    by [] = stamp_fits limits c t t.reply refl issued
    by (event ∷ appended) = stamp_fits limits c t t.reply refl issued

pub decision_fits : (limits : Bounds) (word : LockWord) (call : Call) → AreInRange limits → IsAdmitted limits word →
    StampIsBelowTop (decision_of limits word call)
decision_fits limits word call range admitted =
    let same : counts_in word ≡ counts admitted.events =
    counts_in-represented limits word admitted.events range admitted.represented in
    let within : CountsAreWithin limits (counts_in word) =
    rw same (obeys_now limits admitted.events admitted.represented.well_formed).within in
    transition_fits limits (counts_in word) (row limits (counts_in word) call)
    (row_issues limits (counts_in word) range within call).issued

pub admitted_state : (limits : Bounds) (n : ℕ) → AreInRange limits → IsAdmitted limits (word_at limits n) →
    Rattle.stamp_core.specs.Decoded.IsNumber (units limits) n
admitted_state limits n range admitted = is_state limits (word_at limits n) range admitted

-- which calls can be without a transition
abbrev pub IsLocking : Call → Type 0
IsLocking call = (call ≡ WriteLock) ⊎ (call ≡ ReadLock)

pub record HasSome (t : Option Transition) : Type 0 where
  pub transition : Transition
  pub is : t ≡ Some transition

some : {t : Transition} → HasSome (Some t)
some {t} = record { transition = t; is = refl }

either : (b : Bool) {x y : Option Transition} → HasSome x → HasSome y → HasSome (if b then x else y)
either true f g = f
either false f g = g

-- by the row of the call: it has a transition whatever the counts, or is one of the two
row_or_locking : (l : Bounds) (c : Counts) (call : Call) → IsTrue (is_lock_call call) → HasSome (row l c call) ⊎
    IsLocking call
row_or_locking l c TryWrite lock = inl (either (may_write l c) some some)
row_or_locking l c TryRead lock = inl (either (may_read l c) some some)
row_or_locking l c WriteLock lock = inr (inl refl)
row_or_locking l c ReadLock lock = inr (inr refl)
row_or_locking l c Optimistic lock = inl some
row_or_locking l c (Validate s) lock = inl some
row_or_locking l c (UnlockWrite s) lock = inl (either (is_held_write (units l) c s) some some)
row_or_locking l c (UnlockRead s) lock = inl (either (is_held_read (units l) c s) some some)
row_or_locking l c (Unlock s) lock = inl (either (is_held_write (units l) c s) some
    (either (is_held_read (units l) c s) some some))
row_or_locking l c (ToWrite s) lock = inl (either (is_held_write (units l) c s) some
    (either (is_held_read (units l) c s && (c.readers == 1) && nat_lt c.write_count l.versions) some
    (either ((s == optimistic_stamp (units l) c.write_count) && may_write l c) some some)))
row_or_locking l c (ToRead s) lock = inl (either (is_held_write (units l) c s) some
    (either (is_held_read (units l) c s) some
    (either ((s == optimistic_stamp (units l) c.write_count) && may_read l c) some some)))
row_or_locking l c (ToOptimistic s) lock = inl
    (either (is_held_write (units l) c s) some
    (either (is_held_read (units l) c s) some
    (either ((s == optimistic_stamp (units l) c.write_count) && (c.writers == 0)) some some)))
row_or_locking l c TryUnlockWrite lock = inl (either (c.writers == 1) some some)
row_or_locking l c TryUnlockRead lock = inl (either (nat_lt 0 c.readers) some some)
row_or_locking l c IsWriteLocked lock = inl some
row_or_locking l c IsReadLocked lock = inl some
row_or_locking l c ReadCount lock = inl some
row_or_locking l c Get lock = cc
row_or_locking l c (Put words) lock = cc
row_or_locking l c (PutIf expected words) lock = cc

pub only_locking_waits : OnlyLockingWaits
only_locking_waits limits events call lock none =
    ⊎_elim (λ h. let e = h.is in cc) (λ locking. locking) (row_or_locking limits (counts events) call lock)
