-- What calls of a lock and its record are given, by the version that the lock has then.
use Rattle.std.proofs.Common.{◌≡◌, ◌⊎◌, ◌+◌, ◌<◌, ◌≤◌, ℕ, zero, suc, Bool, true, false, List, [], ◌∷◌, ◌++◌}
use Rattle.std.proofs.Common.{Option, Some, None, refl, sym, ◌∙◌, ap, subst, inl, inr, arith}
use Rattle.std.specs.Prelude.{◌==◌, ◌&&◌, nat_lt, map, not, if◌then◌else◌, MatchOption, ⊤}
use Rattle.std.specs.Bool.{MatchBool}
use Rattle.std.specs.List.{Contains}
use Rattle.std.proofs.lemmas.Bool.Decides.{nat_tests}
use Rattle.std.proofs.lemmas.Bool.{and_parts, cases_lt, false≢true}
use Rattle.std.proofs.lemmas.List.{map-append}
use Rattle.std.proofs.lemmas.List.Elements.{Contains-append_left, Contains-push}
use Rattle.std.proofs.lemmas.Option.{none-some}
use Rattle.stamp_core.specs.LockEvent.{LockEvent, Counts, counts, write_count}
use Rattle.stamp_core.specs.LockEvent.LockEvent.{WriteAcquired}
use Rattle.stamp_core.specs.IsWellFormed.{IsWellFormed}
use Rattle.stamp_core.specs.Limits.{AreInRange, Bounds, units}
use Rattle.stamp_core.specs.Stamp.{IsStamp, is_held_read, is_held_write, optimistic_stamp, write_stamp}
use Rattle.stamp_core.specs.Transition.{Transition, answer, change, may_read, may_write, next_write, row}
use Rattle.stamp_core.specs.Transition.{transition}
use Rattle.stamp_core.specs.History.{Replies, appended_by}
use Rattle.stamp_core.specs.Call.{is_lock_call}
use Rattle.stamp_core.specs.Content.{RecordReplies, content_next, same_words}
use Rattle.stamp_core.specs.Decoded.{after_events}
use Rattle.stamp_core.specs.declared.call.Call.{Call}
use Rattle.stamp_core.specs.declared.call.Call.TheVariants.{TryWrite, TryRead, WriteLock, ReadLock}
use Rattle.stamp_core.specs.declared.call.Call.TheVariants.{Optimistic, UnlockWrite}
use Rattle.stamp_core.specs.declared.call.Call.TheVariants.{UnlockRead, Unlock, ToWrite, ToRead}
use Rattle.stamp_core.specs.declared.call.Call.TheVariants.{ToOptimistic, TryUnlockWrite}
use Rattle.stamp_core.specs.declared.call.Call.TheVariants.{TryUnlockRead}
use Rattle.stamp_core.specs.declared.call.Call.TheVariants.{ReadCount, Get, Put}
use Rattle.stamp_core.specs.declared.call.Call.TheVariants.{PutIf}
use Rattle.stamp_core.specs.declared.reply.Reply.{Reply}
use Rattle.stamp_core.specs.declared.reply.Reply.TheVariants.{Content, Count, Done, Mismatch, No, Stamp, Yes}
use Rattle.stamp_core.specs.declared.lock_decision.LockReply.TheVariants as own
use Rattle.stamp_core.proofs.StampValidity.{IssuesBy, row_issues, transition_counts}
use Rattle.stamp_core.proofs.WellFormedPush.{obeys_now}
use Rattle.stamp_runs.specs.BothRun.{Both, State}
use Rattle.stamp_runs.specs.Object.{LockStep, RecordStep}
use Rattle.stamp_sets.specs.SmallCall.{reply_of}
use Rattle.stamp_sets.specs.declared.small_call.SmallReply.TheVariants.{OfLock}
use Rattle.stamp_watch.specs.Possible.{counts_below, plain_replies}
use Rattle.stamp_watch.specs.declared.candidates.Issued.{Issued}
use Rattle.stamp_watch.specs.declared.candidates.Issued.TheVariants.{OfWriter}
use Rattle.stamp_watch.specs.inner.Candidates.{IsGiven, IsPlain, Leaves, MayBeGiven, MayBeNow, stamps_given}

pub same_stamp : {a b : ℕ} → Stamp a ≡ Stamp b → a ≡ b
same_stamp is = cc

-- the counts that a transition leaves
abbrev pub left_by : Counts → List LockEvent → ℕ
left_by c appended = (after_events c appended).write_count

-- no write mode is acquired, or it is and the reply is the stamp
abbrev pub WritesSo : Bounds → Call → ℕ → ℕ → Reply → Type 0
WritesSo limits call old new reply = (new ≡ old) ⊎
    ((new ≡ old + 1) × (stamps_given call ≡ Some OfWriter) × (reply ≡ Stamp (write_stamp (units limits) new)))

-- the reply is a stamp, if the call is given stamps
abbrev pub GetsStamp : Call → Reply → Type 0
GetsStamp call reply = MatchOption (stamps_given call) ⊤ (λ kind. (s : ℕ) × (reply ≡ Stamp s))

whichever : (call : Call) (n : ℕ) → GetsStamp call (Stamp n)
whichever call n = by (stamps_given call)
  where
    by : (o : Option Issued) → MatchOption o ⊤ (λ kind. (s : ℕ) × (Stamp n ≡ Stamp s))
    by None = tt
    by (Some kind) = (n, refl)

no_stamps : (call : Call) (reply : Reply) → stamps_given call ≡ None → GetsStamp call reply
no_stamps call reply none = subst (λ (o : Option Issued). MatchOption o ⊤ (λ kind. (s : ℕ) × (reply ≡ Stamp s)))
    (sym none) tt

abbrev pub GivesBy : Bounds → Counts → Call → Option Transition → Type 0
GivesBy limits c call None = Unit {0}
GivesBy limits c call (Some t) =
    ((s : ℕ) → t.reply ≡ Stamp s → MayBeGiven limits call c.write_count (left_by c t.appended) s) ×
    WritesSo limits call c.write_count (left_by c t.appended) t.reply × IsPlain limits call t.reply ×
    GetsStamp call t.reply

-- what the transition does and gives
pub record Gives (limits : Bounds) (c : Counts) (call : Call) (t : Option Transition) : Type 0 where
  pub given : GivesBy limits c call t

gives_if : (limits : Bounds) (c : Counts) (call : Call) (b : Bool) {x y : Option Transition} →
    (b ≡ true → Gives limits c call x) → (b ≡ false → Gives limits c call y) →
    Gives limits c call (if b then x else y)
gives_if limits c call true f g = f refl
gives_if limits c call false f g = g refl

none_given : {limits : Bounds} {c : Counts} {call : Call} → Gives limits c call None
none_given = record { given = tt }

-- a stamp is given
stamp_given : {limits : Bounds} {c : Counts} {call : Call} {appended : List LockEvent} {n : ℕ} →
    MayBeGiven limits call c.write_count (left_by c appended) n →
    WritesSo limits call c.write_count (left_by c appended) (Stamp n) → IsPlain limits call (Stamp n) →
    Gives limits c call (change appended (Stamp n))
stamp_given {limits} {c} {call} {appended} {n} may writes plain = record {
  given = (
    (λ s same. subst (MayBeGiven limits call c.write_count (left_by c appended)) (same_stamp same) may),
    writes,
    plain,
    whichever call n,
  );
}

-- or another reply
other_given : {limits : Bounds} {c : Counts} {call : Call} {appended : List LockEvent} {reply : Reply} →
    ((s : ℕ) → reply ≡ Stamp s → ⊥) → left_by c appended ≡ c.write_count → IsPlain limits call reply →
    stamps_given call ≡ None → Gives limits c call (change appended reply)
other_given {call = call} {reply = reply} none same plain others =
    record { given = ((λ s is. absurd (none s is)), inl same, plain, no_stamps call reply others) }

yes_none : (s : ℕ) → Yes ≡ Stamp s → ⊥
yes_none s is = cc

no_none : (s : ℕ) → No ≡ Stamp s → ⊥
no_none s is = cc

done_none : (s : ℕ) → Done ≡ Stamp s → ⊥
done_none s is = cc

mismatch_none : (s : ℕ) → Mismatch ≡ Stamp s → ⊥
mismatch_none s is = cc

count_none : {n : ℕ} (s : ℕ) → Count n ≡ Stamp s → ⊥
count_none s is = cc

-- the first of two, and the other
first_of : {A : Type 0} {x y : A} → Contains (x ∷ y ∷ []) x
first_of = (0, omega arith, refl)

second_of : {A : Type 0} {x y : A} → Contains (x ∷ y ∷ []) y
second_of = (1, omega arith, refl)

yes_given : {limits : Bounds} {c : Counts} {call : Call} → (b : Bool) →
    ((reply : Reply) → Contains (Yes ∷ No ∷ []) reply → IsPlain limits call reply) → stamps_given call ≡ None →
    Gives limits c call (answer (if b then Yes else No))
yes_given true plain others = other_given yes_none refl (plain Yes first_of) others
yes_given false plain others = other_given no_none refl (plain No second_of) others

pub count_among : (n m : ℕ) → m < n → Contains (map reply_of (counts_below n)) (Count m)
count_among zero m less = absurd (omega (arith, less))
count_among (suc n) m less = subst (λ (rs : List Reply). Contains rs (Count m))
    (sym (map-append reply_of (counts_below n) (OfLock (own.Count n) ∷ [])))
    (by (λ before. count_among n m before) (cases_lt m n))
  where
    by : (m < n → Contains (map reply_of (counts_below n)) (Count m)) → (m < n) ⊎ (n ≤ m) →
        Contains (map reply_of (counts_below n) ++ Count n ∷ []) (Count m)
    by among (inl before) = Contains-append_left (map reply_of (counts_below n)) (Count n ∷ []) (Count m)
        (among before)
    by among (inr last) = let same : n ≡ m = omega (arith, less, last) in
        subst (λ (k : ℕ). Contains (map reply_of (counts_below n) ++ Count n ∷ []) (Count k)) same
        (Contains-push (map reply_of (counts_below n)) (Count n))

got_write : (l : Bounds) (c : Counts) (call : Call) (appended : List LockEvent) →
    left_by c appended ≡ c.write_count + 1 → stamps_given call ≡ Some OfWriter →
    IsPlain l call (Stamp (write_stamp (units l) (c.write_count + 1))) →
    Gives l c call (change appended (next_write (units l) c))
got_write l c call appended one writes plain = stamp_given (inr (inr (at (sym writes)))) (inr (
  one,
  writes,
  ap (λ (k : ℕ). Stamp (write_stamp (units l) k)) (sym one),
)) plain
  where
    at : Some OfWriter ≡ stamps_given call →
        MatchOption (stamps_given call) ⊥ (λ kind. MayBeNow kind c.write_count (left_by c appended) ×
        IsGiven l kind (left_by c appended) (write_stamp (units l) (c.write_count + 1)))
    at is = subst (λ (o : Option Issued). MatchOption o ⊥ (λ kind.
        MayBeNow kind c.write_count (left_by c appended) × IsGiven l kind (left_by c appended)
        (write_stamp (units l) (c.write_count + 1)))) is
        (omega (arith, one), ap (λ (k : ℕ). write_stamp (units l) k) (sym one))

room_left : (l : Bounds) (c : Counts) → may_read l c ≡ true → c.readers + 1 ≤ l.readers
room_left l c may = let room : c.readers < l.readers = grind (arith, nat_tests) in omega (arith, room)

pub row_gives : (limits : Bounds) (c : Counts) → AreInRange limits → (call : Call) →
    (call ≡ ReadCount → c.readers ≤ limits.readers) → Gives limits c call (row limits c call)
row_gives l c range TryWrite within = gives_if l c TryWrite (may_write l c)
    (λ _. got_write l c TryWrite (WriteAcquired ∷ []) refl refl tt) (λ _. stamp_given (inl refl) (inl refl) tt)
row_gives l c range TryRead within = gives_if l c TryRead (may_read l c)
    (λ h. stamp_given (inr (inr (omega arith, (c.readers + 1, omega arith, room_left l c h, refl)))) (inl refl) tt)
    (λ _. stamp_given (inl refl) (inl refl) tt)
row_gives l c range WriteLock within = gives_if l c WriteLock (c.write_count == l.versions)
    (λ _. stamp_given (inl refl) (inl refl) tt)
    (λ _. gives_if l c WriteLock (may_write l c)
    (λ _. got_write l c WriteLock (WriteAcquired ∷ []) refl refl tt) (λ _. none_given))
row_gives l c range ReadLock within = gives_if l c ReadLock (may_read l c)
    (λ h. stamp_given (inr (inr (omega arith, (c.readers + 1, omega arith, room_left l c h, refl)))) (inl refl) tt)
    (λ _. none_given)
row_gives l c range Optimistic within = by (c.writers == 0)
  where
    by : (b : Bool) → Gives l c Optimistic
        (answer (Stamp (if b then optimistic_stamp (units l) c.write_count else 0)))
    by true = stamp_given (inr (inr (omega arith, refl))) (inl refl) tt
    by false = stamp_given (inl refl) (inl refl) tt
row_gives l c range (UnlockWrite s) within = gives_if l c (UnlockWrite s) (is_held_write (units l) c s)
    (λ _. other_given done_none refl first_of refl) (λ _. other_given mismatch_none refl second_of refl)
row_gives l c range (UnlockRead s) within = gives_if l c (UnlockRead s) (is_held_read (units l) c s)
    (λ _. other_given done_none refl first_of refl) (λ _. other_given mismatch_none refl second_of refl)
row_gives l c range (Unlock s) within = gives_if l c (Unlock s) (is_held_write (units l) c s)
    (λ _. other_given done_none refl first_of refl)
    (λ _. gives_if l c (Unlock s) (is_held_read (units l) c s) (λ _. other_given done_none refl first_of refl)
    (λ _. other_given mismatch_none refl second_of refl))
row_gives l c range (ToWrite s) within = gives_if l c (ToWrite s) (is_held_write (units l) c s)
    (λ _. stamp_given (inr (inl refl)) (inl refl) tt)
    (λ _. gives_if l c (ToWrite s) (is_held_read (units l) c s && (c.readers == 1) && nat_lt c.write_count l.versions)
    (λ _. got_write l c (ToWrite s) _ refl refl tt)
    (λ _. gives_if l c (ToWrite s) ((s == optimistic_stamp (units l) c.write_count) && may_write l c)
    (λ _. got_write l c (ToWrite s) _ refl refl tt) (λ _. stamp_given (inl refl) (inl refl) tt)))
row_gives l c range (ToRead s) within = gives_if l c (ToRead s) (is_held_write (units l) c s)
    (λ _. stamp_given (inr (inr (omega arith, (1, omega arith, range.some_reader, refl)))) (inl refl) tt)
    (λ _. gives_if l c (ToRead s) (is_held_read (units l) c s) (λ _. stamp_given (inr (inl refl)) (inl refl) tt)
    (λ _. gives_if l c (ToRead s) ((s == optimistic_stamp (units l) c.write_count) && may_read l c)
    (λ h. stamp_given (inr (inr (omega arith, (c.readers + 1, omega arith, room_left l c (and_parts _ _ h).1, refl))))
    (inl refl) tt)
    (λ _. stamp_given (inl refl) (inl refl) tt)))
row_gives l c range (ToOptimistic s) within = gives_if l c (ToOptimistic s) (is_held_write (units l) c s)
    (λ _. stamp_given (inr (inr (omega arith, refl))) (inl refl) tt)
    (λ _. gives_if l c (ToOptimistic s) (is_held_read (units l) c s)
    (λ _. stamp_given (inr (inr (omega arith, refl))) (inl refl) tt)
    (λ _. gives_if l c (ToOptimistic s) ((s == optimistic_stamp (units l) c.write_count) && (c.writers == 0))
    (λ _. stamp_given (inr (inl refl)) (inl refl) tt) (λ _. stamp_given (inl refl) (inl refl) tt)))
row_gives l c range TryUnlockWrite within = gives_if l c TryUnlockWrite (c.writers == 1)
    (λ _. other_given yes_none refl first_of refl) (λ _. other_given no_none refl second_of refl)
row_gives l c range TryUnlockRead within = gives_if l c TryUnlockRead (nat_lt 0 c.readers)
    (λ _. other_given yes_none refl first_of refl) (λ _. other_given no_none refl second_of refl)
row_gives l c range ReadCount within = other_given count_none refl (count_among (l.readers + 1) c.readers
    (let few = within refl in omega (arith, few))) refl
row_gives l c range Get within = none_given
row_gives l c range (Put words) within = none_given
row_gives l c range (PutIf expected words) within = none_given
row_gives l c range _ within = yes_given _ (λ reply is. is) refl

-- what a call does that takes effect, and what it is given
pub record StepGives (limits : Bounds) (s next : State) (call : Call) (reply : Reply) : Type 0 where
  pub well_formed : IsWellFormed limits next.0
  pub given : (stamp : ℕ) → reply ≡ Stamp stamp → MayBeGiven limits call (write_count s.0) (write_count next.0) stamp
  pub valid : (stamp : ℕ) → reply ≡ Stamp stamp → (stamp ≡ 0) ⊎ IsStamp (units limits) (write_count next.0) stamp
  pub writes : WritesSo limits call (write_count s.0) (write_count next.0) reply
  pub plain : IsPlain limits call reply
  pub stamp : GetsStamp call reply
  pub content : (next.1 ≡ s.1) ⊎ Leaves call next.1
  pub gets : call ≡ Get → reply ≡ Content s.1

-- the record's part
record RecordGives (limits : Bounds) (content next : List ℕ) (call : Call) (reply : Reply) : Type 0 where
  no_stamp : (stamp : ℕ) → reply ≡ Stamp stamp → ⊥
  plain : IsPlain limits call reply
  stamp : GetsStamp call reply
  leaves : (next ≡ content) ⊎ Leaves call next
  gets : call ≡ Get → reply ≡ Content content

put_is_no_get : {words : List ℕ} → Put words ≡ Get → ⊥
put_is_no_get is = cc

put_if_is_no_get : {expected words : List ℕ} → PutIf expected words ≡ Get → ⊥
put_if_is_no_get is = cc

content_is_no_stamp : {words : List ℕ} {s : ℕ} → Content words ≡ Stamp s → ⊥
content_is_no_stamp is = cc

record_gives : (limits : Bounds) (content next : List ℕ) (call : Call) (reply : Reply) →
    RecordReplies content call reply → next ≡ content_next content call reply →
    RecordGives limits content next call reply
record_gives limits content next Get reply replies leaves = record {
  no_stamp = λ s is. content_is_no_stamp (sym replies ∙ is);
  plain = tt;
  stamp = tt;
  leaves = inl leaves;
  gets = λ _. replies;
}
record_gives limits content next (Put words) reply replies leaves = record {
  no_stamp = λ s is. done_none s (sym replies ∙ is);
  plain = (0, omega arith, sym replies);
  stamp = tt;
  leaves = inr leaves;
  gets = λ is. absurd (put_is_no_get is);
}
record_gives limits content next (PutIf expected words) reply replies leaves =
    by (same_words content expected) replies
  where
    by : (b : Bool) → reply ≡ (if b then Yes else No) →
        RecordGives limits content next (PutIf expected words) reply
    by true is = record {
      no_stamp = λ s same. yes_none s (sym is ∙ same);
      plain = (0, omega arith, sym is);
      stamp = tt;
      leaves = inr (leaves ∙ ap (content_next content (PutIf expected words)) is);
      gets = λ same. absurd (put_if_is_no_get same);
    }
    by false is = record {
      no_stamp = λ s same. no_none s (sym is ∙ same);
      plain = (1, omega arith, sym is);
      stamp = tt;
      leaves = inl (leaves ∙ ap (content_next content (PutIf expected words)) is);
      gets = λ same. absurd (put_if_is_no_get same);
    }
record_gives limits content next _ reply replies leaves = absurd replies

module _ (limits : Bounds) (range : AreInRange limits) (s next : State) (call : Call) (reply : Reply)
    (well_formed : IsWellFormed limits s.0) where
  lock_gives : is_lock_call call ≡ true → LockStep limits s.0 call reply next.0 → next.1 ≡ s.1 →
      StepGives limits s next call reply
  lock_gives is step same = by (transition limits s.0 call)
      (row_gives limits (counts s.0) range call (λ _. (obeys_now limits s.0 well_formed).within.readers)).given
      (row_issues limits (counts s.0) range (obeys_now limits s.0 well_formed).within call).issued
      step.replies counted after
    where
      counted : counts next.0 ≡ after_events (counts s.0) (appended_by (transition limits s.0 call))
      counted = ap counts step.appends ∙ (transition_counts limits s.0 call range well_formed).1

      after : IsWellFormed limits next.0
      after = subst (IsWellFormed limits) (sym step.appends)
          (transition_counts limits s.0 call range well_formed).0

      by : (t : Option Transition) → GivesBy limits (counts s.0) call t →
          IssuesBy (units limits) (counts s.0) t → Replies t reply →
          counts next.0 ≡ after_events (counts s.0) (appended_by t) → IsWellFormed limits next.0 →
          StepGives limits s next call reply
      by None gives issues replies counted after = absurd replies
      by (Some t) gives issues replies counted after = record {
        well_formed = after;
        given = λ stamp is. subst (λ (k : ℕ). MayBeGiven limits call (write_count s.0) k stamp) (sym version)
            (gives.0 stamp (replies ∙ is));
        valid = λ stamp is. valid stamp is (zero_or stamp);
        writes = subst (λ (k : ℕ). WritesSo limits call (write_count s.0) k reply) (sym version)
            (subst (WritesSo limits call (write_count s.0) (left_by (counts s.0) t.appended)) replies gives.1);
        plain = subst (IsPlain limits call) replies gives.2;
        stamp = subst (GetsStamp call) replies gives.3;
        content = inl same;
        gets = λ get. absurd (false≢true (ap is_lock_call (sym get) ∙ is));
      }
        where
          version : write_count next.0 ≡ left_by (counts s.0) t.appended
          version = ap (λ (c : Counts). c.write_count) counted

          zero_or : (n : ℕ) → (n ≡ 0) ⊎ (0 < n)
          zero_or n = grind arith

          valid : (stamp : ℕ) → reply ≡ Stamp stamp → (stamp ≡ 0) ⊎ (0 < stamp) →
              (stamp ≡ 0) ⊎ IsStamp (units limits) (write_count next.0) stamp
          valid stamp is (inl none) = inl none
          valid stamp is (inr some) = inr (subst (λ (k : ℕ). IsStamp (units limits) k stamp) (sym version)
              (issues stamp (replies ∙ is) (λ none. omega (arith, none, some))).0)

  record_step_gives : RecordStep s.1 call reply next.1 → next.0 ≡ s.0 → StepGives limits s next call reply
  record_step_gives step same = record {
    well_formed = subst (IsWellFormed limits) (sym same) well_formed;
    given = λ stamp is. absurd (gives.no_stamp stamp is);
    valid = λ stamp is. absurd (gives.no_stamp stamp is);
    writes = inl (ap (λ (events : List LockEvent). write_count events) same);
    plain = gives.plain;
    stamp = gives.stamp;
    content = gives.leaves;
    gets = gives.gets;
  }
    where
      gives : RecordGives limits s.1 next.1 call reply
      gives = record_gives limits s.1 next.1 call reply step.replies step.leaves

  pub step_gives : Both limits s call reply next → StepGives limits s next call reply
  step_gives step = by (is_lock_call call) refl step.0 step.1
    where
      by : (b : Bool) → is_lock_call call ≡ b → MatchBool b (LockStep limits s.0 call reply next.0) (next.0 ≡ s.0) →
          MatchBool (not b) (RecordStep s.1 call reply next.1) (next.1 ≡ s.1) → StepGives limits s next call reply
      by true is lock same = lock_gives is lock same
      by false is same step = record_step_gives step same

-- a call that has other replies reads the content
pub reads_content : (limits : Bounds) (call : Call) → plain_replies limits call ≡ None → stamps_given call ≡ None →
    call ≡ Get
reads_content limits Get plain stamps = refl
reads_content limits TryWrite plain stamps = absurd (none-some _ (sym stamps))
reads_content limits TryRead plain stamps = absurd (none-some _ (sym stamps))
reads_content limits WriteLock plain stamps = absurd (none-some _ (sym stamps))
reads_content limits ReadLock plain stamps = absurd (none-some _ (sym stamps))
reads_content limits Optimistic plain stamps = absurd (none-some _ (sym stamps))
reads_content limits (ToWrite s) plain stamps = absurd (none-some _ (sym stamps))
reads_content limits (ToRead s) plain stamps = absurd (none-some _ (sym stamps))
reads_content limits (ToOptimistic s) plain stamps = absurd (none-some _ (sym stamps))
reads_content limits _ plain stamps = absurd (none-some _ (sym plain))
