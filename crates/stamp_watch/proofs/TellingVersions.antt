-- Which versions stamps tell.
use Rattle.std.proofs.Common.{◌≡◌, ◌⊎◌, ◌+◌, ◌*◌, ◌<◌, ◌≤◌, ℕ, Bool, true, List, [], ◌∷◌, ◌++◌, None, Option, Some}
use Rattle.std.proofs.Common.{refl, sym, ◌∙◌, ap, subst, inl, inr, arith}
use Rattle.std.specs.Bool.{MatchBool}
use Rattle.std.proofs.lemmas.Option.{none-some}
use Rattle.stamp_core.specs.LockEvent.{Counts, LockEvent, counts, write_count}
use Rattle.stamp_core.specs.LockEvent.LockEvent.{WriteAcquired}
use Rattle.stamp_core.specs.Decoded.{after_event}
use Rattle.stamp_core.specs.Layout.{units_of}
use Rattle.stamp_core.specs.Limits.{AreInRange, Bounds, units}
use Rattle.stamp_core.specs.Stamp.{IsStamp, optimistic_stamp, read_stamp, write_stamp}
use Rattle.stamp_core.specs.Transition.{Transition, transition}
use Rattle.stamp_core.specs.History.{Replies, appended_by}
use Rattle.stamp_core.specs.Call.{is_lock_call}
use Rattle.stamp_core.specs.declared.call.Call.{Call}
use Rattle.stamp_core.specs.declared.call.Call.TheVariants.{Optimistic, ReadCount, ReadLock, TryRead}
use Rattle.stamp_core.specs.declared.call.Call.TheVariants.{TryWrite, WriteLock}
use Rattle.stamp_core.specs.declared.layout.Layout.{Layout}
use Rattle.stamp_core.specs.declared.reply.Reply.{Reply}
use Rattle.stamp_core.specs.declared.reply.Reply.TheVariants.{Stamp}
use Rattle.stamp_core.proofs.TwoLayouts.{either_layout}
use Rattle.stamp_runs.specs.Run.{lane_of}
use Rattle.stamp_runs.specs.declared.event.Event.{Event}
use Rattle.stamp_runs.specs.declared.event.Event.TheVariants.{Begins, Returns}
use Rattle.stamp_runs.specs.Run.EndsBy.{ends_next}
use Rattle.stamp_runs.specs.BothRun.{Both, State}
use Rattle.stamp_runs.specs.Object.{LockStep}
use Rattle.stamp_watch.specs.Issued.{IssuesOf, IssuesOlder, IssuesStamp, ReturnsOlder}
use Rattle.stamp_watch.specs.Ahead.{IsSpared}
use Rattle.stamp_watch.specs.LateLaws.{LateStampLosesNothing, StampTellsVersion, TellsOlder}
use Rattle.stamp_watch.specs.declared.candidates.Issued.{Issued}
use Rattle.stamp_watch.specs.declared.candidates.Issued.TheVariants.{OfWriter, OfReader, OfNone}
use Rattle.stamp_watch.specs.inner.Candidates.{IsGiven, MayBeGiven, MayBeNow}
use Rattle.stamp_watch.proofs.BeginningLate.{writes-append}
use Rattle.stamp_watch.proofs.Giving.{GivesBy, left_by, row_gives}
use Rattle.stamp_watch.proofs.Ways.{never_among, ends_past}
use Rattle.stamp_watch.proofs.LosingNothing.{late_loses_nothing}

-- a number is a stamp of one version alone
module _ (layout : Layout) (version stamp : ℕ) (is : IsStamp (units_of layout) version stamp) where
  pub stamp_some : 0 < stamp
  stamp_some = by is
    where
      by : IsStamp (units_of layout) version stamp → 0 < stamp
      by (inl write) = grind (arith, either_layout layout, write.number)
      by (inr (inl read)) = grind (arith, either_layout layout, read.number)
      by (inr (inr seen)) = grind (arith, either_layout layout, seen.number)

  write_version : (k : ℕ) → stamp ≡ write_stamp (units_of layout) k → k ≡ version
  write_version k same = by is
    where
      by : IsStamp (units_of layout) version stamp → k ≡ version
      by (inl write) = grind (arith, either_layout layout, write.number, same)
      by (inr (inl read)) = grind (arith, either_layout layout, read.number, read.most, same)
      by (inr (inr seen)) = grind (arith, either_layout layout, seen.number, same)

  read_version : (k nth : ℕ) → nth ≤ (units_of layout).readers → stamp ≡ read_stamp (units_of layout) k nth →
      k ≡ version
  read_version k nth few same = by is
    where
      by : IsStamp (units_of layout) version stamp → k ≡ version
      by (inl write) = grind (arith, either_layout layout, write.number, few, same)
      by (inr (inl read)) = grind (arith, either_layout layout, read.number, read.most, few, same)
      by (inr (inr seen)) = grind (arith, either_layout layout, seen.number, few, same)

-- so a call that may be given it has that version then
module _ (limits : Bounds) (range : AreInRange limits) (old new stamp version : ℕ)
    (is : IsStamp (units limits) version stamp)
  where
    of_kind : (kind : Issued) → (stamp ≡ 0) ⊎ ((None ≡ Some stamp) ⊎
        (MayBeNow kind old new × IsGiven limits kind new stamp)) → new ≡ version
    of_kind kind (inl none) =
        absurd (let some = stamp_some limits.layout version stamp is in omega (arith, some, none))
    of_kind kind (inr (inl converts)) = absurd (none-some stamp converts)
    of_kind OfWriter (inr (inr given)) = write_version limits.layout version stamp is new given.1
    of_kind OfReader (inr (inr given)) = read_version limits.layout version stamp is new given.1.0
        (let few : given.1.0 ≤ limits.readers = given.1.2 in
        let most : limits.readers ≤ (units limits).readers = range.readers in omega (arith, few, most)) given.1.3
    of_kind OfNone (inr (inr given)) = read_version limits.layout version stamp is new 0 (omega arith)
        (let same : stamp ≡ optimistic_stamp (units limits) new = given.1 in omega (arith, same))

    of_call : (call : Call) → IssuesStamp call → MayBeGiven limits call old new stamp → new ≡ version
    of_call call issues may = by issues
      where
        when : (c : Call) → call ≡ c → MayBeGiven limits c old new stamp
        when c same = subst (λ (x : Call). MayBeGiven limits x old new stamp) same may

        by : IssuesStamp call → new ≡ version
        by (inl (inl same)) = of_kind OfWriter (when WriteLock same)
        by (inl (inr same)) = of_kind OfWriter (when TryWrite same)
        by (inr (inl same)) = of_kind OfNone (when Optimistic same)
        by (inr (inr (inl same))) = of_kind OfReader (when TryRead same)
        by (inr (inr (inr same))) = of_kind OfReader (when ReadLock same)

left_count : (c : Counts) (events : List LockEvent) → left_by c events ≡ c.write_count + write_count events
left_count c [] = omega arith
left_count c (WriteAcquired ∷ events) =
    let one : write_count (WriteAcquired ∷ events) ≡ 1 + write_count events =
    writes-append (WriteAcquired ∷ []) events in
    let more : left_by c (WriteAcquired ∷ events) ≡ (c.write_count + 1) + write_count events =
    left_count (after_event c WriteAcquired) events in omega (arith, one, more)
left_count c (event ∷ events) = left_count (after_event c event) events

pub stamp_tells_version : StampTellsVersion
stamp_tells_version limits call stamp version u v range issues is step = by (transition limits u call)
    (row_gives limits (counts u) range call (no_count issues)).given step.replies
    (ap (λ (events : List LockEvent). write_count events) step.appends ∙
    writes-append u (appended_by (transition limits u call)))
  where
    no_count : IssuesStamp call → call ≡ ReadCount → (counts u).readers ≤ limits.readers
    no_count (inl (inl one)) same = cc
    no_count (inl (inr one)) same = cc
    no_count (inr (inl one)) same = cc
    no_count (inr (inr (inl one))) same = cc
    no_count (inr (inr (inr one))) same = cc

    by : (t : Option Transition) → GivesBy limits (counts u) call t → Replies t (Stamp stamp) →
        write_count v ≡ write_count u + write_count (appended_by t) → write_count v ≡ version
    by None gives replies many = absurd replies
    by (Some t) gives replies many = many ∙ sym (left_count (counts u) t.appended) ∙
        of_call limits range (write_count u) (left_by (counts u) t.appended) stamp version is call issues
        (gives.0 stamp replies)

-- a call that issues a stamp is the lock's
lock_step : (limits : Bounds) {reply : Reply} (call : Call) (u v : State) → IssuesStamp call →
    Both limits u call reply v → LockStep limits u.0 call reply v.0
lock_step limits {reply} call u v issues step =
    subst (λ (b : Bool). MatchBool b (LockStep limits u.0 call reply v.0) (v.0 ≡ u.0)) (by issues) step.0
  where
    is : (c : Call) → is_lock_call c ≡ true → call ≡ c → is_lock_call call ≡ true
    is c own same = ap is_lock_call same ∙ own

    by : IssuesStamp call → is_lock_call call ≡ true
    by (inl (inl same)) = is WriteLock refl same
    by (inl (inr same)) = is TryWrite refl same
    by (inr (inl same)) = is Optimistic refl same
    by (inr (inr (inl same))) = is TryRead refl same
    by (inr (inr (inr same))) = is ReadLock refl same

-- where a call begins and returns that issues an older stamp, an older version is told
pub older_told : (limits : Bounds) (version : ℕ) (events : List Event) → AreInRange limits →
    ReturnsOlder limits version events → TellsOlder limits version events
older_told limits version events range is = record {
  before = is.before;
  behind = one.between ++ Returns issued.lane (Stamp issued.stamp) ∷ one.rest;
  lane = issued.lane;
  call = issued.call;
  reply = Stamp issued.stamp;
  events_are = is.events_are ∙ ap (λ (xs : List Event). is.before ++ is.begun ∷ xs) one.behind_is ∙
      ap (λ (e : Event). is.before ++ e ∷ (one.between ++ one.end ∷ one.rest)) issued.begins ∙
      ap (λ (e : Event). is.before ++ Begins issued.lane issued.call ∷ (one.between ++ e ∷ one.rest)) issued.returns;
  tells = ends_past one.between (Returns issued.lane (Stamp issued.stamp) ∷ one.rest)
      (never_among issued.lane one.between (subst (IsSpared one.between) (ap lane_of issued.begins) one.spared))
      ends_next;
  older = λ u v step. subst (λ (k : ℕ). k < version) (sym (stamp_tells_version limits issued.call issued.stamp one.of
      u.0 v.0 range issued.issues issued.is_of (lock_step limits issued.call u v issued.issues step))) one.older;
}
  where
    one : IssuesOlder limits version is.begun is.behind
    one = is.one

    issued : IssuesOf limits one.of is.begun one.end
    issued = one.issues

pub late_stamp_loses_nothing : LateStampLosesNothing
late_stamp_loses_nothing limits lane call stamp version past between rest range issues is free never tells told way =
    late_loses_nothing limits lane call (Stamp stamp) version past between rest free never tells
    (λ u v step. let same : write_count v.0 ≡ version = stamp_tells_version limits call stamp version u.0 v.0 range
    issues is (lock_step limits call u v issues step) in omega (arith, same))
    (older_told limits version rest range told) way

pub one_version : (layout : Layout) (version stamp : ℕ) → IsStamp (units_of layout) version stamp → (k : ℕ) →
    IsStamp (units_of layout) k stamp → k ≡ version
one_version layout version stamp is k (inl write) = write_version layout version stamp is k write.number
one_version layout version stamp is k (inr (inl read)) = read_version layout version stamp is k read.nth read.most
    read.number
one_version layout version stamp is k (inr (inr seen)) = read_version layout version stamp is k 0 (omega arith)
    (let same : stamp ≡ (units_of layout).version * (k + 1) = seen.number in omega (arith, same))
