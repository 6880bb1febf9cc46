-- Each call that a judge was given ends near.
use Rattle.std.proofs.Common.{◌≡◌, ◌≢◌, ◌⊎◌, ◌+◌, ◌-◌, ◌<◌, ◌≤◌, ℕ, zero, suc, List, [], ◌∷◌}
use Rattle.std.proofs.Common.{◌++◌, length, Some, None, refl, sym, ◌∙◌, ap, subst, inl, inr, arith, append_assoc}
use Rattle.std.proofs.Common.{append-nil, map}
use Rattle.std.specs.Prelude.{drop, take, is_some, IsSome}
use Rattle.std.specs.List.{All, AllPairs}
use Rattle.std.proofs.lemmas.Bool.{cases_eq, cases_lt, false≢true}
use Rattle.std.proofs.lemmas.List.{drop-append-le, drop_all, length-append, length-drop, length-map, length_push}
use Rattle.std.proofs.lemmas.List.{take_all, take-append-le}
use Rattle.std.proofs.lemmas.List.Elements.{All-cons, All-head, All-map, All-nil, All-tail, All-take}
use Rattle.std.proofs.Math.Seq.{take-append-add, take-append_seam}
use Rattle.stamp_core.specs.Limits.{Bounds}
use Rattle.stamp_core.specs.declared.call.Call.{Call}
use Rattle.stamp_explain.proofs.Lists.{pairs_map}
use Rattle.stamp_explain.proofs.Threads.{few_threads}
use Rattle.stamp_runs.specs.Own.{AreInForm, AreInFormFrom, MayCome, none_open, open_then}
use Rattle.stamp_runs.specs.Run.{IsEndOf, lane_of, EndsNever}
use Rattle.stamp_runs.specs.declared.event.Event.{Event}
use Rattle.stamp_runs.specs.declared.event.Event.TheVariants.{Begins, Returns, Withdraws}
use Rattle.stamp_runs.proofs.Owning.{Calls, in_lane}
use Rattle.stamp_watch.specs.Ahead.{IsSpared}
use Rattle.stamp_watch.specs.Course.{IsRest}
use Rattle.stamp_watch.specs.declared.verdict.Verdict.{Verdict}
use Rattle.stamp_watch.specs.declared.verdict.Verdict.TheVariants as verdict
use Rattle.stamp_watch.specs.declared.verdict.Why.TheVariants as cause
use Rattle.stamp_watch.specs.Delay.{AreAside, AreNear, EndsNear, IsBeginning}
use Rattle.stamp_watch.specs.Judging.{IsFound}
use Rattle.stamp_watch.specs.SoFar.{BeginWithOpenCall}
use Rattle.stamp_watch.specs.Verdict.{IsOpenFor}
use Rattle.stamp_watch.specs.inner.Delay.{IsToBeAside}
use Rattle.stamp_watch.proofs.Form.{open_other}
use Rattle.stamp_watch.proofs.Ways.{first_same, never_later, no_empty, not_end, rest_same}

-- each call that is aside is in a lane of its own
pub few_aside : (aside waiting : List Event) → AreAside aside waiting → length aside ≤ 64
few_aside aside waiting is =
    let few : length (map lane_of aside) ≤ 64 = few_threads (map lane_of aside) 64 apart low in
    let long : length (map lane_of aside) ≡ length aside = length-map aside lane_of in omega (arith, few, long)
  where
    apart : AllPairs (λ (a b : ℕ). a ≢ b) (map lane_of aside)
    apart = pairs_map (λ (d e : Event). lane_of d ≢ lane_of e) (λ (a b : ℕ). a ≢ b) (λ (e : Event). Unit {0}) lane_of
        aside (λ x y _ _ other. other) (λ k d less. tt) is.apart

    low : All (λ (a : ℕ). a < 64) (map lane_of aside)
    low = All-map (λ (a : ℕ). a < 64) lane_of aside is.lanes

-- where a call doesn't end among events it doesn't among the first of them
never_first : (lane : ℕ) (xs ys : List Event) → EndsNever lane (xs ++ ys) → EndsNever lane xs
never_first lane xs ys never = subst (EndsNever lane) (take-append_seam xs ys)
    (All-take (λ (e : Event). ¬ IsEndOf lane e) (length xs) (xs ++ ys) never)

no_end : (lane : ℕ) (xs : List Event) (e : Event) (ys : List Event) → IsEndOf lane e →
    EndsNever lane (xs ++ e ∷ ys) → ⊥
no_end lane [] e ys ends never = not_end lane e ys never ends
no_end lane (x ∷ xs) e ys ends never = no_end lane xs e ys ends (never_later lane x (xs ++ e ∷ ys) never)

no_end_within : (lane n : ℕ) (xs : List Event) (e : Event) (ys : List Event) → length xs < n → IsEndOf lane e →
    EndsNever lane (take n (xs ++ e ∷ ys)) → ⊥
no_end_within lane zero xs e ys less ends never = absurd (omega (arith, less))
no_end_within lane (suc n) [] e ys less ends never = not_end lane e (take n ys) never ends
no_end_within lane (suc n) (x ∷ xs) e ys less ends never = no_end_within lane n xs e ys (omega (arith, less)) ends
    (never_later lane x (take n (xs ++ e ∷ ys)) never)

-- in a lane that has an open call no call begins
ends_where_open : (calls : Calls) (lane : ℕ) (e : Event) → IsSome (calls lane) → lane_of e ≡ lane → MayCome calls e →
    IsEndOf lane e
ends_where_open calls lane (Begins u call) taken same may =
    absurd (false≢true (sym (ap is_some may) ∙ ap (λ (v : ℕ). is_some (calls v)) same ∙ taken))
ends_where_open calls lane _ taken same may = same

next_ends : (calls : Calls) (lane : ℕ) (before : List Event) (e : Event) (after : List Event) → IsSome (calls lane) →
    IsSpared before lane → lane_of e ≡ lane → AreInFormFrom calls (before ++ e ∷ after) → IsEndOf lane e
next_ends calls lane [] e after taken spared same form = ends_where_open calls lane e taken same form.0
next_ends calls lane (x ∷ before) e after taken spared same form = next_ends (open_then calls x) lane before e after
    (ap is_some (open_other lane calls x (All-head (λ (d : Event). lane_of d ≢ lane) x before spared)) ∙ taken)
    (All-tail (λ (d : Event). lane_of d ≢ lane) x before spared) same form.1

-- the next event of its lane ends a call
call_ends : (calls : Calls) (past : List Event) (lane : ℕ) (call : Call) (before : List Event) (e : Event)
    (after : List Event) → AreInFormFrom calls (past ++ Begins lane call ∷ (before ++ e ∷ after)) →
    IsSpared before lane → lane_of e ≡ lane → IsEndOf lane e
call_ends calls [] lane call before e after form spared same = next_ends (open_then calls (Begins lane call)) lane
    before e after (ap is_some (in_lane (Some call) (calls lane) refl)) spared same form.1
call_ends calls (x ∷ past) lane call before e after form spared same =
    call_ends (open_then calls x) past lane call before e after form.1 spared same

-- the first of these events that is of the lane
record HasNext (lane : ℕ) (events : List Event) : Type 0 where
  before : List Event
  next : Event
  after : List Event
  events_are : events ≡ before ++ next ∷ after
  spared : IsSpared before lane
  same : lane_of next ≡ lane

next_if_any : (lane : ℕ) (events : List Event) → IsSpared events lane ⊎ HasNext lane events
next_if_any lane [] = inl (All-nil (λ (e : Event). lane_of e ≢ lane))
next_if_any lane (e ∷ events) = by (cases_eq (lane_of e) lane) (next_if_any lane events)
  where
    by : (lane_of e ≡ lane) ⊎ (lane_of e ≢ lane) → IsSpared events lane ⊎ HasNext lane events →
        IsSpared (e ∷ events) lane ⊎ HasNext lane (e ∷ events)
    by (inl same) any = inr (record {
      before = [];
      next = e;
      after = events;
      events_are = refl;
      spared = All-nil (λ (d : Event). lane_of d ≢ lane);
      same = same;
    })
    by (inr apart) (inl spared) = inl (All-cons (λ (d : Event). lane_of d ≢ lane) e events apart spared)
    by (inr apart) (inr has) = inr (record {
      before = e ∷ has.before;
      next = has.next;
      after = has.after;
      events_are = ap (λ (xs : List Event). e ∷ xs) has.events_are;
      spared = All-cons (λ (d : Event). lane_of d ≢ lane) e has.before apart has.spared;
      same = has.same;
    })

-- a beginning among events of which the last is known: it is one of the others, or that
record BeganBefore (given : List Event) (k lane : ℕ) (call : Call) (x : Event) (behind : List Event) : Type 0 where
  first : List Event
  there : drop k given ≡ Begins lane call ∷ first
  behind_is : behind ≡ first ++ x ∷ []

began : (given : List Event) (k lane : ℕ) (call : Call) (x : Event) (behind : List Event) →
    drop k (given ++ x ∷ []) ≡ Begins lane call ∷ behind →
    ((x ≡ Begins lane call) × (behind ≡ [])) ⊎ BeganBefore given k lane call x behind
began given k lane call x behind there = which (cases_lt (length given) k)
  where
    by : (ds : List Event) → drop k given ≡ ds → ds ++ x ∷ [] ≡ Begins lane call ∷ behind →
        ((x ≡ Begins lane call) × (behind ≡ [])) ⊎ BeganBefore given k lane call x behind
    by [] none is = inl (first_same is, sym (rest_same is))
    by (d ∷ ds) some is = inr (record {
      first = ds;
      there = some ∙ ap (λ (e : Event). e ∷ ds) (first_same is);
      behind_is = sym (rest_same is);
    })

    which : (length given < k) ⊎ (k ≤ length given) →
        ((x ≡ Begins lane call) × (behind ≡ [])) ⊎ BeganBefore given k lane call x behind
    which (inl more) = absurd (no_empty (sym (drop_all k (given ++ x ∷ [])
        (let long : length (given ++ x ∷ []) ≡ length given + 1 = length_push given x in omega (arith, long, more))) ∙
        there))
    which (inr within) = by (drop k given) refl (sym (drop-append-le k given (x ∷ []) within) ∙ there)

-- the judge is given one event more
module _ (reach : ℕ) (given aside waiting aside' waiting' : List Event) (x : Event) (some : 0 < reach)
    (carry : (lane : ℕ) (behind : List Event) → EndsNever lane (behind ++ x ∷ []) →
    EndsNear reach lane behind aside waiting → EndsNear reach lane (behind ++ x ∷ []) aside' waiting')
    (enter : (lane : ℕ) (call : Call) → x ≡ Begins lane call → EndsNear reach lane [] aside' waiting')
    (are : AreNear reach given aside waiting) where
  each_then : (k lane : ℕ) (call : Call) (behind : List Event) → drop k (given ++ x ∷ []) ≡ Begins lane call ∷ behind →
      EndsNever lane behind → EndsNear reach lane behind aside' waiting'
  each_then k lane call behind there never = by (began given k lane call x behind there)
    where
      by : ((x ≡ Begins lane call) × (behind ≡ [])) ⊎ BeganBefore given k lane call x behind →
          EndsNear reach lane behind aside' waiting'
      by (inl last) = subst (λ (xs : List Event). EndsNear reach lane xs aside' waiting') (sym last.1)
          (enter lane call last.0)
      by (inr b) = subst (λ (xs : List Event). EndsNear reach lane xs aside' waiting') (sym b.behind_is)
          (carry lane b.first (subst (EndsNever lane) b.behind_is never)
          (are.each k lane call b.first b.there
          (never_first lane b.first (x ∷ []) (subst (EndsNever lane) b.behind_is never))))

  none_then : (k : ℕ) → IsOpenFor (given ++ x ∷ []) k reach → ⊥
  none_then k is = by (began given k is.lane is.call x is.later is.there)
    where
      many : reach ≤ length is.later
      many = is.many

      by : ((x ≡ Begins is.lane is.call) × (is.later ≡ [])) ⊎ BeganBefore given k is.lane is.call x is.later → ⊥
      by (inl last) = let long : length is.later ≡ 0 = ap (λ (xs : List Event). length xs) last.1 in
          omega (arith, long, many, some)
      by (inr b) = which (cases_lt (length b.first) reach)
        where
          long : length is.later ≡ length b.first + 1
          long = ap (λ (xs : List Event). length xs) b.behind_is ∙ length_push b.first x

          which : (length b.first < reach) ⊎ (reach ≤ length b.first) → ⊥
          which (inl less) =
              let here = each_then k is.lane is.call is.later is.there
              (subst (EndsNever is.lane) (take_all reach is.later (omega (arith, long, less))) is.never) in
              let near : length is.later + length aside' + length here.before < reach = here.near in
              omega (arith, near, many)
          which (inr more) = are.none k (record {
            lane = is.lane;
            call = is.call;
            later = b.first;
            there = b.there;
            many = more;
            never = subst (EndsNever is.lane)
                (ap (take reach) b.behind_is ∙ take-append-le reach b.first (x ∷ []) more)
                is.never;
          })

  given_then : AreNear reach (given ++ x ∷ []) aside' waiting'
  given_then = record { none = none_then; each = each_then }

-- one event more waits
near_behind : (reach lane : ℕ) (behind aside waiting : List Event) (e : Event) →
    EndsNear reach lane behind aside waiting → EndsNear reach lane behind aside (waiting ++ e ∷ [])
near_behind reach lane behind aside waiting e is = record {
  before = is.before;
  end = is.end;
  after = is.after ++ e ∷ [];
  waiting_is = ap (λ (xs : List Event). xs ++ e ∷ []) is.waiting_is ∙
      append_assoc is.before (is.end ∷ is.after) (e ∷ []);
  ends = is.ends;
  near = is.near;
}

pub near_waits : (reach : ℕ) (given aside waiting : List Event) (e : Event) → AreNear reach given aside waiting →
    AreNear reach given aside (waiting ++ e ∷ [])
near_waits reach given aside waiting e are = record {
  none = are.none;
  each = λ k lane call behind there never. near_behind reach lane behind aside waiting e
      (are.each k lane call behind there never);
}

-- the first event that waits is given, or put aside, where it doesn't end the call
past_first : (reach lane : ℕ) (behind behind' aside aside' : List Event) (x : Event) (rest : List Event) →
    (IsEndOf lane x → ⊥) → length behind' + length aside' ≡ length behind + length aside + 1 →
    EndsNear reach lane behind aside (x ∷ rest) → EndsNear reach lane behind' aside' rest
past_first reach lane behind behind' aside aside' x rest none long is = by is.before is.waiting_is is.near
  where
    by : (before : List Event) → x ∷ rest ≡ before ++ is.end ∷ is.after →
        length behind + length aside + length before < reach → EndsNear reach lane behind' aside' rest
    by [] same near = absurd (none (subst (IsEndOf lane) (sym (first_same same)) is.ends))
    by (b ∷ before) same near = record {
      before = before;
      end = is.end;
      after = is.after;
      waiting_is = rest_same same;
      ends = is.ends;
      near = omega (arith, near, long);
    }

no_end_of_beginning : (lane : ℕ) (x : Event) → IsBeginning x → IsEndOf lane x → ⊥
no_end_of_beginning lane (Begins u call) begins ends = ends
no_end_of_beginning lane _ begins ends = begins

pub near_aside : (reach : ℕ) (given aside waiting rest : List Event) (x : Event) → waiting ≡ x ∷ rest → IsBeginning x →
    AreNear reach given aside waiting → AreNear reach given (aside ++ x ∷ []) rest
near_aside reach given aside waiting rest x first begins are = record {
  none = are.none;
  each = λ k lane call behind there never. past_first reach lane behind behind aside (aside ++ x ∷ []) x rest
      (no_end_of_beginning lane x begins)
      (let long : length (aside ++ x ∷ []) ≡ length aside + 1 = length_push aside x in omega (arith, long))
      (subst (EndsNear reach lane behind aside) first (are.each k lane call behind there never));
}

-- the judge is given the first event that waits
pub near_passes : (window reach : ℕ) (run past given aside waiting rest : List Event) (x : Event) →
    waiting ≡ x ∷ rest → AreInForm run → run ≡ past ++ waiting → (IsToBeAside x rest → ⊥) →
    length waiting ≤ window + 1 → length aside ≤ 64 → reach ≡ window + 64 → AreNear reach given aside waiting →
    AreNear reach (given ++ x ∷ []) aside rest
near_passes window reach run past given aside waiting rest x first form run_is not few lanes far are =
    given_then reach given aside waiting aside rest x (omega (arith, far))
    (λ lane behind never is. past_first reach lane behind (behind ++ x ∷ []) aside aside x rest
    (λ ends. no_end lane behind x [] ends never)
    (let long : length (behind ++ x ∷ []) ≡ length behind + 1 = length_push behind x in omega (arith, long))
    (subst (EndsNear reach lane behind aside) first is)) enter are
  where
    enter : (lane : ℕ) (call : Call) → x ≡ Begins lane call → EndsNear reach lane [] aside rest
    enter lane call begins = by (next_if_any lane rest)
      where
        by : IsSpared rest lane ⊎ HasNext lane rest → EndsNear reach lane [] aside rest
        by (inl spared) = absurd (not (subst (λ (e : Event). IsToBeAside e rest) (sym begins) spared))
        by (inr has) = record {
          before = has.before;
          end = has.next;
          after = has.after;
          waiting_is = has.events_are;
          ends = call_ends none_open past lane call has.before has.next has.after
              (subst AreInForm (run_is ∙ ap (λ (xs : List Event). past ++ xs) (first ∙
              ap (λ (e : Event). e ∷ rest) begins ∙
              ap (λ (xs : List Event). Begins lane call ∷ xs) has.events_are)) form) has.spared has.same;
          near = let long : length waiting ≡ suc (length rest) = ap (λ (xs : List Event). length xs) first in
              let parts : length rest ≡ length (has.before ++ has.next ∷ has.after) =
              ap (λ (xs : List Event). length xs) has.events_are in
              let sum : length (has.before ++ has.next ∷ has.after) ≡ length has.before + suc (length has.after) =
              length-append has.before (has.next ∷ has.after) in
              omega (arith, long, parts, sum, few, lanes, far);
        }

-- the judge is given a call that was aside, whose end comes in
pub near_late : (window reach : ℕ) (run past later given aside aside' waiting : List Event) (b e : Event) →
    AreInForm (run ++ e ∷ []) → run ≡ past ++ b ∷ later → IsSpared later (lane_of b) → lane_of e ≡ lane_of b →
    length aside' + 1 ≡ length aside → length waiting ≤ window → length aside ≤ 64 → reach ≡ window + 64 →
    AreNear reach given aside waiting → AreNear reach (given ++ b ∷ []) aside' (waiting ++ e ∷ [])
near_late window reach run past later given aside aside' waiting b e form run_is spared same one few lanes far are =
    given_then reach given aside waiting aside' (waiting ++ e ∷ []) b (omega (arith, far)) carry enter are
  where
    carry : (lane : ℕ) (behind : List Event) → EndsNever lane (behind ++ b ∷ []) →
        EndsNear reach lane behind aside waiting → EndsNear reach lane (behind ++ b ∷ []) aside' (waiting ++ e ∷ [])
    carry lane behind never is = near_behind reach lane (behind ++ b ∷ []) aside' waiting e (record {
      before = is.before;
      end = is.end;
      after = is.after;
      waiting_is = is.waiting_is;
      ends = is.ends;
      near = let near : length behind + length aside + length is.before < reach = is.near in
          let long : length (behind ++ b ∷ []) ≡ length behind + 1 = length_push behind b in
          omega (arith, near, long, one);
    })

    enter : (lane : ℕ) (call : Call) → b ≡ Begins lane call → EndsNear reach lane [] aside' (waiting ++ e ∷ [])
    enter lane call begins = record {
      before = waiting;
      end = e;
      after = [];
      waiting_is = refl;
      ends = call_ends none_open past lane call later e []
          (subst AreInForm (ap (λ (xs : List Event). xs ++ e ∷ []) run_is ∙ append_assoc past (b ∷ later) (e ∷ []) ∙
          ap (λ (d : Event). past ++ d ∷ (later ++ e ∷ [])) begins) form)
          (subst (IsSpared later) (ap lane_of begins) spared) (same ∙ ap lane_of begins);
      near = omega (arith, one, few, lanes, far);
    }

pub near_first : (reach : ℕ) → AreNear reach [] [] []
near_first reach = record {
  none = λ k is. no_empty (sym (nothing k) ∙ is.there);
  each = λ k lane call behind there never. absurd (no_empty (sym (nothing k) ∙ there));
}
  where
    nothing : (k : ℕ) → drop {A = Event} k [] ≡ []
    nothing k = drop_all k [] (omega arith)

-- no call is open for so many of all events, where the others are given, too
pub near_all : (reach : ℕ) (given aside waiting : List Event) → length aside + length waiting ≤ reach →
    AreNear reach given aside waiting → (k : ℕ) → IsOpenFor (given ++ (aside ++ waiting)) k reach → ⊥
near_all reach given aside waiting few are k is = which (cases_lt k (length given))
  where
    many : reach ≤ length is.later
    many = is.many

    outside : length given ≤ k → ⊥
    outside behind =
        let long : length (drop k (given ++ (aside ++ waiting))) ≡ suc (length is.later) =
        ap (λ (xs : List Event). length xs) is.there in
        let rest : length (drop k (given ++ (aside ++ waiting))) ≡ length (given ++ (aside ++ waiting)) - k =
        length-drop k (given ++ (aside ++ waiting)) in
        let all : length (given ++ (aside ++ waiting)) ≡ length given + length (aside ++ waiting) =
        length-append given (aside ++ waiting) in
        let both : length (aside ++ waiting) ≡ length aside + length waiting = length-append aside waiting in
        omega (arith, many, long, rest, all, both, few, behind)

    by : (ds : List Event) → drop k given ≡ ds → ds ++ (aside ++ waiting) ≡ Begins is.lane is.call ∷ is.later →
        k < length given → ⊥
    by [] none same less = let long : length (drop k given) ≡ length given - k = length-drop k given in
        let nil : length (drop k given) ≡ 0 = ap (λ (xs : List Event). length xs) none in
        omega (arith, long, nil, less)
    by (d ∷ ds) some same less = cut (cases_lt (length ds) reach)
      where
        there : drop k given ≡ Begins is.lane is.call ∷ ds
        there = some ∙ ap (λ (e : Event). e ∷ ds) (first_same same)

        later_is : is.later ≡ ds ++ (aside ++ waiting)
        later_is = sym (rest_same same)

        cut : (length ds < reach) ⊎ (reach ≤ length ds) → ⊥
        cut (inr more) = are.none k (record {
          lane = is.lane;
          call = is.call;
          later = ds;
          there = there;
          many = more;
          never = subst (EndsNever is.lane)
              (ap (take reach) later_is ∙ take-append-le reach ds (aside ++ waiting) more)
              is.never;
        })
        cut (inl less) =
            let here = are.each k is.lane is.call ds there (never_first is.lane ds (take (reach - length ds)
            (aside ++ waiting)) (subst (EndsNever is.lane) (ap (take reach) later_is ∙ split) is.never)) in
            no_end_within is.lane reach (ds ++ (aside ++ here.before)) here.end here.after
            (let near : length ds + length aside + length here.before < reach = here.near in
            let one : length (ds ++ (aside ++ here.before)) ≡ length ds + length (aside ++ here.before) =
            length-append ds (aside ++ here.before) in
            let two : length (aside ++ here.before) ≡ length aside + length here.before =
            length-append aside here.before in omega (arith, near, one, two)) here.ends
            (subst (λ (xs : List Event). EndsNever is.lane (take reach xs)) (later_is ∙
            ap (λ (xs : List Event). ds ++ (aside ++ xs)) here.waiting_is ∙
            ap (λ (xs : List Event). ds ++ xs) (sym (append_assoc aside here.before (here.end ∷ here.after))) ∙
            sym (append_assoc ds (aside ++ here.before) (here.end ∷ here.after))) is.never)
          where
            split : take reach (ds ++ (aside ++ waiting)) ≡ ds ++ take (reach - length ds) (aside ++ waiting)
            split = ap (λ (n : ℕ). take n (ds ++ (aside ++ waiting))) (omega (arith, less)) ∙
                take-append-add ds (aside ++ waiting) (reach - length ds)

    which : (k < length given) ⊎ (length given ≤ k) → ⊥
    which (inl less) = by (drop k given) refl
        (sym (drop-append-le k given (aside ++ waiting) (omega (arith, less))) ∙ is.there) less
    which (inr behind) = outside behind

-- what was given behind an open call, and what is aside
pub near_open : (reach k : ℕ) (given aside waiting : List Event) → length aside ≤ reach →
    AreNear reach given aside waiting → BeginWithOpenCall (drop k given) → length given + length aside ≤ k + reach
near_open reach k given aside waiting lanes are waits = by (drop k given) refl waits
  where
    long : length (drop k given) ≡ length given - k
    long = length-drop k given

    by : (ds : List Event) → drop k given ≡ ds → BeginWithOpenCall ds → length given + length aside ≤ k + reach
    by [] none any = let nil : length (drop k given) ≡ 0 = ap (λ (xs : List Event). length xs) none in
        omega (arith, long, nil, lanes)
    by (Begins lane call ∷ behind) some never =
        let is = are.each k lane call behind some never in
        let near : length behind + length aside + length is.before < reach = is.near in
        let parts : length (drop k given) ≡ suc (length behind) = ap (λ (xs : List Event). length xs) some in
        omega (arith, long, parts, near)
    by (Returns lane reply ∷ behind) some none = absurd none
    by (Withdraws lane ∷ behind) some none = absurd none

-- a judge gives up on none of these calls
module _ (limits : Bounds) (most reach : ℕ) where
  pub found_near : (events : List Event) → ((k : ℕ) → IsOpenFor events k reach → ⊥) → (v : Verdict) →
      IsFound limits events most (Some reach) v → IsFound limits events most None v
  found_near events none (verdict.Undecided k cause.TooMany) found = found
  found_near events none (verdict.Undecided k cause.TooFar) found =
      absurd (none k (subst (λ (xs : List Event). IsOpenFor xs k reach) (append-nil events) (found []).2.0))
  found_near events none _ found = found

  pub rest_near : (events : List Event) → ((k : ℕ) → IsOpenFor events k reach → ⊥) → (v : Verdict) →
      IsRest limits events most (Some reach) v → IsRest limits events most None v
  rest_near events none (verdict.Undecided k cause.TooMany) rest = rest
  rest_near events none (verdict.Undecided k cause.TooFar) rest =
      found_near events none (verdict.Undecided k cause.TooFar) rest
  rest_near events none _ rest = rest
