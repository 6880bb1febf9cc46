-- A delay in front of a judge.
use Rattle.std.proofs.Common.{◌≡◌, ◌≢◌, ◌+◌, ◌^◌, ◌<◌, ◌≤◌, ℕ, List, [], ◌∷◌, ◌++◌, length, get_or, Option, Some, None}
use Rattle.std.proofs.Common.{◌-◌, refl, sym, ◌∙◌, ap, subst, inl, inr, arith, append_assoc, append-nil}
use Rattle.std.specs.Prelude.{take, drop, IsSome}
use Rattle.std.specs.List.{remove}
use Rattle.std.proofs.lemmas.List.{length_push, take-append-drop}
use Rattle.std.proofs.lemmas.List.Edits.{length-remove}
use Rattle.std.proofs.lemmas.List.Elements.{All-nil}
use Rattle.std.proofs.Math.Seq.{drop-append_seam}
use Rattle.stamp_core.specs.Limits.{AreInRange, Bounds}
use Rattle.stamp_runs.specs.Run.{lane_of}
use Rattle.stamp_runs.specs.declared.event.Event.{Event}
use Rattle.stamp_runs.specs.declared.event.Event.TheVariants.{Withdraws}
use Rattle.stamp_watch.specs.Issued.{LosesNothing}
use Rattle.stamp_watch.specs.Ahead.{IsSpared}
use Rattle.stamp_watch.specs.declared.delay.Delay.{Delay}
use Rattle.stamp_watch.specs.declared.online.Judge.{Judge}
use Rattle.stamp_watch.specs.declared.verdict.Verdict.{Verdict}
use Rattle.stamp_watch.specs.Delay.{IsBeginning, IsDelayed, IsHandedOn, IsShown, AreLate, AreNear, HasEndedLate}
use Rattle.stamp_watch.specs.Delay.{HasEndedSo, IsPending, IsShownIfAny, reach_of}
use Rattle.stamp_watch.specs.Judge.{HasRoomForOne, IsGiven, IsJudge, IsJudgeOfSome}
use Rattle.stamp_watch.specs.Late.{IsLongCall}
use Rattle.stamp_watch.specs.Late.LongCallsBeginLater.{as_they_are}
use Rattle.stamp_watch.specs.Possible.{KeepsBase, KeepsOn}
use Rattle.stamp_watch.specs.Verdict.{AreOfLanes, IsOfLane}
use Rattle.stamp_watch.specs.Waiting.{IsCounted, count_of}
use Rattle.stamp_watch.specs.inner.Delay.{HasBegun, HasRoomFor, IsOfLaneAt, IsReady, IsReadyFor, IsShownBy}
use Rattle.stamp_watch.specs.inner.Delay.{IsToBeAside}
use Rattle.stamp_watch.proofs.Closeness.{few_aside, near_aside, near_first, near_late, near_passes, near_waits}
use Rattle.stamp_watch.proofs.Forming.{form_first, next_of_lane}
use Rattle.stamp_watch.proofs.GoingOn.{judge_stays, run_long, way_of}
use Rattle.stamp_watch.proofs.HandingOn.{first_or, given_length, begins_so, handed_aside, handed_passes, handed_waits}
use Rattle.stamp_watch.proofs.HandingOn.{passed_length, spared_so, x_spared}
use Rattle.stamp_watch.proofs.Reading.{take_read}
use Rattle.stamp_watch.proofs.Unshown.{ended_here, ended_long, ended_then, last_wait, late_aside, late_begins}
use Rattle.stamp_watch.proofs.Unshown.{late_first_of, late_passes, late_waits}
use Rattle.stamp_watch.proofs.Showing.{shown_aside, shown_first, shown_late, shown_passes, shown_waits}

-- how many events a judge was given that has found nothing
pub judge_long : (limits : Bounds) (most ahead : ℕ) (given : List Event) (judge : Judge) →
    IsJudge limits most ahead given judge → judge.found ≡ None →
    judge.course.first + length judge.course.events.items ≡ length given
judge_long limits most ahead given judge is none = run_long limits given judge.course.first judge.course.seen
    judge.course.events.items judge.course.base judge.course.watch
    (way_of limits most ahead given judge is none).course_of.on

pub room_of : (limits : Bounds) (most ahead : ℕ) (given : List Event) (judge : Judge) (n : ℕ) →
    IsJudge limits most ahead given judge → length given + n < 2 ^ 64 → HasRoomFor n judge
room_of limits most ahead given judge n is less = record {
  room = λ none. let long : judge.course.first + length judge.course.events.items ≡ length given =
      judge_long limits most ahead given judge is none in omega (arith, long, less);
}

module _ (delay : Delay) (ready : IsReady delay) where
  pub given_of_all : length ready.delayed.given + length delay.aside.items ≡ delay.passed
  given_of_all = given_length (ready.ahead - 64) ready.run ready.delayed.given delay.aside.items
      delay.waiting.events.items
      delay.first_late delay.passed ready.delayed.handed

  -- the judge can number an event, where some were not given to it
  pub room_for_one : (n : ℕ) → delay.passed + length delay.waiting.events.items < 2 ^ 64 →
      length delay.aside.items + length delay.waiting.events.items ≡ n + 1 → HasRoomForOne delay.judge
  room_for_one n room some = record {
    room = let all : length ready.delayed.given + length delay.aside.items ≡ delay.passed = given_of_all in
        let long : delay.judge.course.first + length delay.judge.course.events.items ≡ length ready.delayed.given =
        judge_long ready.limits ready.most (reach_of ready.ahead) ready.delayed.given delay.judge
        ready.delayed.judge_of
        ready.going in
        omega (arith, all, long, room, some);
  }

low_lane : (e : Event) → IsOfLane e → lane_of e < 64
low_lane (Withdraws lane) is = is
low_lane _ is = is.0

handed_as : (ahead : ℕ) (run given aside aside' waiting waiting' : List Event) (first first' : Option ℕ)
    (passed passed' : ℕ) → aside' ≡ aside → waiting' ≡ waiting → first' ≡ first → passed' ≡ passed →
    IsHandedOn ahead run given aside waiting first passed → IsHandedOn ahead run given aside' waiting' first' passed'
handed_as ahead run given aside aside' waiting waiting' first first' passed passed' a w f p is =
    subst (λ (xs : List Event). IsHandedOn ahead run given xs waiting' first' passed') (sym a)
    (subst (λ (xs : List Event). IsHandedOn ahead run given aside xs first' passed') (sym w)
    (subst (λ (o : Option ℕ). IsHandedOn ahead run given aside waiting o passed') (sym f)
    (subst (λ (n : ℕ). IsHandedOn ahead run given aside waiting first n) (sym p) is)))

-- where it is shown, if it is, once an event waits, is given, or is put aside
module _ (limits : Bounds) (run given aside waiting : List Event) where
  shown_if_waits : (e : Event) (shown : Option ℕ) → IsShownIfAny limits run given aside waiting shown →
      IsShownIfAny limits (run ++ e ∷ []) given aside (waiting ++ e ∷ []) shown
  shown_if_waits e None any = tt
  shown_if_waits e (Some many) is = shown_waits limits run given aside waiting many is e

  shown_if_passes : (x : Event) (rest : List Event) (shown : Option ℕ) → waiting ≡ x ∷ rest →
      IsSpared aside (lane_of x) → IsShownIfAny limits run given aside waiting shown →
      IsShownIfAny limits run (given ++ x ∷ []) aside rest shown
  shown_if_passes x rest None first spared any = tt
  shown_if_passes x rest (Some many) first spared is =
      shown_passes limits run given aside waiting many is x rest first spared

  shown_if_aside : (x : Event) (rest : List Event) (shown : Option ℕ) → waiting ≡ x ∷ rest →
      IsSpared aside (lane_of x) → IsShownIfAny limits run given aside waiting shown →
      IsShownIfAny limits run given (aside ++ x ∷ []) rest shown
  shown_if_aside x rest None first spared any = tt
  shown_if_aside x rest (Some many) first spared is =
      shown_aside limits run given aside waiting many is x rest first spared

  shown_some : (shown : Option ℕ) → shown ≢ None → IsShownIfAny limits run given aside waiting shown →
      (many : ℕ) × IsShown limits run given aside waiting many
  shown_some None some any = absurd (some refl)
  shown_some (Some many) some is = (many, is)

shown_as : (limits : Bounds) (run given aside aside' waiting waiting' : List Event) (shown shown' : Option ℕ) →
    aside' ≡ aside → waiting' ≡ waiting → shown' ≡ shown → IsShownIfAny limits run given aside waiting shown →
    IsShownIfAny limits run given aside' waiting' shown'
shown_as limits run given aside aside' waiting waiting' shown shown' a w s is =
    subst (λ (xs : List Event). IsShownIfAny limits run given xs waiting' shown') (sym a)
    (subst (λ (xs : List Event). IsShownIfAny limits run given aside xs shown') (sym w)
    (subst (λ (o : Option ℕ). IsShownIfAny limits run given aside waiting o) (sym s) is))

late_as : (limits : Bounds) (run aside aside' waiting waiting' : List Event) (window : ℕ) (shown shown' : Option ℕ) →
    aside' ≡ aside → waiting' ≡ waiting → shown' ≡ shown → AreLate limits run aside waiting window shown →
    AreLate limits run aside' waiting' window shown'
late_as limits run aside aside' waiting waiting' window shown shown' a w s is =
    subst (λ (xs : List Event). AreLate limits run xs waiting' window shown') (sym a)
    (subst (λ (xs : List Event). AreLate limits run aside xs window shown') (sym w)
    (subst (λ (o : Option ℕ). AreLate limits run aside waiting window o) (sym s) is))

near_as : (reach : ℕ) (given aside aside' waiting waiting' : List Event) → aside' ≡ aside → waiting' ≡ waiting →
    AreNear reach given aside waiting → AreNear reach given aside' waiting'
near_as reach given aside aside' waiting waiting' a w is =
    subst (λ (xs : List Event). AreNear reach given xs waiting') (sym a)
    (subst (λ (xs : List Event). AreNear reach given aside xs) (sym w) is)

module _ (limits : Bounds) (most ahead : ℕ) (run : List Event) (old : Delay) where
  -- one event more waits
  pub delayed_waits : (e : Event) → HasBegun limits most ahead run e old → AreOfLanes (run ++ e ∷ []) →
      IsSpared old.aside.items (lane_of e) → (new : Delay) → new.limits ≡ old.limits → new.judge ≡ old.judge →
      new.ahead ≡ old.ahead → IsCounted new.waiting → new.waiting.events.items ≡ old.waiting.events.items ++ e ∷ [] →
      new.aside ≡ old.aside → new.passed ≡ old.passed → new.first_late ≡ old.first_late → new.shown ≡ old.shown →
      IsDelayed limits most ahead (run ++ e ∷ []) new
  delayed_waits e is whole spared new limits_are judge_is far counted waiting_is aside_is passed_is first_is shown_is =
      record {
        whole = whole;
        limits_are = limits_are ∙ is.limits_are;
        ahead_is = far ∙ is.ahead_is;
        counted = counted;
        given = is.given;
        judge_of = subst (IsJudge limits most (reach_of ahead) is.given) (sym judge_is) is.judge_of;
        keeps = subst (KeepsBase limits is.given) (sym judge_is) is.keeps;
        near = near_as (reach_of ahead) is.given old.aside.items new.aside.items (old.waiting.events.items ++ e ∷ [])
            new.waiting.events.items (ap (λ v. v.items) aside_is) waiting_is is.near;
        handed = handed_as (ahead - 64) (run ++ e ∷ []) is.given old.aside.items new.aside.items
            (old.waiting.events.items ++ e ∷ []) new.waiting.events.items old.first_late new.first_late old.passed
            new.passed (ap (λ v. v.items) aside_is) waiting_is first_is passed_is
            (handed_waits (ahead - 64) run is.given old.aside.items old.waiting.events.items old.first_late old.passed
            is.handed e spared);
        shown = shown_as limits (run ++ e ∷ []) is.given old.aside.items new.aside.items
            (old.waiting.events.items ++ e ∷ []) new.waiting.events.items old.shown new.shown
            (ap (λ v. v.items) aside_is) waiting_is shown_is is.shown;
        late = late_as limits (run ++ e ∷ []) old.aside.items new.aside.items (old.waiting.events.items ++ e ∷ [])
            new.waiting.events.items (ahead - 64) old.shown new.shown (ap (λ v. v.items) aside_is) waiting_is shown_is
            is.late;
      }

  module _ (is : IsDelayed limits most ahead run old) where
    -- few events were not given
    pub few_given : length old.waiting.events.items ≤ old.ahead →
        length old.aside.items + length old.waiting.events.items ≤ reach_of ahead
    few_given few = let same : old.ahead ≡ ahead - 64 = is.ahead_is in
        let lanes : length old.aside.items ≤ 64 =
        few_aside old.aside.items old.waiting.events.items is.handed.asides in
        omega (arith, few, same, lanes)

    -- no call of the lane is aside
    pub begun_none : (e : Event) → IsSpared old.aside.items (lane_of e) → HasBegun limits most ahead run e old
    begun_none e spared = record {
      limits_are = is.limits_are;
      ahead_is = is.ahead_is;
      counted = is.counted;
      given = is.given;
      judge_of = is.judge_of;
      keeps = is.keeps;
      handed = is.handed;
      near = near_waits (reach_of ahead) is.given old.aside.items old.waiting.events.items e is.near;
      shown = shown_if_waits limits run is.given old.aside.items old.waiting.events.items e old.shown is.shown;
      late = late_waits limits run old.aside.items old.waiting.events.items (ahead - 64) old.shown is.late e spared;
    }

    -- a call begins late, whose end comes in
    pub late_shown : (place : ℕ) (b e : Event) → IsOfLaneAt old.aside.items (lane_of e) place →
        b ≡ get_or old.aside.items place b → IsSpared (remove old.aside.items place) (lane_of e) →
        AreOfLanes (run ++ e ∷ []) → (shown : Option ℕ) → (IsSome shown → AreInRange old.limits) →
        IsShownBy old b e shown → IsShownIfAny limits (run ++ e ∷ []) (is.given ++ b ∷ [])
        (remove old.aside.items place) (old.waiting.events.items ++ e ∷ []) shown
    late_shown place b e there read others whole None range by = tt
    late_shown place b e there read others whole (Some many) range by = subst
        (λ (n : ℕ). IsShown limits (run ++ e ∷ [])
        (is.given ++ b ∷ []) (remove old.aside.items place) (old.waiting.events.items ++ e ∷ []) n) (sym long)
        (shown_late limits run is.given old.aside.items old.waiting.events.items before.0 before.1 place b e there.0
        read
        (subst (IsSpared (remove old.aside.items place)) (sym lane_is) others)
        (subst (λ (d : Event). IsSpared old.waiting.events.items (lane_of d)) (sym read)
        (is.handed.asides.spared place b there.0))
        (subst AreInRange is.limits_are (range refl)) whole.form
        (subst (λ (l : Bounds). LosesNothing l b e old.waiting.events.items) is.limits_are by.1))
      where
        before : (n : ℕ) × IsShown limits run is.given old.aside.items old.waiting.events.items n
        before = shown_some limits run is.given old.aside.items old.waiting.events.items old.shown by.0 is.shown

        lane_is : lane_of b ≡ lane_of e
        lane_is = ap lane_of read ∙ there.1 b

        long : many ≡ length run + 1
        long = let all : old.passed + length old.waiting.events.items ≡ length run = passed_length (ahead - 64) run
            is.given old.aside.items old.waiting.events.items old.first_late old.passed is.handed in
            let told : many ≡ old.passed + length old.waiting.events.items + 1 = by.2 in omega (arith, all, told)

    -- its end comes near
    pub near_begun : (place : ℕ) (b e : Event) → IsOfLaneAt old.aside.items (lane_of e) place →
        b ≡ get_or old.aside.items place b → length old.waiting.events.items ≤ old.ahead → AreOfLanes (run ++ e ∷ []) →
        AreNear (reach_of ahead) (is.given ++ b ∷ []) (remove old.aside.items place)
        (old.waiting.events.items ++ e ∷ [])
    near_begun place b e there read few whole = near_late (ahead - 64) (reach_of ahead) run (take late.late run)
        late.later is.given old.aside.items (remove old.aside.items place) old.waiting.events.items b e whole.form
        (sym (take-append-drop late.late run) ∙ ap (λ (xs : List Event). take late.late run ++ xs) late.there)
        late.spared (sym (ap lane_of read ∙ there.1 b)) (length-remove old.aside.items place there.0)
        (let same : old.ahead ≡ ahead - 64 = is.ahead_is in omega (arith, few, same))
        (few_aside old.aside.items old.waiting.events.items is.handed.asides) refl is.near
      where
        late : IsPending run (ahead - 64) b
        late = subst (IsPending run (ahead - 64)) (sym read) (is.late.pending place b there.0)

    pub late_then : (place : ℕ) (b e : Event) → IsOfLaneAt old.aside.items (lane_of e) place →
        b ≡ get_or old.aside.items place b → IsSpared (remove old.aside.items place) (lane_of e) →
        length old.waiting.events.items ≤ old.ahead → (shown : Option ℕ) → IsShownBy old b e shown →
        AreLate limits (run ++ e ∷ []) (remove old.aside.items place) (old.waiting.events.items ++ e ∷ []) (ahead - 64)
        shown
    late_then place b e there read others few shown by = late_begins limits run old.aside.items
        old.waiting.events.items
        (ahead - 64) old.shown is.late place b e there.0 read same others shown (ended shown by)
      where
        same : lane_of e ≡ lane_of b
        same = sym (ap lane_of read ∙ there.1 b)

        begun : HasEndedLate (run ++ e ∷ []) (ahead - 64)
        begun = ended_here limits run old.aside.items old.waiting.events.items (ahead - 64) old.shown is.late place b e
            there.0 read same others

        as_many : length old.waiting.events.items ≡ ahead - 64
        as_many = let full : ahead - 64 ≤ length old.waiting.events.items = is.late.full (λ none.
            let long : length old.aside.items ≡ 0 = ap (λ (xs : List Event). length xs) none in
            let less : place < length old.aside.items = there.0 in omega (arith, long, less)) in
            let far : old.ahead ≡ ahead - 64 = is.ahead_is in omega (arith, full, far, few)

        ended : (o : Option ℕ) → IsShownBy old b e o → HasEndedSo limits (run ++ e ∷ []) (ahead - 64) o
        ended (Some many) told = inr (record {
          ended = begun;
          place = let at : many ≡ old.passed + length old.waiting.events.items + 1 = told.2 in
              let all : old.passed + length old.waiting.events.items ≡ length run = passed_length (ahead - 64) run
              is.given
              old.aside.items old.waiting.events.items old.first_late old.passed is.handed in
              let long : begun.late + length begun.between + 1 ≡ length run = ended_long limits run old.aside.items
              old.waiting.events.items (ahead - 64) old.shown is.late place b e there.0 read same others in
              omega (arith, at, all, long);
        })
        ended None (inl none) = ended_then limits run old.aside.items old.waiting.events.items (ahead - 64) old.shown
            is.late e None (subst (HasEndedSo limits run (ahead - 64)) none is.late.ended)
        ended None (inr unshown) = record {
          ended = begun;
          unshown = λ loses. unshown (subst (λ (l : Bounds). LosesNothing l b e old.waiting.events.items)
              (sym is.limits_are) (subst (LosesNothing limits b e) (last_wait limits run old.aside.items
              old.waiting.events.items (ahead - 64) old.shown is.late place b e there.0 read same others is.handed.past
              is.handed.run_is as_many) loses));
        }

    -- the first event that waits is handed on
    module _ (x : Event) (rest : List Event) (some : old.waiting.events.items ≡ x ∷ rest) (new : Delay)
        (limits_are : new.limits ≡ old.limits) (far : new.ahead ≡ old.ahead) (counted : IsCounted new.waiting)
        (waiting_is : new.waiting.events.items ≡ rest) (passed_is : new.passed ≡ old.passed + 1)
        (shown_is : new.shown ≡ old.shown) where
      handed_here : IsHandedOn (ahead - 64) run is.given old.aside.items (x ∷ rest) old.first_late old.passed
      handed_here = subst (λ (xs : List Event). IsHandedOn (ahead - 64) run is.given old.aside.items xs old.first_late
          old.passed) some is.handed

      low : lane_of x < 64
      low = low_lane x (next_of_lane handed_here.past x rest (subst AreOfLanes handed_here.run_is is.whole))

      spared : IsSpared old.aside.items (lane_of x)
      spared = x_spared (ahead - 64) run is.given old.aside.items rest x old.first_late old.passed handed_here

      pub delayed_passes : IsGiven x old.judge new.judge → KeepsOn x old.judge new.judge → new.aside ≡ old.aside →
          new.first_late ≡ old.first_late → (old.aside.items ≢ [] → old.ahead ≤ length rest) → ¬ IsToBeAside x rest →
          length old.waiting.events.items ≤ old.ahead + 1 → IsDelayed limits most ahead run new
      delayed_passes given kept aside_is first_is full not few = record {
        whole = is.whole;
        limits_are = limits_are ∙ is.limits_are;
        ahead_is = far ∙ is.ahead_is;
        counted = counted;
        given = is.given ++ x ∷ [];
        judge_of = given limits most (reach_of ahead) is.given is.judge_of;
        keeps = kept limits most (reach_of ahead) is.given is.judge_of is.keeps;
        near = near_as (reach_of ahead) (is.given ++ x ∷ []) old.aside.items new.aside.items rest
            new.waiting.events.items (ap (λ v. v.items) aside_is) waiting_is
            (near_passes (ahead - 64) (reach_of ahead) run is.handed.past is.given old.aside.items
            old.waiting.events.items rest x some is.whole.form is.handed.run_is not
            (let same : old.ahead ≡ ahead - 64 = is.ahead_is in omega (arith, few, same))
            (few_aside old.aside.items old.waiting.events.items is.handed.asides) refl is.near);
        handed = handed_as (ahead - 64) run (is.given ++ x ∷ []) old.aside.items new.aside.items rest
            new.waiting.events.items old.first_late new.first_late (old.passed + 1) new.passed
            (ap (λ v. v.items) aside_is) waiting_is first_is passed_is
            (handed_passes (ahead - 64) run is.given old.aside.items rest x old.first_late old.passed handed_here);
        shown = shown_as limits run (is.given ++ x ∷ []) old.aside.items new.aside.items rest new.waiting.events.items
            old.shown new.shown (ap (λ v. v.items) aside_is) waiting_is shown_is
            (shown_if_passes limits run is.given old.aside.items old.waiting.events.items x rest old.shown some spared
            is.shown);
        late = late_as limits run old.aside.items new.aside.items rest new.waiting.events.items (ahead - 64) old.shown
            new.shown (ap (λ v. v.items) aside_is) waiting_is shown_is
            (late_passes limits run old.aside.items old.waiting.events.items (ahead - 64) old.shown is.late rest
            (λ aside. let many : old.ahead ≤ length rest = full aside in
            let same : old.ahead ≡ ahead - 64 = is.ahead_is in omega (arith, many, same)));
      }

      pub delayed_aside : IsToBeAside x rest → old.ahead ≤ length rest → new.judge ≡ old.judge →
          new.aside.items ≡ old.aside.items ++ x ∷ [] → new.first_late ≡ first_or old.passed old.first_late →
          IsDelayed limits most ahead run new
      delayed_aside to many judge_is aside_is first_is = record {
        whole = is.whole;
        limits_are = limits_are ∙ is.limits_are;
        ahead_is = far ∙ is.ahead_is;
        counted = counted;
        given = is.given;
        judge_of = subst (IsJudge limits most (reach_of ahead) is.given) (sym judge_is) is.judge_of;
        keeps = subst (KeepsBase limits is.given) (sym judge_is) is.keeps;
        near = near_as (reach_of ahead) is.given (old.aside.items ++ x ∷ []) new.aside.items rest
            new.waiting.events.items aside_is waiting_is
            (near_aside (reach_of ahead) is.given old.aside.items old.waiting.events.items rest x some
            (begins_so x rest to) is.near);
        handed = handed_as (ahead - 64) run is.given (old.aside.items ++ x ∷ []) new.aside.items rest
            new.waiting.events.items (first_or old.passed old.first_late) new.first_late (old.passed + 1) new.passed
            aside_is waiting_is first_is passed_is
            (handed_aside (ahead - 64) run is.given old.aside.items rest x old.first_late old.passed handed_here to
            (let same : old.ahead ≡ ahead - 64 = is.ahead_is in omega (arith, same, many)) low);
        shown = shown_as limits run is.given (old.aside.items ++ x ∷ []) new.aside.items rest new.waiting.events.items
            old.shown new.shown aside_is waiting_is shown_is
            (shown_if_aside limits run is.given old.aside.items old.waiting.events.items x rest old.shown some spared
            is.shown);
        late = late_as limits run (old.aside.items ++ x ∷ []) new.aside.items rest new.waiting.events.items
            (ahead - 64)
            old.shown new.shown aside_is waiting_is shown_is
            (late_aside limits run old.aside.items old.waiting.events.items (ahead - 64) old.shown is.late x rest
            old.passed
            there (begins_so x rest to) (spared_so x rest to)
            (let same : old.ahead ≡ ahead - 64 = is.ahead_is in omega (arith, many, same)));
      }
        where
          there : drop old.passed run ≡ x ∷ rest
          there = ap (λ (n : ℕ). drop n run) handed_here.passed_is ∙ ap (drop (length handed_here.past))
              handed_here.run_is ∙ drop-append_seam handed_here.past (x ∷ rest)

-- a judge that has found something stays that of the run, whatever comes
pub judge_stays_on : (limits : Bounds) (most ahead : ℕ) (run more : List Event) (judge : Judge) (v : Verdict) →
    judge.found ≡ Some v → IsJudge limits most ahead run judge → IsJudge limits most ahead (run ++ more) judge
judge_stays_on limits most ahead run [] judge v some is =
    subst (λ (xs : List Event). IsJudge limits most ahead xs judge) (sym (append-nil run)) is
judge_stays_on limits most ahead run (e ∷ more) judge v some is =
    subst (λ (xs : List Event). IsJudge limits most ahead xs judge) (append_assoc run (e ∷ []) more)
    (judge_stays_on limits most ahead (run ++ e ∷ []) more judge v some
    (judge_stays limits most ahead run e judge is v some))

found_some : (found : Option Verdict) → (found ≡ None → ⊥) → (v : Verdict) × (found ≡ Some v)
found_some None some = absurd (some refl)
found_some (Some v) some = (v, refl)

pub judge_given_rest : (limits : Bounds) (most ahead : ℕ) (run events : List Event) (k : ℕ) (judge : Judge) →
    (judge.found ≡ None → ⊥) → IsJudge limits most ahead (run ++ take k events) judge →
    IsJudge limits most ahead (run ++ events) judge
judge_given_rest limits most ahead run events k judge some is =
    let found = found_some judge.found some in
    subst (λ (xs : List Event). IsJudge limits most ahead xs judge)
    (append_assoc run (take k events) (drop k events) ∙
    ap (λ (xs : List Event). run ++ xs) (take-append-drop k events))
    (judge_stays_on limits most ahead (run ++ take k events) (drop k events) judge found.0 found.1 is)

-- a judge that is given one event of several
module _ (events : List Event) (k : ℕ) (e : Event) (old new : Judge) (less : k < length events)
    (read : e ≡ get_or events k e) (given : IsGiven e old new) where
  pub given_one : (limits : Bounds) (most ahead : ℕ) (run : List Event) →
      IsJudge limits most ahead (run ++ take k events) old →
      IsJudge limits most ahead (run ++ take (k + 1) events) new
  given_one limits most ahead run is = subst (λ (xs : List Event). IsJudge limits most ahead xs new)
      (append_assoc run (take k events) (e ∷ []) ∙
      ap (λ (xs : List Event). run ++ xs) (sym (take_read events k e less read)))
      (given limits most ahead (run ++ take k events) is)

  pub kept_one : KeepsOn e old new → (limits : Bounds) (most ahead : ℕ) (run : List Event) →
      IsJudge limits most ahead (run ++ take k events) old → KeepsBase limits (run ++ take k events) old →
      KeepsBase limits (run ++ take (k + 1) events) new
  kept_one kept limits most ahead run is keeps = subst (λ (xs : List Event). KeepsBase limits xs new)
      (append_assoc run (take k events) (e ∷ []) ∙
      ap (λ (xs : List Event). run ++ xs) (sym (take_read events k e less read)))
      (kept limits most ahead (run ++ take k events) is keeps)

  pub room_then : IsJudgeOfSome old → old.found ≡ None → HasRoomFor (length events - k) old →
      HasRoomFor (length events - (k + 1)) new
  room_then some none room = record {
    room = λ none_then.
        let before : old.course.first + length old.course.events.items ≡ length some.run =
        judge_long some.limits some.most some.ahead some.run old some.judge_of none in
        let behind : new.course.first + length new.course.events.items ≡ length (some.run ++ e ∷ []) =
        judge_long some.limits some.most some.ahead (some.run ++ e ∷ []) new
        (given some.limits some.most some.ahead some.run some.judge_of) none_then in
        let long : length (some.run ++ e ∷ []) ≡ length some.run + 1 = length_push some.run e in
        let less_then : old.course.first + length old.course.events.items + (length events - k) < 2 ^ 64 =
        room.room none in
        omega (arith, before, behind, long, less_then, less);
  }

-- before any event
pub delayed_first : (limits : Bounds) (most ahead : ℕ) (delay : Delay) → delay.limits ≡ limits →
    IsJudge limits most (reach_of ahead) [] delay.judge → KeepsBase limits [] delay.judge → delay.ahead ≡ ahead - 64 →
    IsCounted delay.waiting → delay.aside.items ≡ [] → delay.waiting.events.items ≡ [] → delay.first_late ≡ None →
    delay.passed ≡ 0 →
    delay.shown ≡ Some 0 → IsDelayed limits most ahead [] delay
delayed_first limits most ahead delay limits_are judge_of keeps far counted aside_is waiting_is first_is passed_is
    shown_is = record {
      whole = form_first.0;
      limits_are = limits_are;
      ahead_is = far;
      counted = counted;
      given = [];
      judge_of = judge_of;
      keeps = keeps;
      near = near_as (reach_of ahead) [] [] delay.aside.items [] delay.waiting.events.items aside_is waiting_is
          (near_first (reach_of ahead));
      handed = handed_as (ahead - 64) [] [] [] delay.aside.items [] delay.waiting.events.items None delay.first_late 0
          delay.passed aside_is waiting_is first_is passed_is (record {
            past = [];
            passed_is = refl;
            run_is = refl;
            asides = record {
              begin = All-nil IsBeginning;
              lanes = All-nil (λ (e : Event). lane_of e < 64);
              apart = λ i j d less within. absurd (omega (arith, within));
              spared = All-nil (λ (e : Event). IsSpared [] (lane_of e));
            };
            long = All-nil (λ (e : Event). IsLongCall [] (ahead - 64) (lane_of e) (count_of (lane_of e) []));
            later = λ more. as_they_are;
            first_is = (refl, refl);
          });
      shown = shown_as limits [] [] [] delay.aside.items [] delay.waiting.events.items (Some 0) delay.shown aside_is
          waiting_is shown_is (shown_first limits);
      late = late_as limits [] [] delay.aside.items [] delay.waiting.events.items (ahead - 64) (Some 0) delay.shown
          aside_is
          waiting_is shown_is (late_first_of limits (ahead - 64));
    }

-- once one more event waits
pub ready_then : (old new : Delay) (e : Event) (ready : IsReadyFor e old) →
    ((limits : Bounds) (most ahead : ℕ) (run : List Event) → IsDelayed limits most ahead run old →
    AreOfLanes (run ++ e ∷ []) → IsDelayed limits most ahead (run ++ e ∷ []) new) → new.judge.found ≡ None →
    IsReady new
ready_then old new e for_one goes none = record {
  limits = for_one.ready.limits;
  most = for_one.ready.most;
  ahead = for_one.ready.ahead;
  run = for_one.ready.run ++ e ∷ [];
  delayed = goes for_one.ready.limits for_one.ready.most for_one.ready.ahead for_one.ready.run for_one.ready.delayed
      for_one.whole;
  going = none;
}

-- so it stays while events are handed on
pub ready_still : (old new : Delay) → IsReady old → ((limits : Bounds) (most ahead : ℕ) (run : List Event) →
    IsDelayed limits most ahead run old → IsDelayed limits most ahead run new) → new.judge.found ≡ None → IsReady new
ready_still old new ready goes none = record {
  limits = ready.limits;
  most = ready.most;
  ahead = ready.ahead;
  run = ready.run;
  delayed = goes ready.limits ready.most ready.ahead ready.run ready.delayed;
  going = none;
}
