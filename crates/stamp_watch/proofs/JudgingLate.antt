-- A judge that puts calls aside which are open for long.
use Rattle.std.proofs.Common.{◌-◌, ◌≡◌, ◌≢◌, ◌+◌, ◌^◌, ◌<◌, ◌≤◌, ℕ, List, [], ◌∷◌, ◌++◌, length, Option, Some, None}
use Rattle.std.proofs.Common.{refl, sym, ap, subst, inl, arith, append_assoc, append-nil}
use Rattle.std.specs.Prelude.{⊤, MatchOption}
use Rattle.std.proofs.lemmas.List.{length_push}
use Rattle.stamp_core.specs.Limits.{Bounds}
use Rattle.stamp_runs.specs.declared.event.Event.{Event}
use Rattle.stamp_watch.specs.declared.delay.Delay.{Delay}
use Rattle.stamp_watch.specs.declared.late_verdict.LateVerdict.{LateVerdict}
use Rattle.stamp_watch.specs.declared.late_verdict.LateVerdict.TheVariants as finding
use Rattle.stamp_watch.specs.declared.late.LateJudge.{LateJudge}
use Rattle.stamp_watch.specs.declared.verdict.Verdict.{Verdict}
use Rattle.stamp_watch.specs.declared.verdict.Verdict.TheVariants as verdict
use Rattle.stamp_watch.specs.Course.{KeepsEndOf}
use Rattle.stamp_watch.specs.Delay.{IsDelayed, IsSmallDelay}
use Rattle.stamp_watch.specs.Judging.{AreBusyLanes, IsFound}
use Rattle.stamp_watch.specs.Late.{IsLate, IsLateVerdict, IsLateFound}
use Rattle.stamp_watch.specs.LateJudge.{EndsInRunLate, IsLateJudge, IsLateJudgeOfSome, IsLateUnderWay, KeepsEndLate}
use Rattle.stamp_watch.specs.PossibleLate.{KeepsLater}
use Rattle.stamp_watch.specs.Verdict.{AreOfLanes}
use Rattle.stamp_watch.specs.inner.Course.{broken_off}
use Rattle.stamp_watch.specs.inner.Delay.{IsFindingOf, IsLateBreak, IsLateRest, IsReady, IsReadyFor}
use Rattle.stamp_watch.specs.inner.Judging.{MayComeIn, SetsBusy}
use Rattle.stamp_watch.proofs.Closeness.{few_aside}
use Rattle.stamp_watch.proofs.EndedLate.{more_in_run}
use Rattle.stamp_watch.proofs.Forming.{busy_lanes_then, form_first, of_lanes_not, of_lanes_on}
use Rattle.stamp_watch.proofs.HandingOn.{passed_length}
use Rattle.stamp_watch.proofs.PossibleLate.{keeps_beside, keeps_of}
use Rattle.stamp_watch.proofs.Running.{broken_found, over_broken, over_here, rest_now}

small_of : (limits : Bounds) (most ahead : ℕ) (run : List Event) (delay : Delay) →
    IsDelayed limits most ahead run delay → length delay.waiting.events.items ≤ ahead + 1 →
    IsSmallDelay most ahead delay
small_of limits most ahead run delay is few = record {
  limits = limits;
  given = is.given;
  judge_of = is.judge_of;
  waiting = few;
  aside = few_aside delay.aside.items delay.waiting.events.items is.handed.asides;
}

-- what is known by what was found
abbrev IsStateThen : Bounds → ℕ → ℕ → List Event → LateJudge → Option LateVerdict → Type 0
IsStateThen limits most ahead run judge found = MatchOption found (IsLateUnderWay limits most ahead run judge)
    (λ (f : LateVerdict). IsLateFound limits run most ahead f)

goes_on : (limits : Bounds) (most ahead : ℕ) (run : List Event) (judge : LateJudge) →
    IsDelayed limits most ahead run judge.delay → judge.delay.judge.found ≡ None → AreBusyLanes run judge.busy →
    length judge.delay.waiting.events.items ≤ ahead - 64 → length run < 2 ^ 64 → judge.found ≡ None →
    IsLateJudge limits most ahead run judge
goes_on limits most ahead run judge delayed going lanes few room none = record {
  window = delayed.ahead_is;
  small = small_of limits most ahead run judge.delay delayed (omega (arith, few));
  keeps = keeps_of limits most ahead run judge.delay delayed;
  tells = subst (λ (o : Option LateVerdict). MatchOption o ⊤ (KeepsEndLate judge.delay)) (sym none) tt;
  there = subst (λ (o : Option LateVerdict). MatchOption o ⊤ (EndsInRunLate run judge.delay)) (sym none) tt;
  state = subst (λ (o : Option LateVerdict). IsStateThen limits most ahead run judge o) (sym none)
      (record {
        delayed = delayed;
        going = going;
        lanes = lanes;
        few = few;
        room = let long : judge.delay.passed + length judge.delay.waiting.events.items ≡ length run =
            passed_length (ahead - 64) run delayed.given judge.delay.aside.items judge.delay.waiting.events.items
            judge.delay.first_late judge.delay.passed delayed.handed in omega (arith, long, room);
      });
}

pub has_found : (limits : Bounds) (most ahead : ℕ) (run : List Event) (judge : LateJudge) (f : LateVerdict) →
    judge.delay.ahead ≡ ahead - 64 → IsSmallDelay most ahead judge.delay → KeepsLater limits run judge →
    KeepsEndLate judge.delay f → EndsInRunLate run judge.delay f → judge.found ≡ Some f →
    IsLateFound limits run most ahead f → IsLateJudge limits most ahead run judge
has_found limits most ahead run judge f window small keeps tells there some found = record {
  window = window;
  small = small;
  keeps = keeps;
  tells = subst (λ (o : Option LateVerdict). MatchOption o ⊤ (KeepsEndLate judge.delay)) (sym some) tells;
  there = subst (λ (o : Option LateVerdict). MatchOption o ⊤ (EndsInRunLate run judge.delay)) (sym some) there;
  state = subst (λ (o : Option LateVerdict). IsStateThen limits most ahead run judge o) (sym some) found;
}

pub late_first : (limits : Bounds) (most ahead : ℕ) (judge : LateJudge) →
    IsDelayed limits most ahead [] judge.delay → judge.delay.judge.found ≡ None → judge.delay.waiting.events.items ≡ []
    →
    judge.busy ≡ 0 → judge.found ≡ None → IsLateJudge limits most ahead [] judge
late_first limits most ahead judge delayed going waiting free none = goes_on limits most ahead [] judge delayed going
    (subst (AreBusyLanes []) (sym free) form_first.1)
    (let long : length judge.delay.waiting.events.items ≡ 0 = ap (λ (xs : List Event). length xs) waiting in
    omega (arith, long)) (omega arith) none

-- what is found stays found
pub found_then : (limits : Bounds) (run : List Event) (most ahead : ℕ) (e : Event) (f : LateVerdict) →
    IsLateFound limits run most ahead f → IsLateFound limits (run ++ e ∷ []) most ahead f
found_then limits run most ahead e f found more = subst (λ (xs : List Event). IsLateVerdict limits xs most ahead f)
    (sym (append_assoc run (e ∷ []) more)) (found (e ∷ more))

pub finding_now : (limits : Bounds) (run : List Event) (most ahead : ℕ) (f : LateVerdict) →
    IsLateFound limits run most ahead f → IsLateVerdict limits run most ahead f
finding_now limits run most ahead f found =
    subst (λ (xs : List Event). IsLateVerdict limits xs most ahead f) (append-nil run) (found [])

pub late_rest_now : (limits : Bounds) (run : List Event) (most ahead : ℕ) (f : LateVerdict) →
    IsLateRest limits run most ahead f → IsLateVerdict limits run most ahead f
late_rest_now limits run most ahead (finding.Is v) rest = rest_now limits run most None v rest
late_rest_now limits run most ahead (finding.Late k) rest =
    subst (λ (xs : List Event). IsLate limits xs most ahead k) (append-nil run) (rest [] (over_here run))

module _ (limits : Bounds) (most ahead : ℕ) (run : List Event) (judge : LateJudge)
    (is : IsLateJudge limits most ahead run judge) where
  pub late_found_of : (f : LateVerdict) → judge.found ≡ Some f → IsLateFound limits run most ahead f
  late_found_of f some = subst (λ (o : Option LateVerdict). IsStateThen limits most ahead run judge o) some is.state

  pub tells_of : (f : LateVerdict) → judge.found ≡ Some f → KeepsEndLate judge.delay f
  tells_of f some = subst (λ (o : Option LateVerdict). MatchOption o ⊤ (KeepsEndLate judge.delay)) some is.tells

  pub there_of : (f : LateVerdict) → judge.found ≡ Some f → EndsInRunLate run judge.delay f
  there_of f some = subst (λ (o : Option LateVerdict). MatchOption o ⊤ (EndsInRunLate run judge.delay)) some is.there

  pub late_stays : (e : Event) (f : LateVerdict) → judge.found ≡ Some f → IsLateJudge limits most ahead (run ++ e ∷ [])
      judge
  late_stays e f some = has_found limits most ahead (run ++ e ∷ []) judge f is.window is.small
      (keeps_beside limits run judge.delay e is.keeps) (tells_of f some)
      (more_in_run run (e ∷ []) judge.delay f (there_of f some)) some
      (found_then limits run most ahead e f (late_found_of f some))

  module _ (none : judge.found ≡ None) where
    pub late_way : IsLateUnderWay limits most ahead run judge
    late_way = subst (λ (o : Option LateVerdict). IsStateThen limits most ahead run judge o) none is.state

    pub run_long : judge.delay.passed + length judge.delay.waiting.events.items ≡ length run
    run_long = passed_length (ahead - 64) run late_way.delayed.given judge.delay.aside.items
        judge.delay.waiting.events.items judge.delay.first_late judge.delay.passed late_way.delayed.handed

    pub ready_now : IsReady judge.delay
    ready_now = record {
      limits = limits;
      most = most;
      ahead = ahead;
      run = run;
      delayed = late_way.delayed;
      going = late_way.going;
    }

    pub few_wait : length judge.delay.waiting.events.items ≤ judge.delay.ahead
    few_wait = let few : length judge.delay.waiting.events.items ≤ ahead - 64 = late_way.few in
        let same : judge.delay.ahead ≡ ahead - 64 = late_way.delayed.ahead_is in omega (arith, few, same)

    module _ (e : Event) (busy : ℕ) (may : MayComeIn judge.busy e) (sets : SetsBusy judge.busy e busy) where
      pub whole_then : AreOfLanes (run ++ e ∷ [])
      whole_then = of_lanes_on run judge.busy e late_way.lanes may late_way.delayed.whole

      pub ready_for : IsReadyFor e judge.delay
      unfolding ready_now
      ready_for = record { ready = ready_now; whole = whole_then }

      pub late_goes_on : (new : LateJudge) → IsDelayed limits most ahead (run ++ e ∷ []) new.delay →
          new.delay.judge.found ≡ None → new.busy ≡ busy → length new.delay.waiting.events.items ≤ judge.delay.ahead →
          new.found ≡ None → judge.delay.passed + length judge.delay.waiting.events.items + 1 < 2 ^ 64 →
          IsLateJudge limits most ahead (run ++ e ∷ []) new
      late_goes_on new delayed going busy_is few unfound room = goes_on limits most ahead (run ++ e ∷ []) new delayed
          going
          (subst (AreBusyLanes (run ++ e ∷ [])) (sym busy_is)
          (busy_lanes_then run judge.busy busy e late_way.lanes sets))
          (let same : judge.delay.ahead ≡ ahead - 64 = late_way.delayed.ahead_is in omega (arith, few, same))
          (let long : length (run ++ e ∷ []) ≡ length run + 1 = length_push run e in
          let all : judge.delay.passed + length judge.delay.waiting.events.items ≡ length run = run_long in
          omega (arith, long, all, room)) unfound

      pub late_finds : (new : LateJudge) (f : LateVerdict) → IsDelayed limits most ahead (run ++ e ∷ []) new.delay →
          length new.delay.waiting.events.items ≤ judge.delay.ahead + 1 → KeepsEndLate new.delay f →
          EndsInRunLate (run ++ e ∷ []) new.delay f → new.found ≡ Some f →
          IsLateFound limits (run ++ e ∷ []) most ahead f → IsLateJudge limits most ahead (run ++ e ∷ []) new
      late_finds new f delayed few tells there some found = has_found limits most ahead (run ++ e ∷ []) new f
          delayed.ahead_is
          (small_of limits most ahead (run ++ e ∷ []) new.delay delayed
          (let same : judge.delay.ahead ≡ ahead - 64 = late_way.delayed.ahead_is in omega (arith, few, same)))
          (keeps_of limits most ahead (run ++ e ∷ []) new.delay delayed) tells there some found

    -- an event may not come there
    pub late_broken : (e : Event) → ¬ MayComeIn judge.busy e → ¬ AreOfLanes (run ++ e ∷ [])
    late_broken e not_there = of_lanes_not run judge.busy e late_way.lanes not_there

-- so it is by the same delay
pub finding_as : {a b : List Event} {s t f g : Option ℕ} (v : Verdict) (is : LateVerdict) → a ≡ b → s ≡ t → f ≡ g →
    IsFindingOf a s f v is → IsFindingOf b t g v is
finding_as {a} {b} {s} {t} {f} {g} v is aside shown first found =
    subst (λ (xs : List Event). IsFindingOf xs t g v is) aside
    (subst (λ (o : Option ℕ). IsFindingOf a o g v is) shown
    (subst (λ (o : Option ℕ). IsFindingOf a s o v is) first found))

-- what is found of a run in which calls begin later is told of as the verdict on which it rests
pub late_told : (aside : List Event) (shown first : Option ℕ) (v : Verdict) (f : LateVerdict) (delay : Delay) →
    IsFindingOf aside shown first v f → KeepsEndOf delay.judge.course v → KeepsEndLate delay f
late_told aside shown None v f delay is tells = subst (KeepsEndLate delay) (sym is) tells
late_told aside shown (Some first) v (finding.Is found) delay is tells =
    subst (KeepsEndOf delay.judge.course) (sym is.0) tells
late_told aside shown (Some first) v (finding.Late k) delay is tells = tt

-- what is found where a run breaks off is found by what is found where it ends
module _ (limits : Bounds) (run : List Event) (most ahead number : ℕ) (at : number ≡ length run) (aside : List Event)
    (shown first : Option ℕ) where
  told_broken : (o : Option ℕ) (f : LateVerdict) → IsFindingOf aside shown o (verdict.Broken number) f →
      f ≡ finding.Is (verdict.Broken number)
  told_broken None f is = is
  told_broken (Some n) (finding.Is v) is = ap finding.Is is.0
  told_broken (Some n) (finding.Late k) is = absurd is.1

  told_explained : (o : Option ℕ) → IsFindingOf aside shown o verdict.Explained (finding.Is verdict.Explained)
  told_explained None = refl
  told_explained (Some n) = (refl, inl tt)

  broken_stays : (v : Verdict) → v ≢ verdict.Explained → broken_off v number ≡ v
  broken_stays verdict.Explained other = absurd (other refl)
  broken_stays _ other = refl

  -- what isn't that it is explained stays
  stays_broken : (f : LateVerdict) → IsLateRest limits run most ahead f → f ≢ finding.Is verdict.Explained →
      IsLateBreak limits run most ahead f
  stays_broken (finding.Is v) rest other e not_there = subst (IsFound limits (run ++ e ∷ []) most None)
      (broken_stays v (λ same. other (ap finding.Is same)))
      (broken_found limits run most None number e at not_there v rest)
  stays_broken (finding.Late k) rest other e not_there = λ more.
      subst (λ (xs : List Event). IsLate limits xs most ahead k) (sym (append_assoc run (e ∷ []) more))
      (rest (e ∷ more) (over_broken limits run most None number e at not_there more))

  not_explained : (o : Option ℕ) (v : Verdict) (f : LateVerdict) → IsFindingOf aside shown o v f →
      v ≢ verdict.Explained → f ≢ finding.Is verdict.Explained
  not_explained o v f is other same = other (by o (subst (IsFindingOf aside shown o v) same is))
    where
      by : (p : Option ℕ) → IsFindingOf aside shown p v (finding.Is verdict.Explained) → v ≡ verdict.Explained
      by None told = cc
      by (Some n) told = sym told.0

  pub broken_by : (v : Verdict) → ((f : LateVerdict) → IsFindingOf aside shown first v f →
      IsLateRest limits run most ahead f) → (f : LateVerdict) →
      IsFindingOf aside shown first (broken_off v number) f → IsLateBreak limits run most ahead f
  broken_by verdict.Explained rest f is = λ e not_there. subst (IsLateFound limits (run ++ e ∷ []) most ahead)
      (sym (told_broken first f is)) (broken_found limits run most None number e at not_there verdict.Explained
      (rest (finding.Is verdict.Explained) (told_explained first)))
  broken_by which rest f is = stays_broken f (rest f is) (not_explained first which f is (λ e. cc))

-- a judge of some run, given one event more, is one of that run and the event
pub late_known_then : (old new : LateJudge) (e : Event) → IsLateJudgeOfSome old →
    ((limits : Bounds) (most ahead : ℕ) (run : List Event) → IsLateJudge limits most ahead run old →
    IsLateJudge limits most ahead (run ++ e ∷ []) new) → IsLateJudgeOfSome new
late_known_then old new e some goes = record {
  limits = some.limits;
  most = some.most;
  ahead = some.ahead;
  run = some.run ++ e ∷ [];
  judge_of = goes some.limits some.most some.ahead some.run some.judge_of;
}
