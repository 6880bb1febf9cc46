-- A judge that is given one event more.
use Rattle.std.proofs.Common.{ℕ, ◌≡◌, ◌+◌, ◌*◌, ◌^◌, ◌<◌, ◌≤◌, List, [], ◌∷◌, ◌++◌, length, Option, Some, None, sym}
use Rattle.std.proofs.Common.{◌∙◌, ap, subst, arith}
use Rattle.std.specs.Prelude.{⊤, MatchOption}
use Rattle.std.proofs.lemmas.List.{drop_all, length-append}
use Rattle.stamp_core.specs.Limits.{Bounds}
use Rattle.stamp_runs.specs.declared.event.Event.{Event}
use Rattle.stamp_watch.specs.declared.course.Course.{Course}
use Rattle.stamp_watch.specs.declared.online.Judge.{Judge}
use Rattle.stamp_watch.specs.declared.verdict.Verdict.{Verdict}
use Rattle.stamp_sets.specs.declared.watch.Watch.{Watch}
use Rattle.stamp_watch.specs.Judge.{HasRoomForOne, IsJudge, IsJudgeOfSome, IsUnderWay}
use Rattle.stamp_watch.specs.Verdict.{AreOfLanes}
use Rattle.stamp_watch.specs.Judging.{AreBusyLanes, IsFound}
use Rattle.stamp_watch.specs.inner.Judging.{MayComeIn, SetsBusy}
use Rattle.stamp_watch.specs.Course.{HasRoom, IsCourse, IsNear, IsRest, IsRunOn, IsSmall, KeepsEndOf}
use Rattle.stamp_watch.specs.SoFar.{BeginWithOpenCall}
use Rattle.stamp_watch.specs.inner.Course.{HasGoneOn, IsOneLonger, IsOnCourse, broken_off}
use Rattle.stamp_watch.proofs.Forming.{busy_lanes_then, form_first, of_lanes_not, of_lanes_on}
use Rattle.stamp_watch.proofs.Running.{broken_found, found_later}
use Rattle.stamp_watch.proofs.SameRuns.{room_still}

-- how many events a run has
pub run_long : (limits : Bounds) (run : List Event) (first seen : ℕ) (events : List Event) (base watch : Watch) →
    IsRunOn limits run first seen events base watch → first + length events ≡ length run
run_long limits run first seen events base watch is =
    ap (λ (n : ℕ). n + length events) is.place ∙ sym (length-append is.past events) ∙ ap length (sym is.run_is)

-- few events are kept, also when one comes
small_added : (ahead : ℕ) (old new : Course) → IsSmall ahead old → IsNear ahead old → IsOneLonger old new →
    IsSmall ahead new
small_added ahead old new small near longer = record {
  place = let low : old.place ≤ ahead + 1024 = small.place in
      let same : new.place ≡ old.place = longer.place in omega (arith, low, same);
  reach = let low : old.reach ≤ ahead + 1 = small.reach in
      let same : new.reach ≡ old.reach = longer.reach in omega (arith, low, same);
  seen = let low : old.seen ≤ old.place + (ahead + 1024) = small.seen in
      let at : new.place ≡ old.place = longer.place in
      let same : new.seen ≡ old.seen = longer.seen in omega (arith, low, at, same);
  events = let low : length old.events.items ≤ old.seen + ahead = near.events in
      let long : length new.events.items ≡ length old.events.items + 1 = longer.longer in
      let same : new.seen ≡ old.seen = longer.seen in omega (arith, low, long, same);
}

pub few_kept : (ahead : ℕ) (course : Course) → IsSmall ahead course →
    length course.events.items ≤ 3 * (ahead + 1024)
few_kept ahead course small = let place : course.place ≤ ahead + 1024 = small.place in
    let seen : course.seen ≤ course.place + (ahead + 1024) = small.seen in
    let events : length course.events.items ≤ course.seen + ahead + 1 = small.events in
    omega (arith, place, seen, events)

-- what a judge knows of a run, by what it has found
abbrev pub IsState : Bounds → ℕ → ℕ → List Event → Judge → Option Verdict → Type 0
IsState limits most ahead run judge found = MatchOption found (IsUnderWay limits ahead run judge)
    (λ (v : Verdict). IsFound limits run most (Some ahead) v)

pub judge_first : (limits : Bounds) (most ahead : ℕ) (judge : Judge) → judge.most ≡ most → judge.ahead ≡ ahead →
    judge.busy ≡ 0 → judge.found ≡ None → IsCourse limits [] judge.course → IsSmall ahead judge.course →
    IsJudge limits most ahead [] judge
judge_first limits most ahead judge same far free none course_of small = record {
  most_is = same;
  ahead_is = far;
  small = small;
  tells = subst (λ (o : Option Verdict). MatchOption o ⊤ (KeepsEndOf judge.course)) (sym none) tt;
  state = subst (λ (o : Option Verdict). IsState limits most ahead [] judge o) (sym none) (record {
    course_of = course_of;
    lanes = subst (AreBusyLanes []) (sym free) form_first.1;
    room = record { room = omega (arith, long) };
    near = record {
      events = omega (arith, long);
      waits = subst BeginWithOpenCall
          (sym (drop_all judge.course.seen judge.course.events.items (omega (arith, long)))) tt;
    };
  });
}
  where
    long : judge.course.first + length judge.course.events.items ≡ 0
    long = run_long limits [] judge.course.first judge.course.seen judge.course.events.items judge.course.base
        judge.course.watch course_of.on

-- what a judge has found, or that it has found nothing
module _ (limits : Bounds) (most ahead : ℕ) (run : List Event) (judge : Judge)
    (is : IsJudge limits most ahead run judge) where
  pub found_of : (v : Verdict) → judge.found ≡ Some v → IsFound limits run most (Some ahead) v
  found_of v some = subst (λ (o : Option Verdict). IsState limits most ahead run judge o) some is.state

  pub way_of : judge.found ≡ None → IsUnderWay limits ahead run judge
  way_of none = subst (λ (o : Option Verdict). IsState limits most ahead run judge o) none is.state

-- the course of a judge that has found nothing
module _ (judge : Judge) (some : IsJudgeOfSome judge) (none : judge.found ≡ None) where
  some_way : IsUnderWay some.limits some.ahead some.run judge
  some_way = way_of some.limits some.most some.ahead some.run judge some.judge_of none

  pub course_on : IsOnCourse judge.course
  course_on = record { limits = some.limits; run = some.run; course_of = some_way.course_of }

  pub course_room : HasRoom judge.course
  course_room = some_way.room

module _ (limits : Bounds) (most ahead : ℕ) (run : List Event) (e : Event) (old : Judge)
    (is : IsJudge limits most ahead run old) where
  pub judge_stays : (v : Verdict) → old.found ≡ Some v → IsJudge limits most ahead (run ++ e ∷ []) old
  judge_stays v some = record {
    most_is = is.most_is;
    ahead_is = is.ahead_is;
    small = is.small;
    tells = is.tells;
    state = subst (λ (o : Option Verdict). IsState limits most ahead (run ++ e ∷ []) old o) (sym some)
        (found_later limits run most (Some ahead) v e (found_of limits most ahead run old is v some));
  }

  -- what is found by the judge's own numbers
  found_as : (v : Verdict) → IsFound limits (run ++ e ∷ []) old.most (Some old.ahead) v →
      IsFound limits (run ++ e ∷ []) most (Some ahead) v
  found_as v found = subst (λ (m : ℕ). IsFound limits (run ++ e ∷ []) m (Some ahead) v) is.most_is
      (subst (λ (n : ℕ). IsFound limits (run ++ e ∷ []) old.most (Some n) v) is.ahead_is found)

  module _ (none : old.found ≡ None) where
    under_way : IsUnderWay limits ahead run old
    under_way = way_of limits most ahead run old is none

    whole_before : AreOfLanes run
    whole_before = subst AreOfLanes (sym under_way.course_of.on.run_is) under_way.course_of.on.whole

    -- the event may come there
    module _ (busy : ℕ) (may : MayComeIn old.busy e) (sets : SetsBusy old.busy e busy) (then_course : Course)
        (added : (l : Bounds) (r : List Event) → IsCourse l r old.course → AreOfLanes (r ++ e ∷ []) →
        IsCourse l (r ++ e ∷ []) then_course) where
      whole_then : AreOfLanes (run ++ e ∷ [])
      whole_then = of_lanes_on run old.busy e under_way.lanes may whole_before

      pub then_of : IsCourse limits (run ++ e ∷ []) then_course
      then_of = added limits run under_way.course_of whole_then

      module _ (new_course : Course) where
        pub found_then : (found : Option Verdict) →
            HasGoneOn old.most old.ahead then_course new_course found →
            MatchOption found (AreOfLanes (run ++ e ∷ []))
            (λ (v : Verdict). IsFound limits (run ++ e ∷ []) most (Some ahead) v)
        found_then None gone = whole_then
        found_then (Some v) gone = found_as v (gone limits (run ++ e ∷ []) then_of)

        pub judge_then : (new : Judge) → new.most ≡ old.most → new.ahead ≡ old.ahead → new.busy ≡ busy →
            new.course ≡ new_course → HasRoom then_course → IsOneLonger old.course then_course →
            (IsSmall old.ahead then_course → IsSmall old.ahead new_course) →
            HasGoneOn old.most old.ahead then_course new_course new.found →
            MatchOption new.found ⊤ (KeepsEndOf new_course) → IsJudge limits most ahead (run ++ e ∷ []) new
        judge_then new same far busy_is course_is space longer stays gone tells = record {
          most_is = same ∙ is.most_is;
          ahead_is = far ∙ is.ahead_is;
          small = subst (IsSmall ahead) (sym course_is)
              (subst (λ (n : ℕ). IsSmall n then_course → IsSmall n new_course)
              is.ahead_is stays (small_added ahead old.course then_course is.small under_way.near longer));
          tells = subst (λ (c : Course). MatchOption new.found ⊤ (KeepsEndOf c)) (sym course_is) tells;
          state = by new.found gone;
        }
          where
            by : (found : Option Verdict) → HasGoneOn old.most old.ahead then_course new_course found →
                IsState limits most ahead (run ++ e ∷ []) new found
            by None gone_on = record {
              course_of = subst (λ (c : Course). IsCourse limits (run ++ e ∷ []) c) (sym course_is)
                  (gone_on.same.courses limits (run ++ e ∷ []) then_of);
              lanes = subst (AreBusyLanes (run ++ e ∷ [])) (sym busy_is)
                  (busy_lanes_then run old.busy busy e under_way.lanes sets);
              room = subst HasRoom (sym course_is) (room_still then_course new_course gone_on.same space);
              near = subst (IsNear ahead) (sym course_is)
                  (subst (λ (n : ℕ). IsNear n new_course) is.ahead_is gone_on.near);
            }
            by (Some v) found = found_as v (found limits (run ++ e ∷ []) then_of)

    -- it may not
    pub found_broken : (number : ℕ) (rest : Verdict) →
        number ≡ old.course.first + length old.course.events.items → ¬ MayComeIn old.busy e →
        ((far : Option ℕ) (l : Bounds) (r : List Event) → IsCourse l r old.course → IsRest l r old.most far rest) →
        IsFound limits (run ++ e ∷ []) most (Some ahead) (broken_off rest number)
    found_broken number rest at not_there ends = broken_found limits run most (Some ahead) number e
        (at ∙ run_long limits run old.course.first old.course.seen old.course.events.items old.course.base
        old.course.watch under_way.course_of.on) (of_lanes_not run old.busy e under_way.lanes not_there) rest
        (subst (λ (m : ℕ). IsRest limits run m (Some ahead) rest) is.most_is
        (ends (Some ahead) limits run under_way.course_of))

    pub judge_broken : (new : Judge) (v : Verdict) → new.most ≡ old.most → new.ahead ≡ old.ahead →
        new.course ≡ old.course → new.found ≡ Some v → IsFound limits (run ++ e ∷ []) most (Some ahead) v →
        KeepsEndOf old.course v → IsJudge limits most ahead (run ++ e ∷ []) new
    judge_broken new v same far course_is some found tells = record {
      most_is = same ∙ is.most_is;
      ahead_is = far ∙ is.ahead_is;
      small = subst (IsSmall ahead) (sym course_is) is.small;
      tells = subst (λ (o : Option Verdict). MatchOption o ⊤ (KeepsEndOf new.course)) (sym some)
          (subst (λ (c : Course). KeepsEndOf c v) (sym course_is) tells);
      state = subst (λ (o : Option Verdict). IsState limits most ahead (run ++ e ∷ []) new o) (sym some) found;
    }

pub one_longer_room : (old : Judge) (then_course : Course) → HasRoomForOne old → IsOneLonger old.course then_course →
    HasRoom then_course
one_longer_room old then_course space longer = record {
  room = let first : then_course.first ≡ old.course.first = longer.first in
      let more : length then_course.events.items ≡ length old.course.events.items + 1 = longer.longer in
      let room : old.course.first + length old.course.events.items + 1 < 2 ^ 64 = space.room in
      omega (arith, first, more, room);
}

-- a judge of some run, then, is one of that run and the event
pub known_then : (old new : Judge) (e : Event) → IsJudgeOfSome old →
    ((limits : Bounds) (most ahead : ℕ) (run : List Event) → IsJudge limits most ahead run old →
    IsJudge limits most ahead (run ++ e ∷ []) new) → IsJudgeOfSome new
known_then old new e some goes = record {
  limits = some.limits;
  most = some.most;
  ahead = some.ahead;
  run = some.run ++ e ∷ [];
  judge_of = goes some.limits some.most some.ahead some.run some.judge_of;
}
