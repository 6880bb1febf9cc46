-- What a judge knows of a run that goes on.
use Rattle.std.specs.Prelude.{ℕ, ◌≡◌, ◌+◌, ◌^◌, ◌<◌, ◌++◌, List, [], ◌∷◌, length, ⊤, Option, Some, None, MatchOption}
use Rattle.stamp_core.specs.Limits.{Bounds}
use Rattle.stamp_runs.specs.declared.event.Event.{Event}
use Rattle.stamp_watch.specs.declared.online.Judge.{Judge}
use Rattle.stamp_watch.specs.declared.verdict.Verdict.{Verdict}
use Rattle.stamp_watch.specs.Verdict.{AreOfLanes}
use Rattle.stamp_watch.specs.Judging.{AreBusyLanes, IsFound}
use Rattle.stamp_watch.specs.Course.{HasRoom, IsCourse, IsNear, IsSmall, KeepsEndOf}

-- nothing was found of the run yet
pub record IsUnderWay (limits : Bounds) (ahead : ℕ) (run : List Event) (judge : Judge) : Type 0 where
  pub course_of : IsCourse limits run judge.course
  pub lanes : AreBusyLanes run judge.busy
  pub room : HasRoom judge.course
  pub near : IsNear ahead judge.course

-- the judge was given the events of this run so far, what it found holds whatever comes later, and it keeps few events;
-- among these is what tells of the event at which the run was found stuck
pub record IsJudge (limits : Bounds) (most ahead : ℕ) (run : List Event) (judge : Judge) : Type 0 where
  pub most_is : judge.most ≡ most
  pub ahead_is : judge.ahead ≡ ahead
  pub small : IsSmall ahead judge.course
  pub state : MatchOption judge.found (IsUnderWay limits ahead run judge)
      (λ verdict. IsFound limits run most (Some ahead) verdict)
  pub tells : MatchOption judge.found ⊤ (KeepsEndOf judge.course)

-- so it is of some run
pub record IsJudgeOfSome (judge : Judge) : Type 0 where
  pub limits : Bounds
  pub most : ℕ
  pub ahead : ℕ
  pub run : List Event
  pub judge_of : IsJudge limits most ahead run judge

-- nothing was found yet
abbrev pub HasFoundNothing : Judge → Type 0
HasFoundNothing judge = judge.found ≡ None

-- one more event can be numbered
pub record HasRoomForOne (judge : Judge) : Type 0 where
  pub room : judge.course.first + length judge.course.events.items + 1 < 2 ^ 64

-- what is found once the judge was given one event more; or the run is in form so far
abbrev pub IsFoundThen : Event → Judge → Option Verdict → Type 0
IsFoundThen e old found = (limits : Bounds) (most ahead : ℕ) (run : List Event) → IsJudge limits most ahead run old →
    MatchOption found (AreOfLanes (run ++ e ∷ []))
    (λ verdict. IsFound limits (run ++ e ∷ []) most (Some ahead) verdict)

-- the judge then
abbrev pub IsGiven : Event → Judge → Judge → Type 0
IsGiven e old new = (limits : Bounds) (most ahead : ℕ) (run : List Event) → IsJudge limits most ahead run old →
    IsJudge limits most ahead (run ++ e ∷ []) new
