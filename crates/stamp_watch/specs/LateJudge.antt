-- What a judge knows that puts calls aside which are open for long.
use Rattle.std.specs.Prelude.{ℕ, ◌-◌, ◌≡◌, ◌+◌, ◌^◌, ◌<◌, ◌≤◌, ◌++◌, List, [], ◌∷◌, length}
use Rattle.std.specs.Prelude.{⊤, Option, None, IfSome, MatchOption}
use Rattle.stamp_core.specs.Limits.{Bounds}
use Rattle.stamp_runs.specs.declared.event.Event.{Event}
use Rattle.stamp_watch.specs.declared.course.Course.{Course}
use Rattle.stamp_watch.specs.declared.delay.Delay.{Delay}
use Rattle.stamp_watch.specs.declared.late_verdict.LateVerdict.{LateVerdict}
use Rattle.stamp_watch.specs.declared.late_verdict.LateVerdict.TheVariants.{Is, Late}
use Rattle.stamp_watch.specs.declared.late.LateJudge.{LateJudge}
use Rattle.stamp_watch.specs.declared.verdict.Verdict.{Verdict}
use Rattle.stamp_watch.specs.declared.verdict.Verdict.TheVariants as verdict
use Rattle.stamp_watch.specs.Course.{KeepsEndOf}
use Rattle.stamp_watch.specs.EndedCall.{IsEndedAt, ended_from}
use Rattle.stamp_watch.specs.Delay.{IsDelayed, IsSmallDelay}
use Rattle.stamp_watch.specs.Judging.{AreBusyLanes}
use Rattle.stamp_watch.specs.Late.{IsLateFound}
use Rattle.stamp_watch.specs.PossibleLate.{KeepsLater}
use Rattle.stamp_watch.specs.Verdict.{AreOfLanes}

-- nothing was found of the run yet
pub record IsLateUnderWay (limits : Bounds) (most ahead : ℕ) (run : List Event) (judge : LateJudge) : Type 0 where
  pub delayed : IsDelayed limits most ahead run judge.delay
  pub going : judge.delay.judge.found ≡ None
  pub lanes : AreBusyLanes run judge.busy
  pub few : length judge.delay.waiting.events.items ≤ ahead - 64
  pub room : judge.delay.passed + length judge.delay.waiting.events.items < 2 ^ 64

-- the judge inside keeps what tells of the event at which the run was found stuck
abbrev pub KeepsEndLate : Delay → LateVerdict → Type 0
KeepsEndLate delay (Is verdict) = KeepsEndOf delay.judge.course verdict
KeepsEndLate delay (Late k) = Unit {0}

-- the call that is kept as the one which ends where the run was found stuck ends there in the run
abbrev pub EndsInRun : List Event → Course → Verdict → Type 0
EndsInRun run course verdict.Explained = Unit {0}
EndsInRun run course (verdict.Stuck k) =
    IfSome (ended_from course.first course.events.items k) (λ call. IsEndedAt run k call)
EndsInRun run course (verdict.StuckWithin k m) = Unit {0}
EndsInRun run course (verdict.Undecided k why) = Unit {0}
EndsInRun run course (verdict.Broken k) = Unit {0}

-- so it does where calls began late
abbrev pub EndsInRunLate : List Event → Delay → LateVerdict → Type 0
EndsInRunLate run delay (Is verdict) = EndsInRun run delay.judge.course verdict
EndsInRunLate run delay (Late k) = Unit {0}

-- the judge was given the events of this run so far, what it found holds whatever comes later, and it keeps few
-- events, by which it can judge again; among these is what tells of the event at which the run was found stuck
pub record IsLateJudge (limits : Bounds) (most ahead : ℕ) (run : List Event) (judge : LateJudge) : Type 0 where
  pub window : judge.delay.ahead ≡ ahead - 64
  pub small : IsSmallDelay most ahead judge.delay
  pub keeps : KeepsLater limits run judge
  pub state : MatchOption judge.found (IsLateUnderWay limits most ahead run judge)
      (λ finding. IsLateFound limits run most ahead finding)
  pub tells : MatchOption judge.found ⊤ (KeepsEndLate judge.delay)
  pub there : MatchOption judge.found ⊤ (EndsInRunLate run judge.delay)

-- so it is of some run
pub record IsLateJudgeOfSome (judge : LateJudge) : Type 0 where
  pub limits : Bounds
  pub most : ℕ
  pub ahead : ℕ
  pub run : List Event
  pub judge_of : IsLateJudge limits most ahead run judge

-- nothing was found yet
abbrev pub HasFoundNothingLater : LateJudge → Type 0
HasFoundNothingLater judge = judge.found ≡ None

-- one more event can be numbered
pub record HasRoomForOneLater (judge : LateJudge) : Type 0 where
  pub room : judge.delay.passed + length judge.delay.waiting.events.items + 1 < 2 ^ 64

-- what is found once the judge was given one event more; or the run is in form so far
abbrev pub IsLateFoundThen : Event → LateJudge → Option LateVerdict → Type 0
IsLateFoundThen e old found = (limits : Bounds) (most ahead : ℕ) (run : List Event) →
    IsLateJudge limits most ahead run old →
    MatchOption found (AreOfLanes (run ++ e ∷ [])) (λ finding. IsLateFound limits (run ++ e ∷ []) most ahead finding)

-- the judge then
abbrev pub IsLateGiven : Event → LateJudge → LateJudge → Type 0
IsLateGiven e old new = (limits : Bounds) (most ahead : ℕ) (run : List Event) →
    IsLateJudge limits most ahead run old → IsLateJudge limits most ahead (run ++ e ∷ []) new
