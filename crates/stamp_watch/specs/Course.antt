-- What is kept of a run while it is judged, event by event.
use Rattle.std.specs.Prelude.{ℕ, ◌≡◌, ◌+◌, ◌^◌, ◌<◌, ◌≤◌, ◌++◌, List, [], ◌∷◌, length, take, drop, Option, Some}
use Rattle.stamp_core.specs.Limits.{Bounds}
use Rattle.stamp_runs.specs.declared.event.Event.{Event}
use Rattle.stamp_runs.specs.declared.event.Event.TheVariants.{Begins, Returns, Withdraws}
use Rattle.stamp_runs.specs.Run.{EndsNever}
use Rattle.stamp_runs.specs.BothRun.{AreExplained}
use Rattle.stamp_watch.specs.declared.course.Course.{Course}
use Rattle.stamp_watch.specs.declared.ended_call.EndedCall.{EndedCall}
use Rattle.stamp_watch.specs.declared.verdict.Verdict.{Verdict}
use Rattle.stamp_watch.specs.declared.verdict.Verdict.TheVariants as verdict
use Rattle.stamp_watch.specs.declared.verdict.Why.TheVariants as cause
use Rattle.stamp_sets.specs.declared.watch.Watch.{Watch}
use Rattle.stamp_watch.specs.AsObserved.{AreEnded}
use Rattle.stamp_watch.specs.EndedCall.{ended_from}
use Rattle.stamp_watch.specs.SoFar.{BeginWithOpenCall}
use Rattle.stamp_watch.specs.Verdict.{AreOfLanes, IsVerdict, NoMoreAreOfLanes}
use Rattle.stamp_watch.specs.Judging.{IsFound, IsJudging}

-- a watch judges a run, whatever comes behind these events
pub record IsStanding (limits : Bounds) (n : ℕ) (past future : List Event) (watch : Watch) : Type 0 where
  pub judging : IsJudging limits n past future watch
  pub ended : AreEnded n past future

-- a run so far: the events before the one with the first number, and these; a watch stands behind those before, and
-- another behind so many of these as well
pub record IsRunOn (limits : Bounds) (run : List Event) (first seen : ℕ) (events : List Event) (base watch : Watch) :
    Type 0 where
  pub past : List Event
  pub run_is : run ≡ past ++ events
  pub place : first ≡ length past
  pub whole : AreOfLanes (past ++ events)
  pub within : seen ≤ length events
  pub from_base : IsStanding limits first past (take seen events) base
  pub now : IsStanding limits (first + seen) (past ++ take seen events) (drop seen events) watch

-- a watch stands behind so many events of a run, and its open calls end among so many that come then
pub record IsSpare (limits : Bounds) (run : List Event) (place reach : ℕ) (spare : Watch) : Type 0 where
  pub within : place + reach ≤ length run
  pub standing : IsStanding limits place (take place run) (take reach (drop place run)) spare

-- none of these events ends the call that begins by the event
abbrev pub LeavesOpen : Event → List Event → Type 0
LeavesOpen (Begins lane call) events = EndsNever lane events
LeavesOpen (Returns lane reply) events = Unit {0}
LeavesOpen (Withdraws lane) events = Unit {0}

-- none of so many events behind the first of these ends its call
abbrev pub IsLooked : ℕ → List Event → Type 0
IsLooked looked [] = looked ≡ 0
IsLooked looked (event ∷ events) = (looked ≤ length events) × LeavesOpen event (take looked events)

-- the course of this run
pub record IsCourse (limits : Bounds) (run : List Event) (course : Course) : Type 0 where
  pub on : IsRunOn limits run course.first course.seen course.events.items course.base course.watch
  pub looked : IsLooked course.looked (drop course.seen course.events.items)
  pub spare_is : IsSpare limits run (course.first + course.place) course.reach course.spare

-- its events can be numbered
pub record HasRoom (course : Course) : Type 0 where
  pub room : course.first + length course.events.items < 2 ^ 64

-- an event is kept that ends a call, with the beginning of that call, and comes behind the ends of the base's open
-- calls
pub record KeepsEnd (course : Course) (k : ℕ) : Type 0 where
  pub behind : course.first + course.seen ≤ k
  pub call : EndedCall
  pub ends : ended_from course.first course.events.items k ≡ Some call

-- so it is with the event at which the run was found stuck
abbrev pub KeepsEndOf : Course → Verdict → Type 0
KeepsEndOf course verdict.Explained = Unit {0}
KeepsEndOf course (verdict.Stuck k) = KeepsEnd course k
KeepsEndOf course (verdict.StuckWithin k m) = Unit {0}
KeepsEndOf course (verdict.Undecided k why) = Unit {0}
KeepsEndOf course (verdict.Broken k) = Unit {0}

-- few events are kept, where so many are looked at for the end of a call
pub record IsSmall (ahead : ℕ) (course : Course) : Type 0 where
  pub place : course.place ≤ ahead + 1024
  pub reach : course.reach ≤ ahead + 1
  pub seen : course.seen ≤ course.place + (ahead + 1024)
  pub events : length course.events.items ≤ course.seen + ahead + 1

-- one event more may come then, and all that can be seen so far was seen
pub record IsNear (ahead : ℕ) (course : Course) : Type 0 where
  pub events : length course.events.items ≤ course.seen + ahead
  pub waits : BeginWithOpenCall (drop course.seen course.events.items)

-- no event comes next that may
abbrev pub IsOver : List Event → List Event → Type 0
IsOver run later = NoMoreAreOfLanes (run ++ later) (length run)

-- what is found of a run that ends or breaks here; what is not explained is found whatever comes later
abbrev pub IsRest : Bounds → List Event → ℕ → Option ℕ → Verdict → Type 0
IsRest limits run most ahead verdict.Explained = AreOfLanes run × AreExplained limits run
IsRest limits run most ahead (verdict.Stuck k) = IsFound limits run most ahead (verdict.Stuck k)
IsRest limits run most ahead (verdict.StuckWithin k m) = IsFound limits run most ahead (verdict.StuckWithin k m)
IsRest limits run most ahead (verdict.Undecided k cause.TooMany) = (later : List Event) → IsOver run later →
    IsVerdict limits (run ++ later) most ahead (verdict.Undecided k cause.TooMany)
IsRest limits run most ahead (verdict.Undecided k cause.TooFar) =
    IsFound limits run most ahead (verdict.Undecided k cause.TooFar)
IsRest limits run most ahead (verdict.Broken k) = IsFound limits run most ahead (verdict.Broken k)
