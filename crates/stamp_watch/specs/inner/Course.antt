-- What comes of one more event of a run that is judged.
use Rattle.std.specs.Prelude.{ℕ, ◌≡◌, ◌≢◌, ◌+◌, ◌-◌, ◌<◌, List, length, drop, slice_index_or}
use Rattle.std.specs.Prelude.{Option, Some, None}
use Rattle.stamp_core.specs.Limits.{Bounds}
use Rattle.stamp_runs.specs.declared.event.Event.{Event}
use Rattle.stamp_runs.specs.declared.event.Event.TheVariants as event
use Rattle.stamp_sets.specs.declared.ending.Ending.{Ending}
use Rattle.stamp_sets.specs.declared.ending.Ending.TheVariants.{Never}
use Rattle.stamp_watch.specs.declared.verdict.Verdict.{Verdict}
use Rattle.stamp_watch.specs.declared.verdict.Verdict.TheVariants as verdict
use Rattle.stamp_watch.specs.declared.course.Course.{Course}
use Rattle.stamp_watch.specs.declared.course.Onward.{Onward}
use Rattle.stamp_watch.specs.declared.course.Onward.TheVariants.{Waits, Steps, Finds}
use Rattle.stamp_watch.specs.Judging.{IsFound}
use Rattle.stamp_watch.specs.Course.{IsCourse, IsNear, IsSmall, KeepsEndOf}
use Rattle.stamp_watch.specs.inner.Judging.{IsEndTold}

-- how the call ends that begins by the event is known
abbrev pub IsKnown : Event → Ending → Type 0
IsKnown (event.Begins lane call) ends = ends ≢ Never
IsKnown (event.Returns lane reply) ends = Unit {0}
IsKnown (event.Withdraws lane) ends = Unit {0}

-- it is not
abbrev pub IsUnknown : Event → Ending → Type 0
IsUnknown (event.Begins lane call) ends = ends ≡ Never
IsUnknown (event.Returns lane reply) ends = ⊥
IsUnknown (event.Withdraws lane) ends = ⊥

-- the event is the first that was not seen
pub record IsFront (course : Course) (e : Event) : Type 0 where
  pub less : course.seen < length course.events.items
  pub read : e ≡ slice_index_or course.events.items course.seen e

-- the call that begins by this event, at the front, ends so
pub record IsEndAtFront (course : Course) (e : Event) (ends : Ending) : Type 0 where
  pub told : IsEndTold e (course.first + course.seen + 1) (drop (course.seen + 1) course.events.items) ends

-- it is that of some run
pub record IsOnCourse (course : Course) : Type 0 where
  pub limits : Bounds
  pub run : List Event
  pub course_of : IsCourse limits run course

-- it has one event more
pub record IsOneLonger (old new : Course) : Type 0 where
  pub first : new.first ≡ old.first
  pub longer : length new.events.items ≡ length old.events.items + 1
  pub seen : new.seen ≡ old.seen
  pub place : new.place ≡ old.place
  pub reach : new.reach ≡ old.reach

-- so many events were not seen
abbrev pub unseen : Course → ℕ
unseen course = length course.events.items - course.seen

-- the course of the same runs
pub record IsSameRun (old new : Course) : Type 0 where
  pub long : new.first + length new.events.items ≡ old.first + length old.events.items
  pub courses : (limits : Bounds) (run : List Event) → IsCourse limits run old → IsCourse limits run new

-- one more event was seen
pub record HasStepped (old new : Course) : Type 0 where
  pub same : IsSameRun old new
  pub fewer : unseen new + 1 ≡ unseen old

-- none was, and one more may come where so many are looked at
pub record HasWaited (ahead : ℕ) (old new : Course) : Type 0 where
  pub same : IsSameRun old new
  pub near : IsNear ahead new

-- few events are kept, and one more may be seen
pub record IsFresh (ahead : ℕ) (course : Course) : Type 0 where
  pub small : IsSmall ahead course
  pub fresh : course.seen < course.place + (ahead + 1024)

-- events were let go of, or none
pub record HasLetGo (old new : Course) : Type 0 where
  pub same : IsSameRun old new
  pub as_many : unseen new ≡ unseen old

-- this is found of a run, whatever comes later
abbrev pub IsFoundOn : ℕ → Option ℕ → Course → Verdict → Type 0
IsFoundOn most ahead course verdict = (limits : Bounds) (run : List Event) → IsCourse limits run course →
    IsFound limits run most ahead verdict

-- what comes of a step, where so many events are looked at for the end of a call
abbrev pub IsOnward : ℕ → ℕ → Course → Course → Onward → Type 0
IsOnward most ahead old new Waits = HasWaited ahead old new
IsOnward most ahead old new Steps = HasStepped old new
IsOnward most ahead old new (Finds verdict) = IsFoundOn most (Some ahead) old verdict

-- the course keeps what tells of what is found
abbrev pub IsToldBy : Course → Onward → Type 0
IsToldBy course Waits = Unit {0}
IsToldBy course Steps = Unit {0}
IsToldBy course (Finds verdict) = KeepsEndOf course verdict

-- what comes of several
abbrev pub HasGoneOn : ℕ → ℕ → Course → Course → Option Verdict → Type 0
HasGoneOn most ahead old new None = HasWaited ahead old new
HasGoneOn most ahead old new (Some verdict) = IsFoundOn most (Some ahead) old verdict

-- what is found of a run that goes on with an event that may not come there
abbrev pub broken_off : Verdict → ℕ → Verdict
broken_off verdict.Explained place = verdict.Broken place
broken_off (verdict.Stuck k) place = verdict.Stuck k
broken_off (verdict.StuckWithin k m) place = verdict.StuckWithin k m
broken_off (verdict.Undecided k why) place = verdict.Undecided k why
broken_off (verdict.Broken k) place = verdict.Broken k
