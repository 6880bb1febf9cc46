-- How events wait before a judge is given them.
use Rattle.std.specs.Prelude.{ℕ, ◌≡◌, ◌≢◌, ◌⊎◌, ◌↔◌, ◌+◌, ◌-◌, ◌^◌, ◌<◌, ◌≤◌, Bool, true, List, [], ◌∷◌, ◌++◌, length}
use Rattle.std.specs.Prelude.{slice_index_or, take, Option, Some, None}
use Rattle.stamp_core.specs.Limits.{Bounds}
use Rattle.stamp_runs.specs.Run.{lane_of}
use Rattle.stamp_runs.specs.declared.event.Event.{Event}
use Rattle.stamp_runs.specs.declared.event.Event.TheVariants.{Begins, Returns, Withdraws}
use Rattle.stamp_watch.specs.Course.{IsOver, IsRest}
use Rattle.stamp_watch.specs.Delay.{AreLate, AreNear, IsDelayed, IsHandedOn, IsShownIfAny, reach_of}
use Rattle.stamp_watch.specs.Issued.{LosesNothing}
use Rattle.stamp_watch.specs.Judge.{IsJudge}
use Rattle.stamp_watch.specs.Possible.{KeepsBase}
use Rattle.stamp_watch.specs.Verdict.{AreOfLanes}
use Rattle.stamp_watch.specs.Waiting.{IsCounted}
use Rattle.stamp_watch.specs.Ahead.{IsSpared}
use Rattle.stamp_watch.specs.declared.delay.Delay.{Delay}
use Rattle.stamp_watch.specs.declared.delay.Handed.{Handed}
use Rattle.stamp_watch.specs.declared.delay.Handed.TheVariants as handed
use Rattle.stamp_watch.specs.declared.late_verdict.LateVerdict.{LateVerdict}
use Rattle.stamp_watch.specs.declared.late_verdict.LateVerdict.TheVariants.{Is, Late}
use Rattle.stamp_watch.specs.declared.online.Judge.{Judge}
use Rattle.stamp_watch.specs.declared.verdict.Verdict.{Verdict}
use Rattle.stamp_watch.specs.declared.verdict.Verdict.TheVariants as verdict
use Rattle.stamp_watch.specs.Late.{IsLate, IsLateFound, RestsOn, TellsOf}

-- so it is before this event waits, whose lane has no call aside
pub record HasBegun (limits : Bounds) (most ahead : ℕ) (run : List Event) (e : Event) (delay : Delay) : Type 0 where
  pub limits_are : delay.limits ≡ limits
  pub ahead_is : delay.ahead ≡ ahead - 64
  pub counted : IsCounted delay.waiting
  pub given : List Event
  pub judge_of : IsJudge limits most (reach_of ahead) given delay.judge
  pub keeps : KeepsBase limits given delay.judge
  pub handed : IsHandedOn (ahead - 64) run given delay.aside.items delay.waiting.events.items delay.first_late
      delay.passed
  pub near : AreNear (reach_of ahead) given delay.aside.items (delay.waiting.events.items ++ e ∷ [])
  pub shown : IsShownIfAny limits (run ++ e ∷ []) given delay.aside.items (delay.waiting.events.items ++ e ∷ [])
      delay.shown
  pub late : AreLate limits (run ++ e ∷ []) delay.aside.items (delay.waiting.events.items ++ e ∷ []) (ahead - 64)
      delay.shown

-- it is that of some run, and its judge has found nothing
pub record IsReady (delay : Delay) : Type 0 where
  pub limits : Bounds
  pub most : ℕ
  pub ahead : ℕ
  pub run : List Event
  pub delayed : IsDelayed limits most ahead run delay
  pub going : delay.judge.found ≡ None

-- this event may come next
pub record IsReadyFor (e : Event) (delay : Delay) : Type 0 where
  pub ready : IsReady delay
  pub whole : AreOfLanes (ready.run ++ e ∷ [])

-- the event at this place is of the lane
abbrev pub IsOfLaneAt : List Event → ℕ → ℕ → Type 0
IsOfLaneAt events lane place =
    (place < length events) × ((d : Event) → lane_of (slice_index_or events place d) ≡ lane)

-- it is the first that is
abbrev pub IsFirstOfLaneAt : List Event → ℕ → ℕ → Type 0
IsFirstOfLaneAt events lane place = IsOfLaneAt events lane place × IsSpared (take place events) lane

-- it begins a call, and no event of its lane waits
abbrev pub IsToBeAside : Event → List Event → Type 0
IsToBeAside (Begins lane call) waiting = IsSpared waiting lane
IsToBeAside (Returns lane reply) waiting = ⊥
IsToBeAside (Withdraws lane) waiting = ⊥

-- the first event begins a call, and no other event of its lane waits
abbrev pub IsAloneInFront : List Event → Type 0
IsAloneInFront [] = ⊥
IsAloneInFront (event ∷ behind) = IsToBeAside event behind

-- the verdict rests on what came before this event alone; that a run is broken does not rest on when calls begin
abbrev pub RestsBefore : Verdict → ℕ → Type 0
RestsBefore verdict.Explained n = Unit {0}
RestsBefore (verdict.Stuck k) n = k < n
RestsBefore (verdict.StuckWithin k m) n = m ≤ n
RestsBefore (verdict.Undecided k why) n = ⊥
RestsBefore (verdict.Broken k) n = Unit {0}

-- no call is aside, and the events up to this one show that nothing is lost by the calls that began late
abbrev pub IsSettled : List Event → Option ℕ → ℕ → Type 0
IsSettled aside None k = ⊥
IsSettled aside (Some many) k = (aside ≡ []) × (many ≤ k + 1)

-- so it is at the event at which the run is stuck
abbrev pub IsSettledFor : List Event → Option ℕ → Verdict → Type 0
IsSettledFor aside shown verdict.Explained = ⊥
IsSettledFor aside shown (verdict.Stuck k) = IsSettled aside shown k
IsSettledFor aside shown (verdict.StuckWithin k m) = ⊥
IsSettledFor aside shown (verdict.Undecided k why) = ⊥
IsSettledFor aside shown (verdict.Broken k) = ⊥

-- what a judge's verdict tells of a run whose first call that was put aside has this number
abbrev pub IsFindingBy : List Event → Option ℕ → ℕ → Verdict → LateVerdict → Type 0
IsFindingBy aside shown first v (Is found) = (found ≡ v) × (RestsBefore v first ⊎ IsSettledFor aside shown v)
IsFindingBy aside shown first v (Late k) = TellsOf v k × RestsOn v first × ¬ IsSettledFor aside shown v

-- or of one of which none was
abbrev pub IsFindingOf : List Event → Option ℕ → Option ℕ → Verdict → LateVerdict → Type 0
IsFindingOf aside shown None v finding = finding ≡ Is v
IsFindingOf aside shown (Some first) v finding = IsFindingBy aside shown first v finding

-- by so many events it is shown of that call, too, if it was shown of those before
abbrev pub IsShownBy : Delay → Event → Event → Option ℕ → Type 0
IsShownBy delay begun end None =
    (delay.shown ≡ None) ⊎ ¬ LosesNothing delay.limits begun end delay.waiting.events.items
IsShownBy delay begun end (Some many) =
    (delay.shown ≢ None) × LosesNothing delay.limits begun end delay.waiting.events.items ×
    (many ≡ delay.passed + length delay.waiting.events.items + 1)

-- whether the first event waits on, which is alone or not: it does not if too many wait, or if it is not alone and no
-- call is aside
abbrev pub IsWaitingOn : Delay → Bool → Bool → Type 0
IsWaitingOn delay alone waits = (waits ≡ true) ↔
    ((length delay.waiting.events.items ≤ delay.ahead) × ((alone ≡ true) ⊎ (delay.aside.items ≢ [])))

-- what is found of the events that were handed on
abbrev pub found_by : Handed → Option Verdict
found_by handed.Waits = None
found_by handed.Passes = None
found_by (handed.Finds verdict) = Some verdict

-- so many events wait, and the run is as long
pub record KeepsLength (old new : Delay) : Type 0 where
  pub long : new.passed + length new.waiting.events.items ≡ old.passed + length old.waiting.events.items
  pub ahead : new.ahead ≡ old.ahead

-- one event less waits, or it waits on
abbrev pub HasHandedOn : Delay → Delay → Handed → Type 0
HasHandedOn old new handed.Waits = (new ≡ old) × (length old.waiting.events.items ≤ old.ahead)
HasHandedOn old new handed.Passes = KeepsLength old new ×
    (length old.waiting.events.items ≡ length new.waiting.events.items + 1)
HasHandedOn old new (handed.Finds verdict) = KeepsLength old new ×
    (length old.waiting.events.items ≡ length new.waiting.events.items + 1)

-- the judge can number so many events more, if it has found nothing
pub record HasRoomFor (n : ℕ) (judge : Judge) : Type 0 where
  pub room : judge.found ≡ None → judge.course.first + length judge.course.events.items + n < 2 ^ 64

-- what is found of a run that ends or breaks here
abbrev pub IsLateRest : Bounds → List Event → ℕ → ℕ → LateVerdict → Type 0
IsLateRest limits run most ahead (Is verdict) = IsRest limits run most None verdict
IsLateRest limits run most ahead (Late k) = (later : List Event) → IsOver run later →
    IsLate limits (run ++ later) most ahead k

-- what is found of a run whose next event may not come there, whatever comes later
abbrev pub IsLateBreak : Bounds → List Event → ℕ → ℕ → LateVerdict → Type 0
IsLateBreak limits run most ahead finding = (e : Event) → ¬ AreOfLanes (run ++ e ∷ []) →
    IsLateFound limits (run ++ e ∷ []) most ahead finding
