-- Events that wait before a judge is given them.
use Rattle.std.specs.Prelude.{ℕ, ◌-◌, ◌≡◌, ◌≢◌, ◌⊎◌, ◌+◌, ◌<◌, ◌≤◌, ◌++◌, List, [], ◌∷◌, length, take, drop}
use Rattle.std.specs.Prelude.{Option, Some, None}
use Rattle.std.specs.List.{All, AllPairs}
use Rattle.stamp_core.specs.Limits.{Bounds}
use Rattle.stamp_core.specs.declared.call.Call.{Call}
use Rattle.stamp_runs.specs.Run.{IsEndOf, lane_of, EndsNever}
use Rattle.stamp_runs.specs.declared.event.Event.{Event}
use Rattle.stamp_runs.specs.declared.event.Event.TheVariants.{Begins, Returns, Withdraws}
use Rattle.stamp_runs.specs.BothRun.{AreExplained}
use Rattle.stamp_watch.specs.Ahead.{IsSpared}
use Rattle.stamp_watch.specs.declared.delay.Delay.{Delay}
use Rattle.stamp_watch.specs.Judge.{IsJudge}
use Rattle.stamp_watch.specs.Issued.{LosesNothing}
use Rattle.stamp_watch.specs.Late.{BeginsLater, EndsBehind, IsLongCall, LongCallsBeginLater, last_of}
use Rattle.stamp_watch.specs.Possible.{KeepsBase}
use Rattle.stamp_watch.specs.Verdict.{AreOfLanes, IsOpenFor}
use Rattle.stamp_watch.specs.Waiting.{IsCounted, count_of}

abbrev pub IsBeginning : Event → Type 0
IsBeginning (Begins lane call) = Unit {0}
IsBeginning (Returns lane reply) = ⊥
IsBeginning (Withdraws lane) = ⊥

-- these calls have begun in lanes of which no event waits; each is in a lane of its own
pub record AreAside (aside waiting : List Event) : Type 0 where
  pub begin : All IsBeginning aside
  pub lanes : All (λ e. lane_of e < 64) aside
  pub apart : AllPairs (λ d e. lane_of d ≢ lane_of e) aside
  pub spared : All (λ e. IsSpared waiting (lane_of e)) aside

-- the first call that was put aside is open for so many events; the judge was given those before it as they are
pub record IsFirstLate (ahead : ℕ) (run given : List Event) (first : ℕ) : Type 0 where
  pub open_for : IsOpenFor run first ahead
  pub before : first < length run
  pub given_more : first ≤ length given
  pub same : take first given ≡ take first run

-- none was, or this was the first
abbrev pub IsFirstIfAny : ℕ → List Event → List Event → List Event → List Event → Option ℕ → Type 0
IsFirstIfAny ahead run passed given aside None = (aside ≡ []) × (given ≡ passed)
IsFirstIfAny ahead run passed given aside (Some first) = IsFirstLate ahead run given first

-- the calls that are aside begin behind as many events of their lanes as were given, and are open for so many events
abbrev pub AreLong : List Event → ℕ → List Event → List Event → Type 0
AreLong run window given aside = All (λ e. IsLongCall run window (lane_of e) (count_of (lane_of e) given)) aside

-- of a run a judge was given these events, and others wait; between them the calls that are aside begin
pub record IsHandedOn (ahead : ℕ) (run given aside waiting : List Event) (first : Option ℕ) (passed : ℕ) : Type 0 where
  pub past : List Event
  pub passed_is : passed ≡ length past
  pub run_is : run ≡ past ++ waiting
  pub asides : AreAside aside waiting
  pub long : AreLong run ahead given aside
  pub later : (more : List Event) → LongCallsBeginLater run ahead (past ++ more) (given ++ (aside ++ more))
  pub first_is : IsFirstIfAny ahead run past given aside first

-- these events are those that were given and, in their places, those that are aside; behind each of these none is of
-- its lane
pub data AreInPlace : List Event → List Event → List Event → Type 0 where
  none_is : AreInPlace [] [] []
  was_given : {given aside events : List Event} → (e : Event) → AreInPlace given aside events →
      AreInPlace (e ∷ given) aside (e ∷ events)
  is_aside : {given aside events : List Event} → (e : Event) → IsSpared events (lane_of e) →
      AreInPlace given aside events → AreInPlace given (e ∷ aside) (e ∷ events)

-- The calls that began late are moved, and nothing is lost by that, as so many events of the run show: what comes then
-- is explained behind these events with those calls moved, if it is behind the run as it stands. The last of these
-- stays in its place. The calls that are aside begin in theirs.
pub record IsShown (limits : Bounds) (run given aside waiting : List Event) (many : ℕ) : Type 0 where
  pub within : many ≤ length run
  pub moved : List Event
  pub as_many : length moved ≡ many
  pub same_end : drop (many - 1) moved ≡ drop (many - 1) (take many run)
  pub passed : List Event
  pub parts : passed ++ waiting ≡ moved ++ drop many run
  pub in_place : AreInPlace given aside passed
  pub later : (more : List Event) → BeginsLater (run ++ more) (passed ++ (waiting ++ more))
  pub nothing_lost : (more : List Event) → AreExplained limits (take many run ++ more) →
      AreExplained limits (moved ++ more)

-- so it is where it is shown
abbrev pub IsShownIfAny : Bounds → List Event → List Event → List Event → List Event → Option ℕ → Type 0
IsShownIfAny limits run given aside waiting None = Unit {0}
IsShownIfAny limits run given aside waiting (Some many) = IsShown limits run given aside waiting many

-- the call that begins by this event, which is one of the run, has not ended, and so many came behind it
pub record IsPending (run : List Event) (window : ℕ) (begun : Event) : Type 0 where
  pub late : ℕ
  pub later : List Event
  pub there : drop late run ≡ begun ∷ later
  pub begins : IsBeginning begun
  pub spared : IsSpared later (lane_of begun)
  pub long : window ≤ length later

-- a call of the run was open for so many events, and has ended
pub record HasEndedLate (run : List Event) (window : ℕ) : Type 0 where
  pub late : ℕ
  pub begun : Event
  pub between : List Event
  pub end : Event
  pub begins : IsBeginning begun
  pub ends : EndsBehind run late begun between end
  pub long : window ≤ length between

-- it is not shown of it that nothing is lost
pub record HasEndedUnshown (limits : Bounds) (run : List Event) (window : ℕ) : Type 0 where
  pub ended : HasEndedLate run window
  pub unshown : ¬ LosesNothing limits ended.begun ended.end (last_of window ended.between)

-- it has ended by the last of so many events
pub record HasEndedBy (run : List Event) (window many : ℕ) : Type 0 where
  pub ended : HasEndedLate run window
  pub place : many ≡ ended.late + length ended.between + 2

-- of one of the calls that began late it is not shown, or the last of them has ended by so many events, if one did
abbrev pub HasEndedSo : Bounds → List Event → ℕ → Option ℕ → Type 0
HasEndedSo limits run window None = HasEndedUnshown limits run window
HasEndedSo limits run window (Some many) = (many ≡ 0) ⊎ HasEndedBy run window many

-- the calls that are aside have not ended, and if any is, so many events wait; and so it is with those that began late
pub record AreLate (limits : Bounds) (run aside waiting : List Event) (window : ℕ) (shown : Option ℕ) : Type 0 where
  pub pending : All (IsPending run window) aside
  pub full : aside ≢ [] → window ≤ length waiting
  pub ended : HasEndedSo limits run window shown

-- a call of this lane began before these events. Its end waits, and fewer events than so many come before that: these,
-- those that are aside, and those that wait before it
pub record EndsNear (reach lane : ℕ) (behind aside waiting : List Event) : Type 0 where
  pub before : List Event
  pub end : Event
  pub after : List Event
  pub waiting_is : waiting ≡ before ++ end ∷ after
  pub ends : IsEndOf lane end
  pub near : length behind + length aside + length before < reach

-- no call is open for so many of the events that a judge was given, and each that is open behind them ends near
pub record AreNear (reach : ℕ) (given aside waiting : List Event) : Type 0 where
  pub none : (k : ℕ) → ¬ IsOpenFor given k reach
  pub each : (k lane : ℕ) (call : Call) (behind : List Event) → drop k given ≡ Begins lane call ∷ behind →
      EndsNever lane behind → EndsNear reach lane behind aside waiting

-- So many events the judge looks at for the end of a call. Up to 64 calls may begin late among those, so 64 fewer
-- wait.
abbrev pub reach_of : ℕ → ℕ
reach_of ahead = (ahead - 64) + 64

-- the delay of a run in form, in front of a judge, where calls may be open for so many events
pub record IsDelayed (limits : Bounds) (most ahead : ℕ) (run : List Event) (delay : Delay) : Type 0 where
  pub whole : AreOfLanes run
  pub limits_are : delay.limits ≡ limits
  pub ahead_is : delay.ahead ≡ ahead - 64
  pub counted : IsCounted delay.waiting
  pub given : List Event
  pub judge_of : IsJudge limits most (reach_of ahead) given delay.judge
  pub keeps : KeepsBase limits given delay.judge
  pub handed : IsHandedOn (ahead - 64) run given delay.aside.items delay.waiting.events.items delay.first_late
      delay.passed
  pub near : AreNear (reach_of ahead) given delay.aside.items delay.waiting.events.items
  pub shown : IsShownIfAny limits run given delay.aside.items delay.waiting.events.items delay.shown
  pub late : AreLate limits run delay.aside.items delay.waiting.events.items (ahead - 64) delay.shown

-- so many events are kept
abbrev pub kept_of : Delay → ℕ
kept_of delay = length delay.waiting.events.items + length delay.aside.items + length delay.judge.course.events.items

-- few events are kept, by a judge that goes on with so many positions
pub record IsSmallDelay (most ahead : ℕ) (delay : Delay) : Type 0 where
  pub limits : Bounds
  pub given : List Event
  pub judge_of : IsJudge limits most (reach_of ahead) given delay.judge
  pub waiting : length delay.waiting.events.items ≤ ahead + 1
  pub aside : length delay.aside.items ≤ 64
