-- Runs with calls that are open for long, and what is found of them.
use Rattle.std.specs.Prelude.{ℕ, ◌≡◌, ◌≢◌, ◌⊎◌, ◌+◌, ◌-◌, ◌<◌, ◌≤◌, ◌++◌, List, ◌∷◌, take, drop, length, None}
use Rattle.stamp_core.specs.Limits.{Bounds}
use Rattle.stamp_core.specs.declared.call.Call.{Call}
use Rattle.stamp_runs.specs.declared.event.Event.{Event}
use Rattle.stamp_runs.specs.declared.event.Event.TheVariants.{Begins}
use Rattle.stamp_runs.specs.Run.{lane_of}
use Rattle.stamp_runs.specs.BothRun.{AreExplained}
use Rattle.stamp_watch.specs.declared.late_verdict.LateVerdict.{LateVerdict}
use Rattle.stamp_watch.specs.declared.late_verdict.LateVerdict.TheVariants.{Is, Late}
use Rattle.stamp_watch.specs.declared.verdict.Verdict.{Verdict}
use Rattle.stamp_watch.specs.declared.verdict.Verdict.TheVariants.{Explained, Stuck, StuckWithin, Undecided, Broken}
use Rattle.stamp_watch.specs.Ahead.{IsSpared}
use Rattle.stamp_runs.specs.Own.{AreInForm}
use Rattle.stamp_watch.specs.Issued.{LosesNothing}
use Rattle.stamp_watch.specs.Verdict.{IsInFormUpTo, IsOpenFor, IsVerdict}
use Rattle.stamp_watch.specs.Waiting.{count_of}

-- one call begins one event later; that is of another lane
pub record BeginsOneLater (old new : List Event) : Type 0 where
  pub past : List Event
  pub lane : ℕ
  pub call : Call
  pub next : Event
  pub rest : List Event
  pub apart : lane_of next ≢ lane
  pub old_is : old ≡ past ++ Begins lane call ∷ next ∷ rest
  pub new_is : new ≡ past ++ next ∷ Begins lane call ∷ rest

-- the same run, but calls begin later
pub data BeginsLater (run : List Event) : List Event → Type 0 where
  as_it_is : BeginsLater run run
  then_later : {old new : List Event} → BeginsLater run old → BeginsOneLater old new → BeginsLater run new

-- the call that begins in this lane behind so many events of the lane is open for so many events of the run
pub record IsLongCall (run : List Event) (window lane count : ℕ) : Type 0 where
  pub late : ℕ
  pub open_for : IsOpenFor run late window
  pub lane_is : open_for.lane ≡ lane
  pub count_is : count_of lane (take late run) ≡ count

-- the same events, but calls begin later that are open for so many events of the run
pub data LongCallsBeginLater (run : List Event) (window : ℕ) (events : List Event) : List Event → Type 0 where
  as_they_are : LongCallsBeginLater run window events events
  one_later : {old new : List Event} → LongCallsBeginLater run window events old → (one : BeginsOneLater old new) →
      IsLongCall run window one.lane (count_of one.lane one.past) → LongCallsBeginLater run window events new

-- So what is explained then is explained as it stands, up to each of its events: a judge that lets calls begin later
-- explains no more.
abbrev pub LaterExplainsNoMore : Type 0
LaterExplainsNoMore =
    (limits : Bounds) (run handed : List Event) (k : ℕ) → AreInForm run → BeginsLater run handed →
    AreExplained limits (take k handed) → AreExplained limits (take k run)

-- the verdict tells that the run is explained before this event
abbrev pub TellsOf : Verdict → ℕ → Type 0
TellsOf Explained k = ⊥
TellsOf (Stuck j) k = j ≡ k
TellsOf (StuckWithin j m) k = j ≡ k
TellsOf (Undecided j why) k = j ≡ k
TellsOf (Broken j) k = j ≡ k

-- the verdict rests on what comes from this event on; that a run is broken does not rest on when calls begin
abbrev pub RestsOn : Verdict → ℕ → Type 0
RestsOn Explained n = ⊥
RestsOn (Stuck k) n = n ≤ k
RestsOn (StuckWithin k m) n = n < m
RestsOn (Undecided k why) n = Unit {0}
RestsOn (Broken k) n = ⊥

-- the verdict says that it was given up
abbrev pub HasGivenUp : Verdict → Type 0
HasGivenUp Explained = ⊥
HasGivenUp (Stuck k) = ⊥
HasGivenUp (StuckWithin k m) = Unit {0}
HasGivenUp (Undecided k why) = Unit {0}
HasGivenUp (Broken k) = ⊥

-- the call that begins at this event is open for all of these that come then, and ends at the one behind them
pub record EndsBehind (run : List Event) (late : ℕ) (begun : Event) (between : List Event) (end : Event) : Type 0 where
  pub rest : List Event
  pub there : drop late run ≡ begun ∷ (between ++ end ∷ rest)
  pub spared : IsSpared between (lane_of begun)
  pub same : lane_of end ≡ lane_of begun

-- the last of these events, so many
abbrev pub last_of : ℕ → List Event → List Event
last_of n events = drop (length events - n) events

-- The call that begins at this event is open for so many events. It ends at no event before a place, or that many
-- events before its end don't show that nothing is lost if it begins late.
pub record IsUnshown (limits : Bounds) (run : List Event) (late window place : ℕ) : Type 0 where
  pub open_for : IsOpenFor run late window
  pub unshown : (begun : Event) (between : List Event) (end : Event) → EndsBehind run late begun between end →
      late + 1 + length between < place → ¬ LosesNothing limits begun end (last_of window between)

-- there is such a call
pub record OneIsUnshown (limits : Bounds) (run : List Event) (window place : ℕ) : Type 0 where
  pub late : ℕ
  pub is : IsUnshown limits run late window place

-- Of a run in form: the event is there, and the run is explained before it. A call is open for all but 64 of the events
-- that are looked at. The run, with such calls begun later, has a verdict that rests on that call and tells of the
-- event. It was given up; or up to the event it is not shown of such a call that nothing is lost.
pub record IsLateInForm (limits : Bounds) (run : List Event) (most ahead k : ℕ) : Type 0 where
  pub there : k < length run
  pub explained : AreExplained limits (take k run)
  pub late : ℕ
  pub open_for : IsOpenFor run late (ahead - 64)
  pub handed : List Event
  pub later : LongCallsBeginLater run (ahead - 64) run handed
  pub verdict : Verdict
  pub has : IsVerdict limits handed most None verdict
  pub tells : TellsOf verdict k
  pub rests : RestsOn verdict late
  pub why : HasGivenUp verdict ⊎ OneIsUnshown limits run (ahead - 64) (k + 1)

-- So it is of the run up to a place, which is its end or where the next event may not come: of that event nothing is
-- told but that the run is broken there, and what comes behind it counts for nothing.
pub record IsLate (limits : Bounds) (run : List Event) (most ahead k : ℕ) : Type 0 where
  pub place : ℕ
  pub up_to : IsInFormUpTo run place
  pub is : IsLateInForm limits (take place run) most ahead k

-- what a finding means; none is that a call is open for too long
abbrev pub IsLateVerdict : Bounds → List Event → ℕ → ℕ → LateVerdict → Type 0
IsLateVerdict limits run most ahead (Is verdict) = IsVerdict limits run most None verdict
IsLateVerdict limits run most ahead (Late k) = IsLate limits run most ahead k

-- it means this, whatever comes later
abbrev pub IsLateFound : Bounds → List Event → ℕ → ℕ → LateVerdict → Type 0
IsLateFound limits run most ahead finding = (more : List Event) → IsLateVerdict limits (run ++ more) most ahead finding
