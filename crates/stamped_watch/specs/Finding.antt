-- What is found of a stream.
use Rattle.std.specs.Prelude.{ℕ, ◌≡◌, ◌≢◌, ◌+◌, ◌-◌, ◌*◌, ◌^◌, ◌<◌, ◌≤◌, ◌⊎◌, ◌++◌, Bool, true, false, List, []}
use Rattle.std.specs.Prelude.{length, take}
use Rattle.std.specs.Prelude.{Option, Some, None}
use Rattle.std.specs.List.{All, count_by}
use Rattle.stamp_runs.specs.declared.event.Event.{Event}
use Rattle.stamp_runs.specs.declared.event.Event.TheVariants.{Begins, Withdraws}
use Rattle.stamp_runs.specs.BothRun.{AreExplainedAt, AreStuckIn}
use Rattle.stamp_runs.specs.Run.{lane_of}
use Rattle.stamp_watch.specs.declared.late_verdict.LateVerdict.{LateVerdict}
use Rattle.stamp_watch.specs.declared.late_verdict.LateVerdict.TheVariants.{Is, Late}
use Rattle.stamp_watch.specs.declared.verdict.Verdict.{Verdict}
use Rattle.stamp_watch.specs.declared.verdict.Verdict.TheVariants.{Stuck, StuckWithin, Undecided}
use Rattle.stamp_watch.specs.declared.verdict.Verdict.TheVariants as verdict
use Rattle.stamp_watch.specs.Form.{is_busy_after}
use Rattle.stamp_watch.specs.Late.{IsLateFound, IsLateVerdict}
use Rattle.stamp_watch.specs.SoFar.{IsExplainedUpTo}
use Rattle.stamp_watch.specs.Verdict.{AreOfLanes}
use Rattle.stamped_watch.specs.declared.event_bytes.BadEvent.{BadEvent}
use Rattle.stamped_watch.specs.declared.finding.Finding.{Finding}
use Rattle.stamped_watch.specs.declared.finding.Finding.TheVariants as found
use Rattle.stamped_watch.specs.declared.header.Header.{Header}
use Rattle.stamped_watch.specs.declared.misplaced.Misplaced.{Misplaced}
use Rattle.stamped_watch.specs.declared.misplaced.Misplaced.TheVariants.{Lane, Open, Idle}
use Rattle.stamped_watch.specs.EventBytes.{HasBytes, IsNoEvent, size_of}
use Rattle.stamped_watch.specs.Header.{IsNoHeader, IsShortHeader}
use Rattle.stamped_watch.specs.Stream.{BeginsNoEvent, IsPartOfEvent, IsRunIn, IsStream, words_of_record}

abbrev pub is_beginning : Event → Bool
is_beginning (Begins lane call) = true
is_beginning _ = false

abbrev pub is_withdrawal : Event → Bool
is_withdrawal (Withdraws lane) = true
is_withdrawal _ = false

-- how many calls began and were not withdrawn
abbrev pub calls_in : List Event → ℕ
calls_in events = count_by is_beginning events - count_by is_withdrawal events

-- the events end here, since no other begins the rest, and this is the verdict on the run that ends with them
pub record IsJudgedAtEnd (header : Header) (run : List Event) (most ahead : ℕ) (rest : List ℕ) (verdict : LateVerdict) :
    Type 0
  where
    pub ends : BeginsNoEvent header.width rest
    pub verdict_is : IsLateVerdict header.limits run most ahead verdict

-- this is the verdict on the first events, whatever comes behind them, or on all events
pub record IsJudged (most ahead : ℕ) (bytes : List ℕ) (verdict : LateVerdict) : Type 0 where
  pub header : Header
  pub run : List Event
  pub rest : List ℕ
  pub stream : IsRunIn bytes header run rest
  pub judged : IsLateFound header.limits run most ahead verdict ⊎ IsJudgedAtEnd header run most ahead rest verdict

-- the events are explained until the one with this number, and no longer
pub record AreStuckThere (bytes : List ℕ) (k : ℕ) : Type 0 where
  pub header : Header
  pub events : List Event
  pub rest : List ℕ
  pub stream : IsStream bytes header events rest
  pub stuck : AreStuckIn header.limits (words_of_record header.width) events k

-- the first events are explained, and these bytes come behind
pub record AreExplainedBefore (bytes : List ℕ) (header : Header) (events : List Event) (rest : List ℕ) : Type 0 where
  pub stream : IsStream bytes header events rest
  pub lanes : All (λ (e : Event). lane_of e < 64) events
  pub explained : AreExplainedAt header.limits (words_of_record header.width) events

-- all bytes are a header and events that are explained, with so many calls
pub record IsExplained (bytes : List ℕ) (calls : ℕ) : Type 0 where
  pub header : Header
  pub events : List Event
  pub all : AreExplainedBefore bytes header events []
  pub count : calls ≡ calls_in events

-- so many events are explained, and what comes behind them is bad
pub record IsBadAt (bytes : List ℕ) (k : ℕ) (IsBad : Option ℕ → List Event → List ℕ → Type 0) : Type 0 where
  pub header : Header
  pub events : List Event
  pub rest : List ℕ
  pub before : AreExplainedBefore bytes header events rest
  pub place : k ≡ length events
  pub bad : IsBad header.width events rest

-- behind this run the event may not come: its lane is none of 64; it begins a call where one is open; it ends one
-- where none is
abbrev pub IsMisplaced : List Event → Event → Misplaced → Type 0
IsMisplaced run e Lane = 64 ≤ lane_of e
IsMisplaced run e Open = (lane_of e < 64) × (is_beginning e ≡ true) × (is_busy_after run (lane_of e) ≡ true)
IsMisplaced run e Idle = (lane_of e < 64) × (is_beginning e ≡ false) × (is_busy_after run (lane_of e) ≡ false)

-- the cause for which the event may not come, where it may not
abbrev pub IsMisplacedSo : Event → Misplaced → Type 0
IsMisplacedSo e Lane = 64 ≤ lane_of e
IsMisplacedSo e Open = (lane_of e ≤ 63) × (is_beginning e ≡ true)
IsMisplacedSo e Idle = (lane_of e ≤ 63) × (is_beginning e ≡ false)

-- the next bytes are those of an event that may not come there, or of none; or fewer come
pub record BringsMisplaced (why : Misplaced) (width : Option ℕ) (run : List Event) (rest : List ℕ) : Type 0 where
  pub event : Event
  pub has : HasBytes width event (take (size_of event) rest)
  pub misplaced : IsMisplaced run event why

abbrev pub BringsNoEvent : BadEvent → Option ℕ → List Event → List ℕ → Type 0
BringsNoEvent why width run rest = (16 ≤ length rest) × IsNoEvent width why (take 16 rest)

abbrev pub IsCut : Option ℕ → List Event → List ℕ → Type 0
IsCut width run rest = (rest ≢ []) × IsPartOfEvent width rest

-- there are more events than can be numbered
pub record AreTooMany (bytes : List ℕ) : Type 0 where
  pub header : Header
  pub events : List Event
  pub rest : List ℕ
  pub stream : IsStream bytes header events rest
  pub many : 2 ^ 64 ≤ length events

-- what is found of a stream of these bytes
abbrev pub IsFindingOf : ℕ → ℕ → List ℕ → Finding → Type 0
IsFindingOf most ahead bytes (found.Explained calls) = IsExplained bytes calls
IsFindingOf most ahead bytes (found.Stuck k) = IsJudged most ahead bytes (Is (Stuck k)) × AreStuckThere bytes k
IsFindingOf most ahead bytes (found.StuckWithin k m) = IsJudged most ahead bytes (Is (StuckWithin k m))
IsFindingOf most ahead bytes (found.Undecided k why) = IsJudged most ahead bytes (Is (Undecided k why))
IsFindingOf most ahead bytes (found.Late k) = IsJudged most ahead bytes (Late k)
IsFindingOf most ahead bytes (found.Misplaced k why) = IsBadAt bytes k (BringsMisplaced why)
IsFindingOf most ahead bytes (found.BadEvent k why) = IsBadAt bytes k (BringsNoEvent why)
IsFindingOf most ahead bytes (found.Cut k) = IsBadAt bytes k IsCut
IsFindingOf most ahead bytes (found.BadHeader why) = IsNoHeader why bytes
IsFindingOf most ahead bytes found.NoHeader = IsShortHeader bytes
IsFindingOf most ahead bytes found.Full = AreTooMany bytes

-- this is found of a stream that begins with these bytes, whatever comes later
abbrev pub IsFoundOf : ℕ → ℕ → List ℕ → Finding → Type 0
IsFoundOf most ahead bytes finding = (more : List ℕ) → IsFindingOf most ahead (bytes ++ more) finding

-- as far as it came the stream is a header and events in form, and a part of one; all but the last events are
-- explained: no more than twice those that are looked at, and 64
pub record IsInForm (ahead : ℕ) (bytes : List ℕ) : Type 0 where
  pub header : Header
  pub run : List Event
  pub rest : List ℕ
  pub stream : IsRunIn bytes header run rest
  pub whole : AreOfLanes run
  pub short : IsPartOfEvent header.width rest
  pub place : ℕ
  pub explained : IsExplainedUpTo header.limits run (2 * ahead + 64) place

-- what is found once these bytes came; or the stream is in form so far, and all but its last events are explained
abbrev pub IsSoFar : ℕ → ℕ → List ℕ → Option Finding → Type 0
IsSoFar most ahead bytes (Some finding) = IsFoundOf most ahead bytes finding
IsSoFar most ahead bytes None = IsShortHeader bytes ⊎ IsInForm ahead bytes

-- the verdict says that events in form are not all explained
abbrev pub IsOfForm : Verdict → Type 0
IsOfForm verdict.Explained = ⊥
IsOfForm (verdict.Broken k) = ⊥
IsOfForm _ = Unit {0}

abbrev pub IsLateOfForm : LateVerdict → Type 0
IsLateOfForm (Is verdict) = IsOfForm verdict
IsLateOfForm (Late k) = Unit {0}

-- the verdict that is found
abbrev pub verdict_of : Finding → Option LateVerdict
verdict_of (found.Stuck k) = Some (Is (verdict.Stuck k))
verdict_of (found.StuckWithin k m) = Some (Is (verdict.StuckWithin k m))
verdict_of (found.Undecided k why) = Some (Is (verdict.Undecided k why))
verdict_of (found.Late k) = Some (Late k)
verdict_of _ = None
