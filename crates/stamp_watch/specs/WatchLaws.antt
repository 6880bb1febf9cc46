-- The laws of runs, over the definitions alone; of any object where they hold of any.
use Rattle.std.specs.Prelude.{ℕ, ◌≡◌, ◌≢◌, ◌≤◌, ◌<◌, ◌+◌, ◌↔◌, ◌++◌, false, List, ◌∷◌, take, slice_get}
use Rattle.std.specs.Prelude.{◌⊎◌, Option, Some, map}
use Rattle.stamp_core.specs.LockEvent.{LockEvent, write_count}
use Rattle.stamp_core.specs.Call.{is_lock_call}
use Rattle.stamp_core.specs.Limits.{Bounds}
use Rattle.stamp_core.specs.declared.call.Call.{Call}
use Rattle.stamp_core.specs.declared.reply.Reply.{Reply}
use Rattle.stamp_explain.specs.Cut.{IsStuck}
use Rattle.stamp_explain.specs.Explained.{IsExplained}
use Rattle.stamp_explain.specs.Observed.{ObservedHistory, IsObserved, IsReturnAt}
use Rattle.stamp_runs.specs.declared.event.Event.{Event}
use Rattle.stamp_runs.specs.declared.event.Event.TheVariants.{Begins, Returns, Withdraws}
use Rattle.stamp_runs.specs.BothRun.{AreExplained, AreStuckAt, Both, State, start}
use Rattle.stamp_runs.specs.Names.{Names, event_by}
use Rattle.stamp_runs.specs.Object.{LockStep, Object, RecordStep}
use Rattle.stamp_runs.specs.Own.{AreInForm, own_events}
use Rattle.stamp_runs.specs.Run.{AreExplainedFrom, AreStuckFrom, Lanes, Sets, Survives, EndsBy, EndsNever}
use Rattle.stamp_runs.specs.Run.{all_idle}
use Rattle.stamp_runs.specs.Run.Phase.{Idle, Asks, Gets}
use Rattle.stamp_runs.specs.Merged.{Ascends, Merges, among_all}
use Rattle.stamp_runs.specs.Pairs.{not_of}
use Rattle.stamp_runs.specs.Position.{Position}
use Rattle.stamp_runs.specs.Trace.{IsTrace, LeadsBy, Move, Taken, order_of}
use Rattle.stamp_watch.specs.Ahead.{IsSpared}
use Rattle.stamp_watch.specs.Form.{is_busy_after}
use Rattle.stamp_watch.specs.declared.late_verdict.LateVerdict.{LateVerdict}
use Rattle.stamp_watch.specs.declared.late_verdict.LateVerdict.TheVariants.{Is, Late}
use Rattle.stamp_watch.specs.declared.moments.Moment.{Moment}
use Rattle.stamp_watch.specs.declared.verdict.Verdict.{Verdict}
use Rattle.stamp_watch.specs.declared.verdict.Verdict.TheVariants.{Explained, Stuck, StuckWithin, Undecided, Broken}
use Rattle.stamp_watch.specs.Late.{IsLateVerdict}
use Rattle.stamp_watch.specs.Verdict.{AreBrokenAt, IsVerdict}
use Rattle.stamp_watch.specs.AsEvents.{AreEventsOf, AreNamesFor, IsReturnOf, cut_to, return_of}
use Rattle.stamp_watch.specs.AsEvents.{state_at_first}
use Rattle.stamp_watch.specs.AsObserved.{observed_of, IsStuckAtPosition, NoneIsWithdrawnLater}
use Rattle.stamp_watch.specs.Corresponding.{Correspond}
use Rattle.stamp_watch.specs.Ordered.{Explains, ExplainsAt}

-- the lane is idle, and nothing is lost if its call begins at once
pub record BeginsAtOnce {S : Type 0} (O : Object S) (lane : ℕ) (call : Call) (events : List Event) (s : S)
    (lanes : Lanes) : Type 0 where
  pub idle : lanes lane ≡ Idle
  pub survives : (after : Lanes) → Sets lanes after lane (Asks call) → Survives O events s after

abbrev pub BeginsFirst : {S : Type 0} → Object S → Type 0
BeginsFirst {S} O =
    (lane : ℕ) (call : Call) (events : List Event) (s : S) (lanes : Lanes) →
    Survives O (Begins lane call ∷ events) s lanes → BeginsAtOnce O lane call events s lanes

-- the call in effect has this reply, and nothing is lost if it returns at once
pub record ReturnsAtOnce {S : Type 0} (O : Object S) (lane : ℕ) (reply gotten : Reply) (events : List Event)
    (s : S) (lanes : Lanes) : Type 0 where
  pub same : gotten ≡ reply
  pub survives : (after : Lanes) → Sets lanes after lane Idle → Survives O events s after

abbrev pub ReturnsFirst : {S : Type 0} → Object S → Type 0
ReturnsFirst {S} O =
    (lane : ℕ) (reply gotten : Reply) (events : List Event) (s : S) (lanes : Lanes) → lanes lane ≡ Gets gotten →
    Survives O (Returns lane reply ∷ events) s lanes → ReturnsAtOnce O lane reply gotten events s lanes

-- the lane's call is not in effect, and nothing is lost if it is withdrawn at once
pub record WithdrawsAtOnce {S : Type 0} (O : Object S) (lane : ℕ) (events : List Event) (s : S)
    (lanes : Lanes) : Type 0 where
  pub call : Call
  pub asks : lanes lane ≡ Asks call
  pub survives : (after : Lanes) → Sets lanes after lane Idle → Survives O events s after

abbrev pub WithdrawsFirst : {S : Type 0} → Object S → Type 0
WithdrawsFirst {S} O =
    (lane : ℕ) (events : List Event) (s : S) (lanes : Lanes) → Survives O (Withdraws lane ∷ events) s lanes →
    WithdrawsAtOnce O lane events s lanes

-- some call takes effect, and the rest survives
pub record TakesEffectNext {S : Type 0} (O : Object S) (events : List Event) (s : S) (lanes : Lanes) : Type 0
  where
    pub lane : ℕ
    pub call : Call
    pub reply : Reply
    pub asks : lanes lane ≡ Asks call
    pub next : S
    pub step : O s call reply next
    pub after : Lanes
    pub sets : Sets lanes after lane (Gets reply)
    pub survives : Survives O events next after

abbrev pub TakesEffectFirst : {S : Type 0} → Object S → Type 0
TakesEffectFirst {S} O =
    (lane : ℕ) (reply : Reply) (call : Call) (events : List Event) (s : S) (lanes : Lanes) →
    lanes lane ≡ Asks call → Survives O (Returns lane reply ∷ events) s lanes →
    TakesEffectNext O (Returns lane reply ∷ events) s lanes

-- A call that is withdrawn takes no effect: where it is in effect no way goes on.
abbrev pub WithdrawnTakesNoEffect : {S : Type 0} → Object S → Type 0
WithdrawnTakesNoEffect {S} O =
    (lane : ℕ) (reply : Reply) (events : List Event) (s : S) (lanes : Lanes) → lanes lane ≡ Gets reply →
    EndsBy lane (Withdraws lane) events → ¬ Survives O events s lanes

-- A call that never ends is not needed where it changed nothing.
abbrev pub UnchangingNeverNeeded : {S : Type 0} → Object S → Type 0
UnchangingNeverNeeded {S} O =
    (lane : ℕ) (call : Call) (reply : Reply) (events : List Event) (s : S) (lanes after : Lanes) →
    lanes lane ≡ Asks call → Sets lanes after lane (Gets reply) → EndsNever lane events →
    Survives O events s after → Survives O events s lanes

-- A way on which a call begins later is one on which it begins sooner: a judge that lets calls begin late explains no
-- more.
abbrev pub BeginsSooner : {S : Type 0} → Object S → Type 0
BeginsSooner {S} O =
    (lane : ℕ) (call : Call) (between rest : List Event) (s : S) (lanes begun : Lanes) →
    Sets lanes begun lane (Asks call) → IsSpared between lane →
    Survives O (between ++ Begins lane call ∷ rest) s lanes → Survives O (between ++ rest) s begun

-- A call may begin later, behind events among which it does not return, if what comes after them goes on only from
-- an older version of the lock than its reply tells: then it takes effect later on each way.
abbrev pub BeginsLate : Type 0
BeginsLate =
    (limits : Bounds) (lane : ℕ) (call : Call) (reply : Reply) (version : ℕ) (between rest : List Event)
    (s : State) (lanes begun : Lanes) → lanes lane ≡ Idle → Sets lanes begun lane (Asks call) →
    EndsBy lane (Returns lane reply) (between ++ rest) → EndsNever lane between →
    ((u v : State) → Both limits u call reply v → version ≤ write_count v.0) →
    ((v : State) (there : Lanes) → Survives (Both limits) rest v there → write_count v.0 < version) →
    Survives (Both limits) (between ++ rest) s begun →
    Survives (Both limits) (between ++ Begins lane call ∷ rest) s lanes

-- What is explained is explained up to each of its events.
abbrev pub ShorterStayExplained : Type 0
ShorterStayExplained =
    (limits : Bounds) (past future : List Event) → AreExplained limits (past ++ future) → AreExplained limits past

-- A call that is withdrawn may be left out: its two events make no difference.
abbrev pub WithdrawnMayBeLeftOut : Type 0
WithdrawnMayBeLeftOut =
    (limits : Bounds) (lane : ℕ) (call : Call) (past between rest : List Event) →
    is_busy_after past lane ≡ false → IsSpared between lane →
    AreExplained limits (past ++ (Begins lane call ∷ between ++ Withdraws lane ∷ rest)) ↔
    AreExplained limits (past ++ (between ++ rest))

-- A run is explained exactly where it is as an observed history.
abbrev pub ExplainedAsObserved : Type 0
ExplainedAsObserved =
    (limits : Bounds) (events : List Event) → AreInForm events →
    AreExplained limits events ↔ IsExplained (observed_of limits events)

-- And the order of effects on a way along its events is one of that history.
abbrev pub OrderExplains : Type 0
OrderExplains =
    (limits : Bounds) (events : List Event) (order : List Taken) (s : State) (lanes : Lanes) →
    LeadsBy (Both limits) 0 order events start all_idle s lanes → Explains (observed_of limits events) order

-- So the orders that are read back from a trace of the lock and one of its record, merged by their points, explain it.
abbrev pub TracesExplain : Type 0
TracesExplain =
    (limits : Bounds) (events : List Event) → AreInForm events → (moves others : List Move) (order : List Taken)
    (p : Position (List LockEvent)) (q : Position (List ℕ)) →
    IsTrace (LockStep limits) start.0 (own_events is_lock_call events) moves p →
    IsTrace RecordStep start.1 (own_events (not_of is_lock_call) events) others q →
    Merges (among_all is_lock_call events (order_of moves)) (among_all (not_of is_lock_call) events (order_of others))
    order → Ascends 0 order → Explains (observed_of limits events) order

-- And it is stuck at an event exactly where that history is stuck there, if none of the calls that are open then is
-- withdrawn later: the history does not tell of those.
abbrev pub StuckAsObserved : Type 0
StuckAsObserved =
    (limits : Bounds) (events : List Event) (k : ℕ) → AreInForm events → NoneIsWithdrawnLater k events →
    AreStuckAt limits events k ↔ IsStuckAtPosition (observed_of limits events) k

-- Up to an event that is no withdrawal all calls are told of: there a run is stuck exactly where what was seen by then
-- is, whatever comes later.
abbrev pub StuckAsSeen : Type 0
StuckAsSeen =
    (limits : Bounds) (events : List Event) (k : ℕ) → AreInForm events →
    ((lane : ℕ) → slice_get events k ≢ Some (Withdraws lane)) →
    AreStuckAt limits events k ↔ IsStuckAtPosition (observed_of limits (take (k + 1) events)) k

-- What matters of positions is only which calls had returned before which began.
abbrev pub PositionsTellOrder : Type 0
PositionsTellOrder = (g h : ObservedHistory) → Correspond g h → IsExplained g ↔ IsExplained h

-- An observed history that may be told is explained exactly where the run of its events is.
abbrev pub ExplainedAsEvents : Type 0
ExplainedAsEvents =
    (h : ObservedHistory) (moments : List Moment) (events : List Event) → IsObserved h → AreEventsOf h moments events →
    IsExplained h ↔ AreExplainedFrom (Both h.limits) (state_at_first h) events

-- And it is stuck at an entry exactly where that run is stuck at the entry's return.
abbrev pub StuckAsEvents : Type 0
StuckAsEvents =
    (h : ObservedHistory) (moments : List Moment) (events : List Event) (i k : ℕ) (at : IsReturnAt h.entries i) →
    IsObserved h → AreEventsOf h moments events → slice_get moments k ≡ Some (return_of i at.return) →
    IsStuck h i ↔ AreStuckFrom (Both h.limits) (state_at_first h) events k

-- Such a run is stuck at returns alone.
abbrev pub StuckAtReturns : Type 0
StuckAtReturns =
    (h : ObservedHistory) (moments : List Moment) (events : List Event) (k : ℕ) → IsObserved h →
    AreEventsOf h moments events → AreStuckFrom (Both h.limits) (state_at_first h) events k →
    IsReturnOf h.entries (slice_get moments k)

-- Up to each of its moments it is explained exactly where the run is up to there.
abbrev pub CutAsEvents : Type 0
CutAsEvents =
    (h : ObservedHistory) (moments : List Moment) (events : List Event) (k : ℕ) (m : Moment) → IsObserved h →
    AreEventsOf h moments events → slice_get moments k ≡ Some m →
    IsExplained (cut_to m h) ↔ AreExplainedFrom (Both h.limits) (state_at_first h) (take k events)

-- Its contents may be told by numbers.
abbrev pub ExplainedByNumbers : Type 0
ExplainedByNumbers =
    (h : ObservedHistory) (moments : List Moment) (events : List Event) (name : Names) → IsObserved h →
    AreEventsOf h moments events → AreNamesFor h name →
    IsExplained h ↔ AreExplained h.limits (map (event_by name) events)

abbrev pub StuckByNumbers : Type 0
StuckByNumbers =
    (h : ObservedHistory) (moments : List Moment) (events : List Event) (name : Names) (i k : ℕ)
    (at : IsReturnAt h.entries i) → IsObserved h → AreEventsOf h moments events → AreNamesFor h name →
    slice_get moments k ≡ Some (return_of i at.return) →
    IsStuck h i ↔ AreStuckAt h.limits (map (event_by name) events) k

-- And the order of effects on a way along them is one of the history; so it is up to each of its moments.
abbrev pub OrderOfHistory : Type 0
OrderOfHistory =
    (h : ObservedHistory) (moments : List Moment) (events : List Event) (name : Names) (order : List Taken)
    (s : State) (lanes : Lanes) → IsObserved h → AreEventsOf h moments events → AreNamesFor h name →
    LeadsBy (Both h.limits) 0 order (map (event_by name) events) start all_idle s lanes → ExplainsAt h moments order

abbrev pub OrderUpTo : Type 0
OrderUpTo =
    (h : ObservedHistory) (moments : List Moment) (events : List Event) (name : Names) (k : ℕ) (m : Moment)
    (order : List Taken) (s : State) (lanes : Lanes) → IsObserved h → AreEventsOf h moments events →
    AreNamesFor h name → slice_get moments k ≡ Some m →
    LeadsBy (Both h.limits) 0 order (take k (map (event_by name) events)) start all_idle s lanes →
    ExplainsAt (cut_to m h) moments order

-- the verdict gives up at an event before this one
abbrev pub GivesUpBefore : Verdict → ℕ → Type 0
GivesUpBefore Explained k = ⊥
GivesUpBefore (Stuck j) k = ⊥
GivesUpBefore (StuckWithin j m) k = ⊥
GivesUpBefore (Undecided j why) k = j < k
GivesUpBefore (Broken j) k = ⊥

-- Where a run is explained before an event, and the event may not come there, it is told as broken at the event; or it
-- was given up at an event before.
abbrev pub BrokenIsTold : Type 0
BrokenIsTold =
    (limits : Bounds) (run : List Event) (most k : ℕ) (ahead : Option ℕ) (verdict : Verdict) → AreBrokenAt run k →
    AreExplained limits (take k run) → IsVerdict limits run most ahead verdict →
    (verdict ≡ Broken k) ⊎ GivesUpBefore verdict k

-- so it is where calls are open for long
abbrev pub IsLateBefore : LateVerdict → ℕ → Type 0
IsLateBefore (Is verdict) k = GivesUpBefore verdict k
IsLateBefore (Late j) k = j < k

-- Calls that are open for long change nothing in that: of the event itself no more is told than that it may not come.
abbrev pub BrokenIsToldLate : Type 0
BrokenIsToldLate =
    (limits : Bounds) (run : List Event) (most ahead k : ℕ) (finding : LateVerdict) → AreBrokenAt run k →
    AreExplained limits (take k run) → IsLateVerdict limits run most ahead finding →
    (finding ≡ Is (Broken k)) ⊎ IsLateBefore finding k
