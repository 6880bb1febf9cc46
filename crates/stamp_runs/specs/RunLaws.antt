-- The laws of runs, of the sets of configurations that a judge keeps, and of positions; of any object.
use Rattle.std.specs.Prelude.{ℕ, ◌≡◌, ◌≢◌, ◌↔◌, ◌++◌, Bool, true, false, List, [], ◌∷◌, None, length, map}
use Rattle.std.specs.List.{All, Contains}
use Rattle.stamp_core.specs.Limits.{Bounds}
use Rattle.stamp_core.specs.declared.call.Call.{Call}
use Rattle.stamp_core.specs.declared.call.Call.TheVariants.{Get, Put, PutIf}
use Rattle.stamp_core.specs.declared.reply.Reply.{Reply}
use Rattle.stamp_core.specs.declared.reply.Reply.TheVariants.{Done, No}
use Rattle.stamp_runs.specs.declared.event.Event.{Event}
use Rattle.stamp_runs.specs.declared.event.Event.TheVariants.{Begins, Returns, Withdraws}
use Rattle.stamp_runs.specs.LockRun.{DoSame}
use Rattle.stamp_runs.specs.BothRun.{Both}
use Rattle.stamp_runs.specs.Merged.{Ascends, Merges, among_all}
use Rattle.stamp_runs.specs.Names.{AreDifferent, EachOfEvent, Names, event_by}
use Rattle.stamp_runs.specs.Object.{LockStep, Object, RecordStep}
use Rattle.stamp_runs.specs.Own.{AreInForm, open_after, own_events, own_from}
use Rattle.stamp_runs.specs.Pairs.{Of, Pair, not_of}
use Rattle.stamp_runs.specs.Renaming.{EachPossible, GoesBy, HasOneName, IsOvertaken}
use Rattle.stamp_runs.specs.Run.{AreAlike, AreExplainedFrom, AreStuckFrom, DoesAs, EndsBy, EndsNever, GoesFirst, Lanes}
use Rattle.stamp_runs.specs.Run.{Leads, ReturnsSooner, Sets, Survives, all_idle}
use Rattle.stamp_runs.specs.Run.Phase.{Asks, Gets}
use Rattle.stamp_runs.specs.Watching.{Fits, GoesOn, IsToldFirst, MayGet, StandFor, Told}
use Rattle.stamp_runs.specs.Position.{AfterHidden, AreShown, AskAgain, FreesNoLess, Hidden, IsReader, OfSome}
use Rattle.stamp_runs.specs.Position.{Covers, Overwrites, OverwritesNever, Position, SameFree, Shows, StandsFor}
use Rattle.stamp_runs.specs.Position.{opening_position}
use Rattle.stamp_runs.specs.Returning.{IsKeptAs, IsReached, IsReturn, OneOf, ReturnsBy, told_return}
use Rattle.stamp_runs.specs.Stepping.{IsBegun, IsWithdrawn}
use Rattle.stamp_runs.specs.Trace.Move.{Frees}
use Rattle.stamp_runs.specs.Trace.{IsTrace, IsTraced, LeadsBy, Move, Taken, hidden_calls, order_from, order_of}

-- Where an overwriting call takes effect all that the new position stands for is possible, whichever calls are free:
-- they took effect hidden, just before it.
abbrev pub OverwritingIsPossible : {S : Type 0} → Object S → Type 0
OverwritingIsPossible {S} O =
    (start : S) (past : List Event) (old new : Position S) (lane : ℕ) (call : Call) (reply : Reply) →
    old.lanes lane ≡ Asks call → Overwrites O call reply new.state →
    Sets old.lanes new.lanes lane (Gets reply) → new.free lane ≡ false →
    Leads O past start all_idle old.state old.lanes →
    (s : S) (lanes : Lanes) → StandsFor O new s lanes → Leads O past start all_idle s lanes

-- And nothing is lost: where it takes effect in a configuration that the old position stands for, the new one stands
-- for what it leaves.
abbrev pub OverwritingLosesNothing : {S : Type 0} → Object S → Type 0
OverwritingLosesNothing {S} O =
    (old new : Position S) (lane : ℕ) (call : Call) (reply other : Reply) (s next : S) (lanes after : Lanes) →
    Overwrites O call reply new.state → Sets old.lanes new.lanes lane (Gets reply) →
    FreesNoLess old.free new.free lane → StandsFor O old s lanes → lanes lane ≡ Asks call →
    O s call other next → Sets lanes after lane (Gets other) → StandsFor O new next after

-- What becomes of a lane whose call isn't free, and of the state, becomes of it in all that the position stands for: a
-- call begins there, or takes effect, or returns. Read from the new to the old one: all come from what it stood for.
abbrev pub OthersStay : {S : Type 0} → Object S → Type 0
OthersStay {S} O =
    (old new : Position S) (lane : ℕ) (s : S) (lanes after : Lanes) →
    old.free lane ≡ false → SameFree old.free new.free lane →
    Sets old.lanes new.lanes lane (after lane) → Sets lanes after lane (after lane) →
    StandsFor O old s lanes → StandsFor O new new.state after

-- Where a free call is not in effect it may be taken out of the free ones.
abbrev pub FreeOrAsks : {S : Type 0} → Object S → Type 0
FreeOrAsks {S} O =
    (old new : Position S) (lane : ℕ) (call : Call) (s : S) (lanes : Lanes) →
    old.state ≡ new.state → old.lanes ≡ new.lanes → SameFree old.free new.free lane →
    StandsFor O old s lanes → lanes lane ≡ Asks call → StandsFor O new s lanes

-- What comes of a position by calls that are hidden, as those that the new one frees were, it stood for before.
abbrev pub HiddenIsPossible : {S : Type 0} → Object S → Type 0
HiddenIsPossible {S} O =
    (old new : Position S) (s : S) (lanes : Lanes) → old.state ≡ new.state →
    Hidden O old.free None old.lanes new.lanes →
    ((lane : ℕ) → new.free lane ≡ true → old.free lane ≡ true) →
    StandsFor O new s lanes → StandsFor O old s lanes

-- each free call overwrites
pub record FreeOverwrites {S : Type 0} (O : Object S) (p : Position S) (lane : ℕ) : Type 0 where
  pub call : Call
  pub reply : Reply
  pub leaves : S
  pub asks : p.lanes lane ≡ Asks call
  pub overwrites : Overwrites O call reply leaves

-- and where just such calls are free, nothing is lost but where it is not in effect.
abbrev pub HiddenLosesNothing : {S : Type 0} → Object S → Type 0
HiddenLosesNothing {S} O =
    (old new : Position S) (lane : ℕ) (reply : Reply) (s : S) (lanes : Lanes) →
    ((other : ℕ) → old.free other ≡ true → FreeOverwrites O old other) →
    old.state ≡ new.state → old.free lane ≡ true → Sets old.lanes new.lanes lane (Gets reply) →
    SameFree old.free new.free lane → StandsFor O old s lanes → lanes lane ≡ Gets reply →
    StandsFor O new s lanes

-- Where calls are free that overwrite and calls that read, the one of a lane is hidden with all that read what it
-- left: what the old position stands for is shown by the new one, but that those are in effect.
abbrev pub HiddenWithReaders : {S : Type 0} → Object S → Type 0
HiddenWithReaders {S} O =
    (ahead : ℕ → Told) (old new : Position S) (lane : ℕ) (reply : Reply) (t : S) (readers : ℕ → Bool)
    (told : ℕ → Reply) (s : S) (lanes shown : Lanes) →
    AfterHidden O ahead old new lane reply t readers told →
    ((v : ℕ) (r : Reply) → lanes v ≡ Gets r → MayGet (ahead v) r) →
    StandsFor O old s lanes → lanes lane ≡ Gets reply → Shows lane reply readers told lanes shown →
    StandsFor O new s shown

-- A run of two objects is explained exactly where it is as a run of each.
abbrev pub ExplainedApart : {S T : Type 0} → (Call → Bool) → Object S → Object T → Type 0
ExplainedApart {S} {T} mine O P =
    (start : S) (other : T) (events : List Event) → AreExplainedFrom (Pair mine O P) (start, other) events ↔
    AreExplainedFrom (Of mine O) start events × AreExplainedFrom (Of (not_of mine) P) other events

-- A run of one object among others' calls, in form, is explained exactly where it is as a run of its own calls.
abbrev pub OwnEventsTell : {S : Type 0} → Object S → Type 0
OwnEventsTell {S} O =
    (mine : Call → Bool) (start : S) (events : List Event) → AreInForm events →
    AreExplainedFrom (Of mine O) start events ↔ AreExplainedFrom O start (own_events mine events)

-- So a run of two objects, in form, is explained exactly where each one's own events are.
abbrev pub ExplainedByOwn : {S T : Type 0} → (Call → Bool) → Object S → Object T → Type 0
ExplainedByOwn {S} {T} mine O P =
    (start : S) (other : T) (events : List Event) → AreInForm events →
    AreExplainedFrom (Pair mine O P) (start, other) events ↔ AreExplainedFrom O start (own_events mine events) ×
    AreExplainedFrom P other (own_events (not_of mine) events)

-- Names of contents don't matter: a run of lock and record is explained exactly where it is by other names, if
-- different contents have different ones.
abbrev pub NamesDontMatter : Type 0
NamesDontMatter =
    (limits : Bounds) (name : Names) (content : List ℕ) (events : List Event) → AreDifferent name →
    AreExplainedFrom (Both limits) ([], content) events ↔
    AreExplainedFrom (Both limits) ([], name content) (map (event_by name) events)

-- So a run is stuck exactly where it is by other names.
abbrev pub StuckByAnyNames : Type 0
StuckByAnyNames =
    (limits : Bounds) (name : Names) (content : List ℕ) (events : List Event) (k : ℕ) → AreDifferent name →
    AreStuckFrom (Both limits) ([], content) events k ↔
    AreStuckFrom (Both limits) ([], name content) (map (event_by name) events) k

-- So it is where the names change along the run: it is explained exactly where it is by the names of each moment, and
-- stuck where it is by them.
abbrev pub NamesMayChange : Type 0
NamesMayChange =
    (limits : Bounds) (content first : List ℕ) (name : Names) (events small : List Event) →
    GoesBy limits content first name events small →
    AreExplainedFrom (Both limits) ([], content) events ↔ AreExplainedFrom (Both limits) ([], first) small

abbrev pub StuckByChangingNames : Type 0
StuckByChangingNames =
    (limits : Bounds) (content first : List ℕ) (name : Names) (events small : List Event) (k : ℕ) →
    GoesBy limits content first name events small →
    AreStuckFrom (Both limits) ([], content) events k ↔ AreStuckFrom (Both limits) ([], first) small k

-- All contents that may be held are that at first and those that the events tell.
abbrev pub HeldAreTold : Type 0
HeldAreTold =
    (limits : Bounds) (content : List ℕ) (events : List Event) (name other : Names) → HasOneName name other content →
    All (EachOfEvent (HasOneName name other)) events → EachPossible (HasOneName name other) limits content events

-- Where a past is overtaken, all that may be held are those that were told since.
abbrev pub OvertakenAreForgotten : Type 0
OvertakenAreForgotten =
    (limits : Bounds) (content : List ℕ) (past since : List Event) (name other : Names) → IsOvertaken past since →
    All (EachOfEvent (HasOneName name other)) since →
    EachPossible (HasOneName name other) limits content (past ++ since)

-- It stays overtaken as more events come.
abbrev pub OvertakenStays : Type 0
OvertakenStays = (past since more : List Event) → IsOvertaken past since → IsOvertaken past (since ++ more)

-- A run that is explained is in form.
abbrev pub ExplainedInForm : {S : Type 0} → Object S → Type 0
ExplainedInForm {S} O = (start : S) (events : List Event) → AreExplainedFrom O start events → AreInForm events

-- The own events of a run that goes on are those so far, and those that are own by the calls that are open then.
abbrev pub OwnEventsGoOn : Type 0
OwnEventsGoOn =
    (mine : Call → Bool) (past future : List Event) →
    own_events mine (past ++ future) ≡ own_events mine past ++ own_from mine (open_after past) future

-- Where the return that is told of a call has a reply by which it changes nothing in any state, nothing is lost if it
-- is in effect.
abbrev pub AtOnceLosesNothing : {S : Type 0} → Object S → Type 0
AtOnceLosesNothing {S} O =
    (lane : ℕ) (call : Call) (reply : Reply) (events : List Event) (s : S) (lanes after : Lanes) →
    ((u v : S) → O u call reply v → v ≡ u) → lanes lane ≡ Asks call → Sets lanes after lane (Gets reply) →
    EndsBy lane (Returns lane reply) events → Survives O events s lanes → Survives O events s after

-- What is shown with its readers in effect goes on as far: each of them has the reply that is told of it, and changes
-- nothing by that.
abbrev pub ReadersLoseNothing : {S : Type 0} → Object S → Type 0
ReadersLoseNothing {S} O =
    (readers : ℕ → Bool) (told : ℕ → Reply) (events : List Event) (s : S) (lanes shown : Lanes) →
    ((v : ℕ) → readers v ≡ true → IsReader O v (told v) events (lanes v)) → AreShown readers told lanes shown →
    Survives O events s lanes → Survives O events s shown

-- Of two open calls that are alike nothing is lost if the one that returns sooner takes effect instead of the other.
abbrev pub SoonerAlikeFirst : {S : Type 0} → Object S → Type 0
SoonerAlikeFirst {S} O =
    (lane than : ℕ) (call other : Call) (reply : Reply) (events : List Event) (s : S) (lanes later sooner : Lanes) →
    DoesAs O call other → lane ≢ than → lanes lane ≡ Asks call → lanes than ≡ Asks other →
    Sets lanes later than (Gets reply) → Sets lanes sooner lane (Gets reply) →
    EndsBy lane (Returns lane reply) events → ReturnsSooner lane than events →
    Survives O events s later → Survives O events s sooner

-- Of two open calls that are alike and of which neither ends nothing is lost if either takes effect instead of the
-- other.
abbrev pub EndlessAlikeFirst : {S : Type 0} → Object S → Type 0
EndlessAlikeFirst {S} O =
    (lane than : ℕ) (call other : Call) (reply : Reply) (events : List Event) (s : S) (lanes later sooner : Lanes) →
    DoesAs O call other → lane ≢ than → lanes lane ≡ Asks call → lanes than ≡ Asks other →
    Sets lanes later than (Gets reply) → Sets lanes sooner lane (Gets reply) →
    EndsNever lane events → EndsNever than events → Survives O events s later → Survives O events s sooner

-- What goes on where calls that never end are in effect goes on where they are not.
abbrev pub EndlessMayAsk : {S : Type 0} → Object S → Type 0
EndlessMayAsk {S} O =
    (endless : ℕ → Bool) (events : List Event) (s : S) (lanes asking : Lanes) →
    ((v : ℕ) → endless v ≡ true → EndsNever v events) → AskAgain endless lanes asking →
    Survives O events s lanes → Survives O events s asking

-- a way goes on where this call is in effect, from a configuration that the position stands for
pub record OneGets {S : Type 0} (O : Object S) (events : List Event) (p : Position S) (lane : ℕ) (reply : Reply) :
    Type 0 where
  pub lanes : Lanes
  pub stands : StandsFor O p p.state lanes
  pub gets : lanes lane ≡ Gets reply
  pub survives : Survives O events p.state lanes

-- Of two free calls that overwrite and are alike nothing is lost if the one that goes first is hidden instead of the
-- other.
abbrev pub HiddenAlikeFirst : {S : Type 0} → Object S → Type 0
HiddenAlikeFirst {S} O =
    (p : Position S) (lane than : ℕ) (call other : Call) (reply : Reply) (t : S) (events : List Event)
    (lanes : Lanes) → lane ≢ than → p.lanes lane ≡ Asks call → p.lanes than ≡ Asks other → p.free lane ≡ true →
    AreAlike O call other → Overwrites O other reply t → GoesFirst lane than reply events →
    StandsFor O p p.state lanes → lanes than ≡ Gets reply → Survives O events p.state lanes →
    OneGets O events p lane reply

-- Of two calls the one goes first of which that is told.
abbrev pub ToldGoesFirst : Type 0
ToldGoesFirst =
    (told : ℕ → Told) (lane than : ℕ) (reply : Reply) (events : List Event) → Fits told events →
    IsToldFirst (told lane) (told than) → MayGet (told lane) reply → GoesFirst lane than reply events

-- At first a judge keeps the opening alone.
abbrev pub OpeningStands : {S : Type 0} → Object S → Type 0
OpeningStands {S} O =
    (start : S) (told : ℕ → Told) → StandFor O start [] (Fits told) (OfSome O (Contains (opening_position start ∷ [])))

-- What stands for the configurations after some events, and goes on by one more, stands for those after it.
abbrev pub PositionsGoOn : {S : Type 0} → Object S → Type 0
PositionsGoOn {S} O =
    (start : S) (past : List Event) (event : Event) (told then_told : ℕ → Told) (old new : List (Position S)) →
    StandFor O start past (Fits told) (OfSome O (Contains old)) →
    GoesOn O event (Fits told) (Fits then_told) (OfSome O (Contains old)) (OfSome O (Contains new)) →
    StandFor O start (past ++ event ∷ []) (Fits then_told) (OfSome O (Contains new))

-- While a position is kept the run is explained so far; where none is, nothing is that fits what is told.
abbrev pub PositionsTell : {S : Type 0} → Object S → Type 0
PositionsTell {S} O =
    (start : S) (past : List Event) (told : ℕ → Told) (kept : List (Position S)) →
    StandFor O start past (Fits told) (OfSome O (Contains kept)) →
    ((p : Position S) (others : List (Position S)) → kept ≡ p ∷ others → AreExplainedFrom O start past) ×
    ((future : List Event) → kept ≡ [] → Fits told future → ¬ AreExplainedFrom O start (past ++ future))

-- So a judge to whom nothing of what comes later is told says exactly at which event a run is stuck, whatever comes
-- after it.
abbrev pub StuckIsExact : {S : Type 0} → Object S → Type 0
StuckIsExact {S} O =
    (start : S) (past : List Event) (event : Event) (more : List Event) (told then_told : ℕ → Told) (p : Position S)
    (others : List (Position S)) → StandFor O start past (Fits told) (OfSome O (Contains (p ∷ others))) →
    GoesOn O event (Fits told) (Fits then_told) (OfSome O (Contains (p ∷ others))) (OfSome O (Contains [])) → Fits
    then_told [] →
    AreStuckFrom O start (past ++ event ∷ more) (length past)

-- A set may be made smaller at any time: the new positions are reached from old ones, and each old one is kept as one
-- of them.
abbrev pub KeptStand : {S : Type 0} → Object S → Type 0
KeptStand {S} O =
    (start : S) (past : List Event) (told : ℕ → Told) (old new : List (Position S)) →
    StandFor O start past (Fits told) (OfSome O (Contains old)) → ((q : Position S) → Contains new q → IsReached O
    (Contains old) q) →
    ((p : Position S) → Contains old p → OneOf (Contains new) (IsKeptAs O (Fits told) p)) →
    StandFor O start past (Fits told) (OfSome O (Contains new))

-- Where a call begins, each position goes on by its beginning.
abbrev pub BeginsGoOn : {S : Type 0} → Object S → Type 0
BeginsGoOn {S} O =
    (told then_told : ℕ → Told) (lane : ℕ) (call : Call) (old new : List (Position S)) →
    ((future : List Event) → Fits then_told future → Fits told (Begins lane call ∷ future)) →
    ((q : Position S) → Contains new q → OneOf (Contains old) (λ (p : Position S). IsBegun lane call p q)) →
    ((p : Position S) → Contains old p → OneOf (Contains new) (IsBegun lane call p)) →
    GoesOn O (Begins lane call) (Fits told) (Fits then_told) (OfSome O (Contains old)) (OfSome O (Contains new))

-- Where one is withdrawn, those positions go on in which it is not in effect.
abbrev pub WithdrawsGoOn : {S : Type 0} → Object S → Type 0
WithdrawsGoOn {S} O =
    (told then_told : ℕ → Told) (lane : ℕ) (old new : List (Position S)) →
    ((future : List Event) → Fits then_told future → Fits told (Withdraws lane ∷ future)) →
    ((q : Position S) → Contains new q → OneOf (Contains old) (λ (p : Position S). IsWithdrawn lane p q)) →
    ((p : Position S) (call : Call) → Contains old p → p.lanes lane ≡ Asks call → OneOf (Contains new) (IsWithdrawn
    lane p)) →
    GoesOn O (Withdraws lane) (Fits told) (Fits then_told) (OfSome O (Contains old)) (OfSome O (Contains new))

-- A return by positions loses nothing and adds nothing: what stood for the configurations before it goes on by it.
abbrev pub ReturnsGoOn : {S : Type 0} → Object S → Type 0
ReturnsGoOn {S} O =
    (told then_told : ℕ → Told) (lane : ℕ) (reply : Reply) (old looked new : List (Position S)) →
    ((future : List Event) → Fits then_told future → Fits told (Returns lane reply ∷ future)) →
    ReturnsBy O (told_return told then_told lane reply) (Contains old) (Contains looked) (Contains new) →
    GoesOn O (Returns lane reply) (Fits told) (Fits then_told) (OfSome O (Contains old)) (OfSome O (Contains new))

-- An order in which calls take effect along the events tells a way, and each way has one.
abbrev pub OrderTells : {S : Type 0} → Object S → Type 0
OrderTells {S} O =
    (n : ℕ) (events : List Event) (s t : S) (lanes last : Lanes) →
    ((order : List Taken) × LeadsBy O n order events s lanes t last) ↔ Leads O events s lanes t last

-- A trace leads to its position in the order that is read back from it; and, with calls that are hidden at last, to
-- all that the position stands for.
abbrev pub TraceLeads : {S : Type 0} → Object S → Type 0
TraceLeads {S} O =
    (start : S) (past : List Event) (moves : List Move) (p : Position S) → IsTrace O start past moves p →
    LeadsBy O 0 (order_of moves) past start all_idle p.state p.lanes × ((lanes : Lanes)
    (hidden : Hidden O p.free None p.lanes lanes) →
    LeadsBy O 0 (order_from (hidden_calls hidden) moves) past start all_idle p.state lanes)

-- What took effect before a call that overwrote keeps its place in the order, whatever moves come later.
abbrev pub OrderSettles : Type 0
OrderSettles =
    (hidden : List (ℕ × Reply)) (newer older : List Move) (x : Taken) →
    order_from hidden (newer ++ Frees x ∷ older) ≡ order_of older ++ order_from hidden (newer ++ Frees x ∷ [])

-- what comes of traced positions by an event is traced
abbrev pub EventIsTraced : {S : Type 0} → Object S → S → List Event → List (Position S) → Event →
    (Position S → Position S → Type 0) → Type 0
EventIsTraced {S} O start past old event comes =
    (p q : Position S) → Contains old p → comes p q → IsTraced O start (past ++ event ∷ []) q

-- Each position that a judge keeps is traced: what is reached from traced ones is, and what comes of them where a call
-- begins, is withdrawn, or returns.
abbrev pub TracesGoOn : {S : Type 0} → Object S → Type 0
TracesGoOn {S} O =
    (start : S) (past : List Event) (old : List (Position S)) →
    ((p : Position S) → Contains old p → IsTraced O start past p) →
    ((q : Position S) → IsReached O (Contains old) q → IsTraced O start past q) ×
    ((lane : ℕ) (call : Call) → EventIsTraced O start past old (Begins lane call) (IsBegun lane call)) ×
    ((lane : ℕ) → EventIsTraced O start past old (Withdraws lane) (IsWithdrawn lane)) ×
    ((told then_told : ℕ → Told) (lane : ℕ) (reply : Reply) →
    EventIsTraced O start past old (Returns lane reply) (IsReturn (told_return told then_told lane reply)))

-- An order along the own events stands in the order of its points among all.
abbrev pub OrdersAscend : {S : Type 0} → (Call → Bool) → Object S → Type 0
OrdersAscend {S} mine O =
    (start : S) (events : List Event) (order : List Taken) (s : S) (lanes : Lanes) →
    LeadsBy O 0 order (own_events mine events) start all_idle s lanes → Ascends 0 (among_all mine events order)

-- The orders of two objects, each along its own events, are one of both along all, if their effects are merged by the
-- numbers that their points have among all.
abbrev pub OrdersMerge : {S T : Type 0} → (Call → Bool) → Object S → Object T → Type 0
OrdersMerge {S} {T} mine O P =
    (start s : S) (other t : T) (events : List Event) (first second order : List Taken) (one two : Lanes) →
    AreInForm events → LeadsBy O 0 first (own_events mine events) start all_idle s one →
    LeadsBy P 0 second (own_events (not_of mine) events) other all_idle t two →
    Merges (among_all mine events first) (among_all (not_of mine) events second) order → Ascends 0 order →
    (lanes : Lanes) × LeadsBy (Pair mine O P) 0 order events (start, other) all_idle (s, t) lanes

-- A free call that overwrites covers the same call in effect: it is as good as hidden first.
abbrev pub FreeCovers : {S : Type 0} → Object S → Type 0
FreeCovers {S} O =
    (p q : Position S) (lane : ℕ) (call : Call) (reply : Reply) (t : S) → p.state ≡ q.state →
    q.lanes lane ≡ Asks call → Overwrites O call reply t → q.free lane ≡ true → Sets q.lanes p.lanes lane (Gets reply)
    → ((v : ℕ) → p.free v ≡ true → q.free v ≡ true) → Covers O p q

-- Of the record's calls just puts overwrite; of the lock's none does.
abbrev pub PutsOverwrite : Type 0
PutsOverwrite =
    (call : Call) (reply : Reply) (t : List ℕ) →
    Overwrites RecordStep call reply t ↔ (call ≡ Put t) × (reply ≡ Done)

abbrev pub LockOverwritesNever : Type 0
LockOverwritesNever = (limits : Bounds) (call : Call) → OverwritesNever (LockStep limits) call

-- A get changes nothing, nor does a put_if that is answered no.
abbrev pub ReadsChangeNothing : Type 0
ReadsChangeNothing =
    ((s t : List ℕ) (reply : Reply) → RecordStep s Get reply t → t ≡ s) ×
    ((expected words s t : List ℕ) → RecordStep s (PutIf expected words) No t → t ≡ s)

-- Calls of the lock that do the same are alike.
abbrev pub SameAreAlike : Type 0
SameAreAlike =
    (limits : Bounds) (call other : Call) → DoSame limits call other → AreAlike (LockStep limits) call other
