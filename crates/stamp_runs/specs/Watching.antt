-- What an online judge keeps of a run: a set of configurations, and what is told it of the calls.
use Rattle.std.specs.Prelude.{ℕ, ◌≡◌, ◌<◌, ◌++◌, List, [], ◌∷◌}
use Rattle.stamp_core.specs.declared.reply.Reply.{Reply}
use Rattle.stamp_runs.specs.declared.event.Event.{Event}
use Rattle.stamp_runs.specs.declared.event.Event.TheVariants.{Returns, Withdraws}
use Rattle.stamp_runs.specs.Object.{Object}
use Rattle.stamp_runs.specs.Run.{AreExplainedFrom, EndsBy, EndsNever, Lanes, Leads, ReturnsSooner, Survives}
use Rattle.stamp_runs.specs.Run.{all_idle}

-- a set of configurations
abbrev pub Kept : Type 0 → Type 1
Kept S = S → Lanes → Type 0

-- along these events a way goes on from one of them
pub record OneSurvives {S : Type 0} (O : Object S) (events : List Event) (kept : Kept S) : Type 0 where
  pub state : S
  pub lanes : Lanes
  pub among : kept state lanes
  pub survives : Survives O events state lanes

-- after these events each of these configurations is possible; and whatever comes that fits what is told of it, if it
-- is explained, then from one of them
pub record StandFor {S : Type 0} (O : Object S) (start : S) (past : List Event) (fits : List Event → Type 0)
    (kept : Kept S) : Type 0 where
  pub possible : (s : S) (lanes : Lanes) → kept s lanes → Leads O past start all_idle s lanes
  pub whole : (future : List Event) → fits future → AreExplainedFrom O start (past ++ future) →
      OneSurvives O future kept

-- it is come to from one of those that were kept, along this event
pub record ComesFrom {S : Type 0} (O : Object S) (event : Event) (old : Kept S) (s : S) (lanes : Lanes) : Type 0 where
  pub state : S
  pub before : Lanes
  pub among : old state before
  pub leads : Leads O (event ∷ []) state before s lanes

-- what is left of a set after one more event: each is come to from one that was kept, and none is lost that may go on
pub record GoesOn {S : Type 0} (O : Object S) (event : Event) (fits then_fits : List Event → Type 0)
    (old new : Kept S) : Type 0 where
  pub fits_then : (future : List Event) → then_fits future → fits (event ∷ future)
  pub comes : (s : S) (lanes : Lanes) → new s lanes → ComesFrom O event old s lanes
  pub whole : (future : List Event) → then_fits future → OneSurvives O (event ∷ future) old →
      OneSurvives O future new

-- what is told ahead of the call of a lane: nothing; the reply with which it returns, and its place among the returns;
-- that it is withdrawn; that it never ends
pub data Told : Type 0 where
  Nothing : Told
  Returning : Reply → ℕ → Told
  Withdrawing : Told
  Never : Told

-- what comes fits it
abbrev pub FitsOne : ℕ → Told → List Event → Type 0
FitsOne lane Nothing future = Unit {0}
FitsOne lane (Returning reply place) future = EndsBy lane (Returns lane reply) future
FitsOne lane Withdrawing future = EndsBy lane (Withdraws lane) future
FitsOne lane Never future = EndsNever lane future

-- so it does of each lane, and those calls return in the order of their places
pub record Fits (told : ℕ → Told) (future : List Event) : Type 0 where
  pub each : (lane : ℕ) → FitsOne lane (told lane) future
  pub ordered : (lane than : ℕ) (reply answer : Reply) (place later : ℕ) → told lane ≡ Returning reply place →
      told than ≡ Returning answer later → place < later → ReturnsSooner lane than future

-- a call of which that is told may get this reply
abbrev pub MayGet : Told → Reply → Type 0
MayGet Nothing reply = Unit {0}
MayGet (Returning told place) reply = reply ≡ told
MayGet Withdrawing reply = ⊥
MayGet Never reply = Unit {0}

-- of two calls it is told that the first goes first: it returns, and sooner, or the other never ends; or neither does
abbrev pub IsToldFirst : Told → Told → Type 0
IsToldFirst (Returning reply place) (Returning answer later) = place < later
IsToldFirst (Returning reply place) Never = Unit {0}
IsToldFirst Never Never = Unit {0}
IsToldFirst _ _ = ⊥

-- this event comes, and then what fits
pub record FitsAfter (event : Event) (then_fits : List Event → Type 0) (events : List Event) : Type 0 where
  pub later : List Event
  pub events_are : events ≡ event ∷ later
  pub fits : then_fits later
