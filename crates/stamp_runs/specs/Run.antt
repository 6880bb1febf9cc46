-- What an object and the lanes of its callers may do along the events of a run: a call takes effect at a moment
-- between its beginning and its return, and is answered as the sequential object answers it there.
use Rattle.std.specs.Prelude.{ℕ, ◌≡◌, ◌≢◌, ◌+◌, List, [], ◌∷◌, take}
use Rattle.std.specs.List.{All}
use Rattle.stamp_core.specs.declared.call.Call.{Call}
use Rattle.stamp_core.specs.declared.reply.Reply.{Reply}
use Rattle.stamp_runs.specs.Object.{Object}
use Rattle.stamp_runs.specs.declared.event.Event.{Event}
use Rattle.stamp_runs.specs.declared.event.Event.TheVariants.{Begins, Returns, Withdraws}

-- what a lane is about: nothing; a call that has begun, and is not in effect; a call in effect, which gets this reply
pub data Phase : Type 0 where
  Idle : Phase
  Asks : Call → Phase
  Gets : Reply → Phase

abbrev pub Lanes : Type 0
Lanes = ℕ → Phase

abbrev pub all_idle : Lanes
all_idle lane = Idle

-- one lane's phase becomes this one
pub record Sets (old new : Lanes) (lane : ℕ) (phase : Phase) : Type 0 where
  pub here : new lane ≡ phase
  pub others : (other : ℕ) → other ≢ lane → new other ≡ old other

-- what an event does to the lanes: a call begins in a lane that is idle; one in effect returns with its reply; one
-- that is withdrawn is not in effect
abbrev pub Happens : Event → Lanes → Lanes → Type 0
Happens (Begins lane call) lanes after = (lanes lane ≡ Idle) × Sets lanes after lane (Asks call)
Happens (Returns lane reply) lanes after = (lanes lane ≡ Gets reply) × Sets lanes after lane Idle
Happens (Withdraws lane) lanes after = (call : Call) × (lanes lane ≡ Asks call) × Sets lanes after lane Idle

-- from the one configuration object and lanes may come to the other along these events; between two of them calls
-- that have begun take effect
pub data Leads {S : Type 0} (O : Object S) : List Event → S → Lanes → S → Lanes → Type 0 where
  leads_nowhere : {s : S} {lanes : Lanes} → Leads O [] s lanes s lanes
  by_effect : {events : List Event} {s next t : S} {lanes after last : Lanes} →
      (lane : ℕ) (call : Call) (reply : Reply) → lanes lane ≡ Asks call → O s call reply next →
      Sets lanes after lane (Gets reply) → Leads O events next after t last → Leads O events s lanes t last
  by_event : {events : List Event} {s t : S} {lanes after last : Lanes} → (event : Event) →
      Happens event lanes after → Leads O events s after t last → Leads O (event ∷ events) s lanes t last

-- along these events some way goes on from the configuration
pub record Survives {S : Type 0} (O : Object S) (events : List Event) (s : S) (lanes : Lanes) : Type 0 where
  pub state : S
  pub last : Lanes
  pub way : Leads O events s lanes state last

-- the run up to here is explained, from this state on: some configuration is possible
abbrev pub AreExplainedFrom : {S : Type 0} → Object S → S → List Event → Type 0
AreExplainedFrom O start events = Survives O events start all_idle

-- from this state on the run is explained until this event, and no longer
pub record AreStuckFrom {S : Type 0} (O : Object S) (start : S) (events : List Event) (k : ℕ) : Type 0 where
  pub explained : AreExplainedFrom O start (take k events)
  pub stuck : ¬ AreExplainedFrom O start (take (k + 1) events)

-- the lane of an event; and whether it ends that lane's call
abbrev pub lane_of : Event → ℕ
lane_of (Begins lane call) = lane
lane_of (Returns lane reply) = lane
lane_of (Withdraws lane) = lane

abbrev pub IsEndOf : ℕ → Event → Type 0
IsEndOf lane (Begins other call) = ⊥
IsEndOf lane (Returns other reply) = other ≡ lane
IsEndOf lane (Withdraws other) = other ≡ lane

-- among these events the call of this lane ends, next by this one
pub data EndsBy (lane : ℕ) (end : Event) : List Event → Type 0 where
  ends_next : {events : List Event} → EndsBy lane end (end ∷ events)
  ends_later : {events : List Event} (event : Event) → ¬ IsEndOf lane event → EndsBy lane end events →
      EndsBy lane end (event ∷ events)

-- no end of this lane's call is among these events
abbrev pub EndsNever : ℕ → List Event → Type 0
EndsNever lane events = All (λ (e : Event). ¬ IsEndOf lane e) events

-- the one lane's call returns among these events, and the other's does not end before it
pub data ReturnsSooner (lane than : ℕ) : List Event → Type 0 where
  sooner_next : {events : List Event} (reply : Reply) → ReturnsSooner lane than (Returns lane reply ∷ events)
  sooner_later : {events : List Event} (event : Event) → ¬ IsEndOf lane event → ¬ IsEndOf than event →
      ReturnsSooner lane than events → ReturnsSooner lane than (event ∷ events)

-- of two lanes' calls the one may go first: it returns sooner, with this reply; or neither ends
pub data GoesFirst (lane than : ℕ) (reply : Reply) (events : List Event) : Type 0 where
  goes_sooner : EndsBy lane (Returns lane reply) events → ReturnsSooner lane than events →
      GoesFirst lane than reply events
  goes_endless : EndsNever lane events → EndsNever than events → GoesFirst lane than reply events

-- what the one call does and gets the other does, too
abbrev pub DoesAs : {S : Type 0} → Object S → Call → Call → Type 0
DoesAs {S} O call other = (s t : S) (reply : Reply) → O s call reply t → O s other reply t

-- and the other way round
pub record AreAlike {S : Type 0} (O : Object S) (call other : Call) : Type 0 where
  pub does : DoesAs O call other
  pub done_by : DoesAs O other call
