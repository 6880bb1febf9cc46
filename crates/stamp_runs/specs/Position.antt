-- Positions: each stands for many configurations, which differ in the calls that took effect unseen.
use Rattle.std.specs.Prelude.{ℕ, ◌≡◌, ◌≢◌, ◌⊎◌, Bool, true, false, List, Option, Some, None}
use Rattle.stamp_core.specs.declared.call.Call.{Call}
use Rattle.stamp_core.specs.declared.reply.Reply.{Reply}
use Rattle.stamp_runs.specs.declared.event.Event.{Event}
use Rattle.stamp_runs.specs.declared.event.Event.TheVariants.{Returns}
use Rattle.stamp_runs.specs.Object.{Object}
use Rattle.stamp_runs.specs.Run.{EndsBy, Lanes, Phase, Sets, all_idle}
use Rattle.stamp_runs.specs.Run.Phase.{Asks, Gets}
use Rattle.stamp_runs.specs.Watching.{MayGet, Told}

-- in each state the call gets this reply and leaves this state, as a put does
pub record Overwrites {S : Type 0} (O : Object S) (call : Call) (reply : Reply) (t : S) : Type 0 where
  pub may : (s : S) → O s call reply t
  pub answer : (s next : S) (other : Reply) → O s call other next → other ≡ reply
  pub leaves : (s next : S) (other : Reply) → O s call other next → next ≡ t

abbrev pub OverwritesNever : {S : Type 0} → Object S → Call → Type 0
OverwritesNever {S} O call = (reply : Reply) (t : S) → ¬ Overwrites O call reply t

-- free calls take effect unseen, which makes these lanes of those: each overwrites, or is answered in the state that
-- the last one left and changes nothing there
pub data Hidden {S : Type 0} (O : Object S) (free : ℕ → Bool) : Option S → Lanes → Lanes → Type 0 where
  no_more : {at : Option S} {lanes : Lanes} → Hidden O free at lanes lanes
  overwrites : {at : Option S} {lanes after last : Lanes} → (lane : ℕ) (call : Call) (reply : Reply) (t : S) →
      free lane ≡ true → lanes lane ≡ Asks call → Overwrites O call reply t → Sets lanes after lane (Gets reply) →
      Hidden O free (Some t) after last → Hidden O free at lanes last
  sees : {lanes after last : Lanes} {t : S} → (lane : ℕ) (call : Call) (reply : Reply) →
      free lane ≡ true → lanes lane ≡ Asks call → O t call reply t → Sets lanes after lane (Gets reply) →
      Hidden O free (Some t) after last → Hidden O free (Some t) lanes last

-- a position: a state, lanes, and which of the calls that ask are free
pub record Position (S : Type 0) : Type 0 where
  pub state : S
  pub lanes : Lanes
  pub free : ℕ → Bool

-- nothing has begun, in this state
abbrev pub opening_position : {S : Type 0} → S → Position S
opening_position start = record { state = start; lanes = all_idle; free = λ lane. false }

-- it stands for what its free calls make of it, hidden before the last call that overwrote
pub record StandsFor {S : Type 0} (O : Object S) (p : Position S) (s : S) (lanes : Lanes) : Type 0 where
  pub same : p.state ≡ s
  pub hidden : Hidden O p.free None p.lanes lanes

-- what one of these positions stands for
pub record OfSome {S : Type 0} (O : Object S) (kept : Position S → Type 0) (s : S) (lanes : Lanes) : Type 0 where
  pub position : Position S
  pub among : kept position
  pub stands : StandsFor O position s lanes

-- one position covers another: it stands for all that the other does
abbrev pub Covers : {S : Type 0} → Object S → Position S → Position S → Type 0
Covers {S} O p q = (s : S) (lanes : Lanes) → StandsFor O p s lanes → StandsFor O q s lanes

-- the lane's call is not free in the new position; what else was free still is
pub record FreesNoLess (old new : ℕ → Bool) (lane : ℕ) : Type 0 where
  pub not_it : new lane ≡ false
  pub others : (other : ℕ) → other ≢ lane → old other ≡ true → new other ≡ true

pub record SameFree (old new : ℕ → Bool) (lane : ℕ) : Type 0 where
  pub not_it : new lane ≡ false
  pub others : (other : ℕ) → other ≢ lane → new other ≡ old other

-- the call that asks, or has this reply, changes nothing by it in any state, and returns with it
pub record IsReader {S : Type 0} (O : Object S) (lane : ℕ) (told : Reply) (events : List Event) (phase : Phase) : Type
    0
  where
    pub call : Call
    pub still : (u v : S) → O u call told v → v ≡ u
    pub phase_is : (phase ≡ Asks call) ⊎ ((reply : Reply) × (phase ≡ Gets reply))
    pub ends : EndsBy lane (Returns lane told) events

-- the same lanes, but the calls of these are in effect, with what is told of them
pub record AreShown (readers : ℕ → Bool) (told : ℕ → Reply) (lanes shown : Lanes) : Type 0 where
  pub read : (v : ℕ) → readers v ≡ true → shown v ≡ Gets (told v)
  pub others : (v : ℕ) → readers v ≡ false → shown v ≡ lanes v

-- the same lanes, but calls that never end and are in effect need not be
pub record AskAgain (endless : ℕ → Bool) (lanes asking : Lanes) : Type 0 where
  pub in_effect : (v : ℕ) → endless v ≡ true → (reply : Reply) × (lanes v ≡ Gets reply)
  pub others : (v : ℕ) → endless v ≡ false → asking v ≡ lanes v

-- the same lanes, but this call and the readers are in effect, with what is told of them
pub record Shows (lane : ℕ) (reply : Reply) (readers : ℕ → Bool) (told : ℕ → Reply) (lanes shown : Lanes) : Type 0
  where
    pub here : shown lane ≡ Gets reply
    pub readers_get : (v : ℕ) → v ≢ lane → readers v ≡ true → shown v ≡ Gets (told v)
    pub others : (v : ℕ) → v ≢ lane → readers v ≡ false → shown v ≡ lanes v

-- each free call overwrites, or is one of the readers if it may be answered in this state as it may get
pub record ReadsOrOverwrites {S : Type 0} (O : Object S) (ahead : ℕ → Told) (t : S) (readers : ℕ → Bool) (v : ℕ)
    (call : Call) : Type 0 where
  pub which : ((reply : Reply) × (u : S) × Overwrites O call reply u) ⊎
      ((reply : Reply) → O t call reply t → MayGet (ahead v) reply → readers v ≡ true)
  pub apart : readers v ≡ true → OverwritesNever O call

-- the lane's free call is taken to be in effect, which leaves this state, hidden with all that read it
pub record AfterHidden {S : Type 0} (O : Object S) (ahead : ℕ → Told) (old new : Position S) (lane : ℕ)
    (reply : Reply) (t : S) (readers : ℕ → Bool) (told : ℕ → Reply) : Type 0 where
  pub state : old.state ≡ new.state
  pub shows : Shows lane reply readers told old.lanes new.lanes
  pub free : (v : ℕ) → v ≢ lane → readers v ≡ false → old.free v ≡ true → new.free v ≡ true
  pub overwrites : (call : Call) → old.lanes lane ≡ Asks call → Overwrites O call reply t
  pub each : (v : ℕ) (call : Call) → old.free v ≡ true → old.lanes v ≡ Asks call → v ≢ lane →
      ReadsOrOverwrites O ahead t readers v call
