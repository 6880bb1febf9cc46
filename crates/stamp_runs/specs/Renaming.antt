-- Names of contents that change along a run, and when a content may be forgotten.
use Rattle.std.specs.Prelude.{ℕ, ◌≡◌, ◌++◌, ◌&&◌, Bool, true, false, not, List, [], ◌∷◌, IsSome}
use Rattle.stamp_core.specs.Call.{is_lock_call}
use Rattle.stamp_core.specs.Limits.{Bounds}
use Rattle.stamp_core.specs.declared.call.Call.{Call}
use Rattle.stamp_core.specs.declared.reply.Reply.{Reply}
use Rattle.stamp_core.specs.declared.reply.Reply.TheVariants.{No}
use Rattle.stamp_runs.specs.declared.event.Event.{Event}
use Rattle.stamp_runs.specs.declared.event.Event.TheVariants.{Begins, Returns}
use Rattle.stamp_runs.specs.BothRun.{Both, State}
use Rattle.stamp_runs.specs.Names.{AreDifferent, EachOfCall, EachOfReply, Names, event_by}
use Rattle.stamp_runs.specs.Own.{open_after}
use Rattle.stamp_runs.specs.Run.{EndsBy, IsEndOf, Lanes, Leads, Phase, all_idle}
use Rattle.stamp_runs.specs.Run.Phase.{Idle, Asks, Gets}

-- so it is of each content that a lane holds: those of its open call, or that of the reply which the call gets
abbrev pub EachOfPhase : (List ℕ → Type 0) → Phase → Type 0
EachOfPhase P Idle = Unit {0}
EachOfPhase P (Asks call) = EachOfCall P call
EachOfPhase P (Gets reply) = EachOfReply P reply

-- so it is of each content that a configuration holds: the record's, and those of the lanes
pub record EachHeld (P : List ℕ → Type 0) (s : State) (lanes : Lanes) : Type 0 where
  pub content : P s.1
  pub phases : (lane : ℕ) → EachOfPhase P (lanes lane)

-- so it is of each content that some configuration holds which is possible after these events
abbrev pub EachPossible : (List ℕ → Type 0) → Bounds → List ℕ → List Event → Type 0
EachPossible P limits content events =
    (s : State) (lanes : Lanes) → Leads (Both limits) events ([], content) all_idle s lanes → EachHeld P s lanes

-- the content has one name
abbrev pub HasOneName : Names → Names → List ℕ → Type 0
HasOneName name other words = name words ≡ other words

-- a run in words, and the same by names that may change: each event goes by the names of its moment; others may come
-- then, by which each content that may still be held has the same name
pub data GoesBy (limits : Bounds) (content first : List ℕ) : Names → List Event → List Event → Type 0 where
  from_opening : {name : Names} → AreDifferent name → name content ≡ first → GoesBy limits content first name [] []
  one_event : {name : Names} {told small : List Event} (event : Event) → GoesBy limits content first name told small →
      GoesBy limits content first name (told ++ event ∷ []) (small ++ event_by name event ∷ [])
  other_names : {name other : Names} {told small : List Event} → AreDifferent other →
      EachPossible (HasOneName name other) limits content told → GoesBy limits content first name told small →
      GoesBy limits content first other told small

-- among these events the call of this lane ends
abbrev pub HasEnded : ℕ → List Event → Type 0
HasEnded lane events = (end : Event) × IsEndOf lane end × EndsBy lane end events

-- each call that was open after the past has ended then
abbrev pub OpenHaveEnded : List Event → List Event → Type 0
OpenHaveEnded past events = (lane : ℕ) → IsSome (open_after past lane) → HasEnded lane events

-- a call of the record that is not answered no tells what the record holds when the call has taken effect
abbrev pub is_not_no : Reply → Bool
is_not_no No = false
is_not_no _ = true

abbrev pub tells_content : Call → Reply → Bool
tells_content call reply = not (is_lock_call call) && is_not_no reply

-- among these events such a call begins and returns
pub record IsTold (events : List Event) : Type 0 where
  pub before : List Event
  pub lane : ℕ
  pub call : Call
  pub reply : Reply
  pub later : List Event
  pub there : events ≡ before ++ Begins lane call ∷ later
  pub returns : EndsBy lane (Returns lane reply) later
  pub tells : tells_content call reply ≡ true

-- a past is overtaken by what came since: first all calls ended that were open behind it, then the content was told by
-- a call that began and returned, and then all calls ended that were open
pub record IsOvertaken (past since : List Event) : Type 0 where
  pub first : List Event
  pub second : List Event
  pub third : List Event
  pub parts : since ≡ first ++ second ++ third
  pub first_ended : OpenHaveEnded past first
  pub told : IsTold second
  pub then_ended : OpenHaveEnded ((past ++ first) ++ second) third
