-- What is told ahead of the open calls of a run, lane by lane.
use Rattle.std.specs.Prelude.{ℕ, ◌≡◌, ◌<◌, ◌≤◌, List, Option, Some, None, slice_get}
use Rattle.std.specs.Int.{bit_at}
use Rattle.stamp_core.specs.declared.reply.Reply.{Reply}
use Rattle.stamp_runs.specs.Run.{EndsBy, EndsNever, ReturnsSooner}
use Rattle.stamp_runs.specs.declared.event.Event.{Event}
use Rattle.stamp_runs.specs.declared.event.Event.TheVariants as event
use Rattle.stamp_sets.specs.declared.ending.Ending.{Ending}
use Rattle.stamp_sets.specs.declared.ending.Ending.TheVariants.{Returns, Withdraws, Never}
use Rattle.stamp_sets.specs.declared.small_call.SmallReply.{SmallReply}
use Rattle.stamp_sets.specs.declared.open_call.OpenCall.{OpenCall}
use Rattle.stamp_sets.specs.SmallCall.{reply_of}

-- the open call of a lane, if it has one
abbrev pub open_in : Option (Option OpenCall) → Option OpenCall
open_in None = None
open_in (Some slot) = slot

abbrev pub open_at : List (Option OpenCall) → ℕ → Option OpenCall
open_at table lane = open_in (slice_get table lane)

-- the lanes of this number are all that have an open call, or more
pub record HasEachOpen (table : List (Option OpenCall)) (lanes : ℕ) : Type 0 where
  pub each : (lane : ℕ) (begun : OpenCall) → open_at table lane ≡ Some begun → bit_at lanes lane ≡ 1

-- the next end of this lane's call is this one
abbrev pub EndsSo : ℕ → Ending → List Event → Type 0
EndsSo lane (Returns told place) events = EndsBy lane (event.Returns lane (reply_of told)) events
EndsSo lane Withdraws events = EndsBy lane (event.Withdraws lane) events
EndsSo lane Never events = EndsNever lane events

-- a call that ends so may get this reply: the one with which it returns; none, if it is withdrawn; any, if it never
-- ends
abbrev pub MayGet : Ending → Reply → Type 0
MayGet (Returns told place) reply = reply_of told ≡ reply
MayGet Withdraws reply = ⊥
MayGet Never reply = Unit {0}

-- both return, the first at the lower place
pub record ReturnsBefore (first other : Ending) : Type 0 where
  pub reply : SmallReply
  pub answer : SmallReply
  pub place : ℕ
  pub later : ℕ
  pub first_is : first ≡ Returns reply place
  pub other_is : other ≡ Returns answer later
  pub sooner : place < later

-- what comes is as it was told of the open calls, by lane: each ends so, and they return in the order of their places,
-- none of which is below this one
pub record ComesAsTold (opens : ℕ → Option OpenCall) (last : ℕ) (events : List Event) : Type 0 where
  pub ends : (lane : ℕ) (begun : OpenCall) → opens lane ≡ Some begun → EndsSo lane begun.ends events
  pub sooner : (lane than : ℕ) (first other : OpenCall) → opens lane ≡ Some first → opens than ≡ Some other →
      ReturnsBefore first.ends other.ends → ReturnsSooner lane than events
  pub due : (lane : ℕ) (begun : OpenCall) (told : SmallReply) (place : ℕ) → opens lane ≡ Some begun →
      begun.ends ≡ Returns told place → last ≤ place

-- a call is open in this lane, and this was told of its end
pub record IsTold (opens : ℕ → Option OpenCall) (lane : ℕ) (ending : Ending) : Type 0 where
  pub begun : OpenCall
  pub is_open : opens lane ≡ Some begun
  pub ends : begun.ends ≡ ending
