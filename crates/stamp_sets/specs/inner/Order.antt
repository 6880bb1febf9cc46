-- The order of effects as it is read back.
use Rattle.std.specs.Prelude.{ℕ, ◌≡◌, ◌<◌, ◌≤◌, ◌-◌, ◌++◌, List, [], ◌∷◌, get_or, map, reverse}
use Rattle.stamp_core.specs.declared.reply.Reply.{Reply}
use Rattle.stamp_runs.specs.Merged.{Ascends, Merges}
use Rattle.stamp_runs.specs.Run.{Lanes, all_idle}
use Rattle.stamp_runs.specs.Trace.{LeadsBy, Move, Taken, order_from}
use Rattle.stamp_runs.specs.declared.event.Event.{Event}
use Rattle.stamp_sets.specs.Judged.{Judged}
use Rattle.stamp_sets.specs.declared.order.EffectAt.{EffectAt}
use Rattle.stamp_sets.specs.declared.order.Walk.{Walk}
use Rattle.stamp_sets.specs.declared.trail.Entry.{Entry}
use Rattle.stamp_sets.specs.declared.trail.Link.{Link}
use Rattle.stamp_sets.specs.Order.{effect_at}
use Rattle.stamp_sets.specs.Tracing.{Says, events_in, lane_in, readers_of}

abbrev pub at_point : ℕ → ℕ → EffectAt
at_point point lane = record { lane = lane; point = point }

-- the calls of a link, in their order
abbrev pub turns_of : ℕ → Link → List EffectAt
turns_of point link = map (at_point point) (link.lane ∷ readers_of link)

-- the same calls at another point
abbrev pub lanes_at : ℕ → List EffectAt → List EffectAt
lanes_at point calls = map (λ (x : EffectAt). at_point point x.lane) calls

-- so far back: what is left of the trail says how the position was come to, with calls that are hidden since
pub record WalksTo (older : List Entry) (order : List EffectAt) (walk : Walk) : Type 0 where
  pub events : events_in older ≡ walk.point
  pub moves : List Move
  pub hidden : List (ℕ × Reply)
  pub says : Says older walk.position moves
  pub pending : map (λ (x : EffectAt). x.lane) walk.pending.items ≡ reverse (map lane_in hidden)
  pub out : order ≡ map effect_at (order_from hidden moves) ++ reverse walk.out.items

-- the calls of a link take effect, and just before them those that were hidden since
pub record HasFreed (link : Link) (old new : Walk) : Type 0 where
  pub position : new.position ≡ old.position
  pub point : new.point ≡ old.point
  pub none : new.pending.items ≡ []
  pub out : new.out.items ≡ (old.out.items ++ reverse (turns_of old.point link)) ++
      lanes_at old.point old.pending.items

-- in this order, the last one first, calls took effect along the events
pub record IsOrderOf {S : Type 0} (o : Judged S) (past : List Event) (effects : List EffectAt) : Type 0 where
  pub order : List Taken
  pub state : S
  pub lanes : Lanes
  pub leads : LeadsBy o.step 0 order past o.start all_idle state lanes
  pub effects_are : map effect_at order ≡ reverse effects

-- an effect by the numbers of all events, where the own events have these
abbrev pub told_among : List ℕ → ℕ → EffectAt → EffectAt
told_among numbers events x = at_point (get_or numbers x.point events) x.lane

-- so the order is told of which the own events tell
pub record IsOrderAmong {S : Type 0} (o : Judged S) (past : List Event) (numbers : List ℕ) (events : ℕ)
    (effects : List EffectAt) : Type 0 where
  pub own : List EffectAt
  pub is : IsOrderOf o past own
  pub told : effects ≡ map (told_among numbers events) own

-- the effect before this place of the one order comes before that of the other, if it has one
abbrev pub point_before : List EffectAt → ℕ → ℕ
point_before effects place = (get_or effects (place - 1) (at_point 0 0)).point

pub record IsNext (one : List EffectAt) (place : ℕ) (other : List EffectAt) (place_too : ℕ) : Type 0 where
  pub some : 0 < place
  pub low : 0 < place_too → point_before one place ≤ point_before other place_too

-- these effects are those of both orders, in the order of their points
pub record MergesTo (first second : List Taken) (effects : List EffectAt) : Type 0 where
  pub order : List Taken
  pub merges : Merges first second order
  pub ascends : Ascends 0 order
  pub effects_are : map effect_at order ≡ effects
