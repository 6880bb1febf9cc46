-- The order in which calls of lock and record took effect, as it is told of a run.
use Rattle.std.specs.Prelude.{◌≡◌, List, map}
use Rattle.stamp_core.specs.Limits.{Bounds}
use Rattle.stamp_runs.specs.BothRun.{Both, State, start}
use Rattle.stamp_runs.specs.Run.{Lanes, all_idle}
use Rattle.stamp_runs.specs.Trace.{LeadsBy, Taken}
use Rattle.stamp_runs.specs.declared.event.Event.{Event}
use Rattle.stamp_sets.specs.declared.order.EffectAt.{EffectAt}

-- an effect without its reply
abbrev pub effect_at : Taken → EffectAt
effect_at x = record { lane = x.lane; point = x.point }

-- in this order, the first one first, calls took effect on some way along the events
pub record IsOrderOfBoth (limits : Bounds) (past : List Event) (effects : List EffectAt) : Type 0 where
  pub order : List Taken
  pub state : State
  pub lanes : Lanes
  pub leads : LeadsBy (Both limits) 0 order past start all_idle state lanes
  pub effects_are : map effect_at order ≡ effects
