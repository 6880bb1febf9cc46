-- A seat of a guarded value between two calls.
use Rattle.stamp_core.specs.Limits.{Bounds}
use Rattle.stamp_threads.specs.LockLog.{events_after}
use Rattle.stamp_threads.specs.LockPass.{IsConsistentWith}
use Rattle.stamped_value.specs.Values.{HasValues}
use Rattle.stamped_value.specs.Held.{HasHold, Matches}
use Rattle.stamped_value.specs.ValueMade.{Seen}

-- What it knows is consistent, with a value for each version. It has of the value what its mode gives, and its stamp
-- matched when it was answered
pub record Stands {T : Type 0} (limits : Bounds) (v : Seen T) : Type 0 where
  pub consistent : IsConsistentWith limits v.0.pass
  pub are : HasValues limits v.0.pass.known v.0.values
  pub hold : HasHold v.0.held v.0.values v.1
  pub matches : Matches limits (events_after limits v.0.pass.known) v.0.held
