-- Calls of a lock that do the same.
use Rattle.std.specs.Prelude.{◌≡◌, List}
use Rattle.stamp_core.specs.LockEvent.{LockEvent}
use Rattle.stamp_core.specs.Limits.{Bounds}
use Rattle.stamp_core.specs.Transition.{transition}
use Rattle.stamp_core.specs.declared.call.Call.{Call}

-- two calls do the same after whatever events
abbrev pub DoSame : Bounds → Call → Call → Type 0
DoSame limits call other = (s : List LockEvent) → transition limits s call ≡ transition limits s other
