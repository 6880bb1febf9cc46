-- A replay that was read as calls of the lock.
use Rattle.std.specs.Prelude.{List, map, Vec}
use Rattle.std.specs.declared.alloc.Global.{Global}
use Rattle.stamp_core.specs.Limits.{Bounds}
use Rattle.stamp_core.specs.LockCall.{call_as}
use Rattle.stamp_core.specs.declared.call.Call.{Call}
use Rattle.stamp_core.specs.declared.lock_call.LockCall.{LockCall}
use Rattle.stamp_history.specs.Replay.{Replay}

abbrev pub calls_as : Vec LockCall Global → List Call
calls_as calls = map call_as calls.items

abbrev pub replay_as : Bounds × Vec LockCall Global → Replay
replay_as found = record { limits = found.0; calls = calls_as found.1 }
