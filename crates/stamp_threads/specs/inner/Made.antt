-- Which calls may wait.
use Rattle.std.specs.Prelude.{◌≡◌, ◌⊎◌}
use Rattle.stamp_core.specs.declared.call.Call.{Call}
use Rattle.stamp_core.specs.declared.call.Call.TheVariants.{WriteLock, ReadLock}

-- the call may wait
abbrev pub MayWait : Call → Type 0
MayWait call = (call ≡ WriteLock) ⊎ (call ≡ ReadLock)
