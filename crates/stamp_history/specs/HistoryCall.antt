-- The calls of a history as JSON: those of a script whose stamp is a whole number.
use Rattle.std.specs.Prelude.{ℕ, Option, Some, None, option_and_then, option_map}
use Rattle.serde_json.specs.Data.{Data}
use Rattle.stamp_core.specs.declared.call.Call.{Call}
use Rattle.stamp_core.specs.declared.call.Call.TheVariants as call
use Rattle.stamp_machines.specs.declared.script.Arg.{Arg}
use Rattle.stamp_machines.specs.declared.script.Arg.TheVariants.{Number, Of}
use Rattle.stamp_machines.specs.declared.script.ScriptCall.{ScriptCall}
use Rattle.stamp_machines.specs.declared.script.ScriptCall.TheVariants.{TryWrite, TryRead}
use Rattle.stamp_machines.specs.declared.script.ScriptCall.TheVariants.{WriteLock, ReadLock}
use Rattle.stamp_machines.specs.declared.script.ScriptCall.TheVariants.{Optimistic, Validate}
use Rattle.stamp_machines.specs.declared.script.ScriptCall.TheVariants.{UnlockWrite, UnlockRead}
use Rattle.stamp_machines.specs.declared.script.ScriptCall.TheVariants.{Unlock, ToWrite, ToRead}
use Rattle.stamp_machines.specs.declared.script.ScriptCall.TheVariants.{ToOptimistic}
use Rattle.stamp_machines.specs.declared.script.ScriptCall.TheVariants.{TryUnlockWrite}
use Rattle.stamp_machines.specs.declared.script.ScriptCall.TheVariants.{TryUnlockRead}
use Rattle.stamp_machines.specs.declared.script.ScriptCall.TheVariants.{IsWriteLocked, IsReadLocked}
use Rattle.stamp_machines.specs.declared.script.ScriptCall.TheVariants.{ReadCount, Get, Put, PutIf}
use Rattle.stamp_history.specs.ScriptCallValue.{script_call}

abbrev pub plain_number : Arg → Option ℕ
plain_number (Number n) = Some n
plain_number (Of thread index) = None

abbrev pub as_call : ScriptCall → Option Call
as_call TryWrite = Some call.TryWrite
as_call TryRead = Some call.TryRead
as_call WriteLock = Some call.WriteLock
as_call ReadLock = Some call.ReadLock
as_call Optimistic = Some call.Optimistic
as_call (Validate stamp) = option_map call.Validate (plain_number stamp)
as_call (UnlockWrite stamp) = option_map call.UnlockWrite (plain_number stamp)
as_call (UnlockRead stamp) = option_map call.UnlockRead (plain_number stamp)
as_call (Unlock stamp) = option_map call.Unlock (plain_number stamp)
as_call (ToWrite stamp) = option_map call.ToWrite (plain_number stamp)
as_call (ToRead stamp) = option_map call.ToRead (plain_number stamp)
as_call (ToOptimistic stamp) = option_map call.ToOptimistic (plain_number stamp)
as_call TryUnlockWrite = Some call.TryUnlockWrite
as_call TryUnlockRead = Some call.TryUnlockRead
as_call IsWriteLocked = Some call.IsWriteLocked
as_call IsReadLocked = Some call.IsReadLocked
as_call ReadCount = Some call.ReadCount
as_call Get = Some call.Get
as_call (Put words) = Some (call.Put words)
as_call (PutIf expected words) = Some (call.PutIf expected words)

abbrev pub history_call : Data → Option Call
history_call d = option_and_then as_call (script_call d)
