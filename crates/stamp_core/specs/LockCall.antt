-- The calls of the lock, among those of lock and record.
use Rattle.stamp_core.specs.declared.call.Call.{Call}
use Rattle.stamp_core.specs.declared.call.Call.TheVariants as any
use Rattle.stamp_core.specs.declared.lock_call.LockCall.{LockCall}
use Rattle.stamp_core.specs.declared.lock_call.LockCall.TheVariants.{TryWrite, TryRead, WriteLock, ReadLock}
use Rattle.stamp_core.specs.declared.lock_call.LockCall.TheVariants.{Optimistic, Validate, UnlockWrite, UnlockRead}
use Rattle.stamp_core.specs.declared.lock_call.LockCall.TheVariants.{Unlock, ToWrite, ToRead, ToOptimistic}
use Rattle.stamp_core.specs.declared.lock_call.LockCall.TheVariants.{TryUnlockWrite, TryUnlockRead, IsWriteLocked}
use Rattle.stamp_core.specs.declared.lock_call.LockCall.TheVariants.{IsReadLocked, ReadCount}

abbrev pub call_as : LockCall → Call
call_as TryWrite = any.TryWrite
call_as TryRead = any.TryRead
call_as WriteLock = any.WriteLock
call_as ReadLock = any.ReadLock
call_as Optimistic = any.Optimistic
call_as (Validate s) = any.Validate s
call_as (UnlockWrite s) = any.UnlockWrite s
call_as (UnlockRead s) = any.UnlockRead s
call_as (Unlock s) = any.Unlock s
call_as (ToWrite s) = any.ToWrite s
call_as (ToRead s) = any.ToRead s
call_as (ToOptimistic s) = any.ToOptimistic s
call_as TryUnlockWrite = any.TryUnlockWrite
call_as TryUnlockRead = any.TryUnlockRead
call_as IsWriteLocked = any.IsWriteLocked
call_as IsReadLocked = any.IsReadLocked
call_as ReadCount = any.ReadCount
