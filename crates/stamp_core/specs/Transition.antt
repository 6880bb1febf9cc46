-- The sequential lock: what each call does after events, and what it is answered.
-- StampedLock, the methods tryWriteLock (TryWrite), tryReadLock, writeLock, readLock,
-- tryOptimisticRead (Optimistic), validate, unlockWrite,
-- unlockRead, unlock, tryConvertToWriteLock (ToWrite), tryConvertToReadLock,
-- tryConvertToOptimisticRead, tryUnlockWrite, tryUnlockRead,
-- isWriteLocked, isReadLocked and getReadLockCount (ReadCount).
use Rattle.std.specs.Prelude.{◌+◌, ◌==◌, ◌&&◌, nat_lt, Bool, List, [], ◌∷◌, Option, Some, None, if◌then◌else◌}
use Rattle.stamp_core.specs.LockEvent.{LockEvent, Counts, counts}
use Rattle.stamp_core.specs.LockEvent.LockEvent.{WriteAcquired, WriteReleased, ReadAcquired, ReadReleased}
use Rattle.stamp_core.specs.Layout.{Units}
use Rattle.stamp_core.specs.Limits.{Bounds, units}
use Rattle.stamp_core.specs.Stamp.{write_stamp, optimistic_stamp, read_stamp, is_held_write, is_held_read, is_valid}
use Rattle.stamp_core.specs.declared.call.Call.{Call}
use Rattle.stamp_core.specs.declared.call.Call.TheVariants.{TryWrite, TryRead, WriteLock, ReadLock}
use Rattle.stamp_core.specs.declared.call.Call.TheVariants.{Optimistic, Validate, UnlockWrite}
use Rattle.stamp_core.specs.declared.call.Call.TheVariants.{UnlockRead, Unlock, ToWrite, ToRead}
use Rattle.stamp_core.specs.declared.call.Call.TheVariants.{ToOptimistic, TryUnlockWrite}
use Rattle.stamp_core.specs.declared.call.Call.TheVariants.{TryUnlockRead, IsWriteLocked}
use Rattle.stamp_core.specs.declared.call.Call.TheVariants.{IsReadLocked, ReadCount, Get, Put}
use Rattle.stamp_core.specs.declared.call.Call.TheVariants.{PutIf}
use Rattle.stamp_core.specs.declared.reply.Reply.{Reply}
use Rattle.stamp_core.specs.declared.reply.Reply.TheVariants.{Stamp, Yes, No, Done, Mismatch, Count}

-- the events that a call appends, and its reply
pub record Transition : Type 0 where
  pub appended : List LockEvent
  pub reply : Reply

-- the reply, and no event
abbrev pub answer : Reply → Option Transition
answer reply = Some (record { appended = []; reply = reply })

abbrev pub change : List LockEvent → Reply → Option Transition
change appended reply = Some (record { appended = appended; reply = reply })

-- the stamps that acquiring write mode and read mode answer
abbrev pub next_write : Units → Counts → Reply
next_write u c = Stamp (write_stamp u (c.write_count + 1))

abbrev pub next_read : Units → Counts → Reply
next_read u c = Stamp (read_stamp u c.write_count (c.readers + 1))

abbrev pub yes_where : Bool → Option Transition
yes_where b = answer (if b then Yes else No)

-- write mode is free, and there is a version left
abbrev pub may_write : Bounds → Counts → Bool
may_write limits c = (c.writers == 0) && (c.readers == 0) && nat_lt c.write_count limits.versions

-- no writer, and room for a reader
abbrev pub may_read : Bounds → Counts → Bool
may_read limits c = (c.writers == 0) && nat_lt c.readers limits.readers

-- one row for each call, by the counts of the events before it. A call that waits has no
-- transition, nor has a call of the record here
abbrev pub row : Bounds → Counts → Call → Option Transition
row l c TryWrite =
    if may_write l c then change (WriteAcquired ∷ []) (next_write (units l) c) else answer (Stamp 0)
row l c TryRead =
    if may_read l c then change (ReadAcquired ∷ []) (next_read (units l) c) else answer (Stamp 0)
row l c WriteLock =
    if c.write_count == l.versions then answer (Stamp 0)
    else if may_write l c then change (WriteAcquired ∷ []) (next_write (units l) c)
    else None
row l c ReadLock =
    if may_read l c then change (ReadAcquired ∷ []) (next_read (units l) c) else None
row l c Optimistic =
    answer (Stamp (if c.writers == 0 then optimistic_stamp (units l) c.write_count else 0))
row l c (Validate s) = yes_where (is_valid (units l) c s)
row l c (UnlockWrite s) =
    if is_held_write (units l) c s then change (WriteReleased ∷ []) Done else answer Mismatch
row l c (UnlockRead s) =
    if is_held_read (units l) c s then change (ReadReleased ∷ []) Done else answer Mismatch
row l c (Unlock s) =
    if is_held_write (units l) c s then change (WriteReleased ∷ []) Done
    else if is_held_read (units l) c s then change (ReadReleased ∷ []) Done
    else answer Mismatch
row l c (ToWrite s) =
    if is_held_write (units l) c s then answer (Stamp s)
    else if is_held_read (units l) c s && (c.readers == 1) && nat_lt c.write_count l.versions then
    change (ReadReleased ∷ WriteAcquired ∷ []) (next_write (units l) c)
    else if (s == optimistic_stamp (units l) c.write_count) && may_write l c then
    change (WriteAcquired ∷ []) (next_write (units l) c)
    else answer (Stamp 0)
row l c (ToRead s) =
    if is_held_write (units l) c s then change (WriteReleased ∷ ReadAcquired ∷ [])
    (Stamp (read_stamp (units l) c.write_count 1))
    else if is_held_read (units l) c s then answer (Stamp s)
    else if (s == optimistic_stamp (units l) c.write_count) && may_read l c then
    change (ReadAcquired ∷ []) (next_read (units l) c)
    else answer (Stamp 0)
row l c (ToOptimistic s) =
    if is_held_write (units l) c s then change (WriteReleased ∷ []) (Stamp (optimistic_stamp (units l) c.write_count))
    else if is_held_read (units l) c s then change (ReadReleased ∷ [])
    (Stamp (optimistic_stamp (units l) c.write_count))
    else if (s == optimistic_stamp (units l) c.write_count) && (c.writers == 0) then answer (Stamp s)
    else answer (Stamp 0)
row l c TryUnlockWrite =
    if c.writers == 1 then change (WriteReleased ∷ []) Yes else answer No
row l c TryUnlockRead =
    if nat_lt 0 c.readers then change (ReadReleased ∷ []) Yes else answer No
row l c IsWriteLocked = yes_where (c.writers == 1)
row l c IsReadLocked = yes_where (nat_lt 0 c.readers)
row l c ReadCount = answer (Count c.readers)
row l c Get = None
row l c (Put words) = None
row l c (PutIf expected words) = None

-- the transition of a call after events; none where it waits
abbrev pub transition : Bounds → List LockEvent → Call → Option Transition
transition limits events call = row limits (counts events) call
