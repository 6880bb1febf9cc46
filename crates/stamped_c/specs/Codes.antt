-- The numbers by which C programs name layouts, calls, errors, effects, replies and kinds of stamps.
use Rattle.std.specs.Prelude.{ℕ, ◌==◌, Option, Some, None, Result, Ok, Err, if◌then◌else◌}
use Rattle.stamp_core.specs.declared.layout.Layout.{Layout}
use Rattle.stamp_core.specs.declared.layout.Layout.TheVariants.{One, Two}
use Rattle.stamp_core.specs.declared.call.Call.{Call}
use Rattle.stamp_core.specs.declared.call.Call.TheVariants.{TryWrite, TryRead, WriteLock, ReadLock}
use Rattle.stamp_core.specs.declared.call.Call.TheVariants.{Optimistic, Validate, UnlockWrite}
use Rattle.stamp_core.specs.declared.call.Call.TheVariants.{UnlockRead, Unlock, ToWrite, ToRead}
use Rattle.stamp_core.specs.declared.call.Call.TheVariants.{ToOptimistic, TryUnlockWrite}
use Rattle.stamp_core.specs.declared.call.Call.TheVariants.{TryUnlockRead, IsWriteLocked}
use Rattle.stamp_core.specs.declared.call.Call.TheVariants.{IsReadLocked, ReadCount}
use Rattle.stamp_core.specs.declared.lock_decision.LockReply.{LockReply}
use Rattle.stamp_core.specs.declared.lock_decision.LockReply.TheVariants.{Stamp, Yes, No, Done, Mismatch, Count}
use Rattle.stamp_core.specs.declared.lock_decision.LockDecision.{LockDecision}
use Rattle.stamp_core.specs.declared.lock_decision.LockDecision.TheVariants.{Answer, Change, Wait}
use Rattle.stamp_core.specs.declared.stamps.StampKind.{StampKind}
use Rattle.stamp_core.specs.declared.stamps.StampKind.TheVariants as kind
use Rattle.stamped_c.specs.declared.error.CError.{CError}
use Rattle.stamped_c.specs.declared.error.CError.TheVariants.{UnknownLayout, LimitsOutOfRange, NoWord}
use Rattle.stamped_c.specs.declared.error.CError.TheVariants.{BeyondLimits, UnknownCall}
use Rattle.stamped_c.specs.declared.structs.CDecision.{CDecision}
use Rattle.stamped_c.specs.declared.structs.CKind.{CKind}

abbrev pub layout_by_code : ℕ → Option Layout
layout_by_code n = if n == 1 then Some One else if n == 2 then Some Two else None

-- the call of this number, with this stamp where it takes one
abbrev pub call_by_code : ℕ → ℕ → Option Call
call_by_code n s =
    if n == 1 then Some TryWrite
    else if n == 2 then Some TryRead
    else if n == 3 then Some WriteLock
    else if n == 4 then Some ReadLock
    else if n == 5 then Some Optimistic
    else if n == 6 then Some (Validate s)
    else if n == 7 then Some (UnlockWrite s)
    else if n == 8 then Some (UnlockRead s)
    else if n == 9 then Some (Unlock s)
    else if n == 10 then Some (ToWrite s)
    else if n == 11 then Some (ToRead s)
    else if n == 12 then Some (ToOptimistic s)
    else if n == 13 then Some TryUnlockWrite
    else if n == 14 then Some TryUnlockRead
    else if n == 15 then Some IsWriteLocked
    else if n == 16 then Some IsReadLocked
    else if n == 17 then Some ReadCount
    else None

-- 0 is no error, and what is no error has a number from 16 on
abbrev pub error_code : CError → ℕ
error_code UnknownLayout = 1
error_code LimitsOutOfRange = 2
error_code NoWord = 3
error_code BeyondLimits = 4
error_code UnknownCall = 5

-- a reply as a number: 0 where it is no, or a mismatch, or no stamp
abbrev pub reply_number : LockReply → ℕ
reply_number (Stamp s) = s
reply_number (Count n) = n
reply_number Yes = 1
reply_number Done = 1
reply_number No = 0
reply_number Mismatch = 0

abbrev pub replied_in_c : ℕ → LockReply → CDecision
replied_in_c word reply = record { word = word; reply = reply_number reply }

abbrev pub unreplied_in_c : ℕ → CDecision
unreplied_in_c code = record { word = code; reply = 0 }

-- a decision on the word of this number, which stays unless it changes
abbrev pub made_in_c : ℕ → LockDecision → CDecision
made_in_c word (Answer reply) = replied_in_c word reply
made_in_c word (Change next reply) = replied_in_c next.bits reply
made_in_c word Wait = unreplied_in_c 16

-- the same, or an error
abbrev pub decision_in_c : ℕ → Result LockDecision CError → CDecision
decision_in_c word (Ok decision) = made_in_c word decision
decision_in_c word (Err error) = unreplied_in_c (error_code error)

-- a kind of stamp, or an error, as C gets it
abbrev pub kind_in_c : Result StampKind CError → CKind
kind_in_c (Ok kind.Neither) = record { kind = 16; version = 0; readers = 0 }
kind_in_c (Ok (kind.Write k)) = record { kind = 17; version = k; readers = 0 }
kind_in_c (Ok (kind.Read k c)) = record { kind = 18; version = k; readers = c }
kind_in_c (Ok (kind.Optimistic k)) = record { kind = 19; version = k; readers = 0 }
kind_in_c (Err error) = record { kind = error_code error; version = 0; readers = 0 }

-- 0, or the error
abbrev pub error_in_c : {A : Type 0} → Result A CError → ℕ
error_in_c (Ok _) = 0
error_in_c (Err error) = error_code error
