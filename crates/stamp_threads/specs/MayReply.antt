-- Which kind of reply each call of the lock has.
use Rattle.std.specs.Prelude.{◌≡◌, ◌<◌, ℕ, Option, Some, None}
use Rattle.stamp_core.specs.declared.call.Call.{Call}
use Rattle.stamp_core.specs.declared.call.Call.TheVariants.{ReadLock, Validate}
use Rattle.stamp_core.specs.declared.call.Call.TheVariants.{UnlockWrite, UnlockRead, Unlock}
use Rattle.stamp_core.specs.declared.call.Call.TheVariants.{TryUnlockWrite, TryUnlockRead}
use Rattle.stamp_core.specs.declared.call.Call.TheVariants.{IsWriteLocked, IsReadLocked, ReadCount}
use Rattle.stamp_core.specs.declared.reply.Reply.{Reply}
use Rattle.stamp_core.specs.declared.reply.Reply.TheVariants.{Stamp, Yes, No, Done, Mismatch, Count}

-- 0 is no stamp
abbrev pub stamp_or_zero : Option ℕ → ℕ
stamp_or_zero None = 0
stamp_or_zero (Some s) = s

abbrev pub IsStampReply : Reply → Type 0
IsStampReply reply = (s : ℕ) × (reply ≡ Stamp s)

abbrev pub IsSomeStamp : Reply → Type 0
IsSomeStamp reply = (s : ℕ) × (reply ≡ Stamp s) × (0 < s)

abbrev pub IsTest : Reply → Type 0
IsTest Yes = Unit {0}
IsTest No = Unit {0}
IsTest _ = ⊥

abbrev pub IsRelease : Reply → Type 0
IsRelease Done = Unit {0}
IsRelease Mismatch = Unit {0}
IsRelease _ = ⊥

abbrev pub IsCount : Reply → Type 0
IsCount reply = (n : ℕ) × (reply ≡ Count n)

-- the replies that the call may have: a call of the lock that isn't named here answers a stamp
abbrev pub MayReply : Call → Reply → Type 0
MayReply ReadLock = IsSomeStamp
MayReply (Validate s) = IsTest
MayReply (UnlockWrite s) = IsRelease
MayReply (UnlockRead s) = IsRelease
MayReply (Unlock s) = IsRelease
MayReply TryUnlockWrite = IsTest
MayReply TryUnlockRead = IsTest
MayReply IsWriteLocked = IsTest
MayReply IsReadLocked = IsTest
MayReply ReadCount = IsCount
MayReply _ = IsStampReply
