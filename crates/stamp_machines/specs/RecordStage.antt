-- The record calls: where they may stand, their next access, and where it leads.
use Rattle.std.specs.Prelude.{ℕ, ◌+◌, ◌==◌, ◌&&◌, nat_lt, Bool, List, [], ◌∷◌, ◌++◌, length, Option}
use Rattle.std.specs.Prelude.{None, if◌then◌else◌, slice_index}
use Rattle.stamp_core.specs.Limits.{Bounds, units}
use Rattle.stamp_core.specs.declared.call.Call.{Call}
use Rattle.stamp_core.specs.declared.call.Call.TheVariants.{ReadLock, WriteLock, UnlockRead}
use Rattle.stamp_core.specs.declared.call.Call.TheVariants.{ToWrite}
use Rattle.stamp_core.specs.declared.reply.Reply.{Reply}
use Rattle.stamp_core.specs.declared.reply.Reply.TheVariants as reply
use Rattle.stamp_core.specs.Decision.{stamp_in}
use Rattle.stamp_machines.specs.LockNumber.{counts_at}
use Rattle.stamp_machines.specs.Job.{Job, Getting, Putting, PuttingIf, new_words, expects, is_get}
use Rattle.stamp_machines.specs.Job.{stored_reply}
use Rattle.stamp_machines.specs.LocalAccess.{LocalAccess, LoadLock, CasLock, LoadWord, StoreWord}
use Rattle.stamp_machines.specs.LockPhase as phases
use Rattle.stamp_machines.specs.LockPhase.{PhaseTurn, phase_plan, phase_after}

-- a lock call on the record's lock, and what its end leads to
pub data OwnLockCall : Type 0 where
  Share : OwnLockCall  -- read lock of a get or a put_if
  Leave : ℕ → List ℕ → OwnLockCall  -- unlock after a get has read these words
  Refuse : ℕ → OwnLockCall  -- unlock of a put_if that read other words
  Upgrade : ℕ → OwnLockCall  -- conversion of a put_if that read its words
  ReleaseFirst : ℕ → OwnLockCall  -- unlock of a put_if whose conversion gave nothing
  Claim : OwnLockCall  -- write lock of a put or a put_if

pub data RecordStage : Type 0 where
  LoadingLock : RecordStage
  Copying : ℕ → List ℕ → RecordStage  -- what the record's lock held at first, the words loaded
  Locking : OwnLockCall → Option ℕ → RecordStage  -- a lock phase, with the word that it has seen
  Reading : ℕ → List ℕ → RecordStage  -- under a read stamp
  Checking : ℕ → List ℕ → RecordStage  -- under a write stamp, of a put_if
  Storing : ℕ → ℕ → RecordStage  -- under a write stamp, this many words stored
  Releasing : ℕ → Reply → RecordStage

pub data RecordStageTurn : Type 0 where
  Going : RecordStage → RecordStageTurn
  Done : Reply → RecordStageTurn

abbrev pub call_for : OwnLockCall → Call
call_for Share = ReadLock
call_for (Leave s loaded) = UnlockRead s
call_for (Refuse s) = UnlockRead s
call_for (Upgrade s) = ToWrite s
call_for (ReleaseFirst s) = UnlockRead s
call_for Claim = WriteLock

abbrev pub first_record_stage : Job → RecordStage
first_record_stage Getting = LoadingLock
first_record_stage (Putting a) = Locking Claim None
first_record_stage (PuttingIf a b) = Locking Share None

abbrev pub plan : Bounds → ℕ → Job → RecordStage → LocalAccess
plan limits n job LoadingLock = LoadLock
plan limits n job (Copying at_first loaded) =
    if nat_lt (length loaded) n then LoadWord (length loaded) else LoadLock
plan limits n job (Locking e seen) = phase_plan limits (call_for e) seen
plan limits n job (Reading s loaded) = LoadWord (length loaded)
plan limits n job (Checking s loaded) = LoadWord (length loaded)
plan limits n job (Storing s i) = StoreWord i (slice_index (new_words job) i)
plan limits n job (Releasing s a) = CasLock s (s + (units limits).writer)

-- after the write lock
abbrev pub claimed : Job → ℕ → RecordStageTurn
claimed Getting s = Going (Storing s 0)
claimed (Putting a) s = Going (Storing s 0)
claimed (PuttingIf a b) s = Going (Checking s [])

abbrev pub own_call_done : Job → OwnLockCall → ℕ → RecordStageTurn
own_call_done job Share s = Going (Reading s [])
own_call_done job (Leave t loaded) s = Done (reply.Content loaded)
own_call_done job (Refuse t) s = Done reply.No
own_call_done job (Upgrade t) s =
    if s == 0 then Going (Locking (ReleaseFirst t) None) else Going (Storing s 0)
own_call_done job (ReleaseFirst t) s = Going (Locking Claim None)
own_call_done job Claim s = claimed job s

abbrev pub passed : Job → OwnLockCall → PhaseTurn → RecordStageTurn
passed job e (phases.Going seen) = Going (Locking e seen)
passed job e (phases.Done r) = own_call_done job e (stamp_in r)

abbrev pub unchanged : Bounds → ℕ → ℕ → Bool
unchanged limits at_first found =
    ((counts_at limits found).writers == 0)
    && ((counts_at limits found).write_count == (counts_at limits at_first).write_count)

abbrev pub all_read : Job → ℕ → List ℕ → RecordStageTurn
all_read job s loaded =
    if is_get job then Going (Locking (Leave s loaded) None)
    else (if expects job loaded then Going (Locking (Upgrade s) None)
    else Going (Locking (Refuse s) None))

abbrev pub after : Bounds → ℕ → Job → RecordStage → ℕ → RecordStageTurn
after limits n job LoadingLock found =
    if (counts_at limits found).writers == 0 then Going (Copying found [])
    else Going (Locking Share None)
after limits n job (Copying at_first loaded) found =
    if nat_lt (length loaded) n then Going (Copying at_first (loaded ++ found ∷ []))
    else (if unchanged limits at_first found then Done (reply.Content loaded)
    else Going (Locking Share None))
after limits n job (Locking e seen) found =
    passed job e (phase_after limits (call_for e) seen found)
after limits n job (Reading s loaded) found =
    if nat_lt (length loaded + 1) n then Going (Reading s (loaded ++ found ∷ []))
    else all_read job s (loaded ++ found ∷ [])
after limits n job (Checking s loaded) found =
    if nat_lt (length loaded + 1) n then Going (Checking s (loaded ++ found ∷ []))
    else (if expects job (loaded ++ found ∷ []) then Going (Storing s 0)
    else Going (Releasing s reply.No))
after limits n job (Storing s i) found =
    if nat_lt (i + 1) n then Going (Storing s (i + 1)) else Going (Releasing s (stored_reply job))
after limits n job (Releasing s a) found = Done a
