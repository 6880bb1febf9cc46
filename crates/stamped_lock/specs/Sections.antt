-- What is known of a closure that ran in a section, and of the calls around it.
use Rattle.std.specs.Prelude.{◌≡◌, ◌⊎◌, ◌<◌, ℕ, Bool, true, false, Option, Some, None, Result, Ok, Err}
use Rattle.std.specs.Prelude.{IsOkAnd}
use mathlib.Core.List.{IsPrefix}
use Rattle.stamp_core.specs.LockEvent.{write_count}
use Rattle.stamp_core.specs.declared.call.Call.{Call}
use Rattle.stamp_core.specs.declared.call.Call.TheVariants.{WriteLock, UnlockWrite, Optimistic}
use Rattle.stamp_core.specs.declared.call.Call.TheVariants.{Validate, ReadLock, UnlockRead}
use Rattle.stamp_core.specs.declared.reply.Reply.{Reply}
use Rattle.stamp_core.specs.declared.reply.Reply.TheVariants.{Stamp, Yes, No, Done}
use Rattle.stamp_core.specs.declared.reply.Reply.TheVariants as reply
use Rattle.stamp_threads.specs.LockLog.{events_after}
use Rattle.stamped_lock.specs.LockHandleView.{LockHandleView}
use Rattle.stamped_lock.specs.Made.{Made}
use Rattle.stamped_lock.specs.declared.write_error.WriteError.{WriteError}
use Rattle.stamped_lock.specs.declared.write_error.WriteError.TheVariants as write
use Rattle.stamped_lock.specs.declared.mismatch.Mismatch.{Mismatch}

-- the first call answered a stamp, then the closure ran, of which Ran is known, and then the second
-- call was made with that stamp, and had this reply
pub record RanBetween (first : Call) (second : ℕ → Call) (reply : Reply)
    (Ran : LockHandleView → Type 0) (h h' : LockHandleView) : Type 0 where
  pub stamp : ℕ
  pub some : 0 < stamp
  pub between : LockHandleView
  pub began : Made first (Stamp stamp) h between
  pub ran : Ran between
  pub ended : Made (second stamp) reply between h'

-- a section in write mode: it answered what the closure did; or it was no longer held at the
-- release; or no version was left, and the closure hasn't run
abbrev pub WriteSection : {T : Type 0} → (T → LockHandleView → Type 0) → Result T WriteError →
    LockHandleView → LockHandleView → Type 0
WriteSection Ran (Ok t) h h' = RanBetween WriteLock UnlockWrite Done (Ran t) h h'
WriteSection {T} Ran (Err write.Mismatch) h h' =
    (t : T) × RanBetween WriteLock UnlockWrite reply.Mismatch (Ran t) h h'
WriteSection Ran (Err write.Spent) h h' = Made WriteLock (Stamp 0) h h'

-- a section in read mode: it answered what the closure did, or it was no longer held at the release
abbrev pub ReadSection : {T : Type 0} → (T → LockHandleView → Type 0) → Result T Mismatch →
    LockHandleView → LockHandleView → Type 0
ReadSection Ran (Ok t) h h' = RanBetween ReadLock UnlockRead Done (Ran t) h h'
ReadSection {T} Ran (Err _) h h' =
    (t : T) × RanBetween ReadLock UnlockRead reply.Mismatch (Ran t) h h'

-- the one history goes on from the earlier handle to the later, and nobody acquired write mode
-- meanwhile
pub record IsUnwritten (h h' : LockHandleView) : Type 0 where
  pub goes_on : IsPrefix h.pass.known h'.pass.known
  pub version : let limits = h.running.limits in
      write_count (events_after limits h'.pass.known) ≡ write_count (events_after limits h.pass.known)

-- the closure ran between an optimistic stamp and a validation that said yes
pub record ReadUnwritten (Ran : LockHandleView → Type 0) (h h' : LockHandleView) : Type 0 where
  pub read : RanBetween Optimistic Validate Yes Ran h h'
  pub unwritten : IsUnwritten read.between h'

-- no optimistic stamp was issued, or it didn't validate
abbrev pub NotValid : LockHandleView → LockHandleView → Type 0
NotValid h h' = Made Optimistic (Stamp 0) h h' ⊎
    ((s : ℕ) × (m : LockHandleView) × Made Optimistic (Stamp s) h m × Made (Validate s) No m h')

-- a section that answered what the closure did between an optimistic stamp and its validation; or
-- one in read mode, after these failed
abbrev pub OptimisticSection : {T : Type 0} → (T → LockHandleView → Type 0) → Result T Mismatch →
    LockHandleView → LockHandleView → Type 0
OptimisticSection Ran r h h' = IsOkAnd r (λ t. ReadUnwritten (Ran t) h h') ⊎
    ((m : LockHandleView) × NotValid h m × ReadSection Ran r m h')

-- an optimistic section by a closure that may change, from the state f to f'; Step says what a run of it answers,
-- and which state it leaves. Where its first run came to nothing, it ran again in read mode, from what that left
abbrev pub OptimisticSectionMut : {F T : Type 0} → (F → LockHandleView → T → F → Type 0) → F → F →
    Result T Mismatch → LockHandleView → LockHandleView → Type 0
OptimisticSectionMut {F} {T} Step f f' r h h' =
    IsOkAnd r (λ t. ReadUnwritten (λ m. Step f m t f') h h') ⊎
    (((m : LockHandleView) × Made Optimistic (Stamp 0) h m × ReadSection (λ t u. Step f u t f') r m h') ⊎
    ((m : LockHandleView) × (t : T) × (g : F) × RanBetween Optimistic Validate No (λ u. Step f u t g) h m
    × ReadSection (λ t u. Step g u t f') r m h'))

-- a closure ran where a test held: none where it didn't
abbrev pub RanIf : {T : Type 0} → (Bool → LockHandleView → Type 0) → (T → LockHandleView → Type 0) →
    Option T → LockHandleView → Type 0
RanIf Tested Ran None m = Tested false m
RanIf Tested Ran (Some t) m = Tested true m × Ran t m

-- a section in write mode in which a closure ran where a test held, after an optimistic section in which the
-- test held; or only that one, which says what comes
abbrev pub WriteIfSection : {T : Type 0} → (Bool → LockHandleView → Type 0) → (T → LockHandleView → Type 0) →
    Result (Option T) WriteError → LockHandleView → LockHandleView → Type 0
WriteIfSection Tested Ran r h h' =
    ((r ≡ Ok None) × OptimisticSection Tested (Ok false) h h') ⊎
    (((r ≡ Err write.Mismatch) × ((e : Mismatch) × OptimisticSection Tested (Err e) h h')) ⊎
    ((m : LockHandleView) × OptimisticSection Tested (Ok true) h m × WriteSection (RanIf Tested Ran) r m h'))
