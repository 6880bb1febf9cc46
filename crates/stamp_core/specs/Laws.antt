-- The laws of the sequential lock, over the definitions alone.
use Rattle.std.specs.Prelude.{ℕ, true, ◌≡◌, ◌≢◌, ◌⊎◌, ◌↔◌, IsTrue, List, [], ◌∷◌, ◌++◌, None}
use Rattle.stamp_core.specs.LockEvent.{LockEvent, write_count, counts}
use Rattle.stamp_core.specs.Limits.{Bounds, AreInRange, units}
use Rattle.stamp_core.specs.Stamp.{IsValid, IsHeld, IsHeldWrite, IsHeldRead, is_valid, is_held_write, is_held_read}
use Rattle.stamp_core.specs.IsWellFormed.{IsWellFormed}
use Rattle.stamp_core.specs.Word.{word_at}
use Rattle.stamp_core.specs.Call.{is_lock_call}
use Rattle.stamp_core.specs.Transition.{transition}
use Rattle.stamp_core.specs.Decision.{Decides}
use Rattle.stamp_core.specs.CountedDecision.{decision}
use Rattle.stamp_core.specs.History.{History, appended_by, events_of, IsLegal}
use Rattle.stamp_core.specs.Linearized.{AreLinearized, MayFollow}
use Rattle.stamp_core.specs.declared.entry.Entry.{Entry}
use Rattle.stamp_core.specs.declared.call.Call.{Call}
use Rattle.stamp_core.specs.declared.call.Call.TheVariants.{WriteLock, ReadLock}
use Rattle.stamp_core.specs.declared.reply.Reply.{Reply}
use Rattle.stamp_core.specs.declared.reply.Reply.TheVariants.{Stamp}

-- none of these calls, which come after these events, acquires write mode
abbrev pub NoneAcquiresWrite : Bounds → List LockEvent → History → Type 0
NoneAcquiresWrite limits events [] = Unit {0}
NoneAcquiresWrite limits events (e ∷ es) =
    (write_count (appended_by (transition limits events e.0)) ≡ 0) ×
    NoneAcquiresWrite limits (events ++ appended_by (transition limits events e.0)) es

-- In a legal history, after any calls that follow the issue of a stamp, it is valid exactly where
-- none of them acquired write mode.
abbrev pub StampValidity : Type 0
StampValidity =
    (limits : Bounds) (width : ℕ) (before : History) (issue : Call × Reply) (after : History) (s : ℕ) →
    AreInRange limits → IsLegal limits width (before ++ issue ∷ after) → issue.1 ≡ Stamp s → s ≢ 0 →
    IsValid limits (events_of limits (before ++ issue ∷ after)) s ↔
    NoneAcquiresWrite limits (events_of limits (before ++ issue ∷ [])) after

-- What is held is valid.
abbrev pub HeldIsValid : Type 0
HeldIsValid = (limits : Bounds) (events : List LockEvent) (s : ℕ) → IsWellFormed limits events →
    IsHeld limits events s → IsValid limits events s

-- The events of a legal history are well-formed.
abbrev pub LegalIsWellFormed : Type 0
LegalIsWellFormed = (limits : Bounds) (width : ℕ) (history : History) → AreInRange limits →
    IsLegal limits width history → IsWellFormed limits (events_of limits history)

-- The tests that the transitions go by say what is held and what is valid.
abbrev pub TestsAreExact : Type 0
TestsAreExact =
    (limits : Bounds) (events : List LockEvent) (s : ℕ) → AreInRange limits → IsWellFormed limits events →
    ((is_valid (units limits) (counts events) s ≡ true) ↔ IsValid limits events s) ×
    ((is_held_write (units limits) (counts events) s ≡ true) ↔ IsHeldWrite limits events s) ×
    ((is_held_read (units limits) (counts events) s ≡ true) ↔ IsHeldRead limits events s)

-- The decision on a number is the call's transition, for all events that the number represents.
abbrev pub DecisionsAreTransitions : Type 0
DecisionsAreTransitions = (limits : Bounds) (number : ℕ) (call : Call) → AreInRange limits →
    Decides limits (word_at limits number) call (decision limits number call)

-- Of the lock's calls only the two that wait for a mode can be without a transition.
abbrev pub OnlyLockingWaits : Type 0
OnlyLockingWaits =
    (limits : Bounds) (events : List LockEvent) (call : Call) → IsTrue (is_lock_call call) →
    transition limits events call ≡ None →
    (call ≡ WriteLock) ⊎ (call ≡ ReadLock)

-- Entries are linearized exactly where those before the last are, and the last may follow them.
abbrev pub LinearizedByEntries : Type 0
LinearizedByEntries =
    (limits : Bounds) (width : ℕ) (before : List Entry) (e : Entry) →
    AreLinearized limits width (before ++ e ∷ []) ↔
    (AreLinearized limits width before × MayFollow limits width before e)
