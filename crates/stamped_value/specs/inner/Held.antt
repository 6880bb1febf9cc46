-- What a seat of a guarded value may ask of the lock by the mode that it holds.
use Rattle.std.specs.Prelude.{◌≡◌, ◌⊎◌, Bool, true, false}
use Rattle.stamp_core.specs.declared.call.Call.{Call}
use Rattle.stamp_core.specs.declared.call.Call.TheVariants.{TryWrite, TryRead, WriteLock, ReadLock, Optimistic, Validate}
use Rattle.stamp_core.specs.declared.call.Call.TheVariants.{UnlockWrite, UnlockRead, ToWrite, ToRead, ToOptimistic}
use Rattle.stamp_core.specs.declared.call.Call.TheVariants.{IsWriteLocked, IsReadLocked, ReadCount}
use Rattle.stamped_value.specs.declared.view.Held.{Held}
use Rattle.stamped_value.specs.declared.view.Held.TheVariants.{Free, Reading, Writing}

-- Which calls a seat may make: to acquire a mode where it holds none, to release and to convert the one that it
-- holds, by its stamp, and any question
abbrev pub MayCall : Call → Held → Type 0
MayCall TryWrite held = held ≡ Free
MayCall TryRead held = held ≡ Free
MayCall WriteLock held = held ≡ Free
MayCall ReadLock held = held ≡ Free
MayCall (UnlockWrite s) held = held ≡ Writing s
MayCall (UnlockRead s) held = held ≡ Reading s
MayCall (ToWrite s) held = held ≡ Reading s
MayCall (ToRead s) held = held ≡ Writing s
MayCall (ToOptimistic s) held = (held ≡ Reading s) ⊎ (held ≡ Writing s)
MayCall Optimistic held = Unit {0}
MayCall (Validate s) held = Unit {0}
MayCall IsWriteLocked held = Unit {0}
MayCall IsReadLocked held = Unit {0}
MayCall ReadCount held = Unit {0}
MayCall _ held = ⊥

abbrev pub is_reading : Held → Bool
is_reading Free = false
is_reading (Reading s) = true
is_reading (Writing s) = false
