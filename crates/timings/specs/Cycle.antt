-- The calls that are timed, one after the other and then again.
use Rattle.std.specs.Prelude.{ℕ, List, [], ◌∷◌}
use Rattle.stamp_core.specs.declared.call.Call.{Call}
use Rattle.stamp_core.specs.declared.call.Call.TheVariants.{TryWrite, TryRead, WriteLock, ReadLock}
use Rattle.stamp_core.specs.declared.call.Call.TheVariants.{Optimistic, Validate, UnlockWrite}
use Rattle.stamp_core.specs.declared.call.Call.TheVariants.{UnlockRead, Unlock, ToWrite, ToRead}
use Rattle.stamp_core.specs.declared.call.Call.TheVariants.{ToOptimistic, TryUnlockWrite}
use Rattle.stamp_core.specs.declared.call.Call.TheVariants.{TryUnlockRead, IsWriteLocked}
use Rattle.stamp_core.specs.declared.call.Call.TheVariants.{IsReadLocked, ReadCount}

-- with this as the stamp of those that take one
abbrev pub cycle : ℕ → List Call
cycle s =
    Optimistic ∷ Validate s ∷ TryRead ∷ ReadLock ∷ IsReadLocked ∷ UnlockRead s ∷ ReadCount ∷
    ToWrite s ∷ IsWriteLocked ∷ ToRead s ∷ ToOptimistic s ∷
    WriteLock ∷ Validate s ∷ UnlockWrite s ∷ TryWrite ∷ Unlock s ∷
    TryRead ∷ TryUnlockRead ∷ TryUnlockWrite ∷ UnlockWrite s ∷ []
