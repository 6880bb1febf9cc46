-- Which calls never lose, and which only ask.
use Rattle.stamp_core.specs.declared.call.Call.{Call}
use Rattle.stamp_core.specs.declared.call.Call.TheVariants.{Optimistic, Validate, UnlockWrite}
use Rattle.stamp_core.specs.declared.call.Call.TheVariants.{IsWriteLocked, IsReadLocked, ReadCount}

-- the calls that never lose an exchange: those that change nothing, and the release of write mode
-- by its stamp
abbrev pub NeverLoses : Call → Type 0
NeverLoses Optimistic = Unit {0}
NeverLoses (Validate s) = Unit {0}
NeverLoses (UnlockWrite s) = Unit {0}
NeverLoses IsWriteLocked = Unit {0}
NeverLoses IsReadLocked = Unit {0}
NeverLoses ReadCount = Unit {0}
NeverLoses _ = ⊥

-- the calls that change nothing: they only ask
abbrev pub AsksOnly : Call → Type 0
AsksOnly Optimistic = Unit {0}
AsksOnly (Validate s) = Unit {0}
AsksOnly IsWriteLocked = Unit {0}
AsksOnly IsReadLocked = Unit {0}
AsksOnly ReadCount = Unit {0}
AsksOnly _ = ⊥
