-- The token of a lock that is at a seat.
use Rattle.stamped_value.specs.ValueMade.{Seen}
use Rattle.stamped_value.specs.ValueLock.{ValueLock, ValueToken}

-- the token of this lock that is at this seat
abbrev pub token : {T : Type 0} → ValueLock T → Seen T → ValueToken T
token lock me = record { lock = lock; me = me }
