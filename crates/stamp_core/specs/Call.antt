-- Which calls are the lock's, and which suit a record.
use Rattle.std.specs.Prelude.{ℕ, ◌==◌, ◌&&◌, nat_lt, Bool, true, false, length}
use Rattle.stamp_core.specs.declared.call.Call.{Call}
use Rattle.stamp_core.specs.declared.call.Call.TheVariants.{Get, Put, PutIf}

-- the seventeen calls of the lock; the other three are the record's, which the lock knows nothing of
abbrev pub is_lock_call : Call → Bool
is_lock_call Get = false
is_lock_call (Put words) = false
is_lock_call (PutIf expected words) = false
is_lock_call _ = true

-- a call of the record needs a record, and words of its width
abbrev pub call_suits : ℕ → Call → Bool
call_suits width Get = nat_lt 0 width
call_suits width (Put words) = nat_lt 0 width && (length words == width)
call_suits width (PutIf expected words) = nat_lt 0 width && (length expected == width) && (length words == width)
call_suits width _ = true
