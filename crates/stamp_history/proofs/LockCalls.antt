-- Lists of calls of the lock.
use Rattle.std.proofs.Common.{◌≡◌, ◌∙◌, ℕ, ◌<◌, List, length, get_or, map, sym, arith}
use Rattle.std.proofs.lemmas.List.{get_or-map, length-map}
use Rattle.stamp_core.specs.declared.call.Call.{Call}
use Rattle.stamp_core.specs.LockCall.{call_as}
use Rattle.stamp_core.specs.declared.lock_call.LockCall.{LockCall}

-- the call at an index, which is that of the lock's call there
pub record CallAt (xs : List LockCall) (i : ℕ) (call : Call) : Type 0 where
  pub within : i < length (map call_as xs)
  pub at : call ≡ get_or (map call_as xs) i call

pub call_at_index : (xs : List LockCall) (i : ℕ) (d : LockCall) (call : Call) → i < length xs → call ≡
    call_as (get_or xs i d) → CallAt xs i call
call_at_index xs i d call lt is = record {
  within = omega (arith, length-map xs call_as);
  at = is ∙ sym (get_or-map call_as xs i d call lt);
}
