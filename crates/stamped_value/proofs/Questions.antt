-- A call that only asks is made by one load.
use Rattle.std.proofs.Common.{refl}
use Rattle.std.specs.Prelude.{IsTrue}
use Rattle.stamp_core.specs.Call.{is_lock_call}
use Rattle.stamp_core.specs.declared.call.Call.{Call}
use Rattle.stamp_core.specs.declared.call.Call.TheVariants.{Optimistic, Validate, IsWriteLocked, IsReadLocked}
use Rattle.stamp_core.specs.declared.call.Call.TheVariants.{ReadCount}
use Rattle.stamped_value.specs.declared.view.Held.{Held}
use Rattle.stamped_value.specs.inner.Held.{MayCall}
use Rattle.stamped_value.specs.inner.Questions.{IsQuestion}

pub asks_lock : (call : Call) → IsQuestion call → IsTrue (is_lock_call call)
asks_lock Optimistic question = refl
asks_lock (Validate s) question = refl
asks_lock IsWriteLocked question = refl
asks_lock IsReadLocked question = refl
asks_lock ReadCount question = refl
asks_lock _ question = absurd question

-- whatever mode a seat holds
pub may_ask : (call : Call) (held : Held) → IsQuestion call → MayCall call held
may_ask Optimistic held question = tt
may_ask (Validate s) held question = tt
may_ask IsWriteLocked held question = tt
may_ask IsReadLocked held question = tt
may_ask ReadCount held question = tt
may_ask _ held question = absurd question
