-- A call by a handle or a guard.
use Rattle.std.specs.Prelude.{◌≡◌}
use Rattle.stamp_core.specs.declared.call.Call.{Call}
use Rattle.stamp_core.specs.declared.reply.Reply.{Reply}
use Rattle.stamp_machines.specs.declared.machine.Turn.TheVariants.{Done}
use Rattle.stamp_threads.specs.GoesAsMachine.{GoesAsMachine}
use Rattle.stamped_value.specs.ValueMade.{ValueMade}
use Rattle.stamped_value.specs.ValueLock.{ValueToken}

-- The call was made on the token's lock, of which the other token is too, and its accesses went as its machine's
pub record Calls {T : Type 0} (call : Call) (reply : Reply) (a b : ValueToken T) : Type 0 where
  pub lock : b.lock ≡ a.lock
  pub made : ValueMade a.lock.limits call reply a.me b.me
  pub machine : GoesAsMachine a.lock.limits call a.me.0.pass b.me.0.pass (Done reply)
