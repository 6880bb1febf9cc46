use Rattle.stamp_core.specs.declared.reply.Reply.TheVariants.{Stamp}
use Rattle.stamped_lock.specs.Timed.{TriedAtLast}
use Rattle.stamped_lock.proofs.handle.LockHandle.try_for.Given as goal

abbrev pub invariant-loop : goal.invariant-loop
invariant-loop g l = TriedAtLast l.fn.call (Stamp 0) l.fn.self l.self
