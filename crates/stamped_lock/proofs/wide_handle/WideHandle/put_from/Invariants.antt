use Rattle.stamped_lock.specs.RecordCalls.{Tried}
use Rattle.stamped_lock.proofs.wide_handle.WideHandle.put_from.Given as goal

abbrev pub invariant-loop : goal.invariant-loop
invariant-loop g l = Tried l.initial.self l.self
