use Rattle.std.proofs.Common.{◌≡◌, length}
use Rattle.stamped_lock.specs.RecordCalls.{Tried}
use Rattle.stamped_lock.proofs.wide_handle.WideHandle.get_into.Given as goal

abbrev pub invariant-loop : goal.invariant-loop
invariant-loop g l = (length l.into ≡ length l.initial.into) × Tried l.initial.self l.self
