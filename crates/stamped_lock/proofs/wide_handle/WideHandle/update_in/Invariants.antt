use Rattle.std.proofs.Common.{◌≡◌, length}
use Rattle.stamped_lock.specs.RecordCalls.{Tried}
use Rattle.stamped_lock.proofs.wide_handle.WideHandle.update_in.Given as goal

abbrev pub invariant-loop : goal.invariant-loop
invariant-loop g l = (length l.old ≡ length l.initial.old) × (length l.new ≡ length l.initial.new)
    × Tried l.initial.self l.self
