use Rattle.std.proofs.Common.{◌≡◌}
use Rattle.refused_memory.proofs.worked.are_alike.Given as goal

abbrev pub invariant-loop-thread : goal.invariant-loop-thread
invariant-loop-thread l = (l.again.script ≡ l.script) × (l.smooth.script ≡ l.script)
