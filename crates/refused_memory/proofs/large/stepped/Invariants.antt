use Rattle.std.proofs.Common.{◌≡◌}
use Rattle.refused_memory.proofs.large.stepped.Given as goal

abbrev pub invariant-loop-thread : goal.invariant-loop-thread
invariant-loop-thread l = l.run.script ≡ l.script
