use Rattle.std.proofs.Common.{◌<◌, length}
use Rattle.refused_memory.proofs.refused_scripts.first_refusal.Given as goal

abbrev pub invariant-loop-made : goal.invariant-loop-made
invariant-loop-made l = 0 < length l.run.script.threads
