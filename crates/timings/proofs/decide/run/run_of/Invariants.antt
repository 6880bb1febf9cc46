use Rattle.timings.proofs.Running.{Running}
use Rattle.timings.proofs.decide.run.run_of.Given as goal

abbrev pub invariant-loop-i : goal.invariant-loop-i
invariant-loop-i l = Running l.limits l.i l.run
