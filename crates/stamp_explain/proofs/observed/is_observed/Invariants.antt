use Rattle.stamp_explain.proofs.Telling.{AreSoundBelow}
use Rattle.stamp_explain.proofs.observed.is_observed.Given as goal

abbrev pub invariant-loop-i : goal.invariant-loop-i
invariant-loop-i l = AreSoundBelow l.observed l.i
