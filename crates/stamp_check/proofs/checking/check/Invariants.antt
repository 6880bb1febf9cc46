use Rattle.std.proofs.Common.{take}
use Rattle.stamp_check.specs.inner.Walk.{IsWalk}
use Rattle.stamp_check.proofs.checking.check.Given as goal

abbrev pub invariant-loop-i : goal.invariant-loop-i
invariant-loop-i l = IsWalk l.limits l.history.width (take l.i l.entries) l.walk
