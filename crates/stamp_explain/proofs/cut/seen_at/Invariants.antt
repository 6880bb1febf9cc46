use Rattle.stamp_explain.proofs.Seeing.{SeenSoFar}
use Rattle.stamp_explain.proofs.cut.seen_at.Given as goal

abbrev pub invariant-loop-i : goal.invariant-loop-i
invariant-loop-i l = SeenSoFar l.last l.bound l.i l.observed.entries l.seen.items
