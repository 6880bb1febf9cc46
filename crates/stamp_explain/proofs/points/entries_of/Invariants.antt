use Rattle.stamp_explain.specs.inner.Points.{IsLinearizationOf}
use Rattle.stamp_explain.proofs.MakingEntries.{MakesEntries}
use Rattle.stamp_explain.proofs.points.entries_of.Given as goal

abbrev pub invariant-loop-call : goal.invariant-loop-call
invariant-loop-call l = (o : IsLinearizationOf l.observed l.order) →
    MakesEntries o.order l.end l.call-index l.made.items l.next.position l.next.earlier
