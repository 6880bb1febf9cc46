use Rattle.std.proofs.Common.{List, Option, length, ◌-◌}
use Rattle.stamp_sets.specs.declared.open_call.OpenCall.{OpenCall}
use Rattle.stamp_sets.specs.Judged.{guarded}
use Rattle.stamp_sets.specs.inner.Covering.{AreKinds, IsThinned}
use Rattle.stamp_sets.proofs.covering.drop_covered.Given as goal

abbrev pub invariant-loop-at : goal.invariant-loop-at
invariant-loop-at l = (table : List (Option OpenCall)) → AreKinds guarded table l.kinds →
    IsThinned guarded table l.initial.positions.items l.positions.items

abbrev pub decreases-loop-at : goal.decreases-loop-at
decreases-loop-at l = length l.positions.items - l.at
