use Rattle.std.specs.Prelude.{◌<◌, take}
use Rattle.stamp_explain.specs.Points.{IsLastTold}
use Rattle.stamp_explain.proofs.points.end_of.Given as goal

abbrev pub invariant-loop-entry : goal.invariant-loop-entry
invariant-loop-entry l = IsLastTold (take l.entry-index l.entries) l.end × (l.end < 288230376151711744)
