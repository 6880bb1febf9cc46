use Rattle.std.proofs.Common.{◌≡◌, ◌++◌}
use Rattle.stamp_picture.specs.Rows.{lanes_text}
use Rattle.stamp_picture.proofs.rows.push_lanes.Given as goal

abbrev pub invariant-loop-lane : goal.invariant-loop-lane
invariant-loop-lane l = l.row.items ≡ l.fn.row.items ++ lanes_text l.picture.verdict l.position l.there l.lane
