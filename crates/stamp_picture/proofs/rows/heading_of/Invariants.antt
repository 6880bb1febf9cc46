use Rattle.std.proofs.Common.{◌≡◌, map}
use Rattle.std.specs.List.{concat, range_with_len}
use Rattle.stamp_picture.specs.Rows.{number_text}
use Rattle.stamp_picture.proofs.rows.heading_of.Given as goal

abbrev pub invariant-loop-lane : goal.invariant-loop-lane
invariant-loop-lane l = l.heading.items ≡ concat (map number_text (range_with_len 0 l.lane))
