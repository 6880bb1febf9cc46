use Rattle.std.proofs.Common.{◌≡◌, ◌++◌, map, take}
use Rattle.std.specs.List.{concat}
use Rattle.stamp_picture.specs.Rows.{left_text}
use Rattle.stamp_picture.proofs.rows.push_left.Given as goal

abbrev pub invariant-loop-moment : goal.invariant-loop-moment
invariant-loop-moment l = l.row.items ≡
    l.fn.row.items ++ concat (map (left_text l.position) (take l.moment-index l.ribbon))
