use Rattle.std.proofs.Common.{◌≡◌, ◌++◌, map, take}
use Rattle.std.specs.List.{concat}
use Rattle.stamp_picture.specs.Rows.{told_text}
use Rattle.stamp_picture.proofs.rows.push_told.Given as goal

abbrev pub invariant-loop-bar : goal.invariant-loop-bar
invariant-loop-bar l = l.row.items ≡ l.fn.row.items ++ concat (map (told_text l.position) (take l.bar-index l.there))
