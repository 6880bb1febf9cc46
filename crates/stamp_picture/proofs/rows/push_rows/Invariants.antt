use Rattle.std.proofs.Common.{◌≡◌, ◌++◌, map, take, ℕ}
use Rattle.std.specs.List.{concat}
use Rattle.stamp_picture.specs.Rows.{cut_text, row_text}
use Rattle.stamp_picture.proofs.rows.push_rows.Given as goal

abbrev pub invariant-loop-position : goal.invariant-loop-position
invariant-loop-position l = l.text.items ≡
    l.fn.text.items ++ concat (map (λ (t : ℕ). cut_text l.width (row_text l.picture t))
    (take l.position-index l.positions))
