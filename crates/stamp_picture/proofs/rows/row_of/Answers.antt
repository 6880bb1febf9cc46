use Rattle.std.proofs.Common.{◌∙◌, ◌++◌, List, ℕ, ap, map}
use Rattle.std.specs.List.{concat}
use Rattle.stamp_picture.specs.declared.bar.Bar.{Bar}
use Rattle.stamp_picture.specs.Frames.{lanes_in}
use Rattle.stamp_picture.specs.Rows.{bars_at, lanes_text, position_text, told_text, left_text, row_text}
use Rattle.stamp_picture.proofs.Appending.{onto}
use Rattle.stamp_picture.proofs.rows.row_of.Goals as goal

pub returns : goal.returns
unfolding row_text
returns c =
    let p = c.args.picture.now in
    let t = c.args.position in
    let there = bars_at t p.bars in
    let lanes = lanes_text p.verdict t there (lanes_in p.bars) in
    let told = concat (map (told_text t) there) in
    let left = concat (map (left_text t) p.ribbon) in
    let is = c.in_ok-there.ensures ∙ ap (λ (bars : List Bar). bars_at t bars) c.bars.ensures in
    onto _ lanes (position_text t ++ (told ++ left)) (rw (c.deref.ensures.value ∙ is) at c.in_ok-push_lanes.ensures)
    (onto _ (position_text t) (told ++ left)
    (rw (c.deref-2.ensures ∙ c.in_ok-position_text.ensures) at c.in_ok-push_text.ensures)
    (onto _ told left (rw (c.deref-3.ensures.value ∙ is) at c.in_ok-push_told.ensures)
    (rw c.ribbon.ensures at c.in_ok-push_left.ensures)))
    ∙ ap (λ (text : List ℕ). text ++ (lanes ++ (position_text t ++ (told ++ left)))) c.new-row.ensures.items
