use Rattle.std.proofs.Common.{◌++◌, [], codes}
use Rattle.std.specs.Prelude.{string_bytes}
use Rattle.stamp_picture.specs.Markup.{escaped, element_text}
use Rattle.stamp_picture.specs.Svg.{rect_text, line_text, fitted}
use Rattle.stamp_picture.proofs.Appending.{onto}
use Rattle.stamp_picture.proofs.svg.push_inside.Goals as goal

pub returns : goal.returns
returns c =
    let s = c.args.labelled.now in
    let title = element_text (codes "title") [] (escaped (string_bytes s.title)) in
    let w = s.frame.width in
    let upper = line_text (codes "15") (fitted w (string_bytes s.upper)) in
    let lower = line_text (codes "29") (fitted w (string_bytes s.lower)) in
    onto _ title (rect_text ++ (upper ++ lower)) (rw c.deref.ensures at c.in_ok-push_plain.ensures)
    (onto _ rect_text (upper ++ lower) c.in_ok-push_rect.ensures
    (onto _ upper lower (rw c.deref-2.ensures at c.in_ok-push_line.ensures)
    (rw c.deref-3.ensures at c.in_ok-push_line-2.ensures)))
