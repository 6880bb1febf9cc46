use Rattle.std.proofs.Common.{◌∙◌, ◌++◌, sym, ap, codes, List, ℕ}
use Rattle.std.specs.Prelude.{decimal}
use Rattle.stamp_picture.specs.Markup.{attribute_text}
use Rattle.stamp_picture.specs.Svg.{class_name, inside_text, box_text}
use Rattle.stamp_picture.proofs.Appending.{onto, of_five}
use Rattle.stamp_picture.proofs.svg.push_box.Goals as goal

pub returns : goal.returns
unfolding box_text
returns c =
    let s = c.args.labelled.now in
    let class = attribute_text (codes "class", class_name s.frame.class) in
    let x = attribute_text (codes "x", decimal s.frame.x) in
    let y = attribute_text (codes "y", decimal s.frame.y) in
    let width = attribute_text (codes "width", decimal s.frame.width) in
    let height = attribute_text (codes "height", decimal s.frame.height) in
    let rest = codes ">" ++ (inside_text s ++ codes "</svg>") in
    onto _ (codes "<svg") (class ++ (x ++ (y ++ (width ++ (height ++ rest))))) c.in_ok-push_text.ensures
    (onto _ class (x ++ (y ++ (width ++ (height ++ rest))))
    (rw c.class_name.ensures at c.in_ok-push_attribute.ensures)
    (onto _ x (y ++ (width ++ (height ++ rest))) c.in_ok-push_number.ensures
    (onto _ y (width ++ (height ++ rest)) c.in_ok-push_number-2.ensures
    (onto _ width (height ++ rest) c.in_ok-push_number-3.ensures
    (onto _ height rest c.in_ok-push_number-4.ensures
    (onto _ (codes ">") (inside_text s ++ codes "</svg>") c.in_ok-push_text-2.ensures
    (onto _ (inside_text s) (codes "</svg>") c.in_ok-push_inside.ensures c.in_ok-push_text-3.ensures)))))))
    ∙ ap (λ (text : List ℕ). c.args.text.now.items ++ (codes "<svg" ++ text))
    (sym (of_five class x y width height rest))
