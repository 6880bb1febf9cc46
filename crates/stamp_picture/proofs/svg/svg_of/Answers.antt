use Rattle.std.proofs.Common.{◌≡◌, ◌∙◌, ◌++◌, ◌∷◌, [], sym, ap, codes, List, ℕ, append_assoc, subst}
use Rattle.std.specs.Prelude.{decimal}
use Rattle.stamp_picture.specs.Markup.{attribute_text, element_text, escaped, IsDocument}
use Rattle.stamp_picture.specs.Svg.{view_text, sheet_text, svg_text}
use Rattle.stamp_picture.proofs.Appending.{onto, of_four}
use Rattle.stamp_picture.proofs.WellFormed.{svg_is_well_formed}
use Rattle.stamp_picture.proofs.svg.svg_of.Goals as goal

closed : (tag style sheet : List ℕ) →
    codes "<svg" ++ (tag ++ (codes ">" ++ (style ++ (sheet ++ codes "</svg>\n")))) ≡
    (codes "<svg" ++ (tag ++ (codes ">" ++ ((style ++ sheet) ++ codes "</svg>")))) ++ 10 ∷ []
closed tag style sheet = simp append_assoc

pub returns-clause-text : goal.returns-clause-text
unfolding svg_text
returns-clause-text c =
    let s = c.args.sheet.now in
    let xmlns = attribute_text (codes "xmlns", codes "http://www.w3.org/2000/svg") in
    let view = attribute_text (codes "viewBox", view_text s.width s.height) in
    let width = attribute_text (codes "width", decimal s.width) in
    let height = attribute_text (codes "height", decimal s.height) in
    let style = element_text (codes "style") [] (escaped c.args.style.now) in
    let sheet = sheet_text s in
    let end = codes "</svg>\n" in
    let rest = codes ">" ++ (style ++ (sheet ++ end)) in
    let whole = codes "<svg" ++ (xmlns ++ (view ++ (width ++ (height ++ rest)))) in
    onto _ (codes "<svg") (xmlns ++ (view ++ (width ++ (height ++ rest)))) c.in_ok-push_text.ensures
    (onto _ xmlns (view ++ (width ++ (height ++ rest))) c.in_ok-push_attribute.ensures
    (onto _ view (width ++ (height ++ rest))
    (rw (c.deref.ensures ∙ c.in_ok-view.ensures) at c.in_ok-push_attribute-2.ensures)
    (onto _ width (height ++ rest) c.in_ok-push_number.ensures
    (onto _ height rest c.in_ok-push_number-2.ensures
    (onto _ (codes ">") (style ++ (sheet ++ end)) c.in_ok-push_text-2.ensures
    (onto _ style (sheet ++ end) c.in_ok-push_plain.ensures
    (onto _ sheet end c.in_ok-push_sheet.ensures c.in_ok-push_text-3.ensures)))))))
    ∙ ap (λ (text : List ℕ). text ++ whole) c.new-text.ensures.items
    ∙ ap (λ (text : List ℕ). codes "<svg" ++ text) (sym (of_four xmlns view width height rest))
    ∙ closed (xmlns ++ (view ++ (width ++ (height ++ [])))) style sheet

pub returns-clause-document : goal.returns-clause-document
returns-clause-document c =
    subst IsDocument (sym (returns-clause-text c)) (svg_is_well_formed c.args.style.now c.args.sheet.now)
