-- What is written is well-formed.
use Rattle.std.proofs.Common.{◌≡◌, ℕ, List, [], ◌∷◌, ◌++◌, Bool, true, false, refl}
use Rattle.std.specs.Prelude.{◌==◌, codes, string_bytes, if◌then◌else◌}
use Rattle.stamp_picture.specs.declared.sheet.LabelledBox.{LabelledBox}
use Rattle.stamp_picture.specs.declared.sheet.Sheet.{Sheet}
use Rattle.stamp_picture.specs.Markup.{is_plain, IsText, escape, escaped, element_text, IsContent}
use Rattle.stamp_picture.specs.Markup.IsText.{nothing, plain, less, greater, ampersand, quote}
use Rattle.stamp_picture.specs.Markup.IsContent.{text, element, both}
use Rattle.stamp_picture.specs.Svg.{box_attributes, rect_text, line_text, fitted, inside_text, box_text, boxes_text}
use Rattle.stamp_picture.specs.Svg.{sheet_text, root_attributes, svg_text}
use Rattle.stamp_picture.specs.SvgLaws.{SvgIsWellFormed}

either_text : (b : Bool) (x y rest : List ℕ) → IsText (x ++ rest) → IsText (y ++ rest) →
    IsText ((if b then x else y) ++ rest)
either_text true x y rest left right = left
either_text false x y rest left right = right

last_text : (b : Bool) (c : ℕ) (rest : List ℕ) → is_plain c ≡ b → IsText rest →
    IsText ((if b then c ∷ [] else codes "?") ++ rest)
last_text true c rest is all = plain c rest is all
last_text false c rest is all = plain 63 rest refl all

one_text : (c : ℕ) (rest : List ℕ) → IsText rest → IsText (escape c ++ rest)
one_text c rest all =
    either_text (c == 60) (codes "&lt;") _ rest (less rest all)
    (either_text (c == 62) (codes "&gt;") _ rest (greater rest all)
    (either_text (c == 38) (codes "&amp;") _ rest (ampersand rest all)
    (either_text (c == 34) (codes "&quot;") _ rest (quote rest all) (last_text (is_plain c) c rest refl all))))

pub escaped_text : (t : List ℕ) → IsText (escaped t)
escaped_text [] = nothing
escaped_text (c ∷ cs) = one_text c (escaped cs) (escaped_text cs)

escaped_content : (t : List ℕ) → IsContent (escaped t)
escaped_content t = text (escaped t) (escaped_text t)

line_content : (y line : List ℕ) → IsContent (line_text y line)
line_content y line = element (codes "text") ((codes "x", codes "4") ∷ (codes "y", y) ∷ []) (escaped line)
    (refl, refl) (escaped_content line)

rect_content : IsContent rect_text
rect_content = element (codes "rect") ((codes "width", codes "100%") ∷ (codes "height", codes "100%") ∷ []) []
    (refl, refl) (text [] nothing)

box_content : (s : LabelledBox) → IsContent (box_text s)
unfolding box_text
box_content s = element (codes "svg") (box_attributes s) (inside_text s) (refl, refl)
    (both _ _ (element (codes "title") [] (escaped (string_bytes s.title)) (refl, refl)
    (escaped_content (string_bytes s.title)))
    (both _ _ rect_content (both _ _ (line_content (codes "15") (fitted s.frame.width (string_bytes s.upper)))
    (line_content (codes "29") (fitted s.frame.width (string_bytes s.lower))))))

boxes_content : (boxes : List LabelledBox) → IsContent (boxes_text boxes)
boxes_content [] = text [] nothing
boxes_content (s ∷ boxes) = both (box_text s) (boxes_text boxes) (box_content s) (boxes_content boxes)

sheet_content : (s : Sheet) → IsContent (sheet_text s)
sheet_content s =
    both _ _ (boxes_content s.lanes.items) (both _ _ (boxes_content s.axis.items)
    (both _ _ (boxes_content s.ribbon.items) (both _ _ (boxes_content s.content.items)
    (both _ _ (boxes_content s.bars.items) (both _ _ (boxes_content s.points.items)
    (boxes_content s.notes.items))))))

pub svg_is_well_formed : SvgIsWellFormed
unfolding svg_text
svg_is_well_formed style s = record {
  name = codes "svg";
  attributes = root_attributes s;
  inside = element_text (codes "style") [] (escaped style) ++ sheet_text s;
  names = (refl, refl);
  content = both _ _ (element (codes "style") [] (escaped style) (refl, refl) (escaped_content style))
      (sheet_content s);
  is = refl;
}
