-- The text of a sheet as SVG.
use Rattle.std.specs.Prelude.{ℕ, ◌-◌, ◌/◌, List, [], ◌∷◌, ◌++◌, map, codes, decimal, string_bytes}
use Rattle.std.specs.List.{concat}
use Rattle.stamp_picture.specs.declared.frames.Class.{Class}
use Rattle.stamp_picture.specs.declared.frames.Class.TheVariants.{Free, Reading, Writing, Content}
use Rattle.stamp_picture.specs.declared.frames.Class.TheVariants.{Lane, Axis, Bar, Bad, Point, Note}
use Rattle.stamp_picture.specs.declared.sheet.LabelledBox.{LabelledBox}
use Rattle.stamp_picture.specs.declared.sheet.Sheet.{Sheet}
use Rattle.stamp_picture.specs.Labels.{shortened}
use Rattle.stamp_picture.specs.Markup.{Attribute, escaped, element_text}

abbrev pub class_name : Class → List ℕ
class_name Free = codes "free"
class_name Reading = codes "reading"
class_name Writing = codes "writing"
class_name Content = codes "content"
class_name Lane = codes "lane"
class_name Axis = codes "axis"
class_name Bar = codes "bar"
class_name Bad = codes "bad"
class_name Point = codes "mark"
class_name Note = codes "note"

abbrev pub box_attributes : LabelledBox → List Attribute
box_attributes s =
    (codes "class", class_name s.frame.class) ∷ (codes "x", decimal s.frame.x) ∷ (codes "y", decimal s.frame.y) ∷
    (codes "width", decimal s.frame.width) ∷ (codes "height", decimal s.frame.height) ∷ []

-- the box fills its element
abbrev pub rect_text : List ℕ
rect_text = element_text (codes "rect") ((codes "width", codes "100%") ∷ (codes "height", codes "100%") ∷ []) []

abbrev pub line_text : List ℕ → List ℕ → List ℕ
line_text y line = element_text (codes "text") ((codes "x", codes "4") ∷ (codes "y", y) ∷ []) (escaped line)

-- what of a line has room in a box of this width: a character takes less than 7 pixels
abbrev pub fitted : ℕ → List ℕ → List ℕ
fitted width line = shortened ((width - 4) / 7) line

-- a title, a box and two lines
abbrev pub inside_text : LabelledBox → List ℕ
inside_text s =
    element_text (codes "title") [] (escaped (string_bytes s.title)) ++ (rect_text ++
    (line_text (codes "15") (fitted s.frame.width (string_bytes s.upper)) ++
    line_text (codes "29") (fitted s.frame.width (string_bytes s.lower))))

unfoldable pub box_text : LabelledBox → List ℕ
box_text s = element_text (codes "svg") (box_attributes s) (inside_text s)

abbrev pub boxes_text : List LabelledBox → List ℕ
boxes_text boxes = concat (map box_text boxes)

abbrev pub sheet_text : Sheet → List ℕ
sheet_text s =
    boxes_text s.lanes.items ++ (boxes_text s.axis.items ++ (boxes_text s.ribbon.items ++
    (boxes_text s.content.items ++ (boxes_text s.bars.items ++ (boxes_text s.points.items ++
    boxes_text s.notes.items)))))

abbrev pub view_text : ℕ → ℕ → List ℕ
view_text width height = codes "0 0 " ++ (decimal width ++ (codes " " ++ decimal height))

abbrev pub root_attributes : Sheet → List Attribute
root_attributes s =
    (codes "xmlns", codes "http://www.w3.org/2000/svg") ∷
    (codes "viewBox", view_text s.width s.height) ∷
    (codes "width", decimal s.width) ∷ (codes "height", decimal s.height) ∷ []

-- the sheet under a style
unfoldable pub svg_text : List ℕ → Sheet → List ℕ
svg_text style s = element_text (codes "svg") (root_attributes s)
    (element_text (codes "style") [] (escaped style) ++ sheet_text s) ++ 10 ∷ []
