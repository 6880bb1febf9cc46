-- The laws of the SVG, over the definitions alone.
use Rattle.std.specs.Prelude.{ℕ, List}
use Rattle.stamp_picture.specs.declared.sheet.Sheet.{Sheet}
use Rattle.stamp_picture.specs.Markup.{IsDocument}
use Rattle.stamp_picture.specs.Svg.{svg_text}

-- The SVG of a sheet is well-formed, whatever the sheet says and whatever the style is.
abbrev pub SvgIsWellFormed : Type 0
SvgIsWellFormed = (style : List ℕ) (sheet : Sheet) → IsDocument (svg_text style sheet)
