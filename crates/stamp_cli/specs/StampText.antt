-- What a number is as a stamp, as a text.
use Rattle.std.specs.Prelude.{ℕ, ◌≡◌, List, ◌++◌, codes, decimal}
use Rattle.stamp_core.specs.Layout.{units_of}
use Rattle.stamp_core.specs.StampKind.{HasKind}
use Rattle.stamp_core.specs.declared.layout.Layout.{Layout}
use Rattle.stamp_core.specs.declared.stamps.StampKind.{StampKind}
use Rattle.stamp_core.specs.declared.stamps.StampKind.TheVariants.{Write, Read, Optimistic, Neither}

abbrev pub kind_text : StampKind → List ℕ
kind_text (Write k) = codes "write " ++ decimal k
kind_text (Read k c) = codes "read " ++ decimal k ++ codes " " ++ decimal c
kind_text (Optimistic k) = codes "optimistic " ++ decimal k
kind_text Neither = codes "none"

-- the text says what the number is as a stamp of the layout
pub record IsStampText (layout : Layout) (n : ℕ) (text : List ℕ) : Type 0 where
  pub kind : StampKind
  pub has : HasKind (units_of layout) n kind
  pub says : text ≡ kind_text kind
