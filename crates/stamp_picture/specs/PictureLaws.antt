-- The laws of pictures, over the definitions alone.
use Rattle.std.specs.Prelude.{ℕ, ◌≡◌, ◌≤◌, length}
use Rattle.std.specs.List.{All}
use Rattle.stamp_core.specs.Record.{Recorded}
use Rattle.stamp_picture.specs.declared.window.Window.{Window}
use Rattle.stamp_picture.specs.Bars.{IsInside}
use Rattle.stamp_picture.specs.Picture.{Drawn, IsPicture, IsCrowded}

-- Of a history there is at most one picture in a window.
abbrev pub OnePicture : Type 0
OnePicture = (r : Recorded) (w : Window) (a b : Drawn) → IsPicture r w a → IsPicture r w b → a ≡ b

-- Nothing is drawn outside a window that doesn't end before it begins.
abbrev pub WindowIsKept : Type 0
WindowIsKept = (r : Recorded) (w : Window) (p : Drawn) → IsPicture r w p → w.from ≤ w.to → All (IsInside w) p.bars

-- Where the bars are too many, a picture would have as many.
abbrev pub CrowdedIsCounted : Type 0
CrowdedIsCounted = (r : Recorded) (w : Window) (n : ℕ) (p : Drawn) → IsCrowded r w n → IsPicture r w p →
    length p.bars ≡ n
