-- Nothing is drawn outside the window.
use Rattle.std.proofs.Common.{◌≡◌, ◌≤◌, ℕ, ◌+◌, List, [], ◌∷◌, true, sym, subst, arith}
use Rattle.std.specs.List.{All}
use Rattle.std.proofs.lemmas.List.Elements.{All-nil}
use Rattle.stamp_core.specs.declared.entry.Entry.{Entry}
use Rattle.stamp_picture.specs.declared.bar.Bar.{Bar}
use Rattle.stamp_picture.specs.declared.window.Window.{Window}
use Rattle.stamp_picture.specs.Window.{meets, contains}
use Rattle.stamp_picture.specs.Bars.{bar_of, bars_from, IsInside}
use Rattle.stamp_picture.specs.PictureLaws.{WindowIsKept}
use Rattle.stamp_picture.proofs.EachInTurn.{if_all}

within : (w : Window) (point : ℕ) → contains w point ≡ true → (w.from ≤ point) × (point ≤ w.to)
within w point is = (grind (arith, is), grind (arith, is))

inside : (w : Window) (n : ℕ) (e : Entry) → w.from ≤ w.to → IsInside w (bar_of w n e)
inside w n e some = record {
  begins = omega arith;
  goes_on = omega arith;
  ends = omega (arith, some);
  point = λ is. within w e.point is;
}

all_inside : (w : Window) (n : ℕ) (xs : List Entry) → w.from ≤ w.to → All (IsInside w) (bars_from w n xs)
all_inside w n [] some = All-nil (IsInside w)
all_inside w n (x ∷ xs) some = if_all (IsInside w) (meets w x) (bar_of w n x) (bars_from w (n + 1) xs)
    (inside w n x some) (all_inside w (n + 1) xs some)

pub window_is_kept : WindowIsKept
window_is_kept r w p is some =
    subst (λ (bars : List Bar). All (IsInside w) bars) (sym is.bars) (all_inside w 0 _ some)
