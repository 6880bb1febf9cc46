-- A number is a stamp of one kind alone, in either layout.
use Rattle.std.proofs.Common.{◌≡◌, ℕ, ◌∙◌, refl, ap, arith, inl, inr}
use Rattle.stamp_core.specs.Layout.{Units, narrow, units_of}
use Rattle.stamp_core.specs.Stamp.{IsReadStamp}
use Rattle.stamp_core.specs.StampKind.{HasKind}
use Rattle.stamp_core.specs.Respelling.{respelled, IsRespelled}
use Rattle.stamp_core.specs.declared.layout.Layout.{Layout}
use Rattle.stamp_core.specs.declared.layout.Layout.TheVariants.{One}
use Rattle.stamp_core.specs.declared.stamps.StampKind.{StampKind}
use Rattle.stamp_core.specs.declared.stamps.StampKind.TheVariants.{Write, Read, Optimistic, Neither}
use Rattle.stamp_core.proofs.TwoLayouts.{either_layout}
use Rattle.stamp_core.proofs.WordNumbers.{write_kind, read_kind, observed_kind}

nth_reader : (u : Units) (s k c : ℕ) → HasKind u s (Read k c) → IsReadStamp u k s
nth_reader u s k c x = record { nth = c; some = x.0; most = x.1; version = x.2; number = x.3 }

-- the kinds are told apart by `write_kind` and its fellows; of one kind the numbers are the same
pub one_kind : (layout : Layout) (s : ℕ) (a b : StampKind) → HasKind (units_of layout) s a →
    HasKind (units_of layout) s b → a ≡ b
one_kind l s (Write k) (Write j) x y = ap Write (grind (arith, either_layout l, x.number, y.number))
one_kind l s (Write k) b x y = let e = (write_kind l s k b y x).1 in cc
one_kind l s (Read k c) (Read j d) x y =
    let g : k ≡ j = grind (arith, either_layout l, x, y) in
    let h : c ≡ d = grind (arith, either_layout l, x, y) in
    ap (λ (n : ℕ). Read n c) g ∙ ap (Read j) h
one_kind l s (Read k c) b x y = let e = (read_kind l s k b y (nth_reader _ s k c x)).2 in cc
one_kind l s (Optimistic k) (Optimistic j) x y = ap Optimistic (grind (arith, either_layout l, x.number, y.number))
one_kind l s (Optimistic k) b x y = let e = (observed_kind l s k b y x).1 in cc
one_kind l s Neither (Write j) x y = absurd (x j (inl y))
one_kind l s Neither (Read j c) x y = absurd (x j (inr (inl (nth_reader _ s j c y))))
one_kind l s Neither (Optimistic j) x y = absurd (x j (inr (inr y)))
one_kind l s Neither Neither x y = refl

pub respelled_of : (s t : ℕ) (kind : StampKind) → HasKind narrow s kind → t ≡ respelled kind → IsRespelled s t
unfolding units_of
respelled_of s t kind has e = λ other h. e ∙ ap respelled (one_kind One s kind other has h)
