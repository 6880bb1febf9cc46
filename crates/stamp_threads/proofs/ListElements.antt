-- Elements of short lists, and of a list with one more.
use Rattle.std.proofs.Common.{◌≡◌, ◌⊎◌, ℕ, zero, suc, ◌<◌, List, [], ◌∷◌, ◌++◌, length, refl, ap}
use Rattle.std.proofs.Common.{sym, subst, ⊎_elim, inl, inr, arith}
use mathlib.Core.Option.{some, some-injective, some-ne-none}
use lib.ListN.{get_elem?}

pub at_end : {A : Type 0} (l : List A) (a b : A) (j : ℕ) → get_elem? (l ++ a ∷ []) j ≡ some b →
    (get_elem? l j ≡ some b) ⊎ ((j ≡ length l) × (a ≡ b))
at_end [] a b zero e = inr (refl, some-injective a b e)
at_end [] a b (suc j) e = absurd (some-ne-none b (sym e))
at_end (x ∷ xs) a b zero e = inl e
at_end (x ∷ xs) a b (suc j) e = ⊎_elim inl (λ t. inr (ap suc t.0, t.1)) (at_end xs a b j e)

pub before_end : {A : Type 0} (l : List A) (a b : A) (j : ℕ) → get_elem? l j ≡ some b →
    get_elem? (l ++ a ∷ []) j ≡ some b
before_end [] a b j e = absurd (some-ne-none b (sym e))
before_end (x ∷ xs) a b zero e = e
before_end (x ∷ xs) a b (suc j) e = before_end xs a b j e

pub only_one : {V : Type 0} (P : ℕ → V → Type 0) (v : V) → P 0 v → (k : ℕ) (w : V) →
    get_elem? (v ∷ []) k ≡ some w → P k w
only_one P v here zero w e = subst (P 0) (some-injective v w e) here
only_one P v here (suc k) w e = absurd (some-ne-none w (sym e))

pub two_of : {V : Type 0} (P : ℕ → V → Type 0) (v u : V) → P 0 v → P 1 u → (k : ℕ) (w : V) →
    get_elem? (v ∷ u ∷ []) k ≡ some w → P k w
two_of P v u a b zero w e = subst (P 0) (some-injective v w e) a
two_of P v u a b (suc zero) w e = subst (P 1) (some-injective u w e) b
two_of P v u a b (suc (suc k)) w e = absurd (some-ne-none w (sym e))

pub in_range : {A : Type 0} (l : List A) (a : A) (j : ℕ) → get_elem? l j ≡ some a → j < length l
in_range [] a j e = absurd (some-ne-none a (sym e))
in_range (x ∷ xs) a zero e = omega arith
in_range (x ∷ xs) a (suc j) e = let h = in_range xs a j e in omega arith
