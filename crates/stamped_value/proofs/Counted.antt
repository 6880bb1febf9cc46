-- How many elements of a list pass a test, once one of them is replaced or one more comes; and that two elements
-- that pass it are counted as two.
use Rattle.std.proofs.Common.{◌≡◌, ◌≢◌, ℕ, zero, suc, ◌+◌, ◌≤◌, ◌<◌, List, [], ◌∷◌, ◌++◌, length, get_or, set, refl}
use Rattle.std.proofs.Common.{sym, ap, ◌∙◌, arith, Bool, true}
use Rattle.std.specs.Prelude.{if◌then◌else◌, count_by}
use Rattle.std.proofs.lemmas.Bool.{cond-true}
use Rattle.std.proofs.lemmas.List.Sums.{sum_by-append, sum_by-cons, sum_by-set, sum_by_push, get_or-le-sum_by}
use mathlib.Core.Option.{some, some-injective, some-ne-none}
use lib.ListN.{get_elem?}

module _ {A : Type 0} where
  -- what is found at an index is read there
  pub found : (xs : List A) (i : ℕ) (x : A) → get_elem? xs i ≡ some x → (i < length xs) × (get_or xs i x ≡ x)
  found [] i x e = absurd (some-ne-none x (sym e))
  found (y ∷ xs) zero x e = (omega arith, some-injective y x e)
  found (y ∷ xs) (suc i) x e = let t = found xs i x e in (omega arith, t.1)

module _ {A : Type 0} (f : A → Bool) where
  abbrev one_of : A → ℕ
  one_of x = if f x then 1 else 0

  pub count_by-set : (xs : List A) (i : ℕ) (x y : A) → get_elem? xs i ≡ some x →
      count_by f (set xs i y) + (if f x then 1 else 0) ≡ count_by f xs + (if f y then 1 else 0)
  count_by-set xs i x y e = let t = found xs i x e in rw t.1 at (sum_by-set one_of xs i y x t.0)

  pub count_by-append : (xs ys : List A) → count_by f (xs ++ ys) ≡ count_by f xs + count_by f ys
  count_by-append xs ys = sum_by-append one_of xs ys

  pub count_by-one : (xs : List A) (y : A) → count_by f (xs ++ y ∷ []) ≡ count_by f xs + (if f y then 1 else 0)
  count_by-one xs y = sum_by_push one_of xs y

  -- the first element that passes counts one
  first_counted : (x : A) (xs : List A) → f x ≡ true → count_by f (x ∷ xs) ≡ 1 + count_by f xs
  first_counted x xs p = sum_by-cons one_of x xs ∙ ap (λ (n : ℕ). n + count_by f xs) (cond-true (f x) 1 0 p)

  rest_counted : (x : A) (xs : List A) → count_by f xs ≤ count_by f (x ∷ xs)
  rest_counted x xs = omega (arith, sum_by-cons one_of x xs)

  pub one_counted : (xs : List A) (i : ℕ) (x : A) → get_elem? xs i ≡ some x → f x ≡ true → 1 ≤ count_by f xs
  one_counted xs i x e p =
      let t = found xs i x e in
      let one : one_of (get_or xs i x) ≡ 1 = cond-true (f (get_or xs i x)) 1 0 (ap f t.1 ∙ p) in
      omega (arith, get_or-le-sum_by one_of xs i x t.0)

  pub two_counted : (xs : List A) (i k : ℕ) (x y : A) → get_elem? xs i ≡ some x → get_elem? xs k ≡ some y →
      i ≢ k → f x ≡ true → f y ≡ true → 2 ≤ count_by f xs
  two_counted [] i k x y a b ne p q = absurd (some-ne-none x (sym a))
  two_counted (z ∷ xs) zero zero x y a b ne p q = absurd (ne refl)
  two_counted (z ∷ xs) zero (suc k) x y a b ne p q =
      omega (arith, first_counted z xs (ap f (some-injective z x a) ∙ p), one_counted xs k y b q)
  two_counted (z ∷ xs) (suc i) zero x y a b ne p q =
      omega (arith, first_counted z xs (ap f (some-injective z y b) ∙ q), one_counted xs i x a p)
  two_counted (z ∷ xs) (suc i) (suc k) x y a b ne p q =
      omega (arith, rest_counted z xs, two_counted xs i k x y a b (λ e. ne (ap suc e)) p q)
