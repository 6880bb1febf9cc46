-- Lists by their first element.
use Rattle.std.proofs.Common.{◌≡◌, ◌⊎◌, ℕ, ◌<◌, zero, suc, List, [], ◌∷◌, ◌++◌, length, get_or, inl, inr, arith}
use Rattle.std.proofs.Common.{subst, ap, ◌∙◌, map, refl, Bool, true, false, Some}
use Rattle.std.proofs.lemmas.List.{get_or-map, get_or_append_left, length-append, length-map}
use Rattle.std.proofs.lemmas.List.Elements.{All-nil, All-cons, All-head, All-map, All-tail}
use Rattle.std.proofs.lemmas.Option.{none-some, same_Some, slice_get_within, get_or_from_slice_get}
use Rattle.std.specs.Prelude.{drop, filter, cond, slice_get}
use Rattle.std.specs.List.{All, AllPairs, AllZip, Contains}
use Rattle.stamp_explain.specs.declared.observed.Observation.{Observation}
use Rattle.std.proofs.Common.{◌≡◌, ◌⊎◌, ℕ, ◌+◌, ◌<◌}
use Rattle.std.proofs.Common.{arith}
use Rattle.std.proofs.Common.{◌≡◌, ℕ, List}
use Rattle.std.proofs.Common.{Some}
use Rattle.std.specs.Prelude.{slice_get}
use Rattle.std.specs.List.{Contains}
use Rattle.std.proofs.lemmas.Option.{slice_get_within}
use Rattle.std.proofs.lemmas.Option.{get_or_from_slice_get}

pub none_in_empty : {X : Type 0} (x : X) → ¬ Contains [] x
none_in_empty x (k, lt, e) = absurd (omega arith)

pub contains_cases : {X : Type 0} (x : X) (xs : List X) (y : X) → Contains (x ∷ xs) y → (x ≡ y) ⊎ Contains xs y
contains_cases x xs y (zero, lt, e) = inl e
contains_cases x xs y (suc k, lt, e) = let less : k < length xs = omega arith in inr (k, less, e)

pub contains_first : {X : Type 0} (x : X) (xs : List X) (y : X) → x ≡ y → Contains (x ∷ xs) y
contains_first x xs y e = let lt : 0 < length (x ∷ xs) = omega arith in (0, lt, e)

pub contains_rest : {X : Type 0} (x : X) (xs : List X) (y : X) → Contains xs y → Contains (x ∷ xs) y
contains_rest x xs y (k, lt, e) = let less : suc k < length (x ∷ xs) = omega arith in (suc k, less, e)

pub contains_map : {X Y : Type 0} (f : X → Y) (xs : List X) (x : X) → Contains xs x → Contains (map f xs) (f x)
contains_map f xs x (k, lt, e) =
    let less : k < length (map f xs) = omega (arith, length-map xs f) in
    (k, less, get_or-map f xs k x (f x) lt ∙ ap f e)

-- an element of a mapped list comes from one of the list
pub contains_from_map : {X Y : Type 0} (f : X → Y) (xs : List X) (y : Y) → Contains (map f xs) y →
    (x : X) × (Contains xs x × (f x ≡ y))
contains_from_map f [] y has = absurd (none_in_empty y has)
contains_from_map f (x ∷ xs) y has = elim (contains_cases (f x) (map f xs) y has) [
  | inl same ↦ (x, (contains_first x xs x refl, same))
  | inr rest ↦
      let found = contains_from_map f xs y rest in
      (found.0, (contains_rest x xs found.0 found.1.0, found.1.1))
]

pub contains_filter : {X : Type 0} (p : X → Bool) (xs : List X) (x : X) → Contains xs x → p x ≡ true →
    Contains (filter p xs) x
contains_filter p [] x has passes = has
contains_filter {X} p (y ∷ xs) x has passes = by (p y) refl (contains_cases y xs x has)
    (λ rest. contains_filter p xs x rest passes)
  where
    by : (b : Bool) → p y ≡ b → (y ≡ x) ⊎ Contains xs x → (Contains xs x → Contains (filter p xs) x) →
        Contains (cond b (y ∷ filter p xs) (filter p xs)) x
    by true is (inl same) again = contains_first y (filter p xs) x same
    by true is (inr rest) again = contains_rest y (filter p xs) x (again rest)
    by false is (inl same) again = absurd (cc)
    by false is (inr rest) again = again rest

pub filter_all : {X : Type 0} (p : X → Bool) (xs : List X) → All (λ (x : X). p x ≡ true) xs → filter p xs ≡ xs
filter_all p [] all = refl
filter_all p (x ∷ xs) all =
    rw (all 0 x (omega arith)) (ap (◌∷◌ x) (filter_all p xs (All-tail (λ x. p x ≡ true) x xs all)))

pub pairs_head : {X : Type 0} (R : X → X → Type 0) (x : X) (xs : List X) → AllPairs R (x ∷ xs) → All (R x) xs
pairs_head R x xs all k d lt = all 0 (suc k) d (omega arith) (omega arith)

pub pairs_tail : {X : Type 0} (R : X → X → Type 0) (x : X) (xs : List X) → AllPairs R (x ∷ xs) → AllPairs R xs
pairs_tail R x xs all i j d lt within = all (suc i) (suc j) d (omega arith) (omega arith)

pub pairs_cons : {X : Type 0} (R : X → X → Type 0) (x : X) (xs : List X) → All (R x) xs → AllPairs R xs →
    AllPairs R (x ∷ xs)
pairs_cons R x xs first all i zero d lt within = absurd (omega arith)
pairs_cons R x xs first all zero (suc j) d lt within = first j d (omega arith)
pairs_cons R x xs first all (suc i) (suc j) d lt within = all i j d (omega arith) (omega arith)

pub pairs_none : {X : Type 0} (R : X → X → Type 0) → AllPairs R []
pairs_none R i j d lt within = absurd (omega arith)

pub pairs_drop : {X : Type 0} (R : X → X → Type 0) (n : ℕ) (xs : List X) → AllPairs R xs → AllPairs R (drop n xs)
pairs_drop R zero xs all = all
pairs_drop R (suc n) [] all = all
pairs_drop R (suc n) (x ∷ xs) all = pairs_drop R n xs (pairs_tail R x xs all)

-- the first part of a list
pub all_left : {X : Type 0} (P : X → Type 0) (xs ys : List X) → All P (xs ++ ys) → All P xs
all_left P xs ys all k d lt =
    rw (get_or_append_left xs ys d k lt) at (all k d (omega (arith, length-append xs ys)))

pub pairs_left : {X : Type 0} (R : X → X → Type 0) (xs ys : List X) → AllPairs R (xs ++ ys) → AllPairs R xs
pairs_left R xs ys all i j d lt within =
    rw (get_or_append_left xs ys d i (omega arith), get_or_append_left xs ys d j within) at
    (all i j d lt (omega (arith, length-append xs ys)))

-- what holds of the elements of a list holds of those that they are related to, and of pairs too
pub zip_all : {X Y : Type 0} (S : X → Y → Type 0) (P : X → Type 0) (Q : Y → Type 0) (xs : List X) (ys : List Y) →
    ((x : X) (y : Y) → S x y → P x → Q y) → AllZip S xs ys → All P xs → All Q ys
zip_all S P Q [] [] step zip all = All-nil Q
zip_all S P Q [] (y ∷ ys) step zip all = absurd zip
zip_all S P Q (x ∷ xs) [] step zip all = absurd zip
zip_all S P Q (x ∷ xs) (y ∷ ys) step zip all = All-cons Q y ys (step x y zip.0 (All-head P x xs all))
    (zip_all S P Q xs ys step zip.1 (All-tail P x xs all))

pub zip_pairs : {X Y : Type 0} (S : X → Y → Type 0) (R : X → X → Type 0) (Q : Y → Y → Type 0) (xs : List X)
    (ys : List Y) → ((x a : X) (y b : Y) → S x y → S a b → R x a → Q y b) → AllZip S xs ys → AllPairs R xs →
    AllPairs Q ys
zip_pairs S R Q [] [] step zip all = pairs_none Q
zip_pairs S R Q [] (y ∷ ys) step zip all = absurd zip
zip_pairs S R Q (x ∷ xs) [] step zip all = absurd zip
zip_pairs S R Q (x ∷ xs) (y ∷ ys) step zip all = pairs_cons Q y ys (zip_all S (R x) (Q y) xs ys
    (λ a b s r. step x a y b zip.0 s r) zip.1 (pairs_head R x xs all)) (zip_pairs S R Q xs ys step zip.1
    (pairs_tail R x xs all))

pub pairs_map : {X Y : Type 0} (R : X → X → Type 0) (Q : Y → Y → Type 0) (E : X → Type 0) (f : X → Y) (xs : List X) →
    ((x y : X) → E x → E y → R x y → Q (f x) (f y)) → All E xs → AllPairs R xs → AllPairs Q (map f xs)
pairs_map R Q E f [] step each all = pairs_none Q
pairs_map R Q E f (x ∷ xs) step each all =
    pairs_cons Q (f x) (map f xs)
    (All-map (Q (f x)) f xs (λ k d lt. step x (get_or xs k d) (All-head E x xs each) (All-tail E x xs each k d lt)
    (pairs_head R x xs all k d lt)))
    (pairs_map R Q E f xs step (All-tail E x xs each) (pairs_tail R x xs all))

-- what an element of a mapped list comes of
pub from_map : {A B : Type 0} (f : A → B) (xs : List A) (k : ℕ) (y : B) → slice_get (map f xs) k ≡ Some y →
    (x : A) × ((slice_get xs k ≡ Some x) × (f x ≡ y))
from_map f [] k y at = absurd (none-some y at)
from_map f (x ∷ xs) zero y at = (x, (refl, same_Some (f x) y at))
from_map f (x ∷ xs) (suc k) y at = from_map f xs k y at

-- what holds of each holds of the one at an index
pub at_index : (P : Observation → Type 0) (es : List Observation) (i : ℕ) (e : Observation) → All P es →
    slice_get es i ≡ Some e → P e
at_index P es i e all at = subst P (get_or_from_slice_get es i e e at) (all i e (slice_get_within es i e at))

pub earlier_or_last : (i k : ℕ) → i < k + 1 → (i < k) ⊎ (i ≡ k)
earlier_or_last i k lt = grind arith

pub contains_at : {X : Type 0} (xs : List X) (k : ℕ) (x : X) → slice_get xs k ≡ Some x → Contains xs x
contains_at xs k x at = (k, slice_get_within xs k x at, get_or_from_slice_get xs k x x at)
