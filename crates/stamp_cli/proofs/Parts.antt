-- The parts of a command line.
use Rattle.std.proofs.Common.{◌≡◌, ℕ, List, [], ◌∷◌, Bool, true, false, refl, ap, Bor, map}
use Rattle.std.specs.Prelude.{◌||◌, Option, Some, None, option_map}
use Rattle.std.specs.List.{list_any, find}
use Rattle.std.specs.Option.{is_some}

-- one passes a test where one is found by it
module _ {A : Type 0} (test : A → Bool) where
  found_here : (b : Bool) (x : A) (xs : List A) → test x ≡ b → is_some (find test xs) ≡ list_any test xs →
      is_some (find test (x ∷ xs)) ≡ list_any test (x ∷ xs)
  found_here true x xs is behind = rw is refl
  found_here false x xs is behind = rw is behind

  pub found_where_any : (xs : List A) → is_some (find test xs) ≡ list_any test xs
  found_where_any [] = refl
  found_where_any (x ∷ xs) = found_here (test x) x xs refl (found_where_any xs)

pub kept : {A B : Type 0} (f : A → B) (found : Option A) → is_some found ≡ is_some (option_map f found)
kept f None = refl
kept f (Some x) = refl

pub any_of_texts : (test : List ℕ → Bool) (words : List (Bor (List ℕ))) →
    list_any (λ (word : Bor (List ℕ)). test word.now) words ≡
    list_any test (map (λ (word : Bor (List ℕ)). word.now) words)
any_of_texts test [] = refl
any_of_texts test (word ∷ words) = ap (λ (b : Bool). test word.now || b) (any_of_texts test words)
