-- Items of a list taken one after the other: one more of them.
use Rattle.std.proofs.Common.{◌≡◌, ◌∙◌, ℕ, ◌+◌, ◌<◌, List, [], ◌∷◌, ◌++◌, length, get_or, take, drop, ap, sym, subst}
use Rattle.std.specs.List.{All}
use Rattle.std.proofs.lemmas.List.{take_more, drop_more}
use Rattle.std.proofs.lemmas.List.Elements.{All-push}

-- the next of what is left
pub next_left : {T : Type 0} (xs : List T) (i : ℕ) (d x : T) → i < length xs → x ≡ get_or xs i d → drop i xs ≡ x ∷
    drop (i + 1) xs
next_left {T} xs i d x lt here = drop_more xs i d lt ∙ ap (λ (y : T). y ∷ drop (i + 1) xs) (sym here)

-- what holds of all so far, and of the next, holds of one more
pub all_and_next : {T : Type 0} (P : T → Type 0) (xs : List T) (i : ℕ) (d x : T) → i < length xs → x ≡
    get_or xs i d → All P (take i xs) → P x → All P (take (i + 1) xs)
all_and_next {T} P xs i d x lt here so_far next =
    subst (All P) (sym (take_more xs i d lt ∙ ap (λ (y : T). take i xs ++ y ∷ []) (sym here)))
    (All-push P (take i xs) x so_far next)
