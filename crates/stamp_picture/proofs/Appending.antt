-- Texts that grow at their end.
use Rattle.std.proofs.Common.{◌≡◌, ◌∙◌, ℕ, ◌+◌, ◌<◌, List, [], ◌∷◌, ◌++◌, length, map, take, get_or, sym, ap}
use Rattle.std.proofs.Common.{append_assoc, arith}
use Rattle.std.specs.List.{concat, range_with_len}
use Rattle.std.proofs.lemmas.List.{map_more, append-nil}
use Rattle.std.proofs.lemmas.List.FromFn.{map-range_with_len_more}

-- a piece was written, and then the rest
pub onto : {mid new : List ℕ} (old x y : List ℕ) → mid ≡ old ++ x → new ≡ mid ++ y → new ≡ old ++ (x ++ y)
onto old x y first rest = rest ∙ ap (λ (text : List ℕ). text ++ y) first ∙ append_assoc old x y

concat_push : (xs : List (List ℕ)) (x : List ℕ) → concat (xs ++ x ∷ []) ≡ concat xs ++ x
concat_push [] x = append-nil x
concat_push (y ∷ ys) x = ap (λ (text : List ℕ). y ++ text) (concat_push ys x) ∙ sym (append_assoc y (concat ys) x)

-- one item more of a list was written
pub item_written : {X : Type 0} (write : X → List ℕ) (xs : List X) (i : ℕ) (d x : X) (old mid new : List ℕ) →
    i < length xs → x ≡ get_or xs i d → mid ≡ old ++ concat (map write (take i xs)) → new ≡ mid ++ write x →
    new ≡ old ++ concat (map write (take (i + 1) xs))
item_written {X} write xs i d x old mid new lt is before piece =
    let first = concat (map write (take i xs)) in
    piece ∙ ap (λ (text : List ℕ). text ++ write x) before ∙ append_assoc old first (write x)
    ∙ ap (λ (y : X). old ++ (first ++ write y)) is
    ∙ ap (λ (text : List ℕ). old ++ text) (sym (concat_push (map write (take i xs)) (write (get_or xs i d))))
    ∙ ap (λ (texts : List (List ℕ)). old ++ concat texts) (sym (map_more write xs i d lt))

-- one number more of a range was written
pub turn_written : (write : ℕ → List ℕ) (n : ℕ) (old mid new : List ℕ) →
    mid ≡ old ++ concat (map write (range_with_len 0 n)) → new ≡ mid ++ write n →
    new ≡ old ++ concat (map write (range_with_len 0 (n + 1)))
turn_written write n old mid new before piece =
    let first = concat (map write (range_with_len 0 n)) in
    piece ∙ ap (λ (text : List ℕ). text ++ write n) before ∙ append_assoc old first (write n)
    ∙ ap (λ (text : List ℕ). old ++ text) (sym (concat_push (map write (range_with_len 0 n)) (write n)))
    ∙ ap (λ (texts : List (List ℕ)). old ++ concat texts) (sym (map-range_with_len_more write 0 n n (omega arith)))

-- four or five attributes end an opening tag
pub of_four : (a b c d rest : List ℕ) → (a ++ (b ++ (c ++ (d ++ [])))) ++ rest ≡ a ++ (b ++ (c ++ (d ++ rest)))
of_four a b c d rest = simp (append_assoc, append-nil)

pub of_five : (a b c d e rest : List ℕ) → (a ++ (b ++ (c ++ (d ++ (e ++ []))))) ++ rest ≡
    a ++ (b ++ (c ++ (d ++ (e ++ rest))))
of_five a b c d e rest = simp (append_assoc, append-nil)
