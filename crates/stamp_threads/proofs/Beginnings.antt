-- Beginnings of lists.
use Rattle.std.proofs.Common.{List, [], ◌++◌, refl, ap, sym, ◌∙◌, append-nil, append_assoc}
use mathlib.Core.List.{IsPrefix}

pub begins_all : {A : Type 0} (xs : List A) → IsPrefix xs xs
begins_all xs = ([], append-nil xs)

pub begins_more : {A : Type 0} (xs ys : List A) → IsPrefix xs (xs ++ ys)
begins_more xs ys = (ys, refl)

pub begins_further : {A : Type 0} (xs ys zs : List A) → IsPrefix xs ys → IsPrefix ys zs →
    IsPrefix xs zs
begins_further xs ys zs a b = (
  a.0 ++ b.0,
  sym (append_assoc xs a.0 b.0) ∙ (ap (λ l. l ++ b.0) a.1 ∙ b.1),
)
