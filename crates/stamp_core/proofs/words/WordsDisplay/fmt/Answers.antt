use Rattle.std.proofs.Common.{◌≡◌, ℕ, Some, Option, List, [], ◌∷◌, codes, refl, ap}
use Rattle.std.specs.Prelude.{decimal}
use Rattle.std.specs.Fmt.{debug_items, ◌++?◌}
use Rattle.stamp_core.specs.Texts.{numbers_text}
use Rattle.stamp_core.proofs.words.WordsDisplay.fmt.Goals as goal

items_shown : (lead ns : List ℕ) → debug_items (λ (n : ℕ). Some (decimal n)) lead ns ≡ Some (numbers_text lead ns)
items_shown lead [] = refl
items_shown lead (n ∷ ns) =
    ap (λ (rest : Option (List ℕ)). Some lead ++? (Some (decimal n) ++? rest)) (items_shown (codes ", ") ns)

pub returns-clause-writes : goal.returns-clause-writes
returns-clause-writes g c =
    rw (← c.as_slice.ensures) (rw (items_shown [] c.as_slice.result.now) at c.write.ensures.writes)
