-- One more entry of which a fact holds.
use Rattle.std.proofs.Common.{◌≡◌, ℕ, ◌+◌, ◌<◌, List, length, get_or, ◌∙◌, subst, below_more}
use Rattle.std.proofs.lemmas.List.{get_or_default}
use Rattle.stamp_core.specs.declared.entry.Entry.{Entry}

pub each_more : (P : Entry → Type 0) (xs : List Entry) (i : ℕ) (x : Entry) → i < length xs → x ≡ get_or xs i x →
    ((k : ℕ) (d : Entry) → k < i → P (get_or xs k d)) → P x → (k : ℕ) (d : Entry) → k < i + 1 → P (get_or xs k d)
each_more P xs i x lt at before holds k d below =
    below_more (λ (j : ℕ). (e : Entry) → P (get_or xs j e)) i (λ j h e. before j e h)
    (λ e. subst P (at ∙ get_or_default xs i x e lt) holds) k below d
