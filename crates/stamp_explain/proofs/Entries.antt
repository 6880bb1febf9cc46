-- Entries of observed histories, by their indices.
use Rattle.std.proofs.Common.{◌≡◌, ℕ, List, [], ◌∷◌}
use Rattle.std.proofs.Common.{inl, inr, Some, arith}
use Rattle.std.specs.Prelude.{slice_get}
use Rattle.std.specs.List.{All, Contains}
use Rattle.std.proofs.lemmas.List.Elements.{All-tail}
use Rattle.stamp_explain.specs.declared.observed.Observation.{Observation}
use Rattle.stamp_explain.specs.Observed.{IsBefore}
use Rattle.stamp_explain.specs.Explained.{Effect, IsEffectOf, indices_of}
use Rattle.stamp_explain.proofs.Lists.{none_in_empty, contains_cases}
use Rattle.std.proofs.Common.{◌≡◌, ℕ, ◌<◌, List, [], ◌∷◌, refl}
use Rattle.std.proofs.Common.{Option, None, Some}
use Rattle.std.specs.Prelude.{MatchOption}
use Rattle.stamp_explain.specs.declared.observed.Returned.{Returned}
use Rattle.stamp_explain.specs.Observed.{IsBefore, HasReturned}
use Rattle.std.proofs.Common.{ℕ}
use Rattle.std.proofs.Common.{Bool}
use Rattle.std.specs.Prelude.{not, nat_lt}

-- one entry stands at an index
pub same_entry : (entries : List Observation) (x : Effect) (i : ℕ) (a : Observation) → IsEffectOf entries x →
    x.index ≡ i → slice_get entries i ≡ Some a → x.entry ≡ a
same_entry entries x i a is e at = cc

-- what comes later of an order had not returned when an earlier call of it began
pub later_of : (entries : List Observation) (i : ℕ) (a e : Observation) (rest : List Effect) →
    slice_get entries i ≡ Some a → All (IsEffectOf entries) rest → All (λ (y : Effect). ¬ IsBefore y.entry e) rest →
    Contains (indices_of rest) i → ¬ IsBefore a e
later_of entries i a e [] at effects after has = absurd (none_in_empty i has)
later_of entries i a e (y ∷ rest) at effects after has = elim (contains_cases y.index (indices_of rest) i has) [
  | inl same ↦ rw (same_entry entries y i a (effects 0 y (omega arith)) same at) at (after 0 y (omega arith))
  | inr found ↦ later_of entries i a e rest at (All-tail (IsEffectOf entries) y rest effects)
      (All-tail (λ (z : Effect). ¬ IsBefore z.entry e) y rest after) found
]

pub has_returned : (e x : Observation) → IsBefore e x → HasReturned e
has_returned e x before = by e.returned refl before
  where
    by : (o : Option Returned) → e.returned ≡ o → MatchOption o ⊥ (λ (r : Returned). r.last < x.first) → HasReturned e
    by None e before = absurd before
    by (Some r) e before = (r, e)

abbrev pub is_begun : ℕ → Observation → Bool
is_begun last e = not (nat_lt last e.first)
