-- Names that passes give.
use Rattle.std.proofs.Common.{◌≡◌, ◌⊎◌, ℕ, ◌+◌, ◌<◌, ◌≤◌, Bool, List, [], ◌∷◌, ◌++◌, length, refl}
use Rattle.std.proofs.Common.{ap, sym, ◌∙◌, subst, ⊎_elim, inl, inr, arith, append_assoc}
use Rattle.std.proofs.Common.{length-append}
use Rattle.stamp_threads.specs.declared.pass_view.LogEntry.{LogEntry}
use Rattle.stamp_threads.specs.declared.pass_view.PassView.{PassView}
use Rattle.stamp_threads.specs.PassName.{HasGiven, HasGivenAll, IsRooted}
use Rattle.stamp_threads.specs.PassView.{made_by, IsPart, after_split, split_off}
use Rattle.stamp_threads.proofs.MadeBy.{other_name, skips}

not_below : (n : ℕ) {A : Type 0} → n < n → A
not_below n l = absurd (omega arith)

pub regiven : (name name' : List ℕ) (splits splits' : ℕ) (other other' : List ℕ) → name ≡ name' →
    splits ≡ splits' → other ≡ other' → HasGiven name' splits' other' → HasGiven name splits other
regiven name name' splits splits' other other' a b c h =
    subst (λ (t : List ℕ × ℕ × List ℕ). HasGiven t.0 t.1 t.2) (λ i. (sym a i, sym b i, sym c i)) h

-- no entry has the name that the pass gives next
pub child_none : {E : Type 0} (kind : E → Bool) (name : List ℕ) (splits : ℕ)
    (log : List (LogEntry E)) → HasGivenAll name splits log →
    made_by kind (name ++ splits ∷ []) log ≡ []
child_none kind name splits [] h = refl
child_none kind name splits (e ∷ log) h =
    skips _ (kind e.made) e.made _ (other_name _ e.name (name ++ splits ∷ []) refl
    (λ p. not_below splits (h.0 splits [] p))) (child_none kind name splits log h.1)

-- nor one that goes on from it
pub child_unused : (name : List ℕ) (splits : ℕ) (other : List ℕ) → HasGiven name splits other →
    HasGiven (name ++ splits ∷ []) 0 other
child_unused name splits other h j rest p =
    not_below splits (h splits (j ∷ rest) (p ∙ append_assoc name (splits ∷ []) (j ∷ rest)))

pub child_unused_all : {E : Type 0} (name : List ℕ) (splits : ℕ) (log : List (LogEntry E)) →
    HasGivenAll name splits log → HasGivenAll (name ++ splits ∷ []) 0 log
child_unused_all name splits [] h = tt
child_unused_all name splits (e ∷ log) h =
    (child_unused name splits e.name h.0, child_unused_all name splits log h.1)

-- it has the root of the pass
pub child_rooted : (roots : ℕ) (name : List ℕ) (splits : ℕ) → IsRooted roots name →
    IsRooted roots (name ++ splits ∷ [])
child_rooted roots [] splits r = absurd r
child_rooted roots (root ∷ path) splits r = r

pub given_more : (name : List ℕ) (splits more : ℕ) (other : List ℕ) → splits ≤ more →
    HasGiven name splits other → HasGiven name more other
given_more name splits more other le h j rest p = let l = h j rest p in omega arith

pub given_more_all : {E : Type 0} (name : List ℕ) (splits more : ℕ) (log : List (LogEntry E)) →
    splits ≤ more → HasGivenAll name splits log → HasGivenAll name more log
given_more_all name splits more [] le h = tt
given_more_all name splits more (e ∷ log) le h =
    (given_more name splits more e.name le h.0, given_more_all name splits more log le h.1)

-- no name goes on from itself
pub not_longer : (name : List ℕ) (splits : ℕ) → HasGiven name splits name
not_longer name splits j rest p = absurd (omega (arith, ap length p, length-append name (j ∷ rest)))

-- a number at the end of one list is at the end of the other, or the other ends before it
pub last_or_before : (xs ys : List ℕ) (a j : ℕ) (rest : List ℕ) → xs ++ a ∷ [] ≡ ys ++ j ∷ rest →
    ((xs ≡ ys) × (a ≡ j)) ⊎ ((more : List ℕ) × (xs ≡ ys ++ j ∷ more))
last_or_before [] [] a j rest e = inl (refl, cc)
last_or_before [] (y ∷ ys) a j rest e = absurd
    (omega (arith, ap length e, length-append ys (j ∷ rest)))
last_or_before (x ∷ xs) [] a j rest e = let h : x ≡ j = cc in inr (xs, ap (λ (z : ℕ). z ∷ xs) h)
last_or_before (x ∷ xs) (y ∷ ys) a j rest e =
    let h : x ≡ y = cc in
    let t : xs ++ a ∷ [] ≡ ys ++ j ∷ rest = cc in
    ⊎_elim (λ (p : (xs ≡ ys) × (a ≡ j)). inl ((λ i. h i ∷ p.0 i), p.1))
    (λ (p : (more : List ℕ) × (xs ≡ ys ++ j ∷ more)). inr (p.0, λ i. h i ∷ p.1 i))
    (last_or_before xs ys a j rest t)

pub part-after_split : {E P : Type 0} (is_call : E → Bool) (log : List (LogEntry E))
    (v : PassView E P) → IsPart is_call log v → IsPart is_call log (after_split v)
part-after_split is_call log v f = record {
  known = f.known;
  own = f.own;
  given =
      given_more_all v.name v.splits (v.splits + 1) log (omega arith) f.given;
}

pub part-split_off : {E P : Type 0} (is_call : E → Bool) (log : List (LogEntry E)) (v : PassView E P) →
    IsPart is_call log v → IsPart is_call log (split_off v)
part-split_off is_call log v f = record {
  known = f.known;
  own =
      child_none is_call v.name v.splits log f.given;
  given =
      child_unused_all v.name v.splits log f.given;
}
