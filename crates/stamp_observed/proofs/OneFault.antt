-- What has a fault can't have been observed, and has one alone.
use Rattle.std.proofs.Common.{◌≡◌, ◌⊎◌, ℕ, ◌+◌, ◌<◌, ◌≤◌, List, [], ◌∷◌, ◌++◌, length, get_or, take, refl, sym, ◌∙◌}
use Rattle.std.proofs.Common.{ap, subst, inl, inr, arith, Some, None, length-append, length-take-le}
use Rattle.std.specs.Prelude.{slice_get}
use Rattle.std.proofs.Math.Seq.{get_or-append_seam}
use Rattle.std.proofs.lemmas.List.{take-take, get_or-take, get_or_append_left}
use Rattle.std.proofs.lemmas.List.Elements.{All-take}
use Rattle.std.proofs.lemmas.Option.{slice_get_within}
use Rattle.stamp_explain.specs.declared.observed.Observation.{Observation}
use Rattle.stamp_explain.specs.Observed.{ObservedHistory, IsInterval, DoNotOverlap}
use Rattle.stamp_observed.specs.declared.judging.ObservedWhy.{ObservedWhy}
use Rattle.stamp_observed.specs.declared.judging.ObservedWhy.TheVariants.{Interval, Overlap}
use Rattle.stamp_observed.specs.declared.judging.ObservedFault.{ObservedFault}
use Rattle.stamp_observed.specs.ObservedFault.{AreSeen, Breaks, IsFirstFault}
use Rattle.stamp_observed.specs.ObservedLaws.{ObservedFaultsAreExact, OneObservedVerdict}
use Rattle.stamp_observed.proofs.Seen.{more}

seen_take : (es : List Observation) (n : ℕ) → n ≤ length es → AreSeen es → AreSeen (take n es)
seen_take es n le seen = record {
  intervals = All-take IsInterval n es seen.intervals;
  none_overlap = λ i j d lt within.
      let few : j < n = omega (arith, within, length-take-le n es le) in
      subst (λ (x : Observation). DoNotOverlap (get_or (take n es) i d) x) (sym (get_or-take n es j d few))
      (subst (λ (x : Observation). DoNotOverlap x (get_or es j d)) (sym (get_or-take n es i d (omega arith)))
      (seen.none_overlap i j d lt (omega arith)));
}

-- with a call that breaks something, those before it can't be seen
unseen : (before : List Observation) (e : Observation) (why : ObservedWhy) → Breaks before e why →
    ¬ AreSeen (before ++ e ∷ [])
unseen before e Interval breaks seen =
    let lt : length before < length (before ++ e ∷ []) = omega (arith, length-append before (e ∷ [])) in
    breaks (subst IsInterval (get_or-append_seam before e [] e) (seen.intervals (length before) e lt))
unseen before e Overlap breaks seen =
    let lt : length before < length (before ++ e ∷ []) = omega (arith, length-append before (e ∷ [])) in
    breaks.1 (λ k d below. subst (λ (x : Observation). DoNotOverlap x e) (get_or_append_left before (e ∷ []) d k below)
    (subst (λ (x : Observation). DoNotOverlap (get_or (before ++ e ∷ []) k d) x) (get_or-append_seam before e [] d)
    (seen.none_overlap k (length before) d below lt)))

not_with : (h : ObservedHistory) (i : ℕ) (why : ObservedWhy) → IsFirstFault h i why →
    ¬ AreSeen (take (i + 1) h.entries)
not_with h i why fault seen =
    unseen (take i h.entries) fault.entry why fault.breaks
    (subst AreSeen (more h.entries i fault.entry fault.is_entry) seen)

within : (h : ObservedHistory) (i : ℕ) (why : ObservedWhy) → IsFirstFault h i why → i < length h.entries
within h i why fault = slice_get_within h.entries i fault.entry fault.is_entry

pub faults_are_exact : ObservedFaultsAreExact
faults_are_exact h i why fault observed =
    not_with h i why fault (seen_take h.entries (i + 1) (omega (arith, within h i why fault))
    (record { intervals = observed.intervals; none_overlap = observed.apart }))

not_before : (h : ObservedHistory) (i j : ℕ) (a b : ObservedWhy) → IsFirstFault h i a → IsFirstFault h j b → i < j → ⊥
not_before h i j a b x y lt =
    let shorter : i + 1 ≤ j = omega arith in
    let inside : i + 1 ≤ length (take j h.entries) = omega (
      arith,
      within h j b y,
      length-take-le j h.entries (omega (arith, within h j b y)),
    ) in
    not_with h i a x (subst AreSeen (take-take (i + 1) j h.entries shorter)
    (seen_take (take j h.entries) (i + 1) inside y.before))

same_why : (before : List Observation) (e : Observation) (a b : ObservedWhy) → Breaks before e a → Breaks before e b →
    a ≡ b
same_why before e Interval Interval x y = refl
same_why before e Interval Overlap x y = absurd (x y.0)
same_why before e Overlap Interval x y = absurd (y x.0)
same_why before e Overlap Overlap x y = refl

fault_there : (h : ObservedHistory) (i j : ℕ) (a b : ObservedWhy) → IsFirstFault h i a → IsFirstFault h j b → i ≡ j →
    a ≡ b
fault_there h i j a b x y same =
    same_why (take i h.entries) x.entry a b x.breaks
    (subst (λ (e : Observation). Breaks (take i h.entries) e b) entry
    (subst (λ (k : ℕ). Breaks (take k h.entries) y.entry b) (sym same) y.breaks))
  where
    entry : y.entry ≡ x.entry
    entry = let at : slice_get h.entries i ≡ Some y.entry = ap (λ (k : ℕ). slice_get h.entries k) same ∙ y.is_entry in
        let here = x.is_entry in cc

one_fault : (h : ObservedHistory) (a b : ObservedFault) → IsFirstFault h a.entry a.why →
    IsFirstFault h b.entry b.why → a ≡ b
one_fault h a b x y = by (order a.entry b.entry)
  where
    order : (n m : ℕ) → (n < m) ⊎ (m < n) ⊎ (n ≡ m)
    order n m = grind arith

    same : (x y : ObservedFault) → x.entry ≡ y.entry → x.why ≡ y.why → x ≡ y
    same x y e w = let parts : record { entry = x.entry; why = x.why } ≡
        record { entry = y.entry; why = y.why } = cc in parts

    by : (a.entry < b.entry) ⊎ (b.entry < a.entry) ⊎ (a.entry ≡ b.entry) → a ≡ b
    by (inl lt) = absurd (not_before h a.entry b.entry a.why b.why x y lt)
    by (inr (inl gt)) = absurd (not_before h b.entry a.entry b.why a.why y x gt)
    by (inr (inr e)) = same a b e (fault_there h a.entry b.entry a.why b.why x y e)

pub one_verdict : OneObservedVerdict
one_verdict h None None x y = refl
one_verdict h None (Some b) x y = absurd (faults_are_exact h b.entry b.why y x)
one_verdict h (Some a) None x y = absurd (faults_are_exact h a.entry a.why x y)
one_verdict h (Some a) (Some b) x y = ap (λ (fault : ObservedFault). Some fault) (one_fault h a b x y)
