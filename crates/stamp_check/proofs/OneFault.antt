-- What has a fault is not linearized, and has one alone.
use Rattle.std.proofs.Common.{◌≡◌, ◌⊎◌, ℕ, ◌+◌, ◌<◌, ◌≤◌, List, [], ◌∷◌, ◌++◌, length, get_or, take}
use Rattle.std.proofs.Common.{drop, refl, sym, ◌∙◌, ap, subst, inl, inr, arith, Some, Ok, Err}
use Rattle.std.specs.Prelude.{slice_get}
use Rattle.std.proofs.lemmas.List.{take_more, take-append-drop, take-take}
use Rattle.std.proofs.lemmas.Option.{get_or_from_slice_get, slice_get_within}
use Rattle.stamp_core.specs.Limits.{Bounds}
use Rattle.stamp_core.specs.Record.{Recorded}
use Rattle.stamp_core.specs.Linearized.{AreLinearized, MayFollow}
use Rattle.stamp_core.specs.declared.entry.Entry.{Entry}
use Rattle.stamp_core.proofs.Linearizing.{linearized_first, linearized_fits}
use Rattle.stamp_check.specs.declared.checking.Why.{Why}
use Rattle.stamp_check.specs.declared.checking.Why.TheVariants.{Interval, Order, Overlap, Reply}
use Rattle.stamp_check.specs.declared.checking.Bad.{Bad}
use Rattle.stamp_check.specs.FirstFault.{Breaks, IsFirstFault}
use Rattle.stamp_check.specs.CheckLaws.{FaultsAreExact, OneVerdict}

unfit : (limits : Bounds) (width : ℕ) (before : List Entry) (e : Entry) (why : Why) →
    Breaks limits width before e why → ¬ MayFollow limits width before e
unfit limits width before e Interval breaks fits = breaks fits.within
unfit limits width before e Order breaks fits = breaks.1 fits.rises
unfit limits width before e Overlap breaks fits = breaks.2 fits.follows
unfit limits width before e Reply breaks fits = breaks.3 fits.answered

same_why : (limits : Bounds) (width : ℕ) (before : List Entry) (e : Entry) (a b : Why) →
    Breaks limits width before e a → Breaks limits width before e b → a ≡ b
same_why limits width before e Interval Interval x y = refl
same_why limits width before e Interval Order x y = absurd (x y.0)
same_why limits width before e Interval Overlap x y = absurd (x y.0)
same_why limits width before e Interval Reply x y = absurd (x y.0)
same_why limits width before e Order Interval x y = absurd (y x.0)
same_why limits width before e Order Order x y = refl
same_why limits width before e Order Overlap x y = absurd (x.1 y.1)
same_why limits width before e Order Reply x y = absurd (x.1 y.1)
same_why limits width before e Overlap Interval x y = absurd (y x.0)
same_why limits width before e Overlap Order x y = absurd (y.1 x.1)
same_why limits width before e Overlap Overlap x y = refl
same_why limits width before e Overlap Reply x y = absurd (x.2 y.2)
same_why limits width before e Reply Interval x y = absurd (y x.0)
same_why limits width before e Reply Order x y = absurd (y.1 x.1)
same_why limits width before e Reply Overlap x y = absurd (y.2 x.2)
same_why limits width before e Reply Reply x y = refl

linearized_take : (limits : Bounds) (width : ℕ) (entries : List Entry) (n : ℕ) →
    AreLinearized limits width entries → AreLinearized limits width (take n entries)
linearized_take limits width entries n all = linearized_first limits width (take n entries) (drop n entries)
    (subst (λ (xs : List Entry). AreLinearized limits width xs) (sym (take-append-drop n entries)) all)

-- the entries up to a fault, and its own, are not linearized
not_with : (r : Recorded) (i : ℕ) (why : Why) → IsFirstFault r i why →
    ¬ AreLinearized r.limits r.width (take (i + 1) r.entries)
not_with r i why fault all =
    let e = fault.entry in
    let is : get_or r.entries i e ≡ e = get_or_from_slice_get r.entries i e e fault.is_entry in
    let lt : i < length r.entries = slice_get_within r.entries i e fault.is_entry in
    let more : take (i + 1) r.entries ≡ take i r.entries ++ e ∷ [] = take_more r.entries i e lt ∙
    ap (λ (x : Entry). take i r.entries ++ x ∷ []) is in
    unfit r.limits r.width (take i r.entries) e why fault.breaks
    (linearized_fits r.limits r.width (take i r.entries) [] e
    (subst (λ (xs : List Entry). AreLinearized r.limits r.width xs) more all))

pub faults_are_exact : FaultsAreExact
faults_are_exact r i why fault all = not_with r i why fault (linearized_take r.limits r.width r.entries (i + 1) all)

no_fault_before : (r : Recorded) (i j : ℕ) (a b : Why) → IsFirstFault r i a → IsFirstFault r j b → i < j → ⊥
no_fault_before r i j a b x y lt =
    let shorter : i + 1 ≤ j = omega arith in
    let all = linearized_take r.limits r.width (take j r.entries) (i + 1) y.before in
    not_with r i a x (subst (λ (xs : List Entry). AreLinearized r.limits r.width xs)
    (take-take (i + 1) j r.entries shorter) all)

same_entry : (entries : List Entry) (i j : ℕ) (d e : Entry) → i ≡ j → slice_get entries i ≡ Some d →
    slice_get entries j ≡ Some e → d ≡ e
same_entry entries i j d e same x y = cc

fault_there : (r : Recorded) (i j : ℕ) (a b : Why) → IsFirstFault r i a → IsFirstFault r j b → i ≡ j → a ≡ b
fault_there r i j a b x y same =
    let before = take i r.entries in
    let breaks : Breaks r.limits r.width before y.entry b =
    subst (λ (k : ℕ). Breaks r.limits r.width (take k r.entries) y.entry b) (sym same) y.breaks in
    let entry : y.entry ≡ x.entry = sym (same_entry r.entries i j x.entry y.entry same x.is_entry y.is_entry) in
    same_why r.limits r.width before x.entry a b x.breaks
    (subst (λ (e : Entry). Breaks r.limits r.width before e b) entry breaks)

one_fault : (r : Recorded) (a b : Bad) → IsFirstFault r a.entry a.why → IsFirstFault r b.entry b.why → a ≡ b
one_fault r a b x y = by (order a.entry b.entry)
  where
    order : (n m : ℕ) → (n < m) ⊎ (m < n) ⊎ (n ≡ m)
    order n m = grind arith

    same : (x y : Bad) → x.entry ≡ y.entry → x.why ≡ y.why → x ≡ y
    same x y e w = let parts : record { entry = x.entry; why = x.why } ≡ record { entry = y.entry; why = y.why } =
        cc in parts

    by : (a.entry < b.entry) ⊎ (b.entry < a.entry) ⊎ (a.entry ≡ b.entry) → a ≡ b
    by (inl lt) = absurd (no_fault_before r a.entry b.entry a.why b.why x y lt)
    by (inr (inl gt)) = absurd (no_fault_before r b.entry a.entry b.why a.why y x gt)
    by (inr (inr e)) = same a b e (fault_there r a.entry b.entry a.why b.why x y e)

pub one_verdict : OneVerdict
one_verdict r (Ok n) (Ok m) x y = ap (λ (k : ℕ). Ok k) (x.1 ∙ sym y.1)
one_verdict r (Ok n) (Err b) x y = absurd (faults_are_exact r b.entry b.why y x.0)
one_verdict r (Err a) (Ok m) x y = absurd (faults_are_exact r a.entry a.why x y.0)
one_verdict r (Err a) (Err b) x y = ap (λ (bad : Bad). Err bad) (one_fault r a b x y)
