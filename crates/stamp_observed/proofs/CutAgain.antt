-- What was seen by a position, cut once more.
use Rattle.std.proofs.Common.{◌≡◌, ℕ, ◌+◌, ◌≤◌, ◌<◌, zero, suc, Bool, true, false, List, [], ◌∷◌, length}
use Rattle.std.proofs.Common.{refl, sym, ◌∙◌, ap, arith, length-append, length-take-le, Option, None, Some}
use Rattle.std.specs.Prelude.{slice_get, take, cond, not, nat_lt, if◌then◌else◌, ◌==◌, ◌&&◌, ◌||◌, ◌-◌}
use Rattle.std.specs.List.{All}
use Rattle.std.proofs.lemmas.Bool.{false≢true}
use Rattle.std.proofs.lemmas.Bool.Decides.{nat_tests}
use Rattle.std.proofs.lemmas.List.Elements.{All-head, All-tail, All-take, filter-append, filter_passes}
use Rattle.stamp_explain.specs.declared.observed.Observation.{Observation}
use Rattle.stamp_explain.specs.declared.observed.Returned.{Returned}
use Rattle.stamp_explain.specs.Observed.{ObservedHistory}
use Rattle.stamp_explain.specs.Cut.{returned_by, cut_entry, cut_entries, cut, begun_by, seen_at}
use Rattle.stamp_explain.specs.inner.Cut.{index_then}
use Rattle.stamp_explain.proofs.Entries.{is_begun}
use Rattle.stamp_explain.proofs.Lists.{filter_all}
use Rattle.stamp_observed.specs.inner.Over.{IsOverBy}
use Rattle.stamp_observed.proofs.Seen.{more}

-- the call as it is known, whether or not it has returned
abbrev known : Bool → Observation → Observation
known t e = if t then e else record e { returned = None }

begun_known : (last b m : ℕ) (e : Observation) → is_begun last (cut_entry last b m e) ≡ is_begun last e
begun_known last b m e = by (returned_by last b m e.returned)
  where
    by : (t : Bool) → is_begun last (known t e) ≡ is_begun last e
    by true = refl
    by false = refl

-- one call: a later cut is lost in the cut of it
cut_twice : (last b c m q n : ℕ) (e : Observation) → b ≤ c → nat_lt n q ≡ nat_lt m b →
    cut_entry last q n (cut_entry last c m e) ≡ cut_entry last b m e
cut_twice last b c m q n e le test =
    by (returned_by last c m e.returned) (returned_by last b m e.returned) (same e.returned) (none e.returned)
  where
    same : (o : Option Returned) → returned_by last q n o ≡ returned_by last b m o
    same None = refl
    same (Some r) = ap (λ (t : Bool). nat_lt r.last last || ((r.last == last) && t)) test

    none : (o : Option Returned) → returned_by last c m o ≡ false → returned_by last b m o ≡ false
    none None is = refl
    none (Some r) is = later r.last is
      where
        later : (x : ℕ) → (nat_lt x last || ((x == last) && nat_lt m c)) ≡ false →
            (nat_lt x last || ((x == last) && nat_lt m b)) ≡ false
        later x is = grind (arith, nat_tests)

    by : (t v : Bool) → returned_by last q n e.returned ≡ v → (t ≡ false → v ≡ false) →
        cut_entry last q n (known t e) ≡ known v e
    by true v is gone = ap (λ (u : Bool). known u e) is
    by false v is gone = ap (λ (u : Bool). known u e) (sym (gone refl))

-- the first call of a list, and the others
one_again : (last b c m q n : ℕ) (e : Observation) (es : List Observation) (t : Bool) → is_begun last e ≡ t →
    b ≤ c → (t ≡ true → nat_lt n q ≡ nat_lt m b) →
    cut_entries last q (cond t (n + 1) n) (begun_by last (cut_entries last c (m + 1) es)) ≡
    begun_by last (cut_entries last b (m + 1) es) →
    cut_entries last q n (begun_by last (cut_entries last c m (e ∷ es))) ≡
    begun_by last (cut_entries last b m (e ∷ es))
one_again last b c m q n e es t is le test rest =
    ap (λ (u : Bool). cut_entries last q n (cond u (cut_entry last c m e ∷ seen) seen)) (begun_known last c m e ∙ is) ∙
    by t test rest ∙
    sym (ap (λ (u : Bool). cond u (cut_entry last b m e ∷ wanted) wanted) (begun_known last b m e ∙ is))
  where
    seen : List Observation
    seen = begun_by last (cut_entries last c (m + 1) es)

    wanted : List Observation
    wanted = begun_by last (cut_entries last b (m + 1) es)

    by : (t : Bool) → (t ≡ true → nat_lt n q ≡ nat_lt m b) → cut_entries last q (cond t (n + 1) n) seen ≡ wanted →
        cut_entries last q n (cond t (cut_entry last c m e ∷ seen) seen) ≡
        cond t (cut_entry last b m e ∷ wanted) wanted
    by true test rest =
        ap (λ (x : Observation). x ∷ cut_entries last q (n + 1) seen) (cut_twice last b c m q n e le (test refl)) ∙
        ap (λ (xs : List Observation). cut_entry last b m e ∷ xs) rest
    by false test rest = rest

-- j calls of the list are below the bound of the earlier cut
cut_again : (last b c m q n j : ℕ) (es : List Observation) → b ≤ c → b - m ≡ j → q - n ≡ index_then last j es →
    cut_entries last q n (begun_by last (cut_entries last c m es)) ≡ begun_by last (cut_entries last b m es)
cut_again last b c m q n j [] le below index = refl
cut_again last b c m q n zero (e ∷ es) le below index =
    one_again last b c m q n e es (is_begun last e) refl le (λ _. test)
    (cut_again last b c (m + 1) q (cond (is_begun last e) (n + 1) n) zero es le (omega (arith, below))
    (past (is_begun last e)))
  where
    test : nat_lt n q ≡ nat_lt m b
    test = grind (arith, nat_tests)

    past : (t : Bool) → q - cond t (n + 1) n ≡ 0
    past true = omega (arith, index)
    past false = omega (arith, index)
cut_again last b c m q n (suc j) (e ∷ es) le below index = by (is_begun last e) refl index
    (λ k is. cut_again last b c (m + 1) q k j es le (omega (arith, below)) is)
  where
    by : (t : Bool) → is_begun last e ≡ t → q - n ≡ length (cond t (e ∷ begun_by last (take j es))
        (begun_by last (take j es))) → ((k : ℕ) → q - k ≡ index_then last j es →
        cut_entries last q k (begun_by last (cut_entries last c (m + 1) es)) ≡
        begun_by last (cut_entries last b (m + 1) es)) →
        cut_entries last q n (begun_by last (cut_entries last c m (e ∷ es))) ≡
        begun_by last (cut_entries last b m (e ∷ es))
    by true is here rest = one_again last b c m q n e es true is le (λ _. test) (rest (n + 1) (omega (arith, here)))
      where
        test : nat_lt n q ≡ nat_lt m b
        test = grind (arith, nat_tests)
    by false is here rest = one_again last b c m q n e es false is le (λ so. absurd (false≢true so)) (rest n here)

-- what was seen by a position, at an earlier bound
pub seen_cut : (h : ObservedHistory) (last b c q : ℕ) → b ≤ c → q ≡ index_then last b h.entries →
    cut last q (seen_at last c h) ≡ seen_at last b h
seen_cut h last b c q le is = ap (λ (es : List Observation). record h { entries = es })
    (cut_again last b c 0 q 0 b h.entries le (omega arith) (omega (arith, is)))

-- a call that had begun takes one index
pub index_next : (last i : ℕ) (es : List Observation) (e : Observation) → slice_get es i ≡ Some e →
    is_begun last e ≡ true → index_then last i es + 1 ≡ index_then last (i + 1) es
index_next last i es e at begun = sym (ap (λ (xs : List Observation). length (begun_by last xs)) (more es i e at) ∙
    ap length (filter-append (is_begun last) (take i es) (e ∷ [])) ∙
    length-append (begun_by last (take i es)) (begun_by last (e ∷ [])) ∙
    ap (λ (t : Bool). index_then last i es + length (cond t (e ∷ []) [])) begun)

-- where all had begun, an index stays
pub index_same : (last i : ℕ) (es : List Observation) → i ≤ length (begun_by last es) →
    index_then last i (begun_by last es) ≡ i
index_same last i es le =
    ap length (filter_all (is_begun last) (take i (begun_by last es))
    (All-take (λ (e : Observation). is_begun last e ≡ true) i (begun_by last es) (filter_passes (is_begun last) es))) ∙
    length-take-le i (begun_by last es) le

-- what is seen of what was seen, where no more is cut off
pub seen_twice : (h : ObservedHistory) (last c q : ℕ) → q ≡ index_then last c h.entries →
    seen_at last q (seen_at last c h) ≡ seen_at last c h
seen_twice h last c q is =
    ap (λ (g : ObservedHistory). record g { entries = begun_by last g.entries })
    (seen_cut h last c c q (omega arith) is) ∙
    ap (λ (es : List Observation). record h { entries = es }) (filter_all (is_begun last)
    (begun_by last (cut_entries last c 0 h.entries)) (filter_passes (is_begun last) (cut_entries last c 0 h.entries)))

-- what is over by a position is seen by it
over_known : (last b m : ℕ) (e : Observation) → IsOverBy last e → m < b → cut_entry last b m e ≡ e
over_known last b m e over lt = by e.returned refl
  where
    there : (n : ℕ) → n ≤ last → (nat_lt n last || ((n == last) && nat_lt m b)) ≡ true
    there n le = grind (arith, nat_tests)

    by : (o : Option Returned) → e.returned ≡ o → cut_entry last b m e ≡ e
    by None is = ap (λ (t : Bool). known t e) (ap (returned_by last b m) is) ∙
        ap (λ (o : Option Returned). record e { returned = o }) (sym is)
    by (Some r) is = ap (λ (t : Bool). known t e) (ap (returned_by last b m) is ∙
        there r.last (rw is at over.returned))

over_seen : (last b m : ℕ) (es : List Observation) → All (IsOverBy last) es → m + length es ≤ b →
    begun_by last (cut_entries last b m es) ≡ es
over_seen last b m [] over le = refl
over_seen last b m (e ∷ es) over le =
    ap (λ (x : Observation). begun_by last (x ∷ cut_entries last b (m + 1) es))
    (over_known last b m e here (omega (arith, le))) ∙
    ap (λ (t : Bool). cond t (e ∷ begun_by last (cut_entries last b (m + 1) es))
    (begun_by last (cut_entries last b (m + 1) es))) begun ∙
    ap (λ (xs : List Observation). e ∷ xs)
    (over_seen last b (m + 1) es (All-tail (IsOverBy last) e es over) (omega (arith, le)))
  where
    here : IsOverBy last e
    here = All-head (IsOverBy last) e es over

    begun : is_begun last e ≡ true
    begun = test e.first here.begun
      where
        test : (n : ℕ) → n ≤ last → not (nat_lt last n) ≡ true
        test n le = grind (arith, nat_tests)

pub all_over : (h : ObservedHistory) (last b : ℕ) → All (IsOverBy last) h.entries → length h.entries ≤ b →
    seen_at last b h ≡ h
all_over h last b over le = ap (λ (es : List Observation). record h { entries = es })
    (over_seen last b 0 h.entries over (omega arith))
