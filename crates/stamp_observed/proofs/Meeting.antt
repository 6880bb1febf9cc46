-- Calls of a thread that do not overlap, and how long they keep their thread.
use Rattle.std.proofs.Common.{◌≡◌, ◌⊎◌, ℕ, ◌≤◌, ◌<◌, ◌==◌, List, [], ◌∷◌, length, sym, subst, inl, inr, arith}
use Rattle.std.proofs.Common.{Bool, false, Option, None, Some, get_or}
use Rattle.std.specs.Prelude.{◌&&◌, nat_lt, MatchOption}
use Rattle.std.specs.List.{All, AllPairs, IsDistinct}
use Rattle.std.specs.List.Sorted.{IsPermutation, IsNonDecreasingBy}
use Rattle.std.proofs.Math.ListN.{get_or-map}
use Rattle.std.proofs.lemmas.Bool.Decides.{nat_tests}
use Rattle.std.proofs.lemmas.List.{length-map}
use Rattle.std.proofs.lemmas.List.Sorted.{IsPermutation-sym, All-permutation}
use Rattle.std.proofs.lemmas.List.Elements.{All-map, All-from_recursion, recursion_from_All}
use Rattle.std.proofs.lemmas.Map.Keys.{IsDistinct-head, IsDistinct-tail, IsDistinct-cons, IsDistinct-IsPermutation}
use Rattle.stamp_explain.specs.declared.observed.Observation.{Observation}
use Rattle.stamp_explain.specs.declared.observed.Returned.{Returned}
use Rattle.stamp_explain.specs.Observed.{IsBefore, IsInterval, IsLow, DoNotOverlap}
use Rattle.stamp_explain.proofs.Lists.{pairs_head, pairs_tail, pairs_cons, pairs_none}
use Rattle.stamp_observed.specs.declared.spans.Span.{Span}
use Rattle.stamp_observed.specs.inner.Span.{free_after, span_of, spans_of, Follows, AreSorted}

-- whether two spans of a thread meet
abbrev pub meet : Span → Span → Bool
meet a b = (a.thread == b.thread) && nat_lt b.first a.free && nat_lt a.first b.free

abbrev pub DoNotMeet : Span → Span → Type 0
DoNotMeet a b = meet a b ≡ false

flips_at : (t u f g p q : ℕ) → ((t == u) && nat_lt g p && nat_lt f q) ≡ ((u == t) && nat_lt f q && nat_lt g p)
flips_at t u f g p q = grind (arith, nat_tests)

flips : (a b : Span) → meet a b ≡ meet b a
flips a b = flips_at a.thread b.thread a.first b.first a.free b.free

unmet_where : (t u f g p q : ℕ) → (t ≡ u → (p ≤ g) ⊎ (q ≤ f)) → ((t == u) && nat_lt g p && nat_lt f q) ≡ false
unmet_where t u f g p q h = by (same t u)
  where
    same : (t u : ℕ) → (t ≡ u) ⊎ (t ≡ u → ⊥)
    same t u = grind arith

    by : (t ≡ u) ⊎ (t ≡ u → ⊥) → ((t == u) && nat_lt g p && nat_lt f q) ≡ false
    by (inl e) = free (h e)
      where
        free : (p ≤ g) ⊎ (q ≤ f) → ((t == u) && nat_lt g p && nat_lt f q) ≡ false
        free (inl le) = grind (arith, nat_tests)
        free (inr le) = grind (arith, nat_tests)
    by (inr n) = grind (arith, nat_tests)

where_unmet : (t u f g p q : ℕ) → ((t == u) && nat_lt g p && nat_lt f q) ≡ false → t ≡ u → (p ≤ g) ⊎ (q ≤ f)
where_unmet t u f g p q h same = by (less p g)
  where
    less : (p g : ℕ) → (p ≤ g) ⊎ (g < p)
    less p g = grind arith

    by : (p ≤ g) ⊎ (g < p) → (p ≤ g) ⊎ (q ≤ f)
    by (inl le) = inl le
    by (inr lt) = let le : q ≤ f = grind (arith, nat_tests) in inr le

-- a call that had returned when another began leaves its thread free for it
before_free : (ended : Option Returned) (n : ℕ) → MatchOption ended ⊥ (λ (r : Returned). r.last < n) →
    free_after ended ≤ n
before_free None n before = absurd before
before_free (Some r) n before = omega (arith, before)

free_before : (ended : Option Returned) (n : ℕ) → n < 288230376151711744 → free_after ended ≤ n →
    MatchOption ended ⊥ (λ (r : Returned). r.last < n)
free_before None n low free = omega (arith, low, free)
free_before (Some r) n low free = omega (arith, free)

unmet_if : (a b : Observation) → DoNotOverlap a b → DoNotMeet (span_of a) (span_of b)
unmet_if a b unmet = unmet_where a.thread b.thread a.first b.first (free_after a.returned) (free_after b.returned)
    (λ same. by (unmet same))
  where
    by : IsBefore a b ⊎ IsBefore b a → (free_after a.returned ≤ b.first) ⊎ (free_after b.returned ≤ a.first)
    by (inl before) = inl (before_free a.returned b.first before)
    by (inr before) = inr (before_free b.returned a.first before)

if_unmet : (a b : Observation) → IsLow a → IsLow b → DoNotMeet (span_of a) (span_of b) → DoNotOverlap a b
if_unmet a b low_a low_b unmet same = by (where_unmet a.thread b.thread a.first b.first (free_after a.returned)
    (free_after b.returned) unmet same)
  where
    by : (free_after a.returned ≤ b.first) ⊎ (free_after b.returned ≤ a.first) → IsBefore a b ⊎ IsBefore b a
    by (inl free) = inl (free_before a.returned b.first low_b.first free)
    by (inr free) = inr (free_before b.returned a.first low_a.first free)

-- all pairs of calls, and of their spans
unmet_of_calls : (es : List Observation) → AllPairs DoNotOverlap es → AllPairs DoNotMeet (spans_of es)
unmet_of_calls [] pairs = pairs_none DoNotMeet
unmet_of_calls (e ∷ es) pairs = pairs_cons DoNotMeet (span_of e) (spans_of es)
    (All-map (DoNotMeet (span_of e)) span_of es
    (λ k d lt. unmet_if e (get_or es k d) (pairs_head DoNotOverlap e es pairs k d lt)))
    (unmet_of_calls es (pairs_tail DoNotOverlap e es pairs))

calls_of_unmet : (es : List Observation) → All IsLow es → AllPairs DoNotMeet (spans_of es) → AllPairs DoNotOverlap es
calls_of_unmet es low pairs i j d lt within =
    let inside : j < length (spans_of es) = omega (arith, within, length-map es span_of) in
    let first : i < length es = omega (arith, lt, within) in
    if_unmet (get_or es i d) (get_or es j d) (low i d first) (low j d within)
    (subst (λ (s : Span). DoNotMeet s (span_of (get_or es j d))) (get_or-map span_of es i d)
    (subst (λ (s : Span). DoNotMeet (get_or (spans_of es) i (span_of d)) s) (get_or-map span_of es j d)
    (pairs i j (span_of d) lt inside)))

-- pairs may change places
distinct_if : (xs : List Span) → AllPairs DoNotMeet xs → IsDistinct meet xs
unfolding IsDistinct
distinct_if [] pairs = tt
distinct_if (x ∷ xs) pairs = IsDistinct-cons meet x xs
    (recursion_from_All (DoNotMeet x) xs (pairs_head DoNotMeet x xs pairs))
    (distinct_if xs (pairs_tail DoNotMeet x xs pairs))

if_distinct : (xs : List Span) → IsDistinct meet xs → AllPairs DoNotMeet xs
if_distinct [] distinct = pairs_none DoNotMeet
if_distinct (x ∷ xs) distinct = pairs_cons DoNotMeet x xs
    (All-from_recursion (DoNotMeet x) xs (IsDistinct-head meet x xs distinct))
    (if_distinct xs (IsDistinct-tail meet x xs distinct))

moved : (xs ys : List Span) → IsPermutation xs ys → AllPairs DoNotMeet xs → AllPairs DoNotMeet ys
moved xs ys same pairs = if_distinct ys (IsDistinct-IsPermutation meet flips xs ys same (distinct_if xs pairs))

-- in the order in which they begin, each follows those before it
abbrev pub IsRising : Span → Type 0
IsRising s = s.first < s.free

follows_all : (xs : List Span) → IsNonDecreasingBy (λ (s : Span). s.first) xs → All IsRising xs →
    AllPairs DoNotMeet xs → AllPairs Follows xs
follows_all xs sorted rising pairs i j d lt within same =
    let a = get_or xs i d in
    let b = get_or xs j d in
    by (where_unmet a.thread b.thread a.first b.first a.free b.free (pairs i j d lt within) same)
    (sorted i j d (omega arith) within) (rising j d within)
  where
    by : {p g q f : ℕ} → (p ≤ g) ⊎ (q ≤ f) → f ≤ g → g < q → p ≤ g
    by (inl free) le less = free
    by (inr free) le less = omega (arith, free, le, less)

none_meet : (xs : List Span) → AllPairs Follows xs → AllPairs DoNotMeet xs
none_meet xs pairs i j d lt within =
    let a = get_or xs i d in
    let b = get_or xs j d in
    unmet_where a.thread b.thread a.first b.first a.free b.free (λ same. inl (pairs i j d lt within same))

rising_at : (n : ℕ) (ended : Option Returned) → n < 288230376151711744 →
    MatchOption ended (Unit {0}) (λ (r : Returned). n ≤ r.last) → n < free_after ended
rising_at n None low interval = omega (arith, low)
rising_at n (Some r) low interval = omega (arith, interval)

spans_rise : (es : List Observation) → All IsLow es → All IsInterval es → All IsRising (spans_of es)
spans_rise es low intervals = All-map IsRising span_of es
    (λ k d lt. rising_at (get_or es k d).first (get_or es k d).returned (low k d lt).first (intervals k d lt))

abbrev pub IsOfThread : Span → Type 0
IsOfThread s = s.thread < 64

spans_of_threads : (es : List Observation) → All (λ (e : Observation). e.thread < 64) es →
    All IsOfThread (spans_of es)
spans_of_threads es threads = All-map IsOfThread span_of es (λ k d lt. threads k d lt)

-- the spans of calls, in the order in which they begin, follow one another exactly where the calls do not overlap
pub record ToldBy (es : List Observation) (spans : List Span) : Type 0 where
  pub threads : All IsOfThread spans
  pub rising : All IsRising spans
  pub follow : AllPairs Follows spans → AllPairs DoNotOverlap es
  pub none_overlap : AllPairs DoNotOverlap es → AllPairs Follows spans

told_by : (es : List Observation) (spans sorted : List Span) → All IsLow es → All IsInterval es →
    All (λ (e : Observation). e.thread < 64) es → spans ≡ spans_of es → AreSorted spans sorted → ToldBy es sorted
told_by es spans sorted low intervals threads are in_order = record {
  threads = All-permutation IsOfThread spans sorted in_order.moved
      (subst (All IsOfThread) (sym are) (spans_of_threads es threads));
  rising = rise;
  follow = λ pairs. calls_of_unmet es low (moved sorted (spans_of es) back (none_meet sorted pairs));
  none_overlap = λ pairs. follows_all sorted in_order.rising rise
      (moved (spans_of es) sorted there (unmet_of_calls es pairs));
}
  where
    rise : All IsRising sorted
    rise = All-permutation IsRising spans sorted in_order.moved
        (subst (All IsRising) (sym are) (spans_rise es low intervals))

    there : IsPermutation (spans_of es) sorted
    there = subst (λ (xs : List Span). IsPermutation xs sorted) are in_order.moved

    back : IsPermutation sorted (spans_of es)
    back = IsPermutation-sym (spans_of es) sorted there

pub told_by_slice : (es : List Observation) (spans sorted slice : List Span) → All IsLow es → All IsInterval es →
    All (λ (e : Observation). e.thread < 64) es → spans ≡ spans_of es → AreSorted spans sorted → slice ≡ sorted →
    ToldBy es slice
told_by_slice es spans sorted slice low intervals threads are in_order same =
    subst (ToldBy es) (sym same) (told_by es spans sorted low intervals threads are in_order)
