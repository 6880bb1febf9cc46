-- The moments of a history, listed by its entries and then put in order.
use Rattle.std.proofs.Common.{◌≡◌, ◌≢◌, ◌⊎◌, ℕ, ◌+◌, ◌*◌, ◌<◌, Bool, true, false, List, [], ◌∷◌, ◌++◌, length, get_or}
use Rattle.std.proofs.Common.{refl, sym, ◌∙◌, ap, subst, inl, inr, arith, Some, None, map}
use Rattle.std.specs.Prelude.{nat_eq, slice_get, if◌then◌else◌}
use Rattle.std.specs.List.{All, AllPairs, Contains}
use Rattle.std.specs.List.Sorted.{IsPermutation, IsSortedByKey}
use Rattle.std.specs.declared.cmp.Ordering.{Ordering}
use Rattle.std.specs.Ordering.{bool_cmp, nat_cmp, ordering_then, is_lt}
use Rattle.std.specs.Cmp.{IsTotalOrder, bool_cmp_total, nat_cmp_total, on_total, then_total}
use Rattle.std.proofs.lemmas.Option.{none-some, same_Some, slice_get_within}
use Rattle.std.proofs.lemmas.List.{get_or-map, length-map}
use Rattle.std.proofs.lemmas.List.Quantifiers.{all_pairs_push}
use Rattle.std.proofs.lemmas.List.Elements.{All-push, All-weaker, All-nil, Contains-append_left}
use Rattle.std.proofs.lemmas.List.Elements.{Contains-push}
use Rattle.std.proofs.lemmas.List.Sorted.{All-permutation, Contains-permutation}
use Rattle.std.proofs.lemmas.List.Sorted.{IsPermutation-map, ranks_by, sorted_far}
use Rattle.std.proofs.lemmas.Bool.Decides.{nat_tests, Decides-eqb}
use Rattle.std.proofs.lemmas.Map.Keys.{IsDistinct-IsPermutation}
use Rattle.std.proofs.lemmas.Map.Made.{AllPairs-from_IsDistinct, IsDistinct-from_AllPairs}
use Rattle.stamp_explain.specs.declared.observed.Observation.{Observation}
use Rattle.stamp_explain.specs.declared.observed.Returned.{Returned}
use Rattle.stamp_explain.specs.Observed.{IsReturnAt}
use Rattle.stamp_explain.proofs.Lists.{earlier_or_last}
use Rattle.stamp_explain.proofs.Lists.{pairs_map, pairs_none}
use Rattle.stamp_runs.specs.declared.event.Event.{Event}
use Rattle.stamp_runs.specs.declared.event.Event.TheVariants.{Begins, Returns}
use Rattle.stamp_watch.specs.declared.moments.Moment.{Moment}
use Rattle.stamp_watch.specs.AsEvents.{beginning_of, return_of, ComesFirst, IsEventAt, AreMomentsOf}
use Rattle.stamp_watch.specs.inner.AsEvents.{AreListed, rank_of}

-- of no entry
pub none_listed : (entries : List Observation) → AreListed entries 0 []
none_listed entries = record {
  each = All-nil (λ (m : Moment). (event : Event) × IsEventAt entries m event);
  begun = λ i e less at. absurd (omega (arith, less));
  returned = λ i at less. absurd (omega (arith, less));
  below = All-nil (λ (m : Moment). m.entry < 0);
  rising = pairs_none (λ (m n : Moment). rank_of m < rank_of n);
}

rank_low : (m : Moment) (k : ℕ) → m.entry < k → rank_of m < 2 * k
rank_low m k less = by m.is_return
  where
    by : (b : Bool) → 2 * m.entry + (if b then 1 else 0) < 2 * k
    by true = omega (arith, less)
    by false = omega (arith, less)

module _ (entries : List Observation) (k : ℕ) (moments : List Moment) (are : AreListed entries k moments)
    (e : Observation) (at : slice_get entries k ≡ Some e)
  where
    one_entry : (f : Observation) (i : ℕ) → slice_get entries i ≡ Some f → i ≡ k → f ≡ e
    one_entry f i at_i same = same_Some f e (sym at_i ∙ ap (slice_get entries) same ∙ at)

    -- with the beginning of one more
    pub record AreBegun (more : List Moment) : Type 0 where
      pub each : All (λ (m : Moment). (event : Event) × IsEventAt entries m event) more
      pub begun : (i : ℕ) (f : Observation) → i < k + 1 → slice_get entries i ≡ Some f →
          Contains more (beginning_of i f)
      pub returned : (i : ℕ) (its : IsReturnAt entries i) → i < k → Contains more (return_of i its.return)
      pub below : All (λ (m : Moment). m.entry < k + 1) more
      pub rising : AllPairs (λ (m n : Moment). rank_of m < rank_of n) more
      pub low : All (λ (m : Moment). rank_of m < 2 * k + 1) more

    pub begun_more : AreBegun (moments ++ beginning_of k e ∷ [])
    begun_more = record {
      each = All-push (λ (m : Moment). (event : Event) × IsEventAt entries m event) moments (beginning_of k e) are.each
          (Begins e.thread e.call, inl (record { entry = e; is_entry = at; moment = refl; event_is = refl }));
      begun = λ i f less at_i. begun i f at_i (earlier_or_last i k less);
      returned = λ i its less. Contains-append_left moments (beginning_of k e ∷ []) (return_of i its.return)
          (are.returned i its less);
      below = All-push (λ (m : Moment). m.entry < k + 1) moments (beginning_of k e)
          (All-weaker (λ (m : Moment). m.entry < k) (λ (m : Moment). m.entry < k + 1) (λ m less. omega (arith, less))
          moments are.below) (omega arith);
      rising = all_pairs_push (λ (m n : Moment). rank_of m < rank_of n) moments (beginning_of k e) are.rising
          (λ j d less. let low = rank_low (get_or moments j d) k (are.below j d less) in omega (arith, low));
      low = All-push (λ (m : Moment). rank_of m < 2 * k + 1) moments (beginning_of k e)
          (All-weaker (λ (m : Moment). m.entry < k) (λ (m : Moment). rank_of m < 2 * k + 1)
          (λ m less. let low = rank_low m k less in omega (arith, low)) moments are.below) (omega arith);
    }
      where
        begun : (i : ℕ) (f : Observation) → slice_get entries i ≡ Some f → (i < k) ⊎ (i ≡ k) →
            Contains (moments ++ beginning_of k e ∷ []) (beginning_of i f)
        begun i f at_i (inl less) =
            Contains-append_left moments (beginning_of k e ∷ []) (beginning_of i f) (are.begun i f less at_i)
        begun i f at_i (inr same) = subst (λ (x : Observation). Contains (moments ++ beginning_of k e ∷ [])
            (beginning_of i x)) (sym (one_entry f i at_i same))
            (subst (λ (v : ℕ). Contains (moments ++ beginning_of k e ∷ []) (beginning_of v e)) (sym same)
            (Contains-push moments (beginning_of k e)))

    -- it is under way
    pub listed_open : e.returned ≡ None → AreListed entries (k + 1) (moments ++ beginning_of k e ∷ [])
    listed_open back = record {
      each = begun_more.each;
      begun = begun_more.begun;
      returned = λ i its less. returned i its (earlier_or_last i k less);
      below = begun_more.below;
      rising = begun_more.rising;
    }
      where
        returned : (i : ℕ) (its : IsReturnAt entries i) → (i < k) ⊎ (i ≡ k) →
            Contains (moments ++ beginning_of k e ∷ []) (return_of i its.return)
        returned i its (inl less) = begun_more.returned i its less
        returned i its (inr same) = absurd (none-some its.return (sym back ∙
            ap (λ (o : Observation). o.returned) (sym (one_entry its.entry i its.is_entry same)) ∙ its.returned))

    -- or has returned
    pub listed_returned : (r : Returned) → e.returned ≡ Some r →
        AreListed entries (k + 1) ((moments ++ beginning_of k e ∷ []) ++ return_of k r ∷ [])
    listed_returned r back = record {
      each = All-push (λ (m : Moment). (event : Event) × IsEventAt entries m event) (moments ++ beginning_of k e ∷ [])
          (return_of k r) begun_more.each (
            Returns e.thread r.reply,
            inr (record {
              at = record { entry = e; return = r; is_entry = at; returned = back };
              moment = refl;
              event_is = refl;
            }),
          );
      begun = λ i f less at_i. Contains-append_left (moments ++ beginning_of k e ∷ []) (return_of k r ∷ [])
          (beginning_of i f) (begun_more.begun i f less at_i);
      returned = λ i its less. returned i its (earlier_or_last i k less);
      below = All-push (λ (m : Moment). m.entry < k + 1) (moments ++ beginning_of k e ∷ []) (return_of k r)
          begun_more.below (omega arith);
      rising = all_pairs_push (λ (m n : Moment). rank_of m < rank_of n) (moments ++ beginning_of k e ∷ [])
          (return_of k r) begun_more.rising (λ j d less. begun_more.low j d less);
    }
      where
        returned : (i : ℕ) (its : IsReturnAt entries i) → (i < k) ⊎ (i ≡ k) →
            Contains ((moments ++ beginning_of k e ∷ []) ++ return_of k r ∷ []) (return_of i its.return)
        returned i its (inl less) = Contains-append_left (moments ++ beginning_of k e ∷ []) (return_of k r ∷ [])
            (return_of i its.return) (begun_more.returned i its less)
        returned i its (inr same) = subst (λ (x : Returned). Contains ((moments ++ beginning_of k e ∷ []) ++
            return_of k r ∷ []) (return_of i x)) (sym return_is)
            (subst (λ (v : ℕ). Contains ((moments ++ beginning_of k e ∷ []) ++ return_of k r ∷ []) (return_of v r))
            (sym same) (Contains-push (moments ++ beginning_of k e ∷ []) (return_of k r)))
          where
            return_is : its.return ≡ r
            return_is = same_Some its.return r (sym its.returned ∙
                ap (λ (o : Observation). o.returned) (one_entry its.entry i its.is_entry same) ∙ back)

-- the order in which they are sorted
abbrev pub Key : Type 0
Key = ℕ × Bool × ℕ

abbrev pub key_of : Moment → Key
key_of m = (m.position, m.is_return, m.entry)

abbrev pub key_cmp : Key → Key → Ordering
key_cmp p q = ordering_then (ordering_then (nat_cmp p.0 q.0) (bool_cmp p.1 q.1)) (nat_cmp p.2 q.2)

key_total : IsTotalOrder key_cmp
key_total = then_total (then_total (on_total (λ (p : Key). p.0) nat_cmp_total)
    (on_total (λ (p : Key). p.1) bool_cmp_total)) (on_total (λ (p : Key). p.2) nat_cmp_total)

no_later : (m n : Moment) → is_lt (key_cmp (key_of n) (key_of m)) ≡ false → rank_of m ≢ rank_of n → ComesFirst m n
no_later m n = by m.position m.entry n.position n.entry m.is_return n.is_return
  where
    by : (a b c d : ℕ) (x y : Bool) → is_lt (key_cmp (c, y, d) (a, x, b)) ≡ false →
        (2 * b + (if x then 1 else 0)) ≢ (2 * d + (if y then 1 else 0)) →
        (2 * a + (if x then 1 else 0) < 2 * c + (if y then 1 else 0)) ⊎
        ((2 * a + (if x then 1 else 0) ≡ 2 * c + (if y then 1 else 0)) × (b < d))
    by a b c d true true isnt apart = grind (arith, nat_tests)
    by a b c d true false isnt apart = grind (arith, nat_tests)
    by a b c d false true isnt apart = grind (arith, nat_tests)
    by a b c d false false isnt apart = grind (arith, nat_tests)

pub sorted_moments : (entries : List Observation) (listed moments : List Moment) →
    AreListed entries (length entries) listed → IsPermutation listed moments →
    IsSortedByKey key_of key_cmp moments → AreMomentsOf entries moments
sorted_moments entries listed moments are moved sorted = record {
  each = All-permutation (λ (m : Moment). (event : Event) × IsEventAt entries m event) listed moments moved are.each;
  begun = λ i e at. Contains-permutation listed moments (beginning_of i e) moved
      (are.begun i e (slice_get_within entries i e at) at);
  returned = λ i at. Contains-permutation listed moments (return_of i at.return) moved
      (are.returned i at (slice_get_within entries i at.entry at.is_entry));
  in_order = λ i j d less inside. no_later (get_or moments i d) (get_or moments j d)
      (sorted_far (λ m n. is_lt (key_cmp (key_of m) (key_of n))) (ranks_by key_total key_of) moments sorted i j d
      (omega (arith, less)) inside) (λ same. once i j (rank_of d) less (ranked j inside)
      (get_or-map rank_of moments i d (rank_of d) (omega (arith, less, inside)) ∙ same ∙
      sym (get_or-map rank_of moments j d (rank_of d) inside)));
}
  where
    ranks_once : AllPairs (λ (i j : ℕ). i ≢ j) (map rank_of listed)
    ranks_once = pairs_map (λ (m n : Moment). rank_of m < rank_of n) (λ (i j : ℕ). i ≢ j) (λ (m : Moment). Unit {0})
        rank_of listed (λ m n a b less same. omega (arith, less, same)) (λ j d less. tt) are.rising

    ranked : (j : ℕ) → j < length moments → j < length (map rank_of moments)
    ranked j inside = omega (arith, inside, length-map moments rank_of)

    flips : (x y : ℕ) → nat_eq x y ≡ nat_eq y x
    flips x y = grind (arith, nat_tests)

    once : AllPairs (λ (i j : ℕ). i ≢ j) (map rank_of moments)
    once = AllPairs-from_IsDistinct Decides-eqb (map rank_of moments)
        (IsDistinct-IsPermutation nat_eq flips (map rank_of listed) (map rank_of moments)
        (IsPermutation-map rank_of listed moments moved) (IsDistinct-from_AllPairs Decides-eqb (map rank_of listed)
        ranks_once))
