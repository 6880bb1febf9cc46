-- Spans one after the other, and from where on each thread is free.
use Rattle.std.proofs.Common.{◌≡◌, ◌≢◌, ◌⊎◌, ℕ, ◌+◌, ◌≤◌, ◌<◌, List, [], ◌∷◌, ◌++◌, length, get_or, set, replicate}
use Rattle.std.proofs.Common.{refl, sym, ◌∙◌, subst, inl, inr, arith, length-append, length-take-le}
use Rattle.std.proofs.Common.{get_or-set_same, get_or-set_other}
use Rattle.std.specs.Prelude.{take}
use Rattle.std.specs.List.{All, AllPairs}
use Rattle.std.proofs.lemmas.Bool.{cases_eq}
use Rattle.std.proofs.Math.ListN.{length-set}
use Rattle.std.proofs.Math.Seq.{get_or-append_seam}
use Rattle.std.proofs.lemmas.List.{take_more, get_or_append_left, get_or-take, length-replicate, get_or-replicate}
use Rattle.std.proofs.lemmas.List.{take_all}
use Rattle.std.proofs.lemmas.List.Elements.{All-push}
use Rattle.std.proofs.lemmas.List.Quantifiers.{all_pairs_push}
use Rattle.stamp_explain.proofs.Lists.{pairs_none}
use Rattle.stamp_observed.specs.declared.spans.Span.{Span}
use Rattle.stamp_observed.specs.inner.Span.{Follows}
use Rattle.stamp_observed.proofs.Meeting.{IsRising}

-- a call of these ends no later than this if it is of the thread
abbrev pub IsFreeBy : ℕ → ℕ → Span → Type 0
IsFreeBy t n s = s.thread ≡ t → s.free ≤ n

-- from this position on the thread is free: no call keeps it longer, and one keeps it until then
abbrev pub IsFreeFrom : List Span → ℕ → ℕ → Type 0
IsFreeFrom spans t n = All (IsFreeBy t n) spans × ((n ≡ 0) ⊎ ((k : ℕ) × (k < length spans) ×
    ((d : Span) → ((get_or spans k d).thread ≡ t) × ((get_or spans k d).free ≡ n))))

-- these follow one another, and this is from where on each thread is free
pub record AreFree (spans : List Span) (free : List ℕ) : Type 0 where
  pub follow : AllPairs Follows spans
  pub threads : length free ≡ 64
  pub from : (t : ℕ) → t < 64 → IsFreeFrom spans t (get_or free t 0)

pub none_kept : AreFree [] (replicate 64 0)
none_kept = record {
  follow = pairs_none Follows;
  threads = length-replicate {A = ℕ} 64 0;
  from = λ t lt. (λ k d less. absurd (omega arith), inl (get_or-replicate {A = ℕ} 64 t 0 0 lt));
}

follows_these : (spans : List Span) (s : Span) (n : ℕ) → IsFreeFrom spans s.thread n → n ≤ s.first →
    (k : ℕ) (d : Span) → k < length spans → Follows (get_or spans k d) s
follows_these spans s n free le k d lt same = omega (arith, free.0 k d lt same, le)

free_of_other : (spans : List Span) (s : Span) (t n : ℕ) → s.thread ≢ t → IsFreeFrom spans t n →
    IsFreeFrom (spans ++ s ∷ []) t n
free_of_other spans s t n other free = (
  All-push (IsFreeBy t n) spans s free.0 (λ same. absurd (other same)),
  by free.1,
)
  where
    by : (n ≡ 0) ⊎ ((k : ℕ) × (k < length spans) ×
        ((d : Span) → ((get_or spans k d).thread ≡ t) × ((get_or spans k d).free ≡ n))) →
        (n ≡ 0) ⊎ ((k : ℕ) × (k < length (spans ++ s ∷ [])) ×
        ((d : Span) → ((get_or (spans ++ s ∷ []) k d).thread ≡ t) × ((get_or (spans ++ s ∷ []) k d).free ≡ n)))
    by (inl none) = inl none
    by (inr (k, lt, at)) = inr (
      k,
      omega (arith, lt, length-append spans (s ∷ [])),
      λ d. subst (λ (x : Span). (x.thread ≡ t) × (x.free ≡ n)) (sym (get_or_append_left spans (s ∷ []) d k lt)) (at d),
    )

free_of_same : (spans : List Span) (s : Span) (n : ℕ) → IsFreeFrom spans s.thread n → n ≤ s.first → IsRising s →
    IsFreeFrom (spans ++ s ∷ []) s.thread s.free
free_of_same spans s n free le rising = (
  All-push (IsFreeBy s.thread s.free) spans s (λ k d lt same. omega (arith, free.0 k d lt same, le, rising))
      (λ _. omega arith),
  inr (
    length spans,
    omega (arith, length-append spans (s ∷ [])),
    λ d. subst (λ (x : Span). (x.thread ≡ s.thread) × (x.free ≡ s.free)) (sym (get_or-append_seam spans s [] d))
        (refl, refl),
  ),
)

one_more : (spans : List Span) (free : List ℕ) (s : Span) → AreFree spans free → s.thread < 64 → IsRising s →
    get_or free s.thread 0 ≤ s.first → AreFree (spans ++ s ∷ []) (set free s.thread s.free)
one_more spans free s are few rising le = record {
  follow = all_pairs_push Follows spans s are.follow
      (follows_these spans s (get_or free s.thread 0) (are.from s.thread few) le);
  threads = length-set free s.thread s.free ∙ are.threads;
  from = λ t lt. by t lt (cases_eq s.thread t);
}
  where
    by : (t : ℕ) → t < 64 → (s.thread ≡ t) ⊎ (s.thread ≢ t) →
        IsFreeFrom (spans ++ s ∷ []) t (get_or (set free s.thread s.free) t 0)
    by t lt (inl same) =
        let inside : s.thread < length free = omega (arith, few, are.threads) in
        subst (λ (u : ℕ). IsFreeFrom (spans ++ s ∷ []) u (get_or (set free s.thread s.free) u 0)) same
        (subst (λ (n : ℕ). IsFreeFrom (spans ++ s ∷ []) s.thread n)
        (sym (get_or-set_same free s.thread s.free 0 inside))
        (free_of_same spans s (get_or free s.thread 0) (are.from s.thread few) le rising))
    by t lt (inr other) =
        let apart : t ≢ s.thread = λ e. other (sym e) in
        subst (λ (n : ℕ). IsFreeFrom (spans ++ s ∷ []) t n)
        (sym (get_or-set_other free s.thread t s.free 0 apart))
        (free_of_other spans s t (get_or free t 0) other (are.from t lt))

-- one span more of a list
pub next_follows : (spans : List Span) (free : List ℕ) (i : ℕ) (d : Span) → i < length spans →
    AreFree (take i spans) free → (get_or spans i d).thread < 64 → IsRising (get_or spans i d) →
    get_or free (get_or spans i d).thread 0 ≤ (get_or spans i d).first →
    AreFree (take (i + 1) spans) (set free (get_or spans i d).thread (get_or spans i d).free)
next_follows spans free i d lt are few rising le =
    subst (λ (xs : List Span). AreFree xs (set free (get_or spans i d).thread (get_or spans i d).free))
    (sym (take_more spans i d lt)) (one_more (take i spans) free (get_or spans i d) are few rising le)

-- one that begins while its thread is kept
pub next_is_kept : (spans : List Span) (free : List ℕ) (i : ℕ) (d : Span) → i < length spans →
    AreFree (take i spans) free → (get_or spans i d).thread < 64 →
    (get_or spans i d).first < get_or free (get_or spans i d).thread 0 → ¬ AllPairs Follows spans
next_is_kept spans free i d lt are few less pairs = by (are.from s.thread few).1
  where
    s : Span
    s = get_or spans i d

    by : (get_or free s.thread 0 ≡ 0) ⊎ ((k : ℕ) × (k < length (take i spans)) ×
        ((d : Span) → ((get_or (take i spans) k d).thread ≡ s.thread) ×
        ((get_or (take i spans) k d).free ≡ get_or free s.thread 0))) → ⊥
    by (inl none) = omega (arith, none, less)
    by (inr (k, within, is)) =
        let le : i ≤ length spans = omega (arith, lt) in
        let sooner : k < i = omega (arith, within, length-take-le i spans le) in
        let here = subst (λ (x : Span). (x.thread ≡ s.thread) × (x.free ≡ get_or free s.thread 0))
        (get_or-take i spans k d sooner) (is d) in
        let follows : Follows (get_or spans k d) s = pairs k i d sooner lt in
        omega (arith, follows here.0, here.1, less)

pub all_follow : (spans : List Span) (free : List ℕ) (i : ℕ) → length spans ≤ i → AreFree (take i spans) free →
    AllPairs Follows spans
all_follow spans free i all are = subst (λ (xs : List Span). AllPairs Follows xs) (take_all i spans all) are.follow
