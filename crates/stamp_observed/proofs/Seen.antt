-- Which calls come before the first fault.
use Rattle.std.proofs.Common.{◌≡◌, ◌≤◌, ◌<◌, ℕ, ◌+◌, ◌∙◌, List, [], ◌∷◌, ◌++◌, length}
use Rattle.std.proofs.Common.{get_or, ap, sym, subst, arith, Some, length-take-le}
use Rattle.std.specs.Prelude.{take, slice_get}
use Rattle.std.specs.List.{All, AllPairs}
use Rattle.std.proofs.lemmas.List.{take_more, take_all, take-take, get_or-take}
use Rattle.std.proofs.lemmas.List.Elements.{All-take}
use Rattle.std.proofs.lemmas.List.Quantifiers.{all_pairs_push}
use Rattle.std.proofs.lemmas.Option.{get_or_from_slice_get, slice_get_within, slice_get-get_or}
use Rattle.stamp_explain.specs.declared.observed.Observation.{Observation}
use Rattle.stamp_explain.specs.Observed.{ObservedHistory, IsInterval, DoNotOverlap, IsObserved}
use Rattle.stamp_explain.proofs.Lists.{pairs_none}
use Rattle.stamp_observed.specs.declared.judging.ObservedWhy.TheVariants.{Interval, Overlap}
use Rattle.stamp_observed.specs.ObservedFault.{AreSeen, IsFirstFault}
use Rattle.stamp_observed.specs.inner.ObservedFault.{AreIntervalsTo, IsFirstOverlap}
use Rattle.stamp_observed.specs.Suited.{AreSuited}

-- between these indices the first overlap is
pub record IsBetween (entries : List Observation) (without too_many : ℕ) : Type 0 where
  pub below : without < too_many
  pub within : too_many ≤ length entries
  pub before : AllPairs DoNotOverlap (take without entries)
  pub broken : ¬ AllPairs DoNotOverlap (take too_many entries)

pub between_ends : (entries : List Observation) → ¬ AllPairs DoNotOverlap entries →
    IsBetween entries 0 (length entries)
between_ends entries refuted = record {
  below = some entries refuted;
  within = omega arith;
  before = pairs_none DoNotOverlap;
  broken = λ pairs. refuted (subst (AllPairs DoNotOverlap) (take_all (length entries) entries (omega arith)) pairs);
}
  where
    some : (entries : List Observation) → ¬ AllPairs DoNotOverlap entries → 0 < length entries
    some [] refuted = absurd (refuted (pairs_none DoNotOverlap))
    some (e ∷ es) refuted = omega arith

pub first_between : (entries : List Observation) (without too_many : ℕ) → IsBetween entries without too_many →
    too_many ≤ without + 1 → IsFirstOverlap entries without
first_between entries without too_many is le = record {
  within = omega (arith, is.below, is.within);
  before = is.before;
  broken = let next : too_many ≡ without + 1 = omega (arith, is.below, le) in
      subst (λ (n : ℕ). ¬ AllPairs DoNotOverlap (take n entries)) next is.broken;
}

-- the call of an index
call_at : (es : List Observation) (i : ℕ) → i < length es → (e : Observation) × (slice_get es i ≡ Some e)
call_at [] i lt = absurd (omega arith)
call_at (e ∷ es) i lt = (get_or (e ∷ es) i e, slice_get-get_or (e ∷ es) i e lt)

pub more : (es : List Observation) (i : ℕ) (e : Observation) → slice_get es i ≡ Some e →
    take (i + 1) es ≡ take i es ++ e ∷ []
more es i e at = take_more es i e (slice_get_within es i e at) ∙
    ap (λ (x : Observation). take i es ++ x ∷ []) (get_or_from_slice_get es i e e at)

-- the first call that breaks something
overlap_at : (es : List Observation) (count i : ℕ) → count ≤ length es → All IsInterval (take count es) →
    IsFirstOverlap (take count es) i → (e : Observation) × ((slice_get es i ≡ Some e) ×
    (AreSeen (take i es) × (IsInterval e × ¬ All (λ (other : Observation). DoNotOverlap other e) (take i es))))
overlap_at es count i within intervals first =
    let taken : length (take count es) ≡ count = length-take-le count es within in
    let less : i < count = omega (arith, first.within, taken) in
    let found = call_at es i (omega (arith, less, within)) in
    let e = found.0 in
    let same : take i (take count es) ≡ take i es = take-take i count es (omega (arith, less)) in
    let next : take (i + 1) (take count es) ≡ take (i + 1) es = take-take (i + 1) count es (omega (arith, less)) in
    let pairs : AllPairs DoNotOverlap (take i es) = subst (AllPairs DoNotOverlap) same first.before in (
      e,
      (
        found.1,
        (
          record {
            intervals = subst (All IsInterval) same (All-take IsInterval i (take count es) intervals);
            none_overlap = pairs;
          },
          (
            subst IsInterval (get_or-take count es i e less ∙ get_or_from_slice_get es i e e found.1)
                (intervals i e first.within),
            λ all. first.broken (subst (AllPairs DoNotOverlap) (sym (next ∙ more es i e found.1))
                (all_pairs_push DoNotOverlap (take i es) e pairs (λ k d lt. all k d lt))),
          ),
        ),
      ),
    )

pub overlap_fault : (h : ObservedHistory) (count i : ℕ) → AreIntervalsTo h.entries count →
    IsFirstOverlap (take count h.entries) i → IsFirstFault h i Overlap
overlap_fault h count i intervals first =
    let at = overlap_at h.entries count i intervals.within intervals.before first in
    record { entry = at.0; is_entry = at.1.0; before = at.1.1.0; breaks = (at.1.1.1.0, at.1.1.1.1) }

pub interval_fault : (h : ObservedHistory) (count : ℕ) → AreIntervalsTo h.entries count → count < length h.entries →
    AllPairs DoNotOverlap (take count h.entries) → IsFirstFault h count Interval
interval_fault h count intervals lt pairs =
    let at = call_at h.entries count lt in
    record {
      entry = at.0;
      is_entry = at.1;
      before = record { intervals = intervals.before; none_overlap = pairs };
      breaks = intervals.broken at.0 at.1;
    }

pub no_fault : (h : ObservedHistory) (count : ℕ) → AreSuited h → AreIntervalsTo h.entries count →
    length h.entries ≤ count → AllPairs DoNotOverlap (take count h.entries) → IsObserved h
no_fault h count suited intervals all pairs =
    let same : take count h.entries ≡ h.entries = take_all count h.entries all in
    record {
      intervals = subst (All IsInterval) same intervals.before;
      apart = subst (AllPairs DoNotOverlap) same pairs;
      threads = suited.threads;
      suit = suited.suit;
    }
