-- Lock and record are judged apart, each by the history of its own calls, or in a search among all calls.
use Rattle.std.proofs.Common.{◌≡◌, ℕ, ◌<◌, Bool, true, List, [], sym, ap, inl, inr}
use Rattle.std.proofs.Common.{◌∙◌}
use Rattle.std.specs.Prelude.{slice_get, filter, not, IsTrue}
use Rattle.std.specs.List.{All, Contains}
use Rattle.std.proofs.lemmas.List.Elements.{All-filter, All-weaker, All-nil, All-contains, filter_passes}
use Rattle.std.proofs.lemmas.List.Kept.{AllPairs-filter}
use Rattle.std.proofs.lemmas.Bool.{cases_Bool, true≢false}
use Rattle.stamp_core.specs.Call.{is_lock_call, call_suits}
use Rattle.stamp_core.specs.Content.{zeros}
use Rattle.stamp_core.specs.History.{IsLegal}
use Rattle.stamp_explain.specs.declared.observed.Observation.{Observation}
use Rattle.stamp_explain.specs.Observed.{ObservedHistory, IsObserved, IsInterval, DoNotOverlap}
use Rattle.stamp_explain.specs.Observed.{is_of_lock, is_of_record}
use Rattle.stamp_explain.specs.Explained.{Effect, IsEffectOf, history_of, AreOfTwoEntries, RespectsBefore}
use Rattle.stamp_explain.specs.Explained.{IsExplained, IsExplainedBy}
use Rattle.stamp_explain.specs.inner.States.{Runs, LockAlone, RecordAlone}
use Rattle.stamp_explain.specs.inner.Apart.{merge_by, begins_at}
use Rattle.stamp_explain.specs.ExplainLaws.{JudgedApart}
use Rattle.stamp_explain.proofs.Lists.{contains_filter, contains_from_map, contains_map}
use Rattle.stamp_explain.proofs.Entries.{same_entry}
use Rattle.stamp_explain.proofs.Lists.{at_index}
use Rattle.stamp_explain.proofs.Merging.{IsTimed, Merges, all_left, filter_merge}
use Rattle.stamp_explain.proofs.Merging.{split_legal, flipped, left_index, merge_all}
use Rattle.stamp_explain.proofs.Merging.{merge_legal, merge_pairs, merges}
use Rattle.stamp_explain.proofs.Seeing.{AllPass, IsOrderOf, parted, restored}

-- it may be observed
pub part_observed : (h : ObservedHistory) (p : Observation → Bool) → IsObserved h →
    IsObserved (record h { entries = filter p h.entries })
part_observed h p is = record {
  intervals = All-filter p IsInterval h.entries is.intervals;
  apart = AllPairs-filter DoNotOverlap p h.entries is.apart;
  threads = All-filter p (λ (e : Observation). e.thread < 64) h.entries is.threads;
  suit = All-filter p (λ (e : Observation). IsTrue (call_suits h.width e.call)) h.entries is.suit;
}

-- an effect of an entry that passes
abbrev IsOf : List Observation → (Observation → Bool) → Effect → Type 0
IsOf entries p x = IsEffectOf entries x × (p x.entry ≡ true)

module _ (h : ObservedHistory) where
  -- legal calls of the lock alone are its runs, and those of the record its
  lock_runs : (xs : List Effect) → AllPass is_of_lock xs → IsLegal h.limits h.width (history_of xs) →
      Runs (LockAlone h.limits) [] (history_of xs)
  lock_runs xs passes legal = (split_legal h.limits [] (zeros h.width) (all_left xs) passes
      (All-nil (λ (x : Effect). is_of_record x.entry ≡ true)) legal).0

  record_runs : (xs : List Effect) → AllPass is_of_record xs → IsLegal h.limits h.width (history_of xs) →
      Runs RecordAlone (zeros h.width) (history_of xs)
  record_runs xs passes legal = (split_legal h.limits [] (zeros h.width) (flipped (all_left xs))
      (All-nil (λ (x : Effect). is_of_lock x.entry ≡ true)) passes legal).1

  lock_legal : (xs : List Effect) → Runs (LockAlone h.limits) [] (history_of xs) →
      IsLegal h.limits h.width (history_of xs)
  lock_legal xs runs = merge_legal h.limits [] (zeros h.width) (all_left xs) runs tt

  record_legal : (xs : List Effect) → Runs RecordAlone (zeros h.width) (history_of xs) →
      IsLegal h.limits h.width (history_of xs)
  record_legal xs runs = merge_legal h.limits [] (zeros h.width) (flipped (all_left xs)) tt runs

  -- an order of all calls has an order of the lock's calls in it, and one of the record's
  part_in : (p : Observation → Bool) (order : List Effect) → IsExplainedBy h order →
      IsLegal h.limits h.width (history_of (filter (λ (x : Effect). p x.entry) order)) →
      IsOrderOf h p (filter (λ (x : Effect). p x.entry) order)
  part_in p order by legal = record {
    by = record {
      effects = All-filter (λ (x : Effect). p x.entry) (IsEffectOf h.entries) order by.effects;
      once = AllPairs-filter AreOfTwoEntries (λ (x : Effect). p x.entry) order by.once;
      ordered = AllPairs-filter RespectsBefore (λ (x : Effect). p x.entry) order by.ordered;
      legal = legal;
    };
    passes = filter_passes (λ (x : Effect). p x.entry) order;
    returned = λ i e at has passes.
        let found : (x : Effect) × (Contains order x × (x.index ≡ i)) =
        contains_from_map (λ (x : Effect). x.index) order i (by.returned i e at has) in
        let same : found.0.entry ≡ e = same_entry h.entries found.0 i e
        (All-contains (IsEffectOf h.entries) order found.0 by.effects found.1.0) found.1.1 at in
        rw found.1.1 at (contains_map (λ (x : Effect). x.index) (filter (λ (x : Effect). p x.entry) order) found.0
        (contains_filter (λ (x : Effect). p x.entry) order found.0 found.1.0 (rw same passes)));
  }

  halves : (order : List Effect) → IsExplainedBy h order →
      IsOrderOf h is_of_lock (filter (λ (x : Effect). is_of_lock x.entry) order) ×
      IsOrderOf h is_of_record (filter (λ (x : Effect). is_of_record x.entry) order)
  halves order by =
      let runs = split_legal h.limits [] (zeros h.width) (filter_merge (λ (x : Effect). is_of_lock x.entry) order)
      (filter_passes (λ (x : Effect). is_of_lock x.entry) order)
      (filter_passes (λ (x : Effect). is_of_record x.entry) order) by.legal in
      (part_in is_of_lock order by (lock_legal _ runs.0), part_in is_of_record order by (record_legal _ runs.1))

  -- and the other way round they are merged
  abbrev pub begins : Effect → ℕ
  begins x = begins_at (slice_get h.entries x.index)

  pub merged_explains : (xs ys : List Effect) → IsObserved h → IsOrderOf h is_of_lock xs →
      IsOrderOf h is_of_record ys → IsExplainedBy h (merge_by begins xs ys)
  merged_explains xs ys observed locks records = record {
    effects = merge_all (IsEffectOf h.entries) m.0 locks.by.effects records.by.effects;
    once = merge_pairs AreOfTwoEntries (IsOf h.entries is_of_lock) (IsOf h.entries is_of_record) apart m.0
        (λ k d lt. (locks.by.effects k d lt, locks.passes k d lt))
        (λ k d lt. (records.by.effects k d lt, records.passes k d lt)) locks.by.once records.by.once;
    returned = λ i e at has. elim (cases_Bool (is_lock_call e.call)) [
      | inl lock ↦ left_index i m.0 (locks.returned i e at has lock)
      | inr guarded ↦ left_index i (flipped m.0) (records.returned i e at has (ap not guarded))
    ];
    ordered = m.1;
    legal = merge_legal h.limits [] (zeros h.width) m.0 (lock_runs xs locks.passes locks.by.legal)
        (record_runs ys records.passes records.by.legal);
  }
    where
      apart : (x y : Effect) → IsOf h.entries is_of_lock x → IsOf h.entries is_of_record y → AreOfTwoEntries x y ×
          AreOfTwoEntries y x
      apart x y x_is y_is = (λ same. differ same, λ same. differ (sym same))
        where
          differ : x.index ≡ y.index → ⊥
          differ same =
              let it : x.entry ≡ y.entry = same_entry h.entries x y.index y.entry x_is.0 same y_is.0.is_entry in
              let lock : is_lock_call y.entry.call ≡ true = rw it at x_is.1 in
              true≢false (sym y_is.1 ∙ ap not lock)

      timed : (zs : List Effect) → All (IsEffectOf h.entries) zs → All (IsTimed begins) zs
      timed zs effects = All-weaker (IsEffectOf h.entries) (IsTimed begins) (λ z is. record {
        first = ap begins_at is.is_entry;
        interval = at_index IsInterval h.entries z.index z.entry observed.intervals is.is_entry;
      }) zs effects

      m : Merges xs ys (merge_by begins xs ys)
      m = merges begins xs ys (timed xs locks.by.effects) (timed ys records.by.effects) locks.by.ordered
          records.by.ordered

  together : (xs ys : List Effect) → IsObserved h → IsOrderOf h is_of_lock xs → IsOrderOf h is_of_record ys →
      IsExplained h
  together xs ys observed locks records = record {
    order = merge_by begins xs ys;
    by = merged_explains xs ys observed locks records;
  }

pub judged_apart : JudgedApart
judged_apart h observed = (
  (part_observed h is_of_lock observed, part_observed h is_of_record observed),
  (
    λ explained.
        let both = halves h explained.order explained.by in
        (parted h is_of_lock _ both.0, parted h is_of_record _ both.1),
    λ both. together h _ _ observed (restored h is_of_lock both.0.order both.0.by)
        (restored h is_of_record both.1.order both.1.by),
  ),
)
