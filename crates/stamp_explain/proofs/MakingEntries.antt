-- The recorded history of an order.
use Rattle.std.proofs.Common.{◌≡◌, ◌⊎◌, ℕ, ◌+◌, ◌*◌, ◌<◌, ◌≤◌}
use Rattle.std.proofs.Common.{List, [], ◌∷◌, ◌++◌, length, get_or, map, refl}
use Rattle.std.proofs.Common.{sym, ◌∙◌, ap, arith, inl, inr, Option, None, Some}
use Rattle.std.specs.Prelude.{drop, take, slice_get, IsTrue, max}
use Rattle.std.specs.List.{All, AllZip}
use Rattle.std.proofs.lemmas.List.{append_assoc, append-nil, drop_all, drop_more, length-map, map_more}
use Rattle.std.proofs.lemmas.List.Elements.{All-nil, All-head, All-map, All-tail, All-weaker, All-more}
use Rattle.std.proofs.lemmas.List.Elements.{Contains-push, Contains-append_left}
use Rattle.std.proofs.lemmas.Option.{get_or_from_slice_get, same_Some, slice_get_read, slice_get_within}
use Rattle.stamp_core.specs.Call.{call_suits}
use Rattle.stamp_core.specs.Record.{recorded, IsRecorded, EntrySuits}
use Rattle.stamp_core.specs.declared.entry.Entry.{Entry}
use Rattle.stamp_explain.specs.declared.observed.Observation.{Observation}
use Rattle.stamp_explain.specs.declared.observed.Returned.{Returned}
use Rattle.stamp_explain.specs.declared.points.OrderedCall.{OrderedCall}
use Rattle.stamp_explain.specs.Observed.{ObservedHistory, IsObserved, IsSmall}
use Rattle.stamp_explain.specs.Explained.{Effect, IsEffectOf, indices_of}
use Rattle.stamp_explain.specs.inner.Points.{IsLinearizationOf}
use Rattle.stamp_explain.specs.Points.{IsEntryOf, IsRecordOfObserved, HasPoints, IsLastTold, EndsAsTold, told_until}
use Rattle.stamp_explain.specs.Points.{told_last_by, ends_at}
use Rattle.stamp_explain.specs.inner.Points.{entry_with_point, position_at, earlier_at}
use Rattle.stamp_explain.proofs.Entries.{same_entry}
use Rattle.stamp_explain.proofs.Lists.{at_index}
use Rattle.stamp_explain.proofs.Lists.{from_map, zip_all}
use Rattle.stamp_explain.proofs.Spreading.{IsReady, TakesEffect, points_from, takes_effect, ready_of, points_are_of}
use Rattle.stamp_explain.proofs.Spreading.{points_are_linearized}
use Rattle.stamp_explain.proofs.Threads.{few_threads}

-- the last that is told of no call, and of one more
pub none_told : (entries : List Observation) → IsLastTold (take 0 entries) 0
none_told entries = record { over = All-nil (λ (e : Observation). told_until e ≤ 0); told = inl refl }

pub told_more : (entries : List Observation) (i : ℕ) (e : Observation) (end n : ℕ) → i < length entries →
    e ≡ get_or entries i e → IsLastTold (take i entries) end → n ≡ max end (told_until e) →
    IsLastTold (take (i + 1) entries) n
told_more entries i e end n lt read is n_is = record {
  over = All-more (λ (o : Observation). told_until o ≤ n) entries i e lt
      (All-weaker (λ (o : Observation). told_until o ≤ end) (λ (o : Observation). told_until o ≤ n)
      (λ o le. omega (arith, le, n_is)) (take i entries) is.over) (omega (arith, n_is, ap told_until read));
  told = elim (either end (told_until e) n_is) [
    | inl same ↦ elim is.told [
      | inl none ↦ inl (same ∙ none)
      | inr has ↦ inr (rw (pushed, same) (Contains-append_left (map told_until (take i entries)) (told_until e ∷ [])
          end has))
    ]
    | inr same ↦ inr (rw (pushed, same) (Contains-push (map told_until (take i entries)) (told_until e)))
  ];
}
  where
    either : (a b : ℕ) → n ≡ max a b → (n ≡ a) ⊎ (n ≡ b)
    either a b is = grind arith

    pushed : map told_until (take (i + 1) entries) ≡ map told_until (take i entries) ++ told_until e ∷ []
    pushed = map_more told_until entries i e lt ∙
        ap (λ (o : Observation). map told_until (take i entries) ++ told_until o ∷ []) (sym read)

-- a call begins no later than the last that is told
pub begun_by_end : (entries : List Observation) (end : ℕ) → IsLastTold entries end →
    All (λ (e : Observation). e.first ≤ end) entries
begun_by_end entries end is = All-weaker (λ (e : Observation). told_until e ≤ end) (λ (e : Observation). e.first ≤ end)
    (λ e le. by e.first e.returned le) entries is.over
  where
    by : (n : ℕ) (o : Option Returned) → told_last_by o n ≤ end → n ≤ end
    by n None le = le
    by n (Some r) le = omega arith

-- the call of this index in an order
abbrev as_call : Effect → OrderedCall
as_call x = record { index = x.index; reply = x.reply }

record IsCallAt (h : ObservedHistory) (order : List Effect) (k : ℕ) (t : OrderedCall) : Type 0 where
  effect : Effect
  left : drop k order ≡ effect ∷ drop (k + 1) order
  is : IsEffectOf h.entries effect
  index : effect.index ≡ t.index
  reply : effect.reply ≡ t.reply

call_at : (h : ObservedHistory) (calls : List OrderedCall) (o : IsLinearizationOf h calls) (k : ℕ) (t : OrderedCall) →
    k < length calls → t ≡ get_or calls k t → IsCallAt h o.order k t
call_at h calls o k t lt read =
    let found : (x : Effect) × ((slice_get o.order k ≡ Some x) × (as_call x ≡ t)) =
    from_map as_call o.order k t (rw o.are at (slice_get_read calls (length calls) k t refl lt read)) in
    let within : k < length o.order = slice_get_within o.order k found.0 found.1.0 in
    let same : get_or o.order k found.0 ≡ found.0 = get_or_from_slice_get o.order k found.0 found.0 found.1.0 in
    record {
      effect = found.0;
      left = drop_more o.order k found.0 within ∙ ap (λ (x : Effect). x ∷ drop (k + 1) o.order) same;
      is = rw same at (o.explains.effects k found.0 within);
      index = ap (λ (u : OrderedCall). u.index) found.1.1;
      reply = ap (λ (u : OrderedCall). u.reply) found.1.1;
    }

pub call_inside : (h : ObservedHistory) (calls : List OrderedCall) (o : IsLinearizationOf h calls) (k : ℕ)
    (t : OrderedCall) → k < length calls → t ≡ get_or calls k t → t.index < length h.entries
call_inside h calls o k t lt read =
    let at : IsCallAt h o.order k t = call_at h calls o k t lt read in
    rw (← at.index) (slice_get_within h.entries at.effect.index at.effect.entry at.is.is_entry)

-- of k calls of an order the entries are made, and the next takes effect from this position on
pub record MakesEntries (order : List Effect) (end k : ℕ) (entries : List Entry) (q n : ℕ) : Type 0 where
  pub threads : List ℕ
  pub many : length threads ≡ n
  pub ready : IsReady end q threads (drop k order)
  pub points : entries ++ points_from end q n (drop k order) ≡ points_from end 0 0 order

begun_of : (h : ObservedHistory) (calls : List OrderedCall) (end : ℕ) (o : IsLinearizationOf h calls) →
    IsLastTold h.entries end → All (λ (y : Effect). y.entry.first ≤ end) o.order
begun_of h calls end o told k d lt = at_index (λ (e : Observation). e.first ≤ end) h.entries (get_or o.order k d).index
    (get_or o.order k d).entry (begun_by_end h.entries end told) (o.explains.effects k d lt).is_entry

pub makes_none : (h : ObservedHistory) (calls : List OrderedCall) (end : ℕ) → IsObserved h → IsLastTold h.entries end →
    (o : IsLinearizationOf h calls) → MakesEntries o.order end 0 [] 0 0
makes_none h calls end observed told o = record {
  threads = [];
  many = refl;
  ready = ready_of h end o.order observed o.explains (begun_of h calls end o told);
  points = refl;
}

-- the entry of this call is made next
pub record MakesNext (order : List Effect) (end k : ℕ) (t : OrderedCall) (entries : List Entry) (q n : ℕ)
    (e : Observation) : Type 0
  where
    pub position : position_at q e.first ≤ end
    pub few : earlier_at q n e.first < 64
    pub next : MakesEntries order end (k + 1) (entries ++ entry_with_point e t.reply end (64 * position_at q e.first +
        earlier_at q n e.first) ∷ []) (position_at q e.first) (earlier_at q n e.first + 1)

pub makes_next : (h : ObservedHistory) (calls : List OrderedCall) (end k : ℕ) (t : OrderedCall) (entries : List Entry)
    (q n : ℕ) (e : Observation) (read : List Observation) (o : IsLinearizationOf h calls) → k < length calls →
    t ≡ get_or calls k t → read ≡ h.entries → e ≡ get_or read t.index e → MakesEntries o.order end k entries q n →
    MakesNext o.order end k t entries q n e
makes_next h calls end k t entries q n e read o lt is_t same is_e is =
    let at : IsCallAt h o.order k t = call_at h calls o k t lt is_t in
    let it : at.effect.entry ≡ e = same_entry h.entries at.effect t.index e at.is at.index
    (slice_get_read h.entries (length h.entries) t.index e refl (call_inside h calls o k t lt is_t)
    (rw same at is_e)) in
    let step : TakesEffect end (position_at q e.first) (earlier_at q n e.first) at.effect (drop (k + 1) o.order) =
    rw it at (takes_effect end q is.threads n at.effect (drop (k + 1) o.order) is.many (rw at.left at is.ready)) in
    record {
      position = step.ready.reached;
      few = step.few;
      next = record {
        threads = step.threads;
        many = step.many;
        ready = step.ready;
        points = append_assoc entries (_ ∷ []) _ ∙ rw (at.left, it, at.reply) at is.points;
      };
    }

-- each entry ends when its call returned, or with the history
ends_as_told : (hs : List Observation) (end q n : ℕ) (xs : List Effect) → All (IsEffectOf hs) xs →
    AllZip (EndsAsTold hs end) (indices_of xs) (points_from end q n xs)
ends_as_told hs end q n [] effects = tt
ends_as_told hs end q n (x ∷ xs) effects = (
  (λ o at. ap (λ (e : Observation). ends_at e.returned end)
      (same_Some x.entry o (sym (All-head (IsEffectOf hs) x xs effects).is_entry ∙ at))),
  ends_as_told hs end (position_at q x.entry.first) (earlier_at q n x.entry.first + 1) xs
      (All-tail (IsEffectOf hs) x xs effects),
)

pub all_made : (h : ObservedHistory) (calls : List OrderedCall) (end k : ℕ) (entries : List Entry) (q n : ℕ)
    (o : IsLinearizationOf h calls) → MakesEntries o.order end k entries q n → length calls ≤ k →
    entries ≡ points_from end 0 0 o.order
all_made h calls end k entries q n o is over =
    let none : drop k o.order ≡ [] = drop_all k o.order (omega (
      arith,
      ap (λ (ts : List OrderedCall). length ts) o.are,
      length-map {B = OrderedCall} o.order as_call,
    )) in
    sym (append-nil entries) ∙ rw none at is.points

pub has_points : (h : ObservedHistory) (calls : List OrderedCall) (end : ℕ) (o : IsLinearizationOf h calls) →
    IsObserved h → IsLastTold h.entries end →
    HasPoints h (recorded h.limits h.width (points_from end 0 0 o.order) [])
has_points h calls end o observed told = record {
  of = points_are_of h end o.order observed o.explains (begun_of h calls end o told);
  linearized = points_are_linearized h end o.order observed o.explains (begun_of h calls end o told);
  end = end;
  is_end = told;
  ends = ends_as_told h.entries end 0 0 o.order o.explains.effects;
}

-- it is a recorded history
zip_lengths : {A B : Type 0} (R : A → B → Type 0) (xs : List A) (ys : List B) → AllZip R xs ys →
    length xs ≡ length ys
zip_lengths R [] [] z = refl
zip_lengths R [] (y ∷ ys) z = absurd z
zip_lengths R (x ∷ xs) [] z = absurd z
zip_lengths R (x ∷ xs) (y ∷ ys) z = omega (arith, zip_lengths R xs ys z.1)

pub points_are_recorded : (h : ObservedHistory) (calls : List OrderedCall) (end : ℕ) (o : IsLinearizationOf h calls) →
    IsObserved h → IsSmall h → IsLastTold h.entries end →
    IsRecorded (recorded h.limits h.width (points_from end 0 0 o.order) [])
points_are_recorded h calls end o observed small told = record {
  width = small.width;
  entries = omega (
    arith,
    small.entries,
    zip_lengths (IsEntryOf h.entries) of.indices (points_from end 0 0 o.order) of.entries,
    few_threads (indices_of o.order) (length h.entries) of.once (All-map (λ (i : ℕ). i < length h.entries)
        (λ (x : Effect). x.index) o.order (λ k d lt. slice_get_within h.entries (get_or o.order k d).index
        (get_or o.order k d).entry (o.explains.effects k d lt).is_entry)),
  );
  report = inl refl;
  suit = zip_all (IsEntryOf h.entries) (λ _. Unit {0}) (EntrySuits h.width) of.indices (points_from end 0 0 o.order)
      suits of.entries (λ _ _ _. tt);
}
  where
    of : IsRecordOfObserved h (recorded h.limits h.width (points_from end 0 0 o.order) [])
    of = points_are_of h end o.order observed o.explains (begun_of h calls end o told)

    suits : (i : ℕ) (e : Entry) → IsEntryOf h.entries i e → Unit {0} → EntrySuits h.width e
    suits i e is _ = record {
      thread = rw is.thread (at_index (λ (o : Observation). o.thread < 64) h.entries i is.observed observed.threads
          is.is_entry);
      call = rw is.call (at_index (λ (o : Observation). IsTrue (call_suits h.width o.call)) h.entries i is.observed
          observed.suit is.is_entry);
    }
