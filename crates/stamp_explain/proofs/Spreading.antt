-- An order gives points: each call takes effect at the largest beginning up to it, and those of one position
-- follow one another there.
use Rattle.std.proofs.Common.{◌≡◌, ◌≢◌, ◌⊎◌, ℕ, ◌+◌, ◌*◌, ◌<◌, ◌≤◌, zero, suc, List, [], ◌∷◌, length, get_or}
use Rattle.std.proofs.Common.{refl, sym, ap, inl, inr, arith, Option, None, Some, Bool, true, false}
use Rattle.std.specs.Prelude.{MatchOption, nat_lt}
use Rattle.std.specs.List.{All, AllPairs, AllZip, AllAdjacentBelow, Contains}
use Rattle.std.proofs.lemmas.List.Elements.{All-nil, All-cons, All-head, All-tail, All-weaker, Contains-get_or}
use Rattle.std.proofs.lemmas.List.Sums.{get_or-le-sum_by}
use Rattle.std.specs.List.{sum_by}
use Rattle.std.proofs.lemmas.Option.{get_or_from_slice_get, slice_get_within}
use Rattle.std.proofs.lemmas.Bool.{cases_lt, cases_order}
use Rattle.std.proofs.lemmas.Bool.Decides.{nat_tests}
use Rattle.stamp_core.specs.History.{History}
use Rattle.stamp_core.specs.Record.{recorded}
use Rattle.stamp_core.specs.Linearized.{HasPointInside, KeepsThreadOrder, IsLinearized, history_of as entries_history}
use Rattle.stamp_core.specs.declared.entry.Entry.{Entry}
use Rattle.stamp_explain.specs.declared.observed.Observation.{Observation}
use Rattle.stamp_explain.specs.declared.observed.Returned.{Returned}
use Rattle.stamp_explain.specs.Observed.{ObservedHistory, IsBefore, IsInterval, DoNotOverlap, IsObserved}
use Rattle.stamp_explain.specs.Explained.{Effect, IsEffectOf, history_of, indices_of, RespectsBefore, IsExplainedBy}
use Rattle.stamp_explain.specs.Points.{IsEntryOf, IsRecordOfObserved, ends_at}
use Rattle.stamp_explain.specs.inner.Points.{entry_with_point, position_at, earlier_at}
use Rattle.stamp_explain.specs.ExplainLaws.{ExplainedHasPoints}
use Rattle.stamp_explain.proofs.Lists.{none_in_empty, contains_cases, pairs_none, pairs_cons, pairs_head, pairs_tail}
use Rattle.stamp_explain.proofs.Lists.{pairs_map, zip_pairs}
use Rattle.stamp_explain.proofs.Cutting.{before_some, some_before}
use Rattle.stamp_explain.proofs.Lists.{at_index}
use Rattle.stamp_explain.proofs.Threads.{few_threads}

-- the points of an order, where so many calls took effect at this position
abbrev pub points_from : ℕ → ℕ → ℕ → List Effect → List Entry
points_from end q n [] = []
points_from end q n (x ∷ xs) =
    entry_with_point x.entry x.reply end (64 * position_at q x.entry.first + earlier_at q n x.entry.first) ∷
    points_from end (position_at q x.entry.first) (earlier_at q n x.entry.first + 1) xs

-- the call had not returned before this position
abbrev pub IsNotOver : ℕ → Observation → Type 0
IsNotOver q e = (r : Returned) → e.returned ≡ Some r → q ≤ r.last

not_over : (a b : Observation) → ¬ IsBefore b a → IsNotOver a.first b
not_over a b misses r is = elim (cases_lt r.last a.first) [
  | inl less ↦ absurd (misses (before_some b a r is less))
  | inr le ↦ le
]

-- a call that had begun by this position is of none of these threads
abbrev pub IsFree : ℕ → List ℕ → Effect → Type 0
IsFree q ts y = y.entry.first ≤ q → ¬ Contains ts y.entry.thread

pub record AreRight (x y : Effect) : Type 0 where
  pub respects : RespectsBefore x y
  pub overlap : DoNotOverlap x.entry y.entry

-- an order whose calls can take effect from this position on, where those of these threads took effect
pub record IsReady (end q : ℕ) (ts : List ℕ) (xs : List Effect) : Type 0 where
  pub intervals : All (λ (y : Effect). IsNotOver y.entry.first y.entry) xs
  pub threads : All (λ (y : Effect). y.entry.thread < 64) xs
  pub right : AllPairs AreRight xs
  pub over : All (λ (y : Effect). IsNotOver q y.entry) xs
  pub free : All (IsFree q ts) xs
  pub begun : All (λ (y : Effect). y.entry.first ≤ end) xs
  pub reached : q ≤ end
  pub differ : AllPairs (λ (a b : ℕ). a ≢ b) ts
  pub below : All (λ (a : ℕ). a < 64) ts

-- the first of them takes effect there, and the others can
pub record TakesEffect (end p m : ℕ) (x : Effect) (xs : List Effect) : Type 0 where
  pub threads : List ℕ
  pub ready : IsReady end p threads xs
  pub many : length threads ≡ m + 1
  pub few : m < 64
  pub within : HasPointInside (entry_with_point x.entry x.reply end (64 * p + m))

-- they can from the first's beginning on, too
from_beginning : (end q : ℕ) (ts : List ℕ) (x : Effect) (xs : List Effect) → IsReady end q ts (x ∷ xs) →
    IsReady end x.entry.first [] (x ∷ xs)
from_beginning end q ts x xs is = record {
  intervals = is.intervals;
  threads = is.threads;
  right = is.right;
  over = All-cons (λ (y : Effect). IsNotOver x.entry.first y.entry) x xs (is.intervals 0 x (omega arith))
      (All-weaker (AreRight x) (λ (y : Effect). IsNotOver x.entry.first y.entry)
      (λ y r. not_over x.entry y.entry r.respects) xs (pairs_head AreRight x xs is.right));
  free = λ k d lt le. none_in_empty (get_or (x ∷ xs) k d).entry.thread;
  begun = is.begun;
  reached = is.begun 0 x (omega arith);
  differ = pairs_none (λ (a b : ℕ). a ≢ b);
  below = All-nil (λ (a : ℕ). a < 64);
}

takes_here : (end p : ℕ) (ts : List ℕ) (x : Effect) (xs : List Effect) → IsReady end p ts (x ∷ xs) →
    x.entry.first ≤ p → TakesEffect end p (length ts) x xs
takes_here end p ts x xs is begun = record {
  threads = x.entry.thread ∷ ts;
  ready = record {
    intervals = All-tail (λ (y : Effect). IsNotOver y.entry.first y.entry) x xs is.intervals;
    threads = All-tail (λ (y : Effect). y.entry.thread < 64) x xs is.threads;
    right = pairs_tail AreRight x xs is.right;
    over = All-tail (λ (y : Effect). IsNotOver p y.entry) x xs is.over;
    free = λ k d lt le has. elim (contains_cases x.entry.thread ts (get_or xs k d).entry.thread has) [
      | inl same ↦ clash (get_or xs k d) (pairs_head AreRight x xs is.right k d lt) le same
      | inr other ↦ is.free (suc k) d (omega arith) le other
    ];
    begun = All-tail (λ (y : Effect). y.entry.first ≤ end) x xs is.begun;
    reached = is.reached;
    differ = differ;
    below = below;
  };
  many = omega arith;
  few = omega (arith, few);
  within = record { begun = omega arith; ended = ended x.entry.returned (is.over 0 x (omega arith)) };
}
  where
    differ : AllPairs (λ (a b : ℕ). a ≢ b) (x.entry.thread ∷ ts)
    differ = pairs_cons (λ (a b : ℕ). a ≢ b) x.entry.thread ts (λ k d lt same.
        is.free 0 x (omega arith) begun (rw same (Contains-get_or ts k d lt))) is.differ

    below : All (λ (a : ℕ). a < 64) (x.entry.thread ∷ ts)
    below = All-cons (λ (a : ℕ). a < 64) x.entry.thread ts (is.threads 0 x (omega arith)) is.below

    few : length (x.entry.thread ∷ ts) ≤ 64
    few = few_threads (x.entry.thread ∷ ts) 64 differ below

    ended : (o : Option Returned) → ((r : Returned) → o ≡ Some r → p ≤ r.last) → 64 * p + length ts ≤ ends_at o end
    ended None over = omega (arith, few, is.reached)
    ended (Some r) over = omega (arith, few, over r refl)

    clash : (y : Effect) → AreRight x y → y.entry.first ≤ p → x.entry.thread ≡ y.entry.thread → ⊥
    clash y right le same = elim (right.overlap same) [
      | inl before ↦
          let found = some_before x.entry y.entry before in
          omega (arith, is.over 0 x (omega arith) found.0 found.1.0, found.1.1, le)
      | inr before ↦ right.respects before
    ]

pub takes_effect : (end q : ℕ) (ts : List ℕ) (n : ℕ) (x : Effect) (xs : List Effect) → length ts ≡ n →
    IsReady end q ts (x ∷ xs) → TakesEffect end (position_at q x.entry.first) (earlier_at q n x.entry.first) x xs
takes_effect end q ts n x xs many is = by (nat_lt q x.entry.first) refl
  where
    here : (f : ℕ) → nat_lt q f ≡ false → f ≤ q
    here f is = grind (arith, nat_tests)

    by : (b : Bool) → nat_lt q x.entry.first ≡ b →
        TakesEffect end (position_at q x.entry.first) (earlier_at q n x.entry.first) x xs
    by true late = rw late (takes_here end x.entry.first [] x xs (from_beginning end q ts x xs is) (omega arith))
    by false late = rw (late, ← many) (takes_here end q ts x xs is (here x.entry.first late))

-- so their points lie inside, and rise
pub record ArePoints (entries : List Entry) : Type 0 where
  pub within : All HasPointInside entries
  pub rising : AllAdjacentBelow (λ (e f : Entry). e.point < f.point) entries (length entries)

no_lower : (q n f : ℕ) → n ≤ 64 → 64 * q + n ≤ 64 * position_at q f + earlier_at q n f
no_lower q n f few = grind (arith, nat_tests)

above : (end q n : ℕ) (xs : List Effect) (d : Entry) → n ≤ 64 → 0 < length (points_from end q n xs) →
    64 * q + n ≤ (get_or (points_from end q n xs) 0 d).point
above end q n [] d few some = absurd (omega arith)
above end q n (x ∷ xs) d few some = no_lower q n x.entry.first few

adjacent_cons : (e : Entry) (es : List Entry) → ((d : Entry) → 0 < length es → e.point < (get_or es 0 d).point) →
    AllAdjacentBelow (λ (e f : Entry). e.point < f.point) es (length es) →
    AllAdjacentBelow (λ (e f : Entry). e.point < f.point) (e ∷ es) (length (e ∷ es))
adjacent_cons e es later rising zero d lt = later d (omega arith)
adjacent_cons e es later rising (suc k) d lt =
    let same : suc k + 1 ≡ suc (k + 1) = omega arith in
    rw same (rising k d (omega arith))

points : (end q : ℕ) (ts : List ℕ) (n : ℕ) (xs : List Effect) → length ts ≡ n → IsReady end q ts xs →
    ArePoints (points_from end q n xs)
points end q ts n [] many is = record { within = All-nil HasPointInside; rising = λ k d lt. absurd (omega arith) }
points end q ts n (x ∷ xs) many is =
    let p : ℕ = position_at q x.entry.first in
    let m : ℕ = earlier_at q n x.entry.first in
    let step : TakesEffect end p m x xs = takes_effect end q ts n x xs many is in
    let rest : ArePoints (points_from end p (m + 1) xs) = points end p step.threads (m + 1) xs step.many step.ready in
    record {
      within = All-cons HasPointInside (entry_with_point x.entry x.reply end (64 * p + m))
          (points_from end p (m + 1) xs) step.within rest.within;
      rising = adjacent_cons (entry_with_point x.entry x.reply end (64 * p + m)) (points_from end p (m + 1) xs)
          (λ d some. omega (arith, above end p (m + 1) xs d (omega (arith, step.few)) some)) rest.rising;
    }

-- and they are entries of their calls
abbrev IsPointed : ℕ → Effect → Entry → Type 0
IsPointed end x e = (p : ℕ) × (e ≡ entry_with_point x.entry x.reply end p)

pointed : (end q n : ℕ) (xs : List Effect) → AllZip (IsPointed end) xs (points_from end q n xs)
pointed end q n [] = tt
pointed end q n (x ∷ xs) = (
  (64 * position_at q x.entry.first + earlier_at q n x.entry.first, refl),
  pointed end (position_at q x.entry.first) (earlier_at q n x.entry.first + 1) xs,
)

keeps_order : (end : ℕ) (x y : Effect) (e f : Entry) → IsPointed end x e → IsPointed end y f → AreRight x y →
    KeepsThreadOrder e f
keeps_order end x y e f (p, e_is) (r, f_is) right =
    rw (e_is, f_is) (λ same. elim (right.overlap same) [
      | inl before ↦
          let found = some_before x.entry y.entry before in
          rw found.1.0 (omega (arith, found.1.1))
      | inr before ↦ absurd (right.respects before)
    ])

pub entries_are_of : (hs : List Observation) (end q n : ℕ) (xs : List Effect) → All (IsEffectOf hs) xs →
    AllZip (IsEntryOf hs) (indices_of xs) (points_from end q n xs)
entries_are_of hs end q n [] effects = tt
entries_are_of hs end q n (x ∷ xs) effects = (
  record {
    observed = x.entry;
    is_entry = (All-head (IsEffectOf hs) x xs effects).is_entry;
    thread = refl;
    call = refl;
    first = refl;
    returned = told x.entry.returned (All-head (IsEffectOf hs) x xs effects).replies;
  },
  entries_are_of hs end (position_at q x.entry.first) (earlier_at q n x.entry.first + 1) xs
      (All-tail (IsEffectOf hs) x xs effects),
)
  where
    told : (o : Option Returned) → MatchOption o (Unit {0}) (λ (r : Returned). r.reply ≡ x.reply) →
        MatchOption o (Unit {0}) (λ (r : Returned). (x.reply ≡ r.reply) × (ends_at o end ≡ 64 * r.last + 63))
    told None replies = tt
    told (Some r) replies = (sym replies, refl)

same_history : (end q n : ℕ) (xs : List Effect) → history_of xs ≡ entries_history (points_from end q n xs)
same_history end q n [] = refl
same_history end q n (x ∷ xs) = ap (λ (h : History). (x.entry.call, x.reply) ∷ h)
    (same_history end (position_at q x.entry.first) (earlier_at q n x.entry.first + 1) xs)

-- the entries of two effects do not overlap
overlaps : (h : ObservedHistory) (x y : Effect) → IsObserved h → IsEffectOf h.entries x → IsEffectOf h.entries y →
    x.index ≢ y.index → DoNotOverlap x.entry y.entry
overlaps h x y observed x_is y_is apart = by (cases_order x.index y.index)
  where
    in_order : (a b : Effect) → IsEffectOf h.entries a → IsEffectOf h.entries b → a.index < b.index →
        DoNotOverlap a.entry b.entry
    in_order a b a_is b_is less =
        rw (
          get_or_from_slice_get h.entries a.index a.entry a.entry a_is.is_entry,
          get_or_from_slice_get h.entries b.index b.entry a.entry b_is.is_entry,
        ) at
        (observed.apart a.index b.index a.entry less (slice_get_within h.entries b.index b.entry b_is.is_entry))

    swap : IsBefore y.entry x.entry ⊎ IsBefore x.entry y.entry → IsBefore x.entry y.entry ⊎ IsBefore y.entry x.entry
    swap (inl before) = inr before
    swap (inr before) = inl before

    by : (x.index ≡ y.index) ⊎ ((x.index < y.index) ⊎ (y.index < x.index)) → DoNotOverlap x.entry y.entry
    by (inl same) = absurd (apart same)
    by (inr (inl less)) = in_order x y x_is y_is less
    by (inr (inr less)) = λ thread. swap (in_order y x y_is x_is less (sym thread))

-- an order of a history, all of whose calls begin by its end
module _ (h : ObservedHistory) (end : ℕ) (order : List Effect) (observed : IsObserved h)
    (by : IsExplainedBy h order) (begun : All (λ (y : Effect). y.entry.first ≤ end) order) where
  right_of : AllPairs AreRight order
  right_of i j d lt within = record {
    respects = by.ordered i j d lt within;
    overlap = overlaps h (get_or order i d) (get_or order j d) observed (by.effects i d (omega arith))
        (by.effects j d within) (by.once i j d lt within);
  }

  pub ready_of : IsReady end 0 [] order
  ready_of = record {
    intervals = λ k d lt r is. rw is at (at_index IsInterval h.entries (get_or order k d).index
        (get_or order k d).entry observed.intervals (by.effects k d lt).is_entry);
    threads = λ k d lt. at_index (λ (e : Observation). e.thread < 64) h.entries (get_or order k d).index
        (get_or order k d).entry observed.threads (by.effects k d lt).is_entry;
    right = right_of;
    over = λ k d lt r is. omega arith;
    free = λ k d lt le. none_in_empty (get_or order k d).entry.thread;
    begun = begun;
    reached = omega arith;
    differ = pairs_none (λ (a b : ℕ). a ≢ b);
    below = All-nil (λ (a : ℕ). a < 64);
  }

  abbrev pub points_are_of : IsRecordOfObserved h (recorded h.limits h.width (points_from end 0 0 order) [])
  points_are_of = record {
    limits = refl;
    width = refl;
    report = refl;
    indices = indices_of order;
    entries = entries_are_of h.entries end 0 0 order by.effects;
    once = pairs_map (λ (x y : Effect). x.index ≢ y.index) (λ (i j : ℕ). i ≢ j) (λ (x : Effect). Unit {0})
        (λ (x : Effect). x.index) order (λ x y _ _ apart. apart) (λ k d lt. tt) by.once;
    returned = by.returned;
  }

  pub points_are_linearized : IsLinearized (recorded h.limits h.width (points_from end 0 0 order) [])
  points_are_linearized =
      let made : ArePoints (points_from end 0 0 order) = points end 0 [] 0 order refl ready_of in
      record {
        within = made.within;
        rising = made.rising;
        apart = zip_pairs (IsPointed end) AreRight KeepsThreadOrder order (points_from end 0 0 order)
            (keeps_order end) (pointed end 0 0 order) right_of;
        legal = rw (same_history end 0 0 order) at by.legal;
      }

pub explained_has_points : ExplainedHasPoints
explained_has_points h observed explained =
    let end : ℕ = sum_by (λ (x : Effect). x.entry.first) explained.order in
    let begun : All (λ (y : Effect). y.entry.first ≤ end) explained.order =
    get_or-le-sum_by (λ (x : Effect). x.entry.first) explained.order in (
      recorded h.limits h.width (points_from end 0 0 explained.order) [],
      (
        points_are_of h end explained.order observed explained.by begun,
        points_are_linearized h end explained.order observed explained.by begun,
      ),
    )
