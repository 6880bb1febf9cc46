-- Orders of the lock's calls and of the record's are merged by their beginnings.
use Rattle.std.proofs.Common.{◌≡◌, ℕ, ◌≤◌, Bool, true, false, List, [], ◌∷◌, ◌++◌, refl, sym, arith, inl, inr}
use Rattle.std.specs.Prelude.{filter, not, nat_lt, cond}
use Rattle.std.specs.List.{All, AllPairs, Contains}
use Rattle.std.proofs.lemmas.List.Elements.{All-nil, All-cons, All-head, All-tail, All-weaker}
use Rattle.std.proofs.lemmas.Bool.Decides.{nat_tests}
use Rattle.std.proofs.lemmas.Bool.{true≢false}
use Rattle.stamp_core.specs.LockEvent.{LockEvent}
use Rattle.stamp_core.specs.Limits.{Bounds}
use Rattle.stamp_core.specs.Call.{is_lock_call}
use Rattle.stamp_core.specs.Content.{content_next}
use Rattle.stamp_core.specs.Transition.{transition}
use Rattle.stamp_core.specs.History.{IsLegalFrom, appended_by}
use Rattle.stamp_explain.specs.Observed.{IsInterval, is_of_lock, is_of_record}
use Rattle.stamp_explain.specs.Explained.{Effect, history_of, indices_of, RespectsBefore}
use Rattle.stamp_explain.specs.inner.States.{Runs, LockAlone, RecordAlone}
use Rattle.stamp_explain.specs.inner.Apart.{merge_by}
use Rattle.stamp_explain.proofs.Lists.{contains_cases, contains_first, contains_rest, pairs_cons}
use Rattle.stamp_explain.proofs.Lists.{pairs_head, pairs_tail}
use Rattle.stamp_explain.proofs.Cutting.{before_some, some_before}
use Rattle.stamp_explain.proofs.Replies.{lock_leaves, record_appends}
use Rattle.stamp_explain.proofs.Seeing.{AllPass}

-- the third list is the first two, each in its order
pub data IsMerge : List Effect → List Effect → List Effect → Type 0 where
  none : IsMerge [] [] []
  left : {x : Effect} {xs ys zs : List Effect} → IsMerge xs ys zs → IsMerge (x ∷ xs) ys (x ∷ zs)
  right : {y : Effect} {xs ys zs : List Effect} → IsMerge xs ys zs → IsMerge xs (y ∷ ys) (y ∷ zs)

pub all_left : (xs : List Effect) → IsMerge xs [] xs
all_left [] = none
all_left (x ∷ xs) = left (all_left xs)

pub flipped : {xs ys zs : List Effect} → IsMerge xs ys zs → IsMerge ys xs zs
flipped none = none
flipped (left m) = right (flipped m)
flipped (right m) = left (flipped m)

pub filter_merge : (p : Effect → Bool) (zs : List Effect) → IsMerge (filter p zs) (filter (λ z. not (p z)) zs) zs
filter_merge p [] = none
filter_merge p (z ∷ zs) = by (p z) (filter_merge p zs)
  where
    by : (b : Bool) → IsMerge (filter p zs) (filter (λ z. not (p z)) zs) zs →
        IsMerge (cond b (z ∷ filter p zs) (filter p zs))
        (cond (not b) (z ∷ filter (λ z. not (p z)) zs) (filter (λ z. not (p z)) zs)) (z ∷ zs)
    by true m = left m
    by false m = right m

pub merge_all : (P : Effect → Type 0) {xs ys zs : List Effect} → IsMerge xs ys zs → All P xs → All P ys → All P zs
merge_all P none a b = a
merge_all P (left {x} {xs} {ys} {zs} m) a b = All-cons P x zs (All-head P x xs a) (merge_all P m (All-tail P x xs a) b)
merge_all P (right {y} {xs} {ys} {zs} m) a b = All-cons P y zs (All-head P y ys b)
    (merge_all P m a (All-tail P y ys b))

pub merge_pairs : (R : Effect → Effect → Type 0) (P Q : Effect → Type 0) →
    ((x y : Effect) → P x → Q y → R x y × R y x) → {xs ys zs : List Effect} → IsMerge xs ys zs → All P xs →
    All Q ys → AllPairs R xs → AllPairs R ys → AllPairs R zs
merge_pairs R P Q across none p q a b = a
merge_pairs R P Q across (left {x} {xs} {ys} {zs} m) p q a b = pairs_cons R x zs
    (merge_all (R x) m (pairs_head R x xs a) (All-weaker Q (R x) (λ y of_y. (across x y (All-head P x xs p) of_y).0)
    ys q)) (merge_pairs R P Q across m (All-tail P x xs p) q (pairs_tail R x xs a) b)
merge_pairs R P Q across (right {y} {xs} {ys} {zs} m) p q a b = pairs_cons R y zs
    (merge_all (R y) m (All-weaker P (R y) (λ x of_x. (across x y of_x (All-head Q y ys q)).1) xs p)
    (pairs_head R y ys b)) (merge_pairs R P Q across m p (All-tail Q y ys q) a (pairs_tail R y ys b))

pub left_index : (i : ℕ) {xs ys zs : List Effect} → IsMerge xs ys zs → Contains (indices_of xs) i →
    Contains (indices_of zs) i
left_index i none has = has
left_index i (left {x} {xs} {ys} {zs} m) has = elim (contains_cases x.index (indices_of xs) i has) [
  | inl same ↦ contains_first x.index (indices_of zs) i same
  | inr found ↦ contains_rest x.index (indices_of zs) i (left_index i m found)
]
left_index i (right {y} {xs} {ys} {zs} m) has = contains_rest y.index (indices_of zs) i (left_index i m has)

-- none of a list that begins no sooner had returned when this one began
respects_all : (x y : Effect) (ys : List Effect) → x.entry.first ≤ y.entry.first → IsInterval y.entry →
    All (RespectsBefore y) ys → All (RespectsBefore x) (y ∷ ys)
respects_all x y ys le sound all = All-cons (RespectsBefore x) y ys
    (λ before.
    let found = some_before y.entry x.entry before in
    let ends : y.entry.first ≤ found.0.last = rw found.1.0 at sound in
    omega (arith, found.1.1))
    (All-weaker (RespectsBefore y) (RespectsBefore x) (λ z respects before.
    let found = some_before z.entry x.entry before in
    respects (before_some z.entry y.entry found.0 found.1.0 (omega (arith, found.1.1)))) ys all)

-- by their beginnings, both keep what is before
pub record IsTimed (number : Effect → ℕ) (x : Effect) : Type 0 where
  pub first : number x ≡ x.entry.first
  pub interval : IsInterval x.entry

abbrev pub Merges : List Effect → List Effect → List Effect → Type 0
Merges xs ys zs = IsMerge xs ys zs × AllPairs RespectsBefore zs

less_is : (m n : ℕ) → nat_lt m n ≡ true → m ≤ n
less_is m n is = grind (arith, nat_tests)

not_less_is : (m n : ℕ) → nat_lt m n ≡ false → n ≤ m
not_less_is m n is = grind (arith, nat_tests)

merges_first : (number : Effect → ℕ) (x : Effect) (xs ys : List Effect) → IsTimed number x →
    All (IsTimed number) ys → AllPairs RespectsBefore (x ∷ xs) → AllPairs RespectsBefore ys →
    ((zs : List Effect) → All (IsTimed number) zs → AllPairs RespectsBefore zs →
    Merges xs zs (merge_by number xs zs)) → Merges (x ∷ xs) ys (merge_by number (x ∷ xs) ys)
merges_first number x xs [] timed b p q rest =
    let m = rest [] b q in (
      left m.0,
      pairs_cons RespectsBefore x (merge_by number xs [])
          (merge_all (RespectsBefore x) m.0 (pairs_head RespectsBefore x xs p) (All-nil (RespectsBefore x))) m.1,
    )
merges_first number x xs (y ∷ ys) timed b p q rest =
    by (nat_lt (number y) (number x)) refl
    (merges_first number x xs ys timed (All-tail (IsTimed number) y ys b) p (pairs_tail RespectsBefore y ys q) rest)
  where
    y_timed : IsTimed number y
    y_timed = All-head (IsTimed number) y ys b

    by : (t : Bool) → nat_lt (number y) (number x) ≡ t → Merges (x ∷ xs) ys (merge_by number (x ∷ xs) ys) →
        Merges (x ∷ xs) (y ∷ ys) (merge_by number (x ∷ xs) (y ∷ ys))
    by true is m = rw is (
      right m.0,
      pairs_cons RespectsBefore y (merge_by number (x ∷ xs) ys)
          (merge_all (RespectsBefore y) m.0 (respects_all y x xs
          (omega (arith, less_is (number y) (number x) is, timed.first, y_timed.first)) timed.interval
          (pairs_head RespectsBefore x xs p)) (pairs_head RespectsBefore y ys q)) m.1,
    )
    by false is _ =
        let m = rest (y ∷ ys) b q in
        rw is (
          left m.0,
          pairs_cons RespectsBefore x (merge_by number xs (y ∷ ys))
              (merge_all (RespectsBefore x) m.0 (pairs_head RespectsBefore x xs p) (respects_all x y ys
              (omega (arith, not_less_is (number y) (number x) is, timed.first, y_timed.first)) y_timed.interval
              (pairs_head RespectsBefore y ys q))) m.1,
        )

pub merges : (number : Effect → ℕ) (xs ys : List Effect) → All (IsTimed number) xs → All (IsTimed number) ys →
    AllPairs RespectsBefore xs → AllPairs RespectsBefore ys → Merges xs ys (merge_by number xs ys)
merges number [] ys a b p q = (flipped (all_left ys), q)
merges number (x ∷ xs) ys a b p q = merges_first number x xs ys (All-head (IsTimed number) x xs a) b p q
    (λ zs c r. merges number xs zs (All-tail (IsTimed number) x xs a) c (pairs_tail RespectsBefore x xs p) r)

-- so the runs of each are legal calls of both, and the other way round
pub merge_legal : (limits : Bounds) (events : List LockEvent) (content : List ℕ) {xs ys zs : List Effect} →
    IsMerge xs ys zs → Runs (LockAlone limits) events (history_of xs) → Runs RecordAlone content (history_of ys) →
    IsLegalFrom limits events content (history_of zs)
merge_legal limits events content none a b = tt
merge_legal limits events content (left {x} {xs} {ys} {zs} m) a b =
    let is = a.1.0 in (
      rw is.lock is.replies,
      rw (lock_leaves content x.entry.call x.reply is.lock) (merge_legal limits
          (events ++ appended_by (transition limits events x.entry.call)) content m (rw is.appends at a.1.1) b),
    )
merge_legal limits events content (right {y} {xs} {ys} {zs} m) a b =
    let is = b.1.0 in (
      rw is.guarded is.replies,
      rw (record_appends limits events y.entry.call is.guarded) (merge_legal limits events
          (content_next content y.entry.call y.reply) m a (rw is.leaves at b.1.1)),
    )

pub not_is : (b : Bool) → not b ≡ true → b ≡ false
not_is true same = absurd (true≢false (sym same))
not_is false same = refl

pub split_legal : (limits : Bounds) (events : List LockEvent) (content : List ℕ) {xs ys zs : List Effect} →
    IsMerge xs ys zs → AllPass is_of_lock xs → AllPass is_of_record ys →
    IsLegalFrom limits events content (history_of zs) →
    Runs (LockAlone limits) events (history_of xs) × Runs RecordAlone content (history_of ys)
split_legal limits events content none a b legal = (tt, tt)
split_legal limits events content (left {x} {xs} {ys} {zs} m) a b legal =
    let lock : is_lock_call x.entry.call ≡ true = a 0 x (omega arith) in
    let next : List LockEvent = events ++ appended_by (transition limits events x.entry.call) in
    let rest = split_legal limits next (content_next content x.entry.call x.reply) m
    (All-tail (λ (x : Effect). is_of_lock x.entry ≡ true) x xs a) b legal.1 in (
      (next, (record { lock = lock; replies = rw lock at legal.0; appends = refl }, rest.0)),
      rw (lock_leaves content x.entry.call x.reply lock) at rest.1,
    )
split_legal limits events content (right {y} {xs} {ys} {zs} m) a b legal =
    let guarded : is_lock_call y.entry.call ≡ false = not_is (is_lock_call y.entry.call) (b 0 y (omega arith)) in
    let next : List ℕ = content_next content y.entry.call y.reply in
    let rest = split_legal limits (events ++ appended_by (transition limits events y.entry.call)) next m a
    (All-tail (λ (y : Effect). is_of_record y.entry ≡ true) y ys b) legal.1 in (
      rw (record_appends limits events y.entry.call guarded) at rest.0,
      (next, (record { guarded = guarded; replies = rw guarded at legal.0; leaves = refl }, rest.1)),
    )
