-- What an observer has seen by a position explains as much as the cut there.
use Rattle.std.proofs.Common.{◌≡◌, ℕ, ◌+◌, ◌<◌, ◌≤◌, zero, suc, Bool, true, false, List, [], ◌∷◌, ◌++◌, map}
use Rattle.std.proofs.Common.{length, get_or, refl, sym, ◌∙◌, ap, inl, inr, arith, Option, None, Some}
use Rattle.std.specs.Prelude.{slice_get, if◌then◌else◌, nat_lt, filter, not, cond}
use Rattle.std.specs.Prelude.{◌==◌, ◌&&◌, ◌||◌, IsTrue, drop, MatchOption}
use Rattle.std.specs.List.{All, AllPairs, AllZip, Contains}
use Rattle.std.proofs.Math.Seq.{drop-append_seam}
use Rattle.std.proofs.lemmas.List.Elements.{All-cons, All-drop, All-filter, All-map, All-nil, Contains-append_cases}
use Rattle.std.proofs.lemmas.List.Elements.{filter_passes, length_all_zip}
use Rattle.std.proofs.lemmas.List.Filters.{length-filter_both}
use Rattle.std.proofs.lemmas.List.{append-nil, drop_all, map-append}
use Rattle.std.proofs.lemmas.List.Kept.{AllPairs-filter}
use Rattle.std.proofs.lemmas.Bool.Decides.{nat_tests}
use Rattle.std.proofs.lemmas.Option.{none-some, same_Some}
use Rattle.stamp_core.specs.History.{IsLegalFrom, appended_by}
use Rattle.stamp_core.specs.Call.{call_suits}
use Rattle.stamp_core.specs.Content.{content_next, zeros}
use Rattle.stamp_core.specs.Transition.{transition}
use Rattle.stamp_core.specs.LockEvent.{LockEvent}
use Rattle.stamp_core.specs.Limits.{Bounds}
use Rattle.stamp_explain.specs.declared.observed.Observation.{Observation}
use Rattle.stamp_explain.specs.declared.observed.Returned.{Returned}
use Rattle.stamp_explain.specs.Observed.{IsSmall, IsLow}
use Rattle.stamp_explain.specs.Observed.{ObservedHistory, IsBefore, IsObserved, IsInterval, DoNotOverlap, HasReturned}
use Rattle.stamp_explain.specs.Explained.{Effect, IsEffectOf, history_of, indices_of, RespectsBefore, AreOfTwoEntries}
use Rattle.stamp_explain.specs.Explained.{IsExplainedBy, IsExplained}
use Rattle.stamp_explain.specs.Cut.{cut_entry, cut_entries, cut, begun_by, seen_at, returned_by}
use Rattle.stamp_explain.specs.inner.Apart.{indices_where}
use Rattle.stamp_explain.specs.ExplainLaws.{SeenExplainsAsMuch}
use Rattle.stamp_explain.proofs.Lists.{all_left, contains_cases, none_in_empty, pairs_drop, pairs_head, pairs_left}
use Rattle.stamp_explain.proofs.Lists.{zip_all, zip_pairs}
use Rattle.stamp_explain.proofs.Entries.{later_of, same_entry}
use Rattle.stamp_explain.proofs.Cutting.{before_some, some_before, explained_by, IsLessKnown, IsMovedTo, IsPartOf}
use Rattle.stamp_explain.proofs.Cutting.{moved_has, moved_part, part_of}
use Rattle.stamp_explain.proofs.Lists.{at_index}

abbrev pub kept : (Observation → Bool) → List Observation → List Observation
kept p es = filter p es

-- where the k-th entry that is kept stands, and how many are kept before one
abbrev pub index_in_whole : (Observation → Bool) → List Observation → ℕ → ℕ
index_in_whole p es k = get_or (indices_where p 0 es) k 0

abbrev pub rank_of : (Observation → Bool) → List Observation → ℕ → ℕ
rank_of p [] i = 0
rank_of p (e ∷ es) zero = 0
rank_of p (e ∷ es) (suc i) = cond (p e) (suc (rank_of p es i)) (rank_of p es i)

-- the k-th that is kept, of entries that stand from n on, is the i-th of them, which stands at j
pub record IsKeptAt (p : Observation → Bool) (n : ℕ) (es : List Observation) (k i j : ℕ) (e : Observation) : Type 0
  where
    pub is_entry : slice_get es i ≡ Some e
    pub is_kept : slice_get (kept p es) k ≡ Some e
    pub passes : p e ≡ true
    pub inside : k < length (indices_where p n es)
    pub index : get_or (indices_where p n es) k 0 ≡ j
    pub rank : rank_of p es i ≡ k

kept_here : (p : Observation → Bool) (n : ℕ) (x : Observation) (es : List Observation) → p x ≡ true →
    IsKeptAt p n (x ∷ es) 0 0 n x
kept_here p n x es passes = record {
  is_entry = refl;
  is_kept = rw passes;
  passes = passes;
  inside = rw passes (omega arith);
  index = rw passes;
  rank = refl;
}

kept_after : (p : Observation → Bool) (n : ℕ) (x : Observation) (es : List Observation) (k i j : ℕ) (e : Observation) →
    IsKeptAt p (n + 1) es k i j e → IsKeptAt p n (x ∷ es) (cond (p x) (suc k) k) (suc i) j e
kept_after p n x es k i j e is = by (p x) refl
  where
    by : (b : Bool) → p x ≡ b → IsKeptAt p n (x ∷ es) (cond b (suc k) k) (suc i) j e
    by true so = record {
      is_entry = is.is_entry;
      is_kept = rw so is.is_kept;
      passes = is.passes;
      inside = rw so (omega (arith, is.inside));
      index = rw so is.index;
      rank = rw so (ap suc is.rank);
    }
    by false so = record {
      is_entry = is.is_entry;
      is_kept = rw so is.is_kept;
      passes = is.passes;
      inside = rw so is.inside;
      index = rw so is.index;
      rank = rw so is.rank;
    }

-- an entry that passes is kept somewhere
pub rank_gives : (p : Observation → Bool) (n : ℕ) (es : List Observation) (i j : ℕ) (e : Observation) → j ≡ n + i →
    slice_get es i ≡ Some e → p e ≡ true → (k : ℕ) × IsKeptAt p n es k i j e
rank_gives p n [] i j e at is passes = absurd (none-some e is)
rank_gives p n (x ∷ es) zero j e at is passes =
    let first : j ≡ n = omega arith in
    let same : x ≡ e = same_Some x e is in
    (0, rw (first, ← same) (kept_here p n x es (rw same passes)))
rank_gives p n (x ∷ es) (suc i) j e at is passes =
    let found : (k : ℕ) × IsKeptAt p (n + 1) es k i j e = rank_gives p (n + 1) es i j e (omega arith) is passes in
    (cond (p x) (suc found.0) found.0, kept_after p n x es found.0 i j e found.1)

-- and what is kept passes
pub index_gives : (p : Observation → Bool) (n : ℕ) (es : List Observation) (k : ℕ) (e : Observation) →
    slice_get (kept p es) k ≡ Some e → (i : ℕ) × ((j : ℕ) → j ≡ n + i → IsKeptAt p n es k i j e)
index_gives p n [] k e is = absurd (none-some e is)
index_gives p n (x ∷ es) k e is = by (p x) refl k is (index_gives p (n + 1) es)
  where
    by : (b : Bool) → p x ≡ b → (m : ℕ) → slice_get (cond b (x ∷ filter p es) (filter p es)) m ≡ Some e →
        ((m : ℕ) (e : Observation) → slice_get (kept p es) m ≡ Some e →
        (i : ℕ) × ((j : ℕ) → j ≡ n + 1 + i → IsKeptAt p (n + 1) es m i j e)) →
        (i : ℕ) × ((j : ℕ) → j ≡ n + i → IsKeptAt p n (x ∷ es) m i j e)
    by true so zero here again =
        let same : x ≡ e = same_Some x e here in
        (0, λ j at. let first : j ≡ n = omega arith in rw (first, ← same) (kept_here p n x es so))
    by true so (suc m) here again =
        let found : (i : ℕ) × ((j : ℕ) → j ≡ n + 1 + i → IsKeptAt p (n + 1) es m i j e) = again m e here in
        (suc found.0, λ j at. rw so at (kept_after p n x es m found.0 j e (found.1 j (omega arith))))
    by false so m here again =
        let found : (i : ℕ) × ((j : ℕ) → j ≡ n + 1 + i → IsKeptAt p (n + 1) es m i j e) = again m e here in
        (suc found.0, λ j at. rw so at (kept_after p n x es m found.0 j e (found.1 j (omega arith))))

-- an order of the entries that pass alone, at their indices among all
abbrev pub AllPass : (Observation → Bool) → List Effect → Type 0
AllPass p order = All (λ (x : Effect). p x.entry ≡ true) order

pub record IsOrderOf (h : ObservedHistory) (p : Observation → Bool) (order : List Effect) : Type 0 where
  pub by : IsPartOf h order
  pub passes : AllPass p order
  pub returned : (i : ℕ) (e : Observation) → slice_get h.entries i ≡ Some e → HasReturned e → p e ≡ true →
      Contains (indices_of order) i

-- the same effects, with their entries at other indices
abbrev pub moved : (ℕ → ℕ) → Effect → Effect
moved f x = record { index = f x.index; entry = x.entry; reply = x.reply }

as_known : (e : Observation) → IsLessKnown e e
as_known e = record { call = refl; first = refl; returned = λ r is. is }

-- it explains the history of these entries alone
pub parted : (h : ObservedHistory) (p : Observation → Bool) (order : List Effect) → IsOrderOf h p order →
    IsExplained (record h { entries = kept p h.entries })
parted h p order is =
    explained_by (record h { entries = kept p h.entries }) (map (moved (rank_of p h.entries)) order)
    (moved_part h (kept p h.entries) (index_in_whole p h.entries) (moved (rank_of p h.entries)) order is.by
    (λ k d lt. moves (get_or order k d) (is.by.effects k d lt) (is.passes k d lt))) was
  where
    moves : (x : Effect) → IsEffectOf h.entries x → p x.entry ≡ true →
        IsMovedTo (kept p h.entries) (index_in_whole p h.entries) x (moved (rank_of p h.entries) x)
    moves x effect pass =
        let found : (k : ℕ) × IsKeptAt p 0 h.entries k x.index x.index x.entry =
        rank_gives p 0 h.entries x.index x.index x.entry (omega arith) effect.is_entry pass in
        record {
          there = rw found.1.rank found.1.is_kept;
          less = as_known x.entry;
          reply = refl;
          inverse = rw found.1.rank found.1.index;
        }

    was : (k : ℕ) (e : Observation) → slice_get (kept p h.entries) k ≡ Some e → HasReturned e →
        Contains (indices_of (map (moved (rank_of p h.entries)) order)) k
    was k e at has =
        let found = index_gives p 0 h.entries k e at in
        let here : IsKeptAt p 0 h.entries k found.0 found.0 e = found.1 found.0 (omega arith) in
        let to = moved_has (moved (rank_of p h.entries)) order found.0
        (is.returned found.0 e here.is_entry has here.passes) in
        rw (to.1.0, here.rank) at to.1.1

-- and the other way round
pub restored : (h : ObservedHistory) (p : Observation → Bool) (order : List Effect) →
    IsExplainedBy (record h { entries = kept p h.entries }) order →
    IsOrderOf h p (map (moved (index_in_whole p h.entries)) order)
restored h p order by = record {
  by = moved_part (record h { entries = kept p h.entries }) h.entries (rank_of p h.entries)
      (moved (index_in_whole p h.entries)) order (part_of (record h { entries = kept p h.entries }) order by)
      (λ k d lt. moves (get_or order k d) (by.effects k d lt));
  passes = All-map (λ (x : Effect). p x.entry ≡ true) (moved (index_in_whole p h.entries)) order
      (λ k d lt. (here (get_or order k d) (by.effects k d lt)).1.passes);
  returned = λ i e at has passes.
      let found = rank_gives p 0 h.entries i i e (omega arith) at passes in
      let to = moved_has (moved (index_in_whole p h.entries)) order found.0
      (by.returned found.0 e found.1.is_kept has) in
      rw (to.1.0, found.1.index) at to.1.1;
}
  where
    here : (x : Effect) → IsEffectOf (kept p h.entries) x →
        (i : ℕ) × IsKeptAt p 0 h.entries x.index i i x.entry
    here x is =
        let found = index_gives p 0 h.entries x.index x.entry is.is_entry in
        (found.0, found.1 found.0 (omega arith))

    moves : (x : Effect) → IsEffectOf (kept p h.entries) x →
        IsMovedTo h.entries (rank_of p h.entries) x (moved (index_in_whole p h.entries) x)
    moves x is =
        let at : (i : ℕ) × IsKeptAt p 0 h.entries x.index i i x.entry = here x is in
        record {
          there = rw at.1.index at.1.is_entry;
          less = as_known x.entry;
          reply = refl;
          inverse = rw at.1.index at.1.rank;
        }

abbrev is_early : ℕ → Observation → Bool
is_early last e = not (nat_lt last e.first)

early_is : (last : ℕ) (e : Observation) → e.first ≤ last → is_early last e ≡ true
early_is last e le = grind (arith, nat_tests)

is_early_le : (last : ℕ) (e : Observation) → is_early last e ≡ true → e.first ≤ last
is_early_le last e is = grind (arith, nat_tests)

not_early_lt : (last : ℕ) (e : Observation) → is_early last e ≡ false → last < e.first
not_early_lt last e is = grind (arith, nat_tests)

-- an order up to the first call that begins later, and from that on
record IsSplitAt (last : ℕ) (order : List Effect) : Type 0 where
  sooner : List Effect
  later : List Effect
  are : order ≡ sooner ++ later
  early : AllPass (is_early last) sooner
  late : (z : Effect) (zs : List Effect) → later ≡ z ∷ zs → last < z.entry.first

split_at : (last : ℕ) (order : List Effect) → IsSplitAt last order
split_at last [] = record {
  sooner = [];
  later = [];
  are = refl;
  early = All-nil (λ (x : Effect). is_early last x.entry ≡ true);
  late = λ z zs is. absurd (cc);
}
split_at last (x ∷ xs) = by (is_early last x.entry) refl (split_at last xs)
  where
    by : (b : Bool) → is_early last x.entry ≡ b → IsSplitAt last xs → IsSplitAt last (x ∷ xs)
    by true is s = record {
      sooner = x ∷ s.sooner;
      later = s.later;
      are = ap (λ (ys : List Effect). x ∷ ys) s.are;
      early = All-cons (λ (x : Effect). is_early last x.entry ≡ true) x s.sooner is s.early;
      late = s.late;
    }
    by false is s = record {
      sooner = [];
      later = x ∷ xs;
      are = refl;
      early = All-nil (λ (x : Effect). is_early last x.entry ≡ true);
      late = λ z zs same. let here : x ≡ z = cc in rw here at (not_early_lt last x.entry is);
    }

legal_left : (limits : Bounds) (events : List LockEvent) (content : List ℕ) (xs ys : List Effect) →
    IsLegalFrom limits events content (history_of (xs ++ ys)) → IsLegalFrom limits events content (history_of xs)
legal_left limits events content [] ys legal = tt
legal_left limits events content (x ∷ xs) ys legal = (
  legal.0,
  legal_left limits (events ++ appended_by (transition limits events x.entry.call))
      (content_next content x.entry.call x.reply) xs ys legal.1,
)

-- what returned by then is in the first part
split_has : (entries : List Observation) (last i : ℕ) (e : Observation) (r : Returned) (sooner later : List Effect) →
    slice_get entries i ≡ Some e → e.returned ≡ Some r → r.last ≤ last → e.first ≤ last →
    All (IsEffectOf entries) later → AllPairs RespectsBefore later →
    ((z : Effect) (zs : List Effect) → later ≡ z ∷ zs → last < z.entry.first) →
    Contains (indices_of (sooner ++ later)) i → Contains (indices_of sooner) i
split_has entries last i e r sooner later at returned ended begun effects ordered late has =
    elim (Contains-append_cases (indices_of sooner) (indices_of later) i (rw map-append at has)) [
      | inl there ↦ there
      | inr there ↦ absurd (not_later later effects ordered late there)
    ]
  where
    not_later : (ys : List Effect) → All (IsEffectOf entries) ys → AllPairs RespectsBefore ys →
        ((z : Effect) (zs : List Effect) → ys ≡ z ∷ zs → last < z.entry.first) → Contains (indices_of ys) i → ⊥
    not_later [] effects ordered late there = none_in_empty i there
    not_later (z ∷ zs) effects ordered late there = elim (contains_cases z.index (indices_of zs) i there) [
      | inl same ↦
          let here : z.entry ≡ e = same_entry entries z i e (effects 0 z (omega arith)) same at in
          let lt : last < e.first = rw here at (late z zs refl) in
          omega arith
      | inr rest ↦ later_of entries i e z.entry zs at (All-drop (IsEffectOf entries) 1 (z ∷ zs) effects)
          (pairs_head RespectsBefore z zs ordered) rest
          (before_some e z.entry r returned (omega (arith, late z zs refl)))
    ]

-- a call as it is known then: it is the same, and its return is known only if it came by then, and surely if before
record IsSeenAs (last : ℕ) (e k : Observation) : Type 0 where
  thread : k.thread ≡ e.thread
  call : k.call ≡ e.call
  first : k.first ≡ e.first
  only : (r : Returned) → k.returned ≡ Some r → (e.returned ≡ Some r) × (r.last ≤ last)
  sooner : (r : Returned) → e.returned ≡ Some r → r.last < last → k.returned ≡ Some r

seen_as : (last bound i : ℕ) (e : Observation) → IsSeenAs last e (cut_entry last bound i e)
seen_as last bound i e = by (returned_by last bound i e.returned) refl
  where
    by_then : (n : ℕ) → (nat_lt n last || ((n == last) && nat_lt i bound)) ≡ true → n ≤ last
    by_then n is = grind (arith, nat_tests)

    not_sooner : (n : ℕ) → (nat_lt n last || ((n == last) && nat_lt i bound)) ≡ false → last ≤ n
    not_sooner n is = grind (arith, nat_tests)

    by : (b : Bool) → returned_by last bound i e.returned ≡ b →
        IsSeenAs last e (if b then e else record e { returned = None })
    by true is = record {
      thread = refl;
      call = refl;
      first = refl;
      only = λ r has. (has, by_then r.last (rw has at is));
      sooner = λ r has lt. has;
    }
    by false is = record {
      thread = refl;
      call = refl;
      first = refl;
      only = λ r has. absurd (none-some r has);
      sooner = λ r has lt. absurd (omega (arith, not_sooner r.last (rw has at is)));
    }

all_seen_as : (last bound i : ℕ) (es : List Observation) → AllZip (IsSeenAs last) es (cut_entries last bound i es)
all_seen_as last bound i [] = tt
all_seen_as last bound i (e ∷ es) = (seen_as last bound i e, all_seen_as last bound (i + 1) es)

-- an interval ended by then has begun by then
record IsUntil (last : ℕ) (e : Observation) : Type 0 where
  interval : IsInterval e
  ended : (r : Returned) → e.returned ≡ Some r → (e.first ≤ last) × (r.last ≤ last)

until_then : (last : ℕ) (e k : Observation) → IsSeenAs last e k → IsInterval e → IsUntil last k
until_then last e k seen is = record {
  interval = by k.returned refl;
  ended = λ r has. (omega (arith, sound r has, (seen.only r has).1), (seen.only r has).1);
}
  where
    sound : (r : Returned) → k.returned ≡ Some r → k.first ≤ r.last
    sound r has = let le : e.first ≤ r.last = rw (seen.only r has).0 at is in omega (arith, seen.first)

    by : (o : Option Returned) → k.returned ≡ o → IsInterval k
    by None has = rw has tt
    by (Some r) has = rw has (sound r has)

-- two of one thread, which were there then, don't overlap
abbrev EarlyApart : ℕ → Observation → Observation → Type 0
EarlyApart last k l = is_early last k ≡ true → is_early last l ≡ true → DoNotOverlap k l

still_before : (last : ℕ) (a b k l : Observation) → IsSeenAs last a k → IsSeenAs last b l →
    is_early last l ≡ true → IsBefore a b → IsBefore k l
still_before last a b k l a_seen b_seen early before =
    let found : (r : Returned) × ((a.returned ≡ Some r) × (r.last < b.first)) = some_before a b before in
    let le : l.first ≤ last = is_early_le last l early in
    before_some k l found.0 (a_seen.sooner found.0 found.1.0 (omega (arith, found.1.1, b_seen.first)))
    (omega (arith, found.1.1, b_seen.first))

early_apart : (last : ℕ) (a b k l : Observation) → IsSeenAs last a k → IsSeenAs last b l → DoNotOverlap a b →
    EarlyApart last k l
early_apart last a b k l a_seen b_seen apart k_early l_early same =
    elim (apart (sym a_seen.thread ∙ same ∙ b_seen.thread)) [
      | inl before ↦ inl (still_before last a b k l a_seen b_seen l_early before)
      | inr after ↦ inr (still_before last b a l k b_seen a_seen k_early after)
    ]

module _ (h : ObservedHistory) (last bound : ℕ) where
  cut_is : AllZip (IsSeenAs last) h.entries (cut_entries last bound 0 h.entries)
  cut_is = all_seen_as last bound 0 h.entries

  -- what holds of each call holds of those that are seen
  all_kept : (P Q : Observation → Type 0) → ((e k : Observation) → IsSeenAs last e k → P e → Q k) → All P h.entries →
      All Q (seen_at last bound h).entries
  all_kept P Q step all = All-filter (is_early last) Q (cut_entries last bound 0 h.entries)
      (zip_all (IsSeenAs last) P Q h.entries (cut_entries last bound 0 h.entries) step cut_is all)

  seen_is_observed : IsObserved h → IsObserved (seen_at last bound h)
  seen_is_observed is = record {
    intervals = all_kept IsInterval IsInterval (λ e k seen sound. (until_then last e k seen sound).interval)
        is.intervals;
    apart = λ i j d lt within. apart i j d lt within (filter_passes (is_early last) ks i d (omega arith))
        (filter_passes (is_early last) ks j d (omega arith));
    threads = all_kept (λ e. e.thread < 64) (λ e. e.thread < 64) (λ e k seen lt. rw seen.thread lt) is.threads;
    suit = all_kept (λ e. IsTrue (call_suits h.width e.call)) (λ e. IsTrue (call_suits h.width e.call))
        (λ e k seen suits. rw seen.call suits) is.suit;
  }
    where
      ks : List Observation
      ks = cut_entries last bound 0 h.entries

      apart : AllPairs (EarlyApart last) (kept (is_early last) (cut_entries last bound 0 h.entries))
      apart = AllPairs-filter (EarlyApart last) (is_early last) (cut_entries last bound 0 h.entries)
          (zip_pairs (IsSeenAs last) DoNotOverlap (EarlyApart last) h.entries (cut_entries last bound 0 h.entries)
          (early_apart last) cut_is is.apart)

  low_then : (e k : Observation) → IsSeenAs last e k → IsLow e → IsLow k
  low_then e k seen low = record { first = omega (arith, seen.first, low.first); last = by k.returned refl }
    where
      by : (o : Option Returned) → k.returned ≡ o →
          MatchOption k.returned (Unit {0}) (λ (r : Returned). r.last < 288230376151711744)
      by None has = rw has tt
      by (Some r) has = rw has (rw (seen.only r has).0 at low.last)

  pub seen_is_small : IsSmall h → IsSmall (seen_at last bound h)
  seen_is_small small = record {
    width = small.width;
    entries = omega (
      arith,
      small.entries,
      length-filter_both (is_early last) (λ e. not (is_early last e)) (λ _. refl) (cut_entries last bound 0 h.entries),
      length_all_zip (IsSeenAs last) h.entries (cut_entries last bound 0 h.entries) cut_is,
    );
    positions = all_kept IsLow IsLow low_then small.positions;
  }

-- what is explained by an order is explained without what begins later, and the other way round
leaves_out : (h : ObservedHistory) (last : ℕ) → All (IsUntil last) h.entries → IsExplained h →
    IsExplained (record h { entries = kept (is_early last) h.entries })
leaves_out h last ends explained = parted h (is_early last) s.sooner (record {
  by = record {
    effects = all_left (IsEffectOf h.entries) s.sooner s.later effects;
    once = pairs_left AreOfTwoEntries s.sooner s.later (rw s.are at explained.by.once);
    ordered = pairs_left RespectsBefore s.sooner s.later ordered;
    legal = legal_left h.limits [] (zeros h.width) s.sooner s.later (rw s.are at explained.by.legal);
  };
  passes = s.early;
  returned = λ i e at has early.
      let ended : (e.first ≤ last) × (has.0.last ≤ last) = (at_index (IsUntil last) h.entries i e ends at).ended has.0
      has.1 in
      split_has h.entries last i e has.0 s.sooner s.later at has.1 ended.1 ended.0
      (rw (drop-append_seam s.sooner s.later) at
      (All-drop (IsEffectOf h.entries) (length s.sooner) (s.sooner ++ s.later) effects))
      (rw (drop-append_seam s.sooner s.later) at
      (pairs_drop RespectsBefore (length s.sooner) (s.sooner ++ s.later) ordered)) s.late
      (rw s.are at (explained.by.returned i e at has));
})
  where
    s : IsSplitAt last explained.order
    s = split_at last explained.order

    effects : All (IsEffectOf h.entries) (s.sooner ++ s.later)
    effects = rw s.are at explained.by.effects

    ordered : AllPairs RespectsBefore (s.sooner ++ s.later)
    ordered = rw s.are at explained.by.ordered

takes_back : (h : ObservedHistory) (last : ℕ) → All (IsUntil last) h.entries →
    IsExplained (record h { entries = kept (is_early last) h.entries }) → IsExplained h
takes_back h last ends explained = explained_by h _ back.by
    (λ i e at has. back.returned i e at has (early_is last e
    ((at_index (IsUntil last) h.entries i e ends at).ended has.0 has.1).0))
  where
    back : IsOrderOf h (is_early last) (map (moved (index_in_whole (is_early last) h.entries)) explained.order)
    back = restored h (is_early last) explained.order explained.by

pub seen_explains_as_much : SeenExplainsAsMuch
seen_explains_as_much h last bound is = (
  seen_is_observed h last bound is,
  (leaves_out (cut last bound h) last ends, takes_back (cut last bound h) last ends),
)
  where
    ends : All (IsUntil last) (cut_entries last bound 0 h.entries)
    ends = zip_all (IsSeenAs last) IsInterval (IsUntil last) h.entries (cut_entries last bound 0 h.entries)
        (until_then last) (all_seen_as last bound 0 h.entries) is.intervals

-- what was seen of the first i calls, and what will be of the others
abbrev pub SeenSoFar : ℕ → ℕ → ℕ → List Observation → List Observation → Type 0
SeenSoFar last bound i es seen =
    seen ++ begun_by last (cut_entries last bound i (drop i es)) ≡ begun_by last (cut_entries last bound 0 es)

pub all_seen : (last bound i : ℕ) (es seen : List Observation) → SeenSoFar last bound i es seen → length es ≤ i →
    seen ≡ begun_by last (cut_entries last bound 0 es)
all_seen last bound i es seen so_far over = sym (append-nil seen) ∙
    ap (λ (xs : List Observation). seen ++ begun_by last (cut_entries last bound i xs)) (sym (drop_all i es over)) ∙
    so_far
