-- What is less known is explained no worse, so a history is stuck at one return at most.
use Rattle.std.proofs.Common.{◌≡◌, ◌⊎◌, ℕ, ◌+◌, ◌<◌, ◌≤◌, zero, suc, Bool, true, false, List, [], ◌∷◌, get_or, map}
use Rattle.std.proofs.Common.{refl, sym, ◌∙◌, ap, arith, Option, None, Some}
use Rattle.std.specs.Prelude.{slice_get, if◌then◌else◌, nat_lt, ◌==◌, ◌&&◌, ◌||◌}
use Rattle.std.specs.List.{All, AllPairs, AllZip, Contains}
use Rattle.std.proofs.lemmas.List.Elements.{All-head, All-tail, All-map}
use Rattle.std.proofs.lemmas.Option.{get_or_from_slice_get, same_Some, none-some}
use Rattle.std.proofs.lemmas.Bool.Decides.{nat_tests}
use Rattle.std.proofs.lemmas.Bool.{false≢true}
use Rattle.stamp_core.specs.History.{History, IsLegal}
use Rattle.stamp_core.specs.declared.reply.Reply.{Reply}
use Rattle.stamp_explain.specs.declared.observed.Observation.{Observation}
use Rattle.stamp_explain.specs.declared.observed.Returned.{Returned}
use Rattle.stamp_explain.specs.Observed.{ObservedHistory, IsBefore, AllowsReply, HasReturned}
use Rattle.stamp_explain.specs.Explained.{Effect, IsEffectOf, history_of, indices_of, AreOfTwoEntries, RespectsBefore}
use Rattle.stamp_explain.specs.Explained.{IsExplainedBy, IsExplained}
use Rattle.stamp_explain.specs.Cut.{returned_by, cut_entries, cut, IsStuck}
use Rattle.stamp_explain.specs.ExplainLaws.{CutsStayExplained, ExplainedIsNotStuck, OneStuck}
use Rattle.stamp_explain.proofs.Lists.{contains_from_map, contains_map, pairs_map}

pub before_some : (a b : Observation) (r : Returned) → a.returned ≡ Some r → r.last < b.first → IsBefore a b
before_some a b r is lt = rw is lt

pub some_before : (a b : Observation) → IsBefore a b → (r : Returned) × ((a.returned ≡ Some r) × (r.last < b.first))
some_before a b before = by a.returned refl
  where
    by : (o : Option Returned) → a.returned ≡ o → (r : Returned) × ((a.returned ≡ Some r) × (r.last < b.first))
    by None is = absurd (rw is at before)
    by (Some r) is = (r, (is, rw is at before))

-- the second is the same call, and returned only as the first did
pub record IsLessKnown (e k : Observation) : Type 0 where
  pub call : k.call ≡ e.call
  pub first : k.first ≡ e.first
  pub returned : (r : Returned) → k.returned ≡ Some r → e.returned ≡ Some r

less_may : (e k : Observation) (reply : Reply) → IsLessKnown e k → AllowsReply e reply → AllowsReply k reply
less_may e k reply less may = by k.returned refl
  where
    by : (o : Option Returned) → k.returned ≡ o → AllowsReply k reply
    by None is = rw is tt
    by (Some r) is = rw is (rw (less.returned r is) at may)

less_before : (a b e k : Observation) → IsLessKnown a e → IsLessKnown b k → IsBefore e k → IsBefore a b
less_before a b e k less lesser before =
    let found : (r : Returned) × ((e.returned ≡ Some r) × (r.last < k.first)) = some_before e k before in
    before_some a b found.0 (less.returned found.0 found.1.0) (omega (arith, found.1.1, lesser.first))

-- what explains a history, but for what returned in it
pub record IsPartOf (h : ObservedHistory) (order : List Effect) : Type 0 where
  pub effects : All (IsEffectOf h.entries) order
  pub once : AllPairs AreOfTwoEntries order
  pub ordered : AllPairs RespectsBefore order
  pub legal : IsLegal h.limits h.width (history_of order)

pub part_of : (h : ObservedHistory) (order : List Effect) → IsExplainedBy h order → IsPartOf h order
part_of h order by = record { effects = by.effects; once = by.once; ordered = by.ordered; legal = by.legal }

pub explained_by : (h : ObservedHistory) (order : List Effect) → IsPartOf h order → ((i : ℕ) (e : Observation) →
    slice_get h.entries i ≡ Some e → HasReturned e → Contains (indices_of order) i) → IsExplained h
explained_by h order part returned = record {
  order = order;
  by = record {
    effects = part.effects;
    once = part.once;
    returned = returned;
    ordered = part.ordered;
    legal = part.legal;
  };
}

-- the same call, known no better, at an index from which its own is known
pub record IsMovedTo (ks : List Observation) (back : ℕ → ℕ) (x y : Effect) : Type 0 where
  pub there : slice_get ks y.index ≡ Some y.entry
  pub less : IsLessKnown x.entry y.entry
  pub reply : y.reply ≡ x.reply
  pub inverse : back y.index ≡ x.index

moved_history : (ks : List Observation) (back : ℕ → ℕ) (f : Effect → Effect) (xs : List Effect) →
    All (λ (x : Effect). IsMovedTo ks back x (f x)) xs → history_of xs ≡ history_of (map f xs)
moved_history ks back f [] each = refl
moved_history ks back f (x ∷ xs) each =
    let is : IsMovedTo ks back x (f x) = All-head (λ (x : Effect). IsMovedTo ks back x (f x)) x xs each in
    rw (is.less.call, is.reply) (ap (λ (h : History). (x.entry.call, x.reply) ∷ h)
    (moved_history ks back f xs (All-tail (λ (x : Effect). IsMovedTo ks back x (f x)) x xs each)))

pub moved_part : (h : ObservedHistory) (ks : List Observation) (back : ℕ → ℕ) (f : Effect → Effect)
    (order : List Effect) → IsPartOf h order → All (λ (x : Effect). IsMovedTo ks back x (f x)) order →
    IsPartOf (record h { entries = ks }) (map f order)
moved_part h ks back f order by each = record {
  effects = All-map (IsEffectOf ks) f order
      (λ k d lt. effect (get_or order k d) (by.effects k d lt) (each k d lt));
  once = pairs_map AreOfTwoEntries AreOfTwoEntries (λ (x : Effect). IsMovedTo ks back x (f x)) f order
      (λ x y x_is y_is apart same. apart (sym x_is.inverse ∙ ap back same ∙ y_is.inverse)) each by.once;
  ordered = pairs_map RespectsBefore RespectsBefore (λ (x : Effect). IsMovedTo ks back x (f x)) f order
      (λ x y x_is y_is respects before. respects (less_before y.entry x.entry (f y).entry (f x).entry y_is.less
      x_is.less before)) each by.ordered;
  legal = rw (moved_history ks back f order each) at by.legal;
}
  where
    effect : (x : Effect) → IsEffectOf h.entries x → IsMovedTo ks back x (f x) → IsEffectOf ks (f x)
    effect x was is = record {
      is_entry = is.there;
      replies = rw is.reply (less_may x.entry (f x).entry x.reply is.less was.replies);
    }

pub moved_has : (f : Effect → Effect) (order : List Effect) (i : ℕ) → Contains (indices_of order) i →
    (x : Effect) × ((x.index ≡ i) × Contains (indices_of (map f order)) (f x).index)
moved_has f order i has =
    let found : (x : Effect) × (Contains order x × (x.index ≡ i)) =
    contains_from_map (λ (x : Effect). x.index) order i has in (
      found.0,
      (
        found.1.1,
        contains_map (λ (x : Effect). x.index) (map f order) (f found.0)
            (contains_map f order found.0 found.1.0),
      ),
    )

-- lists whose elements are related, pair by pair
zip_there : (R : Observation → Observation → Type 0) (es ks : List Observation) (i : ℕ) (e : Observation) →
    AllZip R es ks → slice_get es i ≡ Some e → (k : Observation) × ((slice_get ks i ≡ Some k) × R e k)
zip_there R [] ks i e all is = absurd (none-some e is)
zip_there R (x ∷ es) [] i e all is = absurd all
zip_there R (x ∷ es) (y ∷ ks) zero e all is = (y, (refl, rw (same_Some x e is) at all.0))
zip_there R (x ∷ es) (y ∷ ks) (suc i) e all is = zip_there R es ks i e all.1 is

zip_back : (R : Observation → Observation → Type 0) (es ks : List Observation) (i : ℕ) (k : Observation) →
    AllZip R es ks → slice_get ks i ≡ Some k → (e : Observation) × ((slice_get es i ≡ Some e) × R e k)
zip_back R [] [] i k all is = absurd (none-some k is)
zip_back R [] (y ∷ ks) i k all is = absurd all
zip_back R (x ∷ es) [] i k all is = absurd all
zip_back R (x ∷ es) (y ∷ ks) zero k all is = (x, (refl, rw (same_Some y k is) at all.0))
zip_back R (x ∷ es) (y ∷ ks) (suc i) k all is = zip_back R es ks i k all.1 is

-- the same effects, with the entries of another list
abbrev relaxed : List Observation → Effect → Effect
relaxed ks x = record { index = x.index; entry = get_or ks x.index x.entry; reply = x.reply }

pub less_known : (h : ObservedHistory) (ks : List Observation) → AllZip IsLessKnown h.entries ks → IsExplained h →
    IsExplained (record h { entries = ks })
less_known h ks all explained =
    explained_by (record h { entries = ks }) (map (relaxed ks) explained.order)
    (moved_part h ks (λ i. i) (relaxed ks) explained.order (part_of h explained.order explained.by)
    (λ k d lt. relax (get_or explained.order k d) (explained.by.effects k d lt))) returned
  where
    relax : (x : Effect) → IsEffectOf h.entries x → IsMovedTo ks (λ i. i) x (relaxed ks x)
    relax x is =
        let found : (k : Observation) × ((slice_get ks x.index ≡ Some k) × IsLessKnown x.entry k) =
        zip_there IsLessKnown h.entries ks x.index x.entry all is.is_entry in
        let same : get_or ks x.index x.entry ≡ found.0 = get_or_from_slice_get ks x.index found.0 x.entry found.1.0 in
        record { there = rw same found.1.0; less = rw same found.1.1; reply = refl; inverse = refl }

    returned : (i : ℕ) (k : Observation) → slice_get ks i ≡ Some k → HasReturned k →
        Contains (indices_of (map (relaxed ks) explained.order)) i
    returned i k is has =
        let was : (e : Observation) × ((slice_get h.entries i ≡ Some e) × IsLessKnown e k) =
        zip_back IsLessKnown h.entries ks i k all is in
        let found : (x : Effect) × ((x.index ≡ i) × Contains (indices_of (map (relaxed ks) explained.order)) x.index) =
        moved_has (relaxed ks) explained.order i
        (explained.by.returned i was.0 was.1.0 (has.0, was.1.1.returned has.0 has.1)) in
        rw found.1.0 at found.1.1

-- of two cuts the earlier one
less_by : (e : Observation) (t u : Bool) → (t ≡ true → u ≡ true) →
    IsLessKnown (if u then e else record e { returned = None }) (if t then e else record e { returned = None })
less_by e false true sooner = record { call = refl; first = refl; returned = λ r is. cc }
less_by e false false sooner = record { call = refl; first = refl; returned = λ r is. is }
less_by e true true sooner = record { call = refl; first = refl; returned = λ r is. is }
less_by e true false sooner = absurd (false≢true (sooner refl))

-- the cut at l, with what returned there of the first b entries, is no later than that at m, with the first c
abbrev IsNoLater : ℕ → ℕ → ℕ → ℕ → Type 0
IsNoLater l b m c = (l < m) ⊎ ((l ≡ m) × (b ≤ c))

still_returned : (l b m c i : ℕ) (o : Option Returned) → IsNoLater l b m c → returned_by l b i o ≡ true →
    returned_by m c i o ≡ true
still_returned l b m c i None sooner is = is
still_returned l b m c i (Some r) sooner is = at_return r.last is
  where
    at_return : (n : ℕ) → (nat_lt n l || ((n == l) && nat_lt i b)) ≡ true →
        (nat_lt n m || ((n == m) && nat_lt i c)) ≡ true
    at_return n is = grind (arith, nat_tests)

cuts_less : (l b m c i : ℕ) (es : List Observation) → IsNoLater l b m c →
    AllZip IsLessKnown (cut_entries m c i es) (cut_entries l b i es)
cuts_less l b m c i [] sooner = tt
cuts_less l b m c i (e ∷ es) sooner = (
  less_by e (returned_by l b i e.returned) (returned_by m c i e.returned)
      (still_returned l b m c i e.returned sooner),
  cuts_less l b m c (i + 1) es sooner,
)

whole_less : (l b i : ℕ) (es : List Observation) → AllZip IsLessKnown es (cut_entries l b i es)
whole_less l b i [] = tt
whole_less l b i (e ∷ es) = (less_by e (returned_by l b i e.returned) true (λ is. refl), whole_less l b (i + 1) es)

pub cuts_stay_explained : CutsStayExplained
cuts_stay_explained h last bound explained = less_known h (cut_entries last bound 0 h.entries)
    (whole_less last bound 0 h.entries) explained

pub explained_is_not_stuck : ExplainedIsNotStuck
explained_is_not_stuck h i explained stuck =
    stuck.stuck (cuts_stay_explained h stuck.at.return.last (i + 1) explained)

-- a return before one that is stuck isn't
stuck_is_not_before : (h : ObservedHistory) (i j : ℕ) (a : IsStuck h i) (b : IsStuck h j) →
    ¬ IsNoLater a.at.return.last (i + 1) b.at.return.last j
stuck_is_not_before h i j a b sooner =
    a.stuck (less_known (cut b.at.return.last j h) (cut_entries a.at.return.last (i + 1) 0 h.entries)
    (cuts_less a.at.return.last (i + 1) b.at.return.last j 0 h.entries sooner) b.explained)

apart_in_time : (l m i j : ℕ) → ¬ IsNoLater l (i + 1) m j → ¬ IsNoLater m (j + 1) l i → i ≡ j
apart_in_time l m i j one other = grind arith

pub one_stuck : OneStuck
one_stuck h i j a b =
    apart_in_time a.at.return.last b.at.return.last i j (stuck_is_not_before h i j a b) (stuck_is_not_before h j i b a)
