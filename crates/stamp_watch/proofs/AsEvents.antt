-- An observed history is explained, and stuck, exactly where the run of its events is.
use Rattle.std.proofs.Common.{◌≡◌, ◌⊎◌, ℕ, suc, ◌+◌, ◌<◌, ◌==◌, Bool, true, false, List, [], ◌∷◌, refl, sym}
use Rattle.std.proofs.Common.{◌∙◌, ap, subst, inl, inr, arith, add-one, length, Option, Some, None}
use Rattle.std.specs.Prelude.{slice_get, map, take, is_some, nat_lt, ◌&&◌, ◌||◌, ◌↔◌, if◌then◌else◌}
use Rattle.std.proofs.lemmas.Bool.{false≢true}
use Rattle.std.proofs.lemmas.Bool.Decides.{nat_tests}
use Rattle.std.proofs.lemmas.List.{take_all}
use Rattle.std.proofs.lemmas.Option.{none-some, same_Some, slice_get_within}
use Rattle.std.proofs.lemmas.Slice.Zip.{AllZip-long}
use Rattle.stamp_explain.specs.declared.observed.Observation.{Observation}
use Rattle.stamp_explain.specs.declared.observed.Returned.{Returned}
use Rattle.stamp_explain.specs.Observed.{ObservedHistory, observed_as, IsObserved}
use Rattle.stamp_explain.specs.Explained.{IsExplained}
use Rattle.stamp_explain.specs.Cut.{IsStuck, cut, cut_after, cut_entries, cut_entry, returned_by}
use Rattle.stamp_watch.proofs.Corresponding.{positions_tell_order}
use Rattle.stamp_core.specs.Content.{zeros}
use Rattle.stamp_runs.specs.declared.event.Event.{Event}
use Rattle.stamp_runs.specs.declared.event.Event.TheVariants.{Begins}
use Rattle.stamp_runs.specs.BothRun.{AreExplained, Both, State, start}
use Rattle.stamp_runs.specs.Names.{Names, event_by}
use Rattle.stamp_runs.specs.Own.{AreInForm, none_open}
use Rattle.stamp_runs.specs.Run.{AreExplainedFrom, AreStuckFrom}
use Rattle.stamp_runs.proofs.Naming.{names_dont_matter, stuck_by_names}
use Rattle.stamp_watch.specs.declared.moments.Moment.{Moment}
use Rattle.stamp_watch.specs.AsEvents.{AreNamesFor, IsReturnOf, beginning_of, cut_to, return_of, ComesFirst}
use Rattle.stamp_watch.specs.AsEvents.{IsEventAt, AreEventsOf, state_at_first}
use Rattle.stamp_watch.specs.WatchLaws.{CutAsEvents, ExplainedAsEvents, ExplainedByNumbers, StuckAsEvents}
use Rattle.stamp_watch.specs.WatchLaws.{StuckAtReturns, StuckByNumbers}
use Rattle.stamp_watch.proofs.Form.{begins_next, form_up_to, may_come_at}
use Rattle.stamp_watch.proofs.AsObserved.{AreOfRun, run_explained, explained_run}
use Rattle.stamp_watch.proofs.StuckAsObserved.{take_none, take_one}
use Rattle.stamp_watch.proofs.ByNumber.{AreChosen, chosen_past}
use Rattle.stamp_watch.proofs.Ranking.{zip_at, three_ways, comes_first, in_form, numbered_first, one_moment}
use Rattle.stamp_watch.proofs.Ranking.{before_numbered, numbered_before, one_number, zip_there}
use Rattle.stamp_watch.proofs.Numbering.{IsCutEntry, numbered, correspond, are_of_run}

-- the entries of a cut history, by their indices
pub cut_chosen : (last bound n : ℕ) (entries : List Observation) (P : ℕ → Observation → Observation → Type 0) →
    ((j k : ℕ) (e : Observation) → k ≡ n + j → slice_get entries j ≡ Some e → P j e (cut_entry last bound k e)) →
    AreChosen P entries (cut_entries last bound n entries)
cut_chosen last bound n [] P each = record {
  forth = λ j x at. absurd (none-some x at);
  back = λ j x at. absurd (none-some x at);
}
cut_chosen last bound n (e ∷ entries) P each = chosen_past P e (cut_entry last bound n e) entries
    (cut_entries last bound (n + 1) entries) (each 0 n e (omega arith) refl)
    (cut_chosen last bound (n + 1) entries (λ j. P (suc j))
    (λ j k f is at. each (suc j) k f (omega (arith, is)) at))

-- what the test of a cut tells
test_tells : (a b i n : ℕ) → (nat_lt a b || ((a == b) && nat_lt i n)) ≡ true →
    (a < b) ⊎ ((a ≡ b) × (i < n))
test_tells a b i n test = grind (arith, nat_tests)

pub told_test : (a b i n : ℕ) → (a < b) ⊎ ((a ≡ b) × (i < n)) →
    (nat_lt a b || ((a == b) && nat_lt i n)) ≡ true
told_test a b i n (inl less) = grind (arith, nat_tests)
told_test a b i n (inr same) = grind (arith, nat_tests)

module _ (h : ObservedHistory) (observed : IsObserved h) (moments : List Moment) (events : List Event)
    (of : AreEventsOf h moments events)
  where
    -- a cut history and the events up to there
    same_as_run : (k : ℕ) (entries : List Observation) →
        AreChosen (IsCutEntry h observed moments events of k) h.entries entries →
        IsExplained (observed_as h.limits h.width entries) ↔
        AreExplainedFrom (Both h.limits) (state_at_first h) (take k events)
    same_as_run k entries are = (
      (λ explained. explained_run h.limits h.width (numbered h observed moments events of k entries are)
          (take k events) form runs (same.0 explained)),
      (λ way. same.1 (run_explained h.limits h.width (numbered h observed moments events of k entries are)
          (take k events) runs way)),
    )
      where
        form : AreInForm (take k events)
        form = form_up_to k none_open events (in_form h observed moments events of)

        runs : AreOfRun (numbered h observed moments events of k entries are) (take k events)
        runs = are_of_run h observed moments events of k entries are

        same : IsExplained (observed_as h.limits h.width entries) ↔
            IsExplained (observed_as h.limits h.width (numbered h observed moments events of k entries are))
        same = positions_tell_order (observed_as h.limits h.width entries)
            (observed_as h.limits h.width (numbered h observed moments events of k entries are))
            (correspond h observed moments events of k entries are h.limits h.width)

    pub whole : AreChosen (IsCutEntry h observed moments events of (length moments)) h.entries h.entries
    whole = record { forth = λ j e at. (e, (at, it j e)); back = λ j e at. (e, (at, it j e)) }
      where
        it : (j : ℕ) (e : Observation) → IsCutEntry h observed moments events of (length moments) j e e
        it j e = record {
          thread = refl;
          call = refl;
          first = refl;
          kept = λ r q back at less. back;
          had = λ r back. back;
          below = λ r q back at. slice_get_within moments q (return_of j r) at;
        }

    pub all_events : take (length moments) events ≡ events
    all_events = take_all (length moments) events
        (let long = AllZip-long (IsEventAt h.entries) moments events of.events_are in omega (arith, long))

    explained_so : IsExplained h ↔ AreExplainedFrom (Both h.limits) (state_at_first h) events
    explained_so = subst (λ (es : List Event). IsExplained h ↔
        AreExplainedFrom (Both h.limits) (state_at_first h) es) all_events
        (same_as_run (length moments) h.entries whole)

    -- the test of a cut tells which returns are before it
    abbrev pub Tells : ℕ → ℕ → ℕ → Type 0
    Tells last bound k = (i q : ℕ) (r : Returned) → slice_get moments q ≡ Some (return_of i r) →
        (q < k) ↔ ((r.last < last) ⊎ ((r.last ≡ last) × (i < bound)))

    is_cut_entry : (last bound k i : ℕ) (e : Observation) → Tells last bound k →
        IsCutEntry h observed moments events of k i e (cut_entry last bound i e)
    is_cut_entry last bound k i e tells = by (returned_by last bound i e.returned) refl
      where
        test_of : (r : Returned) → e.returned ≡ Some r →
            returned_by last bound i e.returned ≡ (nat_lt r.last last || ((r.last == last) && nat_lt i bound))
        test_of r back = ap (returned_by last bound i) back

        by : (b : Bool) → returned_by last bound i e.returned ≡ b →
            IsCutEntry h observed moments events of k i e (if b then e else record e { returned = None })
        by true test = record {
          thread = refl;
          call = refl;
          first = refl;
          kept = λ r q back at less. back;
          had = λ r back. back;
          below = λ r q back at. (tells i q r at).1 (test_tells r.last last i bound (sym (test_of r back) ∙ test));
        }
        by false test = record {
          thread = refl;
          call = refl;
          first = refl;
          kept = λ r q back at less. absurd (false≢true (sym test ∙ test_of r back ∙
              told_test r.last last i bound ((tells i q r at).0 less)));
          had = λ r back. absurd (none-some r back);
          below = λ r q back at. absurd (none-some r back);
        }

    are_cut : (last bound k : ℕ) → Tells last bound k →
        AreChosen (IsCutEntry h observed moments events of k) h.entries (cut_entries last bound 0 h.entries)
    are_cut last bound k tells = cut_chosen last bound 0 h.entries (IsCutEntry h observed moments events of k)
        (λ j i e is at. subst (λ (v : ℕ). IsCutEntry h observed moments events of k j e (cut_entry last bound v e))
        (omega (arith, is)) (is_cut_entry last bound k j e tells))

    cut_at : (last bound k : ℕ) → Tells last bound k →
        IsExplained (cut last bound h) ↔ AreExplainedFrom (Both h.limits) (state_at_first h) (take k events)
    cut_at last bound k tells = same_as_run k (cut_entries last bound 0 h.entries) (are_cut last bound k tells)

    -- at a return
    module _ (i k : ℕ) (r : Returned) (at_k : slice_get moments k ≡ Some (return_of i r)) where
      first_tells : (j : ℕ) (q : Returned) → ComesFirst (return_of j q) (return_of i r) →
          (q.last < r.last) ⊎ ((q.last ≡ r.last) × (j < i))
      first_tells j q (inl less) = inl (omega (arith, less))
      first_tells j q (inr same) = inr (omega (arith, same.0), same.1)

      told_first : (j : ℕ) (q : Returned) → (q.last < r.last) ⊎ ((q.last ≡ r.last) × (j < i)) →
          ComesFirst (return_of j q) (return_of i r)
      told_first j q (inl less) = inl (omega (arith, less))
      told_first j q (inr same) = inr (omega (arith, same.0), same.1)

      tells_before : Tells r.last i k
      tells_before j n q at_n = (
        (λ less. first_tells j q (comes_first h observed moments events of n k (return_of j q) (return_of i r) at_n
            at_k less)),
        (λ told. numbered_first h observed moments events of n k (return_of j q) (return_of i r) at_n at_k
            (told_first j q told)),
      )

      pub tells_after : Tells r.last (i + 1) (suc k)
      tells_after j n q at_n = (
        (λ less. there less (three_ways n k)),
        (λ told. back told),
      )
        where
          wider : (q.last < r.last) ⊎ ((q.last ≡ r.last) × (j < i)) →
              (q.last < r.last) ⊎ ((q.last ≡ r.last) × (j < i + 1))
          wider (inl less) = inl less
          wider (inr same) = inr (same.0, omega (arith, same.1))

          there : n < suc k → (n < k) ⊎ ((n ≡ k) ⊎ (k < n)) → (q.last < r.last) ⊎ ((q.last ≡ r.last) × (j < i + 1))
          there less (inl before) = wider ((tells_before j n q at_n).0 before)
          there less (inr (inl same)) =
              let one = one_moment h observed moments events of k (return_of j q) (return_of i r)
              (subst (λ (p : ℕ). slice_get moments p ≡ Some (return_of j q)) same at_n) at_k in
              let entry : j ≡ i = ap (λ (m : Moment). m.entry) one in
              inr (ap (λ (m : Moment). m.position) one, omega (arith, entry))
          there less (inr (inr more)) = absurd (omega (arith, less, more))

          back : (q.last < r.last) ⊎ ((q.last ≡ r.last) × (j < i + 1)) → n < suc k
          back (inl less) = let before = (tells_before j n q at_n).1 (inl less) in omega (arith, before)
          back (inr same) = by (three_ways j i)
            where
              by : (j < i) ⊎ ((j ≡ i) ⊎ (i < j)) → n < suc k
              by (inl less) = let before = (tells_before j n q at_n).1 (inr (same.0, less)) in omega (arith, before)
              by (inr (inl entry)) =
                  let its : return_of j q ≡ return_of i r =
                  λ x. record { entry = entry x; position = same.0 x; is_return = true } in
                  let number = one_number h observed moments events of n k (return_of i r)
                  (subst (λ (m : Moment). slice_get moments n ≡ Some m) its at_n) at_k in
                  omega (arith, number)
              by (inr (inr more)) = absurd (omega (arith, same.1, more))

    -- the cut at a beginning is before all returns of its position
    tells_to : (k : ℕ) (m : Moment) → slice_get moments k ≡ Some m →
        Tells m.position (if m.is_return then m.entry else 0) k
    tells_to k m at_k =
        let found = zip_there (IsEventAt h.entries) k moments events m of.events_are at_k in by found.0 found.1.1
      where
        by : (event : Event) → IsEventAt h.entries m event →
            Tells m.position (if m.is_return then m.entry else 0) k
        by event (inl begins) = subst (λ (x : Moment). Tells x.position (if x.is_return then x.entry else 0) k)
            (sym begins.moment) tells
          where
            at : slice_get moments k ≡ Some (beginning_of m.entry begins.entry)
            at = at_k ∙ ap (λ (x : Moment). Some x) begins.moment

            tells : (i q : ℕ) (r : Returned) → slice_get moments q ≡ Some (return_of i r) →
                (q < k) ↔ ((r.last < begins.entry.first) ⊎ ((r.last ≡ begins.entry.first) × (i < 0)))
            tells i q r at_q = (
              (λ less. inl (numbered_before h observed moments events of i m.entry k q begins.entry r at_q at less)),
              (λ told. back told),
            )
              where
                back : (r.last < begins.entry.first) ⊎ ((r.last ≡ begins.entry.first) × (i < 0)) → q < k
                back (inl less) =
                    before_numbered h observed moments events of i m.entry k q begins.entry r at_q at less
                back (inr same) = absurd (omega (arith, same.1))
        by event (inr returns) = subst (λ (x : Moment). Tells x.position (if x.is_return then x.entry else 0) k)
            (sym returns.moment) (tells_before m.entry k returns.at.return
            (at_k ∙ ap (λ (x : Moment). Some x) returns.moment))

    pub cut_to_chosen : (k : ℕ) (m : Moment) → slice_get moments k ≡ Some m →
        AreChosen (IsCutEntry h observed moments events of k) h.entries (cut_to m h).entries
    cut_to_chosen k m at_k =
        are_cut m.position (if m.is_return then m.entry else 0) k (tells_to k m at_k)

pub explained_as_events : ExplainedAsEvents
explained_as_events h moments events observed of = explained_so h observed moments events of

-- with the return of a call a history is explained as the run is up to there
pub returned_as_events : (h : ObservedHistory) (observed : IsObserved h) (moments : List Moment) (events : List Event)
    (of : AreEventsOf h moments events) (i k : ℕ) (r : Returned) → slice_get moments k ≡ Some (return_of i r) →
    IsExplained (cut_after r i h) ↔ AreExplainedFrom (Both h.limits) (state_at_first h) (take (k + 1) events)
returned_as_events h observed moments events of i k r there = subst (λ (n : ℕ). IsExplained (cut_after r i h) ↔
    AreExplainedFrom (Both h.limits) (state_at_first h) (take n events)) (sym (add-one k))
    (cut_at h observed moments events of r.last (i + 1) (suc k) (tells_after h observed moments events of i k r there))

-- a history is stuck at an entry where it is explained before its return, and not with it
pub stuck_as_events : StuckAsEvents
stuck_as_events h moments events i k at observed of at_k = (there, back)
  where
    before : IsExplained (cut at.return.last i h) ↔
        AreExplainedFrom (Both h.limits) (state_at_first h) (take k events)
    before = cut_at h observed moments events of at.return.last i k
        (tells_before h observed moments events of i k at.return at_k)

    after : IsExplained (cut_after at.return i h) ↔
        AreExplainedFrom (Both h.limits) (state_at_first h) (take (k + 1) events)
    after = returned_as_events h observed moments events of i k at.return at_k

    there : IsStuck h i → AreStuckFrom (Both h.limits) (state_at_first h) events k
    there stuck =
        let same : stuck.at.return ≡ at.return = cc in
        record {
          explained = before.0 (subst (λ (r : Returned). IsExplained (cut r.last i h)) same stuck.explained);
          stuck = λ way. stuck.stuck (subst (λ (r : Returned). IsExplained (cut r.last (i + 1) h)) (sym same)
              (after.1 way));
        }

    back : AreStuckFrom (Both h.limits) (state_at_first h) events k → IsStuck h i
    back stuck = record {
      at = at;
      explained = before.1 stuck.explained;
      stuck = λ explained. stuck.stuck (after.0 explained);
    }

-- where a call begins, or no event is left, a run that was explained is explained
pub explained_on : (h : ObservedHistory) (moments : List Moment) (events : List Event) (k : ℕ) → IsObserved h →
    AreEventsOf h moments events → ((m : Moment) → slice_get moments k ≡ Some m → m.is_return ≡ false) →
    AreExplainedFrom (Both h.limits) (state_at_first h) (take k events) →
    AreExplainedFrom (Both h.limits) (state_at_first h) (take (suc k) events)
explained_on h moments events k observed of begins explained = at (slice_get events k) refl
  where
    by : (m : Moment) (event : Event) → slice_get events k ≡ Some event → slice_get moments k ≡ Some m →
        IsEventAt h.entries m event → AreExplainedFrom (Both h.limits) (state_at_first h) (take (suc k) events)
    by m event is at_k (inl begun) = subst (AreExplainedFrom (Both h.limits) (state_at_first h))
        (sym (take_one k events (Begins e.thread e.call) begin)) (begins_next (Both h.limits) (state_at_first h)
        e.thread e.call (take k events) (ap is_some (may_come_at k none_open events (Begins e.thread e.call)
        (in_form h observed moments events of) begin)) explained)
      where
        e : Observation
        e = begun.entry

        begin : slice_get events k ≡ Some (Begins begun.entry.thread begun.entry.call)
        begin = is ∙ ap (λ (x : Event). Some x) begun.event_is
    by m event is at_k (inr returns) =
        absurd (false≢true (sym (begins m at_k) ∙ ap (λ (x : Moment). x.is_return) returns.moment))

    at : (o : Option Event) → slice_get events k ≡ o →
        AreExplainedFrom (Both h.limits) (state_at_first h) (take (suc k) events)
    at None is = subst (AreExplainedFrom (Both h.limits) (state_at_first h)) (sym (take_none k events is)) explained
    at (Some event) is = let found = zip_at (IsEventAt h.entries) k moments events event of.events_are is in
        by found.0 event is found.1.0 found.1.1

-- so such a run is stuck at returns alone
pub stuck_at_returns : StuckAtReturns
stuck_at_returns h moments events k observed of stuck = at (slice_get moments k) refl
  where
    never : ((m : Moment) → slice_get moments k ≡ Some m → m.is_return ≡ false) → ⊥
    never begins = stuck.stuck (subst (λ (n : ℕ). AreExplainedFrom (Both h.limits) (state_at_first h) (take n events))
        (sym (add-one k)) (explained_on h moments events k observed of begins stuck.explained))

    by : (m : Moment) (event : Event) → slice_get moments k ≡ Some m → IsEventAt h.entries m event →
        IsReturnOf h.entries (slice_get moments k)
    by m event at_k (inl begins) = absurd (never (λ n at_n. ap (λ (x : Moment). x.is_return)
        (same_Some n m (sym at_n ∙ at_k) ∙ begins.moment)))
    by m event at_k (inr returns) = record {
      index = m.entry;
      at = returns.at;
      moment = at_k ∙ ap (λ (x : Moment). Some x) returns.moment;
    }

    at : (o : Option Moment) → slice_get moments k ≡ o → IsReturnOf h.entries (slice_get moments k)
    at None is = absurd (never (λ m at_m. absurd (none-some m (sym is ∙ at_m))))
    at (Some m) is = let found = zip_there (IsEventAt h.entries) k moments events m of.events_are is in
        by m found.0 is found.1.1

pub cut_as_events : CutAsEvents
cut_as_events h moments events k m observed of at_k =
    same_as_run h observed moments events of k (cut_to m h).entries
    (cut_to_chosen h observed moments events of k m at_k)

-- contents by numbers
pub first_named : (h : ObservedHistory) (name : Names) → AreNamesFor h name → ([], name (zeros h.width)) ≡ start
first_named h name are = λ i. ([], are.first i)

pub named_as_events : (h : ObservedHistory) (name : Names) (events : List Event) → AreNamesFor h name →
    AreExplainedFrom (Both h.limits) (state_at_first h) events ↔ AreExplained h.limits (map (event_by name) events)
named_as_events h name events are = subst (λ (s : State). AreExplainedFrom (Both h.limits) (state_at_first h) events ↔
    AreExplainedFrom (Both h.limits) s (map (event_by name) events)) (first_named h name are)
    (names_dont_matter h.limits name (zeros h.width) events are.different)

pub explained_by_numbers : ExplainedByNumbers
explained_by_numbers h moments events name observed of are = (
  (λ explained. named.0 (same.0 explained)),
  (λ way. same.1 (named.1 way)),
)
  where
    same : IsExplained h ↔ AreExplainedFrom (Both h.limits) (state_at_first h) events
    same = explained_as_events h moments events observed of

    named : AreExplainedFrom (Both h.limits) (state_at_first h) events ↔
        AreExplained h.limits (map (event_by name) events)
    named = named_as_events h name events are

pub stuck_by_numbers : StuckByNumbers
stuck_by_numbers h moments events name i k at observed of are at_k = (
  (λ stuck. subst (λ (s : State). AreStuckFrom (Both h.limits) s (map (event_by name) events) k)
      (first_named h name are) (named.0 (same.0 stuck))),
  (λ stuck. same.1 (named.1 (subst (λ (s : State). AreStuckFrom (Both h.limits) s (map (event_by name) events) k)
      (sym (first_named h name are)) stuck))),
)
  where
    same : IsStuck h i ↔ AreStuckFrom (Both h.limits) (state_at_first h) events k
    same = stuck_as_events h moments events i k at observed of at_k

    named : AreStuckFrom (Both h.limits) ([], zeros h.width) events k ↔
        AreStuckFrom (Both h.limits) ([], name (zeros h.width)) (map (event_by name) events) k
    named = stuck_by_names h.limits name (zeros h.width) events k are.different
