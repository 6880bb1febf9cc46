-- An order along the events of a history, as one of its entries: each effect is of the call that is open there.
use Rattle.std.proofs.Common.{◌≡◌, ℕ, ◌+◌, ◌≤◌, List, [], ◌∷◌, length, map, sym, ◌∙◌, subst, arith, Some}
use Rattle.std.specs.Prelude.{slice_get, take}
use Rattle.std.specs.List.{All, AllPairs, AllZip, Contains}
use Rattle.std.proofs.lemmas.List.{take-map, length-take}
use Rattle.std.proofs.lemmas.List.Kept.{AllPairs-cons}
use Rattle.std.proofs.lemmas.List.Elements.{All-cons, All-head, All-nil, All-tail, All-weaker}
use Rattle.stamp_core.specs.Content.{zeros}
use Rattle.stamp_explain.proofs.Lists.{contains_at}
use Rattle.stamp_explain.proofs.Lists.{pairs_none}
use Rattle.stamp_explain.specs.declared.observed.Observation.{Observation}
use Rattle.stamp_explain.specs.declared.observed.Returned.{Returned}
use Rattle.stamp_explain.specs.Observed.{ObservedHistory, observed_as, IsObserved}
use Rattle.stamp_explain.specs.Explained.{Effect, IsEffectOf}
use Rattle.stamp_runs.specs.declared.event.Event.{Event}
use Rattle.stamp_runs.specs.BothRun.{Both, State, start}
use Rattle.stamp_runs.specs.Names.{Names, event_by}
use Rattle.stamp_runs.specs.Object.{Object}
use Rattle.stamp_runs.specs.Run.{Lanes, all_idle}
use Rattle.stamp_runs.specs.Trace.{LeadsBy, Taken, taken_at}
use Rattle.stamp_runs.specs.Trace.LeadsBy.{led_nowhere, by_taken, by_next}
use Rattle.stamp_runs.proofs.Naming.{IsInWords, order_in_words, taken_by}
use Rattle.stamp_watch.specs.declared.moments.Moment.{Moment}
use Rattle.stamp_watch.specs.AsEvents.{AreEventsOf, AreNamesFor, beginning_of, cut_to, return_of, state_at_first}
use Rattle.stamp_watch.specs.Corresponding.{Correspond}
use Rattle.stamp_watch.specs.Ordered.{Explains, ExplainsAt, IsTakenAs, IsTakenAt}
use Rattle.stamp_watch.specs.WatchLaws.{OrderOfHistory, OrderUpTo}
use Rattle.stamp_watch.proofs.AsEvents.{all_events, cut_to_chosen, first_named, whole}
use Rattle.stamp_watch.proofs.AsObserved.{order_explains}
use Rattle.stamp_watch.proofs.ByNumber.{AreChosen, in_take, take_has}
use Rattle.stamp_watch.proofs.Corresponding.{back_there, correspond_back, entry_there, order_is_there, there}
use Rattle.stamp_watch.proofs.Numbering.{IsCutEntry, IsPlaced, are_of_run, correspond, numbered, placed, same_index}
use Rattle.stamp_watch.proofs.Ranking.{place_in}

-- no call takes effect behind the last event
abbrev pub IsWithin : ℕ → Taken → Type 0
IsWithin n x = x.point ≤ n

pub points_within : {S : Type 0} {O : Object S} {n : ℕ} {order : List Taken} {events : List Event} {s t : S}
    {l m : Lanes} → LeadsBy O n order events s l t m → All (IsWithin (n + length events)) order
points_within led_nowhere = All-nil (IsWithin _)
points_within {n = n} {events = events} (by_taken {order = order} lane call reply asks step sets rest) =
    All-cons (IsWithin (n + length events)) (taken_at n (lane, reply)) order (omega arith) (points_within rest)
points_within {n = n} {order = order} (by_next {events = events} event happens rest) =
    All-weaker (IsWithin (n + 1 + length events)) (IsWithin (n + length (event ∷ events)))
    (λ x low. omega (arith, low)) order (points_within rest)

-- none takes effect before the first, and their points rise
pub points_rise : {S : Type 0} {O : Object S} {n : ℕ} {order : List Taken} {events : List Event} {s t : S}
    {l m : Lanes} → LeadsBy O n order events s l t m →
    All (λ (x : Taken). n ≤ x.point) order × AllPairs (λ (x y : Taken). x.point ≤ y.point) order
points_rise {n = n} led_nowhere =
    (All-nil (λ (x : Taken). n ≤ x.point), pairs_none (λ (x y : Taken). x.point ≤ y.point))
points_rise {n = n} (by_taken {order = order} lane call reply asks step sets rest) = (
  All-cons (λ (x : Taken). n ≤ x.point) (taken_at n (lane, reply)) order (omega arith) (points_rise rest).0,
  AllPairs-cons (λ (x y : Taken). x.point ≤ y.point) (taken_at n (lane, reply)) order (points_rise rest).0
      (points_rise rest).1,
)
points_rise {n = n} {order = order} (by_next event happens rest) = (
  All-weaker (λ (x : Taken). n + 1 ≤ x.point) (λ (x : Taken). n ≤ x.point) (λ x low. omega (arith, low)) order
      (points_rise rest).0,
  (points_rise rest).1,
)

-- what a list has at a number stands in it
module _ (h : ObservedHistory) (observed : IsObserved h) (moments : List Moment) (events : List Event)
    (of : AreEventsOf h moments events) (k : ℕ) (entries : List Observation)
    (are : AreChosen (IsCutEntry h observed moments events of k) h.entries entries)
  where
    abbrev by_numbers : List Observation
    by_numbers = numbered h observed moments events of k entries are

    same : Correspond (observed_as h.limits h.width by_numbers) (observed_as h.limits h.width entries)
    same = correspond_back (observed_as h.limits h.width entries) (observed_as h.limits h.width by_numbers)
        (correspond h observed moments events of k entries are h.limits h.width)

    -- an effect by numbers, as one by moments
    abbrev effect_of : Effect → Effect
    effect_of y = there (observed_as h.limits h.width by_numbers) (observed_as h.limits h.width entries) same y

    index_of : (y : Effect) → (effect_of y).index ≡ y.index
    unfolding same
    index_of y = back_there (observed_as h.limits h.width entries) (observed_as h.limits h.width by_numbers)
        (correspond h observed moments events of k entries are h.limits h.width) y.index ∙
        same_index h observed moments events of k entries are h.limits h.width y.index

    taken_there : (x : Taken) (y : Effect) → IsEffectOf by_numbers y → IsWithin k x → IsTakenAs x y →
        IsTakenAt moments x (effect_of y)
    taken_there x y is low taken = record {
      lane = its.thread ∙ taken.lane;
      began = subst (λ (i : ℕ). Contains (take x.point moments) (beginning_of i c)) (sym (index_of y))
          (contains_at (take x.point moments) y.entry.first (beginning_of y.index c)
          (take_has x.point y.entry.first moments (beginning_of y.index c) taken.began its.first));
      still_open = λ r has. returns r (subst (λ (i : ℕ). Contains (take x.point moments) (return_of i r))
          (index_of y) has);
    }
      where
        c : Observation
        c = (effect_of y).entry

        its : IsPlaced h observed moments events of k entries are y.index (effect_of y).entry y.entry
        its = placed h observed moments events of k entries are y.index (effect_of y).entry y.entry
            (subst (λ (i : ℕ). slice_get entries i ≡ Some (effect_of y).entry) (index_of y)
            (entry_there (observed_as h.limits h.width by_numbers) (observed_as h.limits h.width entries) same y is))
            is.is_entry

        returns : (r : Returned) → ¬ Contains (take x.point moments) (return_of y.index r)
        returns r has =
            let place = place_in (take x.point moments) (return_of y.index r) has in
            let at = in_take x.point place.0 moments (return_of y.index r) place.1 in
            let back = its.returns place.0 r (omega (arith, at.0, low)) at.1 in
            omega (arith, at.0, taken.still_open back.0 back.1.0, back.1.1)

    all_there : (name : Names) (words : List Taken) (effects : List Effect) → All (IsEffectOf by_numbers) effects →
        All (IsWithin k) words → AllZip IsTakenAs words effects →
        AllZip (IsTakenAt moments) (map (taken_by name) words) (map effect_of effects)
    all_there name [] [] all low zip = tt
    all_there name [] (y ∷ effects) all low zip = absurd zip
    all_there name (x ∷ words) [] all low zip = absurd zip
    all_there name (x ∷ words) (y ∷ effects) all low zip = (
      by (taken_there x y (All-head (IsEffectOf by_numbers) y effects all) (All-head (IsWithin k) x words low) zip.0),
      all_there name words effects (All-tail (IsEffectOf by_numbers) y effects all)
          (All-tail (IsWithin k) x words low) zip.1,
    )
      where
        by : IsTakenAt moments x (effect_of y) → IsTakenAt moments (taken_by name x) (effect_of y)
        by is = record { lane = is.lane; began = is.began; still_open = is.still_open }

    order_of_cut : (name : Names) (order : List Taken) (s : State) (lanes : Lanes) → AreNamesFor h name →
        LeadsBy (Both h.limits) 0 order (map (event_by name) (take k events)) start all_idle s lanes →
        ExplainsAt (observed_as h.limits h.width entries) moments order
    order_of_cut name order s lanes names way = record {
      effects = map effect_of found.effects;
      by = order_is_there (observed_as h.limits h.width by_numbers) (observed_as h.limits h.width entries) same
          found.effects found.by;
      taken = subst (λ (o : List Taken). AllZip (IsTakenAt moments) o (map effect_of found.effects))
          (sym told.order_is) (all_there name told.words found.effects found.by.effects low found.taken);
    }
      where
        told : IsInWords name names.different h.limits 0 order (take k events) (state_at_first h) all_idle s lanes
        told = order_in_words h.limits name (zeros h.width) (take k events) order s lanes names.different
            (subst (λ (z : State). LeadsBy (Both h.limits) 0 order (map (event_by name) (take k events)) z all_idle s
            lanes) (sym (first_named h name names)) way)

        found : Explains (observed_as h.limits h.width by_numbers) told.words
        found = order_explains h.limits h.width by_numbers (take k events)
            (are_of_run h observed moments events of k entries are) told.words told.state told.last told.way

        low : All (IsWithin k) told.words
        low = All-weaker (IsWithin (0 + length (take k events))) (IsWithin k)
            (λ x less. omega (arith, less, length-take k events)) told.words (points_within told.way)

pub order_of_history : OrderOfHistory
order_of_history h moments events name order s lanes observed of names way =
    order_of_cut h observed moments events of (length moments) h.entries (whole h observed moments events of) name
    order s lanes names (subst (λ (es : List Event). LeadsBy (Both h.limits) 0 order (map (event_by name) es) start
    all_idle s lanes) (sym (all_events h observed moments events of)) way)

pub order_up_to : OrderUpTo
order_up_to h moments events name k m order s lanes observed of names at_k way =
    order_of_cut h observed moments events of k (cut_to m h).entries (cut_to_chosen h observed moments events of k m
    at_k) name order s lanes names (subst (λ (es : List Event). LeadsBy (Both h.limits) 0 order es start all_idle s
    lanes) (take-map (event_by name) k events) way)
