-- The entries of an order in which calls took effect: of each effect the call that began last in its lane.
use Rattle.std.proofs.Common.{◌≡◌, ◌≢◌, ◌⊎◌, ℕ, ◌+◌, ◌-◌, ◌<◌, ◌≤◌, Bool, true, false, List, [], ◌∷◌, ◌++◌, length}
use Rattle.std.proofs.Common.{map, refl, sym, ◌∙◌, ap, subst, inl, inr, arith, Some, None}
use Rattle.std.specs.Prelude.{slice_get, take, drop, if◌then◌else◌}
use Rattle.std.specs.List.{All, AllZip}
use Rattle.std.proofs.lemmas.Bool.{cases_eq}
use Rattle.std.proofs.lemmas.List.{length-take-le, take-append-drop}
use Rattle.std.proofs.Math.Seq.{take-append-add}
use Rattle.std.proofs.lemmas.List.Elements.{All-cons, All-drop, All-head, All-map, All-nil, All-tail, All-take}
use Rattle.std.proofs.lemmas.List.Elements.{All-weaker}
use Rattle.std.proofs.lemmas.Option.{get_or_from_slice_get, slice_get_within}
use Rattle.stamp_explain.specs.declared.observed.Observation.{Observation}
use Rattle.stamp_explain.specs.Observed.{ObservedHistory, IsBefore, IsObserved}
use Rattle.stamp_explain.specs.Explained.{Effect, IsEffectOf, indices_of}
use Rattle.stamp_explain.proofs.Lists.{contains_at}
use Rattle.stamp_explain.proofs.Lists.{pairs_map}
use Rattle.stamp_explain.specs.Cut.{cut_entry, returned_by}
use Rattle.stamp_runs.specs.declared.event.Event.{Event}
use Rattle.stamp_runs.specs.Object.{Object}
use Rattle.stamp_runs.specs.Run.{Lanes}
use Rattle.stamp_runs.specs.Trace.{LeadsBy, Taken}
use Rattle.stamp_watch.specs.declared.moments.Moment.{Moment}
use Rattle.stamp_sets.specs.declared.order.EffectAt.{EffectAt}
use Rattle.stamp_watch.specs.AsEvents.{AreEventsOf, AreMomentsOf, IsEventAt, IsMomentOf, beginning_of, cut_to}
use Rattle.stamp_watch.specs.AsEvents.{return_of}
use Rattle.stamp_watch.specs.Ordered.{ExplainsAt, IsTakenAt}
use Rattle.stamp_watch.specs.inner.Ordering.{AreAlong, AreEntriesOf, IsLastBegun}
use Rattle.stamp_sets.specs.Order.{effect_at}
use Rattle.stamp_watch.proofs.LastBegun.{AreLastAt}
use Rattle.stamp_watch.proofs.AlongMoments.{IsWithin, points_rise, points_within}
use Rattle.stamp_watch.proofs.AsEvents.{cut_chosen}
use Rattle.stamp_watch.proofs.ByNumber.{in_take, take_has}
use Rattle.stamp_watch.proofs.Ranking.{apart, before_numbered, before_returned, begins_first, one_entry_at, one_number}
use Rattle.stamp_watch.proofs.Ranking.{place_in, returned}

-- moments have events
events_at : (entries : List Observation) (moments : List Moment) → All (IsMomentOf entries) moments →
    (events : List Event) × AllZip (IsEventAt entries) moments events
events_at entries [] each = ([], tt)
events_at entries (m ∷ moments) each =
    let first = All-head (IsMomentOf entries) m moments each in
    let rest = events_at entries moments (All-tail (IsMomentOf entries) m moments each) in
    (first.0 ∷ rest.0, (first.1, rest.1))

-- a call begins in both at one position, in one lane
pub record BeginsSo (entries : List Observation) (i : ℕ) (e : Observation) : Type 0 where
  pub entry : Observation
  pub is_entry : slice_get entries i ≡ Some entry
  pub thread : entry.thread ≡ e.thread
  pub first : entry.first ≡ e.first

abbrev pub EachBeginsSo : ObservedHistory → ObservedHistory → Type 0
EachBeginsSo g h = (i : ℕ) (e : Observation) → slice_get g.entries i ≡ Some e → BeginsSo h.entries i e

pub whole_begins : (h : ObservedHistory) → EachBeginsSo h h
whole_begins h i e at = record { entry = e; is_entry = at; thread = refl; first = refl }

-- a cut leaves the beginnings
abbrev BeginsAlike : ℕ → Observation → Observation → Type 0
BeginsAlike i e c = (e.thread ≡ c.thread) × (e.first ≡ c.first)

cut_alike : (last bound j k : ℕ) (e : Observation) → BeginsAlike j e (cut_entry last bound k e)
cut_alike last bound j k e = by (returned_by last bound k e.returned)
  where
    by : (b : Bool) → BeginsAlike j e (if b then e else record e { returned = None })
    by true = (refl, refl)
    by false = (refl, refl)

pub cut_begins : (m : Moment) (h : ObservedHistory) → EachBeginsSo (cut_to m h) h
cut_begins m h i c at =
    let found = (cut_chosen m.position (if m.is_return then m.entry else 0) 0 h.entries BeginsAlike
    (λ j k e is at_e. cut_alike m.position (if m.is_return then m.entry else 0) j k e)).back i c at in
    record { entry = found.0; is_entry = found.1.0; thread = found.1.1.0; first = found.1.1.1 }

module _ (h : ObservedHistory) (observed : IsObserved h) (moments : List Moment)
    (of_h : AreMomentsOf h.entries moments) (g : ObservedHistory) (begins_so : EachBeginsSo g h)
  where
    events : List Event
    events = (events_at h.entries moments of_h.each).0

    of : AreEventsOf h moments events
    unfolding events
    of = record { are = of_h; events_are = (events_at h.entries moments of_h.each).1 }

    -- the call that is open in a lane is the one that began last there
    taken_last : (x : Taken) (y : Effect) → IsEffectOf g.entries y → IsTakenAt moments x y →
        IsLastBegun h.entries x.lane (take x.point moments) y.index
    taken_last x y is taken = record {
      entry = e;
      is_entry = its.is_entry;
      its_lane = its.thread ∙ taken.lane;
      number = place.0;
      at = at;
      last = λ j k f at_f thread at_k. last j k f at_f thread at_k (cases_eq j y.index);
    }
      where
        its : BeginsSo h.entries y.index y.entry
        its = begins_so y.index y.entry is.is_entry

        e : Observation
        e = its.entry

        place : (p : ℕ) × (slice_get (take x.point moments) p ≡ Some (beginning_of y.index y.entry))
        place = place_in (take x.point moments) (beginning_of y.index y.entry) taken.began

        at : slice_get (take x.point moments) place.0 ≡ Some (beginning_of y.index e)
        at = place.1 ∙ ap (λ (p : ℕ). Some (record { entry = y.index; position = p; is_return = false }))
            (sym its.first)

        there : slice_get moments place.0 ≡ Some (beginning_of y.index e)
        there = (in_take x.point place.0 moments (beginning_of y.index e) at).1

        last : (j k : ℕ) (f : Observation) → slice_get h.entries j ≡ Some f → f.thread ≡ x.lane →
            slice_get (take x.point moments) k ≡ Some (beginning_of j f) → (j ≡ y.index) ⊎ (j ≢ y.index) →
            k ≤ place.0
        last j k f at_f thread at_k (inl same) =
            let one = one_number h observed moments events of k place.0 (beginning_of y.index e)
            (subst (λ (o : Observation). slice_get moments k ≡ Some (beginning_of y.index o))
            (one_entry_at h observed moments events of j y.index f e at_f its.is_entry same)
            (subst (λ (i : ℕ). slice_get moments k ≡ Some (beginning_of i f)) same
            (in_take x.point k moments (beginning_of j f) at_k).1)) there in
            omega (arith, one)
        last j k f at_f thread at_k (inr differ) = by (apart h observed moments events of j y.index f e at_f
            its.is_entry (thread ∙ sym (its.thread ∙ taken.lane)) differ)
          where
            now : (k < x.point) × (slice_get moments k ≡ Some (beginning_of j f))
            now = in_take x.point k moments (beginning_of j f) at_k

            by : IsBefore f e ⊎ IsBefore e f → k ≤ place.0
            by (inl before) =
                let back = before_returned f e before in
                let q = returned h observed moments events of j f back.0 at_f back.1.0 in
                omega (
                  arith,
                  begins_first h observed moments events of j k q.0 f back.0 at_f back.1.0 now.1 q.1,
                  before_numbered h observed moments events of j y.index place.0 q.0 e back.0 q.1 there back.1.1,
                )
            by (inr before) =
                let back = before_returned e f before in
                let q = returned h observed moments events of y.index e back.0 its.is_entry back.1.0 in
                let less = before_numbered h observed moments events of y.index j k q.0 f back.0 q.1 now.1 back.1.1 in
                absurd (taken.still_open back.0 (contains_at (take x.point moments) q.0 (return_of y.index back.0)
                (take_has x.point q.0 moments (return_of y.index back.0) (omega (arith, less, now.0)) q.1)))

    indices_are : (order : List Taken) (effects : List Effect) (indices : List ℕ) →
        All (IsEffectOf g.entries) effects → AllZip (IsTakenAt moments) order effects →
        AreLastAt h.entries moments (map effect_at order) indices → indices ≡ indices_of effects
    indices_are [] [] [] all taken last = refl
    indices_are [] [] (i ∷ indices) all taken last = absurd last
    indices_are [] (y ∷ effects) indices all taken last = absurd taken
    indices_are (x ∷ order) [] indices all taken last = absurd taken
    indices_are (x ∷ order) (y ∷ effects) [] all taken last = absurd last
    indices_are (x ∷ order) (y ∷ effects) (i ∷ indices) all taken last =
        let first : i ≡ y.index = last.0 y.index
        (taken_last x y (All-head (IsEffectOf g.entries) y effects all) taken.0) in
        let rest : indices ≡ indices_of effects = indices_are order effects indices
        (All-tail (IsEffectOf g.entries) y effects all) taken.1 last.1 in
        λ j. first j ∷ rest j

    pub entries_are : (effects : List EffectAt) (indices : List ℕ) → AreLastAt h.entries moments effects indices →
        AreEntriesOf g moments effects indices
    entries_are effects indices last order same explains = record {
      order = explains.effects;
      by = explains.by;
      are = sym (indices_are order explains.effects indices explains.by.effects explains.taken
          (subst (λ (xs : List EffectAt). AreLastAt h.entries moments xs indices) (sym same) last));
    }

-- the effects of an order that explains the history stand along its moments
lane_within : (h : ObservedHistory) → IsObserved h → (i : ℕ) (e : Observation) → BeginsSo h.entries i e →
    e.thread < 64
lane_within h observed i e begins = subst (λ (lane : ℕ). lane < 64) begins.thread
    (subst (λ (o : Observation). o.thread < 64)
    (get_or_from_slice_get h.entries i begins.entry begins.entry begins.is_entry)
    (observed.threads i begins.entry (slice_get_within h.entries i begins.entry begins.is_entry)))

lanes_within : (h : ObservedHistory) → IsObserved h → (g : ObservedHistory) → EachBeginsSo g h →
    (moments : List Moment) (order : List Taken) (effects : List Effect) → All (IsEffectOf g.entries) effects →
    AllZip (IsTakenAt moments) order effects → All (λ (x : EffectAt). x.lane < 64) (map effect_at order)
lanes_within h observed g begins_so moments [] effects all taken = All-nil (λ (x : EffectAt). x.lane < 64)
lanes_within h observed g begins_so moments (x ∷ order) [] all taken = absurd taken
lanes_within h observed g begins_so moments (x ∷ order) (y ∷ effects) all taken =
    let is = All-head (IsEffectOf g.entries) y effects all in
    All-cons (λ (z : EffectAt). z.lane < 64) (effect_at x) (map effect_at order)
    (subst (λ (lane : ℕ). lane < 64) taken.0.lane
    (lane_within h observed y.index y.entry (begins_so y.index y.entry is.is_entry)))
    (lanes_within h observed g begins_so moments order effects (All-tail (IsEffectOf g.entries) y effects all) taken.1)

pub along : {S : Type 0} {O : Object S} {run : List Event} {s t : S} {a b : Lanes} (h : ObservedHistory) →
    IsObserved h → (moments : List Moment) (g : ObservedHistory) → EachBeginsSo g h → (order : List Taken)
    (effects : List EffectAt) → map effect_at order ≡ effects → LeadsBy O 0 order run s a t b →
    length run ≤ length moments → ExplainsAt g moments order → AreAlong (length moments) effects
along {run = run} h observed moments g begins_so order effects same way long explains =
    subst (AreAlong (length moments)) same (record {
      lanes = lanes_within h observed g begins_so moments order explains.effects explains.by.effects explains.taken;
      within = All-map (λ (x : EffectAt). x.point ≤ length moments) effect_at order
          (All-weaker (IsWithin (0 + length run)) (IsWithin (length moments)) (λ x low. omega (arith, low, long)) order
          (points_within way));
      rising = pairs_map (λ (x y : Taken). x.point ≤ y.point) (λ (x y : EffectAt). x.point ≤ y.point)
          (λ (x : Taken). 0 ≤ x.point) effect_at order (λ x y from too le. le) (points_rise way).0 (points_rise way).1;
    })

-- the moments up to a point, and on to another
pub further : {X : Type 0} (xs : List X) (seen point : ℕ) → seen ≤ point → seen ≤ length xs →
    take seen xs ++ take (point - seen) (drop seen xs) ≡ take point xs
further {X} xs seen point low within =
    sym (take-append-add (take seen xs) (drop seen xs) (point - seen)) ∙
    ap (λ (ys : List X). take (length (take seen xs) + (point - seen)) ys) (take-append-drop seen xs) ∙
    ap (λ (n : ℕ). take n xs) (let long = length-take-le seen xs within in omega (arith, low, long))

pub among : {X : Type 0} (P : X → Type 0) (xs : List X) (from n : ℕ) → All P xs → All P (take n (drop from xs))
among P xs from n each = All-take P n (drop from xs) (All-drop P from xs each)
