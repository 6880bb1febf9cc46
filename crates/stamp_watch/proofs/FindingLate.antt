-- What a judge's verdict tells of a run in which calls begin later.
use Rattle.std.proofs.Common.{◌-◌, ◌≡◌, ◌≢◌, ◌⊎◌, ◌+◌, ◌<◌, ◌≤◌, ℕ, List, [], ◌∷◌, ◌++◌, length, Option, Some, None}
use Rattle.std.proofs.Common.{refl}
use Rattle.std.proofs.Common.{sym, ◌∙◌, ap, subst, inl, inr, arith, append_assoc, append-nil}
use Rattle.std.specs.Prelude.{take, drop}
use Rattle.std.proofs.lemmas.Bool.{cases_lt}
use Rattle.std.proofs.lemmas.List.{length-append, length_push, take-append-le, take-take, take_all}
use Rattle.std.proofs.Math.Seq.{take-append_seam, take-length}
use Rattle.stamp_core.specs.Limits.{Bounds}
use Rattle.stamp_runs.specs.declared.event.Event.{Event}
use Rattle.stamp_runs.specs.declared.event.Event.TheVariants.{Withdraws}
use Rattle.stamp_runs.specs.BothRun.{AreExplained}
use Rattle.stamp_watch.specs.Course.{IsRest}
use Rattle.stamp_watch.specs.declared.late_verdict.LateVerdict.{LateVerdict}
use Rattle.stamp_watch.specs.declared.late_verdict.LateVerdict.TheVariants as finding
use Rattle.stamp_watch.specs.declared.verdict.Verdict.{Verdict}
use Rattle.stamp_watch.specs.declared.verdict.Verdict.TheVariants as verdict
use Rattle.stamp_watch.specs.declared.verdict.Why.TheVariants as cause
use Rattle.stamp_watch.specs.Delay.{AreLate, IsFirstIfAny, IsHandedOn, IsShown, IsShownIfAny}
use Rattle.stamp_watch.specs.Judging.{IsFound}
use Rattle.stamp_watch.specs.Late.{BeginsLater, HasGivenUp, IsLate, IsLateFound, IsLateInForm, LongCallsBeginLater}
use Rattle.stamp_watch.specs.Late.{OneIsUnshown, RestsOn, TellsOf}
use Rattle.stamp_watch.specs.Verdict.{AreOfLanes, AreTooMany, IsOpenFor, IsVerdict}
use Rattle.stamp_watch.specs.inner.Delay.{IsFindingOf, IsLateRest, IsSettled, IsSettledFor, RestsBefore}
use Rattle.stamp_watch.proofs.BeginningLater.{later_as_long, later_explains_no_more, later_of_lanes}
use Rattle.stamp_watch.proofs.Forming.{GoesOnFor, goes_on_for, next_of_lane, of_lanes_up_to, stops_here}
use Rattle.stamp_watch.proofs.LongCalls.{later_of_long, longs_still, open_still}
use Rattle.stamp_watch.proofs.Running.{found_now, rest_now}
use Rattle.stamp_watch.proofs.Showing.{settled_cut}
use Rattle.stamp_watch.proofs.Unshown.{one_unshown}

-- an event that comes in no run
abbrev stray : Event
stray = Withdraws 64

no_stray : (run : List Event) → AreOfLanes (run ++ stray ∷ []) → ⊥
no_stray run whole = let low : 64 < 64 = next_of_lane run stray [] whole in omega (arith, low)

stray_whole : (run : List Event) (k : ℕ) → length run < k → take k (run ++ stray ∷ []) ≡ run ++ stray ∷ []
stray_whole run k more = take_all k (run ++ stray ∷ [])
    (let long : length (run ++ stray ∷ []) ≡ length run + 1 = length_push run stray in omega (arith, long, more))

cut_within : (run : List Event) (k : ℕ) → AreOfLanes (take k (run ++ stray ∷ [])) → k ≤ length run
cut_within run k whole = by (cases_lt (length run) k)
  where
    by : (length run < k) ⊎ (k ≤ length run) → k ≤ length run
    by (inl more) = absurd (no_stray run (subst AreOfLanes (stray_whole run k more) whole))
    by (inr within) = within

-- a place in a run up to which it is explained
record IsPlace (limits : Bounds) (run : List Event) (k : ℕ) : Type 0 where
  within : k < length run
  explained : AreExplained limits (take k run)

place_at : (limits : Bounds) (run : List Event) (j k : ℕ) → j ≡ k → j < length run →
    AreExplained limits (take j (run ++ stray ∷ [])) → IsPlace limits run k
place_at limits run j k same within explained = subst (IsPlace limits run) same (record {
  within = within;
  explained = subst (AreExplained limits) (take-append-le j run (stray ∷ []) (omega (arith, within))) explained;
})

-- what holds whatever comes, and rests on what comes from an event on, tells of a place in the run
place_of : (limits : Bounds) (run : List Event) (most n k : ℕ) (v : Verdict) →
    IsVerdict limits (run ++ stray ∷ []) most None v → TellsOf v k → RestsOn v n → IsPlace limits run k
place_of limits run most n k verdict.Explained has tells rests = absurd tells
place_of limits run most n k (verdict.Stuck j) has tells rests = place_at limits run j k tells
    (let within : j + 1 ≤ length run = cut_within run (j + 1) has.0 in omega (arith, within)) has.1.explained
place_of limits run most n k (verdict.StuckWithin j m) has tells rests = place_at limits run j k tells
    (let within : m ≤ length run = cut_within run m has.whole in
    let less : j < has.cut = has.after in
    let before : has.cut < m = has.within in omega (arith, within, less, before)) has.explained
place_of limits run most n k (verdict.Undecided j cause.TooMany) has tells rests = place_at limits run j k tells
    (let within : j + 1 ≤ length run = cut_within run (j + 1) has.0.whole in omega (arith, within)) has.1
place_of limits run most n k (verdict.Undecided j cause.TooFar) has tells rests = place_at limits run j k tells
    (let within : j + 1 ≤ length run = cut_within run (j + 1) has.0.whole in omega (arith, within)) has.1
place_of limits run most n k (verdict.Broken j) has tells rests = absurd rests

-- events in form are not broken
not_broken : (limits : Bounds) (events : List Event) (most k : ℕ) → AreOfLanes events →
    ¬ IsVerdict limits events most None (verdict.Broken k)
not_broken limits events most k whole has = has.0.broken (of_lanes_up_to (k + 1) events whole)

-- a verdict that rests on what came before a place is that of each run that is the same up to there
module _ (limits : Bounds) (run handed : List Event) (most first : ℕ) (whole : AreOfLanes handed)
    (within : first ≤ length run) (same : take first handed ≡ take first run) where
  cut_same : (n : ℕ) (more : List Event) → n ≤ first → take n handed ≡ take n (run ++ more)
  cut_same n more less = sym (take-take n first handed less) ∙ ap (take n) same ∙ take-take n first run less ∙
      sym (take-append-le n run more (omega (arith, less, within)))

  rests_before : (v : Verdict) → v ≢ verdict.Explained → RestsBefore v first →
      IsVerdict limits handed most None v → IsFound limits run most None v
  rests_before verdict.Explained not rests has more = absurd (not refl)
  rests_before (verdict.Stuck k) not rests has more = (
    subst AreOfLanes (cut_same (k + 1) more (omega (arith, rests))) has.0,
    record {
      explained = subst (AreExplained limits) (cut_same k more (omega (arith, rests))) has.1.explained;
      stuck = λ way. has.1.stuck
          (subst (AreExplained limits) (sym (cut_same (k + 1) more (omega (arith, rests)))) way);
    },
  )
  rests_before (verdict.StuckWithin k m) not rests has more = record {
    there = let long : length (run ++ more) ≡ length run + length more = length-append run more in
        omega (arith, rests, within, long);
    whole = subst AreOfLanes (cut_same m more rests) has.whole;
    explained = subst (AreExplained limits) (cut_same k more (omega (arith, rests, after, inside))) has.explained;
    stuck = λ way. has.stuck (subst (AreExplained limits) (sym (cut_same m more rests)) way);
    cut = has.cut;
    after = has.after;
    within = has.within;
    half = has.half;
    place = has.place;
    before = has.before;
    too_many = subst (λ (xs : List Event). AreTooMany limits has.place xs (drop has.place (take has.cut (run ++ more)))
        most) (cut_same has.place more (omega (arith, rests, inside, before)))
        (subst (λ (xs : List Event). AreTooMany limits has.place (take has.place handed) (drop has.place xs) most)
        (cut_same has.cut more (omega (arith, rests, inside))) has.too_many);
  }
    where
      after : k < has.cut
      after = has.after

      inside : has.cut < m
      inside = has.within

      before : has.place < has.cut
      before = has.before
  rests_before (verdict.Undecided k why) not rests has more = absurd rests
  rests_before (verdict.Broken k) not rests has more = absurd (not_broken limits handed most k whole has)

-- the judge was not given the run as it stands, of which so much more is in form
late_with : (limits : Bounds) (run more handed : List Event) (most ahead first k : ℕ) (v : Verdict)
    (on : GoesOnFor run more) → LongCallsBeginLater (run ++ on.part) (ahead - 64) (run ++ on.part) handed →
    IsVerdict limits handed most None v → IsPlace limits run k → TellsOf v k → RestsOn v first →
    IsOpenFor run first (ahead - 64) → first < length run →
    HasGivenUp v ⊎ OneIsUnshown limits (run ++ on.part) (ahead - 64) (k + 1) → IsLate limits (run ++ more) most ahead k
late_with limits run more handed most ahead first k v on later has place tells rests opened less why = record {
  place = on.place;
  up_to = on.form;
  is = subst (λ (xs : List Event). IsLateInForm limits xs most ahead k) (sym on.front) (record {
    there = let long : length (run ++ on.part) ≡ length run + length on.part = length-append run on.part in
        omega (arith, within, long);
    explained = subst (AreExplained limits) (sym (take-append-le k run on.part (omega (arith, within))))
        place.explained;
    late = first;
    open_for = open_still run on.part first (ahead - 64) less opened;
    handed = handed;
    later = later;
    verdict = v;
    has = has;
    tells = tells;
    rests = rests;
    why = why;
  });
}
  where
    within : k < length run
    within = place.within

module _ (limits : Bounds) (most ahead : ℕ) (run given aside waiting : List Event) (first : Option ℕ) (passed : ℕ)
    (whole : AreOfLanes run) (is : IsHandedOn (ahead - 64) run given aside waiting first passed) (shown : Option ℕ)
    (shows : IsShownIfAny limits run given aside waiting shown)
    (late : AreLate limits run aside waiting (ahead - 64) shown) where
  longs_here : LongCallsBeginLater run (ahead - 64) run (given ++ (aside ++ waiting))
  longs_here = subst (λ (xs : List Event). LongCallsBeginLater run (ahead - 64) xs (given ++ (aside ++ waiting)))
      (sym is.run_is) (is.later waiting)

  -- more events may come behind those that wait
  longs_on : (more : List Event) → LongCallsBeginLater (run ++ more) (ahead - 64) (run ++ more)
      (given ++ (aside ++ (waiting ++ more)))
  longs_on more = subst
      (λ (xs : List Event). LongCallsBeginLater (run ++ more) (ahead - 64) xs (given ++ (aside ++ (waiting ++ more))))
      (sym (append_assoc is.past waiting more) ∙ ap (λ (xs : List Event). xs ++ more) (sym is.run_is))
      (longs_still run more (ahead - 64) (is.past ++ (waiting ++ more)) (given ++ (aside ++ (waiting ++ more)))
      (is.later (waiting ++ more)))

  -- or none
  longs_end : LongCallsBeginLater (run ++ []) (ahead - 64) (run ++ []) (given ++ (aside ++ waiting))
  longs_end = subst (λ (xs : List Event). LongCallsBeginLater xs (ahead - 64) xs (given ++ (aside ++ waiting)))
      (sym (append-nil run)) longs_here

  later_here : BeginsLater run (given ++ (aside ++ waiting))
  later_here = later_of_long run (ahead - 64) run (given ++ (aside ++ waiting)) longs_here

  long_here : length (given ++ (aside ++ waiting)) ≡ length run
  long_here = later_as_long run (given ++ (aside ++ waiting)) later_here

  of_lanes_here : AreOfLanes (given ++ (aside ++ waiting))
  of_lanes_here = later_of_lanes limits run (given ++ (aside ++ waiting)) later_here whole

  of_lanes_given : AreOfLanes given
  of_lanes_given = subst AreOfLanes (take-append_seam given (aside ++ waiting))
      (of_lanes_up_to (length given) (given ++ (aside ++ waiting)) of_lanes_here)

  place_here : (k : ℕ) → IsPlace limits (given ++ (aside ++ waiting)) k → IsPlace limits run k
  place_here k place = record {
    within = let within : k < length (given ++ (aside ++ waiting)) = place.within in
        let long : length (given ++ (aside ++ waiting)) ≡ length run = long_here in omega (arith, within, long);
    explained = later_explains_no_more limits run (given ++ (aside ++ waiting)) k whole.form later_here
        place.explained;
  }

  place_given : (k : ℕ) → IsPlace limits given k → IsPlace limits (given ++ (aside ++ waiting)) k
  place_given k place = record {
    within = let long : length (given ++ (aside ++ waiting)) ≡ length given + length (aside ++ waiting) =
        length-append given (aside ++ waiting) in omega (arith, within, long);
    explained = subst (AreExplained limits) (sym (take-append-le k given (aside ++ waiting) (omega (arith, within))))
        place.explained;
  }
    where
      within : k < length given
      within = place.within

  as_it_stands : (aside ≡ []) × (given ≡ is.past) → given ++ (aside ++ waiting) ≡ run
  as_it_stands none = ap (λ (xs : List Event). given ++ (xs ++ waiting)) none.0 ∙
      ap (λ (xs : List Event). xs ++ waiting) none.1 ∙ sym is.run_is

  none_aside : aside ≡ [] → given ++ (aside ++ waiting) ≡ given ++ waiting
  none_aside none = ap (λ (xs : List Event). given ++ (xs ++ waiting)) none

  -- why it is told that calls are late
  why_late : (v : Verdict) (n k : ℕ) → TellsOf v k → RestsOn v n → ¬ IsSettledFor aside shown v → k < length run →
      (more : List Event) → HasGivenUp v ⊎ OneIsUnshown limits (run ++ more) (ahead - 64) (k + 1)
  why_late verdict.Explained n k tells rests not within more = absurd tells
  why_late (verdict.Stuck j) n k tells rests not within more = inr (one_unshown limits run more (ahead - 64) k aside
      waiting shown late (subst (λ (i : ℕ). ¬ IsSettled aside shown i) tells not) (omega (arith, within)))
  why_late (verdict.Broken j) n k tells rests not within more = absurd rests
  why_late _ n k tells rests not within more = inl tt

  -- the run is stuck where it is with calls begun late, if it is shown by then that nothing is lost by those
  settled : (o : Option ℕ) → IsShownIfAny limits run given aside waiting o → (k : ℕ) → IsSettled aside o k →
      k + 1 ≤ length run → AreExplained limits (take k run) → ¬ AreExplained limits (take (k + 1) (given ++ waiting)) →
      IsFound limits run most None (verdict.Stuck k)
  settled None any k none within explained stuck more = absurd none
  settled (Some many) any k is within explained stuck more = (
    subst AreOfLanes (sym (take-append-le (k + 1) run more within)) (of_lanes_up_to (k + 1) run whole),
    record {
      explained = subst (AreExplained limits) (sym (take-append-le k run more (omega (arith, within)))) explained;
      stuck = λ way. stuck (settled_cut limits run given waiting many
          (subst (λ (xs : List Event). IsShown limits run given xs waiting many) is.0 any) (k + 1) is.1 within
          (subst (AreExplained limits) (take-append-le (k + 1) run more within) way));
    },
  )

  settled_in : (k : ℕ) → IsSettled aside shown k → aside ≡ []
  settled_in k is = by shown is
    where
      by : (o : Option ℕ) → IsSettled aside o k → aside ≡ []
      by None none = absurd none
      by (Some many) both = both.0

  -- what is found of the events that were given
  module _ (v : Verdict) (found : IsFound limits given most None v) where
    not_explained : v ≢ verdict.Explained
    not_explained same = no_stray given
        (subst (λ (w : Verdict). IsVerdict limits (given ++ stray ∷ []) most None w) same
        (found (stray ∷ []))).0

    settled_found : (w : Verdict) → IsFound limits given most None w → IsSettledFor aside shown w →
        IsLateFound limits run most ahead (finding.Is w)
    settled_found (verdict.Stuck k) has is = settled shown shows k is
        (let within : k + 1 ≤ length given = cut_within given (k + 1) (has (stray ∷ [])).0 in
        let long : length (given ++ (aside ++ waiting)) ≡ length given + length (aside ++ waiting) =
        length-append given (aside ++ waiting) in
        let same : length (given ++ (aside ++ waiting)) ≡ length run = long_here in omega (arith, within, long, same))
        (place_here k (place_given k (place_of limits given most 0 k (verdict.Stuck k) (has (stray ∷ [])) refl
        (omega arith)))).explained
        (has waiting).1.stuck
    settled_found _ has none = absurd none

    pub found_by : (f : LateVerdict) → IsFindingOf aside shown first v f → IsLateFound limits run most ahead f
    found_by f by_it = by first is.first_is f by_it
      where
        by : (n : Option ℕ) → IsFirstIfAny (ahead - 64) run is.past given aside n → (g : LateVerdict) → IsFindingOf
            aside shown n v g →
            IsLateFound limits run most ahead g
        by None none g same = subst (IsLateFound limits run most ahead) (sym same)
            (λ more. subst (λ (xs : List Event). IsVerdict limits xs most None v)
            (sym (append_assoc given (aside ++ waiting) more) ∙
            ap (λ (xs : List Event). xs ++ more) (as_it_stands none)) (found ((aside ++ waiting) ++ more)))
        by (Some n) some (finding.Is w) both = subst (λ (u : Verdict). IsLateFound limits run most ahead
            (finding.Is u))
            (sym both.0) (either both.1)
          where
            either : RestsBefore v n ⊎ IsSettledFor aside shown v → IsLateFound limits run most ahead (finding.Is v)
            either (inl rests) = rests_before limits run given most n of_lanes_given
                (let less : n < length run = some.before in omega (arith, less)) some.same v not_explained rests
                (found_now limits given most None v found)
            either (inr is_settled) = settled_found v found is_settled
        by (Some n) some (finding.Late k) both = λ more. let on = goes_on_for run more whole in
            late_with limits run more (given ++ (aside ++ (waiting ++ on.part))) most ahead n k v on (longs_on on.part)
            (found (aside ++ (waiting ++ on.part))) place both.0 both.1 some.open_for some.before
            (why_late v n k both.0 both.1 both.2 place.within on.part)
          where
            place : IsPlace limits run k
            place = place_here k (place_given k (place_of limits given most n k v (found (stray ∷ [])) both.0 both.1))

  -- what is found where all was given
  module _ (v : Verdict) (rest : IsRest limits (given ++ (aside ++ waiting)) most None v) where
    has_rest : IsVerdict limits (given ++ (aside ++ waiting)) most None v
    has_rest = rest_now limits (given ++ (aside ++ waiting)) most None v rest

    explained_here : AreExplained limits (given ++ (aside ++ waiting)) → AreExplained limits run
    explained_here way = subst (AreExplained limits) (take-length run)
        (later_explains_no_more limits run (given ++ (aside ++ waiting)) (length run) whole.form later_here
        (subst (AreExplained limits) (sym (take_all (length run) (given ++ (aside ++ waiting))
        (let long : length (given ++ (aside ++ waiting)) ≡ length run = long_here in omega (arith, long)))) way))

    same_here : (n : ℕ) → n ≤ length given → take n given ≡ take n run →
        take n (given ++ (aside ++ waiting)) ≡ take n run
    same_here n less same = take-append-le n given (aside ++ waiting) less ∙ same

    rest_before : (n : ℕ) → n ≤ length run → n ≤ length given → take n given ≡ take n run → (w : Verdict) →
        IsVerdict limits (given ++ (aside ++ waiting)) most None w → RestsBefore w n →
        IsRest limits run most None w
    rest_before n less within same verdict.Explained has rests = (whole, explained_here has.1)
    rest_before n less within same (verdict.Undecided k why) has rests = absurd rests
    rest_before n less within same (verdict.Broken k) has rests =
        absurd (not_broken limits (given ++ (aside ++ waiting)) most k of_lanes_here has)
    rest_before n less within same which has rests = rests_before limits run (given ++ (aside ++ waiting)) most n
        of_lanes_here less (same_here n within same) which (λ e. cc) rests has

    settled_rest : (w : Verdict) → IsRest limits (given ++ (aside ++ waiting)) most None w →
        IsSettledFor aside shown w → IsRest limits run most None w
    settled_rest (verdict.Stuck k) ends is = settled shown shows k is
        (let within : k + 1 ≤ length (given ++ (aside ++ waiting)) = cut_within (given ++ (aside ++ waiting)) (k + 1)
        (ends (stray ∷ [])).0 in
        let same : length (given ++ (aside ++ waiting)) ≡ length run = long_here in omega (arith, within, same))
        (place_here k (place_of limits (given ++ (aside ++ waiting)) most 0 k (verdict.Stuck k) (ends (stray ∷ []))
        refl (omega arith))).explained
        (λ way. (ends []).1.stuck (subst (λ (xs : List Event). AreExplained limits (take (k + 1) xs))
        (sym (none_aside (settled_in k is)) ∙ sym (append-nil (given ++ (aside ++ waiting)))) way))
    settled_rest _ ends none = absurd none

    pub rest_by : (f : LateVerdict) → IsFindingOf aside shown first v f → IsLateRest limits run most ahead f
    rest_by f by_it = by first is.first_is f by_it
      where
        by : (n : Option ℕ) → IsFirstIfAny (ahead - 64) run is.past given aside n → (g : LateVerdict) → IsFindingOf
            aside shown n v g →
            IsLateRest limits run most ahead g
        by None none g same = subst (IsLateRest limits run most ahead) (sym same)
            (subst (λ (xs : List Event). IsRest limits xs most None v) (as_it_stands none) rest)
        by (Some n) some (finding.Is w) both = subst (λ (u : Verdict). IsRest limits run most None u) (sym both.0)
            (either both.1)
          where
            either : RestsBefore v n ⊎ IsSettledFor aside shown v → IsRest limits run most None v
            either (inl rests) = rest_before n (let less : n < length run = some.before in omega (arith, less))
                some.given_more some.same v has_rest rests
            either (inr is_settled) = settled_rest v rest is_settled
        by (Some n) some (finding.Late k) both = λ later over. late_with limits run later
            (given ++ (aside ++ waiting)) most ahead n k v (stops_here run later whole over) longs_end has_rest place
            both.0 both.1 some.open_for some.before (why_late v n k both.0 both.1 both.2 place.within [])
          where
            with_stray : (w : Verdict) → TellsOf w k → IsRest limits (given ++ (aside ++ waiting)) most None w →
                IsVerdict limits ((given ++ (aside ++ waiting)) ++ stray ∷ []) most None w
            with_stray verdict.Explained tells ends = absurd tells
            with_stray (verdict.Stuck j) tells ends = ends (stray ∷ [])
            with_stray (verdict.StuckWithin j m) tells ends = ends (stray ∷ [])
            with_stray (verdict.Undecided j cause.TooMany) tells ends = ends (stray ∷ [])
                (λ less over. no_stray (given ++ (aside ++ waiting)) (subst AreOfLanes
                (stray_whole (given ++ (aside ++ waiting)) (length (given ++ (aside ++ waiting)) + 1) (omega arith))
                over))
            with_stray (verdict.Undecided j cause.TooFar) tells ends = ends (stray ∷ [])
            with_stray (verdict.Broken j) tells ends = ends (stray ∷ [])

            place : IsPlace limits run k
            place = place_here k (place_of limits (given ++ (aside ++ waiting)) most n k v (with_stray v both.0 rest)
                both.0 both.1)
