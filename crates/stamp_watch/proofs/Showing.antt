-- How it is shown that nothing is lost by calls that begin late.
use Rattle.std.proofs.Common.{◌≡◌, ◌≢◌, ◌+◌, ◌-◌, ◌<◌, ◌≤◌, ℕ, zero, suc, false, List, [], ◌∷◌, ◌++◌, length, get_or}
use Rattle.std.proofs.Common.{refl, sym, ◌∙◌, ap, subst, arith, append_assoc, append-nil}
use Rattle.std.specs.Prelude.{take, drop}
use Rattle.std.specs.List.{remove}
use Rattle.std.proofs.lemmas.List.{length_push, take-append-le, drop-append-le, take-append-drop, take_all}
use Rattle.std.proofs.lemmas.List.{drop-drop, length-take-le}
use Rattle.std.proofs.lemmas.List.Elements.{All-cons, All-head, All-nil, All-push, All-tail}
use Rattle.std.proofs.Math.Seq.{drop-append_seam, drop-length, take-append-add}
use Rattle.stamp_core.specs.Limits.{AreInRange, Bounds}
use Rattle.stamp_core.specs.declared.call.Call.{Call}
use Rattle.stamp_core.specs.declared.reply.Reply.TheVariants.{Stamp}
use Rattle.stamp_runs.specs.declared.event.Event.{Event}
use Rattle.stamp_runs.specs.declared.event.Event.TheVariants.{Begins, Returns}
use Rattle.stamp_runs.specs.Run.{EndsBy, lane_of}
use Rattle.stamp_runs.specs.Run.EndsBy.{ends_next}
use Rattle.stamp_runs.specs.BothRun.{AreExplained}
use Rattle.stamp_runs.specs.Own.{AreInForm, none_open}
use Rattle.stamp_watch.specs.Issued.{IssuesOf, LosesNothing, ReturnsOlder}
use Rattle.stamp_watch.specs.Ahead.{IsSpared}
use Rattle.stamp_watch.specs.Delay.{AreInPlace, IsShown}
use Rattle.stamp_watch.specs.Delay.AreInPlace.{none_is, was_given, is_aside}
use Rattle.stamp_watch.specs.Form.{is_busy_after}
use Rattle.stamp_watch.specs.Late.{BeginsLater}
use Rattle.stamp_watch.specs.Late.BeginsLater.{as_it_is, then_later}
use Rattle.stamp_watch.proofs.BeginningLater.{free_before, later_as_long, later_in_form}
use Rattle.stamp_watch.proofs.Ways.{never_among, ends_past}
use Rattle.stamp_watch.proofs.TellingVersions.{late_stamp_loses_nothing}

-- an event that is given stands behind all
pub in_place_given : (given aside events : List Event) (x : Event) → IsSpared aside (lane_of x) →
    AreInPlace given aside events → AreInPlace (given ++ x ∷ []) aside (events ++ x ∷ [])
in_place_given given aside events x spared none_is = was_given x none_is
in_place_given given aside events x spared (was_given {given = g} {events = es} e rest) =
    was_given e (in_place_given g aside es x spared rest)
in_place_given given aside events x spared (is_aside {aside = a} {events = es} e behind rest) = is_aside e
    (All-push (λ (d : Event). lane_of d ≢ lane_of e) es x behind
    (λ same. All-head (λ (d : Event). lane_of d ≢ lane_of x) e a spared (sym same)))
    (in_place_given given a es x (All-tail (λ (d : Event). lane_of d ≢ lane_of x) e a spared) rest)

-- and so does one that is put aside
pub in_place_aside : (given aside events : List Event) (x : Event) → IsSpared aside (lane_of x) →
    AreInPlace given aside events → AreInPlace given (aside ++ x ∷ []) (events ++ x ∷ [])
in_place_aside given aside events x spared none_is =
    is_aside x (All-nil (λ (d : Event). lane_of d ≢ lane_of x)) none_is
in_place_aside given aside events x spared (was_given {given = g} {events = es} e rest) =
    was_given e (in_place_aside g aside es x spared rest)
in_place_aside given aside events x spared (is_aside {aside = a} {events = es} e behind rest) = is_aside e
    (All-push (λ (d : Event). lane_of d ≢ lane_of e) es x behind
    (λ same. All-head (λ (d : Event). lane_of d ≢ lane_of x) e a spared (sym same)))
    (in_place_aside given a es x (All-tail (λ (d : Event). lane_of d ≢ lane_of x) e a spared) rest)

-- where none is aside, the events are those that were given
pub in_place_none : (given events : List Event) → AreInPlace given [] events → events ≡ given
in_place_none given events none_is = refl
in_place_none given events (was_given {given = g} {events = es} e rest) = ap (λ (xs : List Event). e ∷ xs)
    (in_place_none g es rest)

-- where an event stands that is aside
pub record StandsAside (given aside events : List Event) (place : ℕ) (b : Event) : Type 0 where
  pub before : List Event
  pub behind : List Event
  pub events_are : events ≡ before ++ b ∷ behind
  pub spared : IsSpared behind (lane_of b)
  pub others : AreInPlace given (remove aside place) (before ++ behind)

stands_behind : (given aside events g a es : List Event) (place : ℕ) (b e : Event) →
    given ≡ e ∷ g → events ≡ e ∷ es → StandsAside g aside es place b → StandsAside given aside events place b
stands_behind given aside events g a es place b e given_is events_are is = record {
  before = e ∷ is.before;
  behind = is.behind;
  events_are = events_are ∙ ap (λ (xs : List Event). e ∷ xs) is.events_are;
  spared = is.spared;
  others = subst (λ (xs : List Event). AreInPlace xs (remove aside place) (e ∷ (is.before ++ is.behind)))
      (sym given_is)
      (was_given e is.others);
}

-- a part of events that are spared is
fewer_spared : (before behind : List Event) (b : Event) (lane : ℕ) → IsSpared (before ++ b ∷ behind) lane →
    IsSpared (before ++ behind) lane
fewer_spared [] behind b lane spared = All-tail (λ (d : Event). lane_of d ≢ lane) b behind spared
fewer_spared (e ∷ before) behind b lane spared = All-cons (λ (d : Event). lane_of d ≢ lane) e (before ++ behind)
    (All-head (λ (d : Event). lane_of d ≢ lane) e (before ++ b ∷ behind) spared)
    (fewer_spared before behind b lane (All-tail (λ (d : Event). lane_of d ≢ lane) e (before ++ b ∷ behind) spared))

pub stands_aside : (given aside events : List Event) (place : ℕ) (b : Event) → place < length aside →
    b ≡ get_or aside place b → AreInPlace given aside events → StandsAside given aside events place b
stands_aside given aside events place b less read none_is = absurd (omega (arith, less))
stands_aside given aside events place b less read (was_given {given = g} {events = es} e rest) =
    stands_behind given aside events g aside es place b e refl refl (stands_aside g aside es place b less read rest)
stands_aside given aside events zero b less read (is_aside {aside = a} {events = es} e behind rest) = record {
  before = [];
  behind = es;
  events_are = ap (λ (d : Event). d ∷ es) (sym read);
  spared = subst (IsSpared es) (ap lane_of (sym read)) behind;
  others = rest;
}
stands_aside given aside events (suc place) b less read (is_aside {aside = a} {events = es} e behind rest) =
    by (stands_aside given a es place b (omega (arith, less)) read rest)
  where
    by : StandsAside given a es place b → StandsAside given (e ∷ a) (e ∷ es) (suc place) b
    by is = record {
      before = e ∷ is.before;
      behind = is.behind;
      events_are = ap (λ (xs : List Event). e ∷ xs) is.events_are;
      spared = is.spared;
      others = is_aside e (fewer_spared is.before is.behind b (lane_of e) (subst (λ (xs : List Event).
          IsSpared xs (lane_of e)) is.events_are behind)) is.others;
    }

-- a call begins behind events of other lanes
pub moves_behind : (run past between rest : List Event) (lane : ℕ) (call : Call) → IsSpared between lane →
    BeginsLater run (past ++ (Begins lane call ∷ (between ++ rest))) →
    BeginsLater run (past ++ (between ++ Begins lane call ∷ rest))
moves_behind run past [] rest lane call spared later = later
moves_behind run past (e ∷ between) rest lane call spared later =
    subst (BeginsLater run) (append_assoc past (e ∷ []) (between ++ Begins lane call ∷ rest))
    (moves_behind run (past ++ e ∷ []) between rest lane call
    (All-tail (λ (d : Event). lane_of d ≢ lane) e between spared)
    (subst (BeginsLater run) (sym (append_assoc past (e ∷ []) (Begins lane call ∷ (between ++ rest))))
    (then_later later (record {
      past = past;
      lane = lane;
      call = call;
      next = e;
      rest = between ++ rest;
      apart = All-head (λ (d : Event). lane_of d ≢ lane) e between spared;
      old_is = refl;
      new_is = refl;
    }))))

-- before any event
pub shown_first : (limits : Bounds) → IsShown limits [] [] [] [] 0
shown_first limits = record {
  within = omega arith;
  moved = [];
  as_many = refl;
  same_end = refl;
  passed = [];
  parts = refl;
  in_place = none_is;
  later = λ more. as_it_is;
  nothing_lost = λ more way. way;
}

module _ (limits : Bounds) (run given aside waiting : List Event) (many : ℕ)
    (is : IsShown limits run given aside waiting many) where
  -- one more event waits
  pub shown_waits : (e : Event) → IsShown limits (run ++ e ∷ []) given aside (waiting ++ e ∷ []) many
  shown_waits e = record {
    within = let long : length (run ++ e ∷ []) ≡ length run + 1 = length_push run e in
        let within : many ≤ length run = is.within in omega (arith, long, within);
    moved = is.moved;
    as_many = is.as_many;
    same_end = is.same_end ∙ ap (drop (many - 1)) (sym (take-append-le many run (e ∷ []) is.within));
    passed = is.passed;
    parts = sym (append_assoc is.passed waiting (e ∷ [])) ∙ ap (λ (xs : List Event). xs ++ e ∷ []) is.parts ∙
        append_assoc is.moved (drop many run) (e ∷ []) ∙
        ap (λ (xs : List Event). is.moved ++ xs) (sym (drop-append-le many run (e ∷ []) is.within));
    in_place = is.in_place;
    later = λ more. subst (λ (xs : List Event). BeginsLater xs (is.passed ++ ((waiting ++ e ∷ []) ++ more)))
        (sym (append_assoc run (e ∷ []) more)) (subst (λ (xs : List Event). BeginsLater (run ++ e ∷ more)
        (is.passed ++ xs)) (sym (append_assoc waiting (e ∷ []) more)) (is.later (e ∷ more)));
    nothing_lost = λ more way. is.nothing_lost more (subst (λ (xs : List Event). AreExplained limits (xs ++ more))
        (take-append-le many run (e ∷ []) is.within) way);
  }

  -- what waits and is passed on, whether it is given or put aside
  module _ (x : Event) (rest : List Event) (first : waiting ≡ x ∷ rest) where
    passes : (given' aside' : List Event) → AreInPlace given' aside' (is.passed ++ x ∷ []) →
        IsShown limits run given' aside' rest many
    passes given' aside' in_place = record {
      within = is.within;
      moved = is.moved;
      as_many = is.as_many;
      same_end = is.same_end;
      passed = is.passed ++ x ∷ [];
      parts = append_assoc is.passed (x ∷ []) rest ∙ ap (λ (xs : List Event). is.passed ++ xs) (sym first) ∙ is.parts;
      in_place = in_place;
      later = λ more. subst (BeginsLater (run ++ more)) (ap (λ (xs : List Event). is.passed ++ (xs ++ more)) first ∙
          sym (append_assoc is.passed (x ∷ []) (rest ++ more))) (is.later more);
      nothing_lost = is.nothing_lost;
    }

    pub shown_passes : IsSpared aside (lane_of x) → IsShown limits run (given ++ x ∷ []) aside rest many
    shown_passes spared = passes (given ++ x ∷ []) aside
        (in_place_given given aside is.passed x spared is.in_place)

    pub shown_aside : IsSpared aside (lane_of x) → IsShown limits run given (aside ++ x ∷ []) rest many
    shown_aside spared = passes given (aside ++ x ∷ [])
        (in_place_aside given aside is.passed x spared is.in_place)

  -- a call begins late, whose end comes in, and events that wait show that nothing is lost
  module _ (place : ℕ) (b e : Event) (less : place < length aside) (read : b ≡ get_or aside place b)
      (others : IsSpared (remove aside place) (lane_of b)) (unended : IsSpared waiting (lane_of b))
      (range : AreInRange limits) (form : AreInForm (run ++ e ∷ [])) (loses : LosesNothing limits b e waiting) where
    there : StandsAside given aside is.passed place b
    there = stands_aside given aside is.passed place b less read is.in_place

    issued : IssuesOf limits loses.version b e
    issued = loses.issues

    -- the events with the call in its place, and behind
    in_its_place : (more : List Event) → is.passed ++ (waiting ++ e ∷ more) ≡
        there.before ++ (Begins issued.lane issued.call ∷ (there.behind ++ (waiting ++ e ∷ more)))
    in_its_place more = ap (λ (xs : List Event). xs ++ (waiting ++ e ∷ more)) there.events_are ∙
        append_assoc there.before (b ∷ there.behind) (waiting ++ e ∷ more) ∙
        ap (λ (d : Event). there.before ++ (d ∷ (there.behind ++ (waiting ++ e ∷ more)))) issued.begins

    behind_all : (more : List Event) →
        there.before ++ (there.behind ++ Begins issued.lane issued.call ∷ (waiting ++ e ∷ more)) ≡
        ((there.before ++ there.behind) ++ b ∷ []) ++ ((waiting ++ e ∷ []) ++ more)
    behind_all more =
        ap (λ (d : Event). there.before ++ (there.behind ++ d ∷ (waiting ++ e ∷ more))) (sym issued.begins) ∙
        sym (append_assoc there.before there.behind (b ∷ (waiting ++ e ∷ more))) ∙
        sym (append_assoc (there.before ++ there.behind) (b ∷ []) (waiting ++ e ∷ more)) ∙
        ap (λ (xs : List Event). ((there.before ++ there.behind) ++ b ∷ []) ++ xs)
        (sym (append_assoc waiting (e ∷ []) more))

    lane_is : lane_of b ≡ issued.lane
    lane_is = ap lane_of issued.begins

    behind_spared : IsSpared there.behind issued.lane
    behind_spared = subst (IsSpared there.behind) lane_is there.spared

    free : is_busy_after there.before issued.lane ≡ false
    free = free_before none_open there.before issued.lane issued.call
        (there.behind ++ (waiting ++ e ∷ [])) (subst AreInForm (in_its_place [])
        (later_in_form limits (run ++ e ∷ []) (is.passed ++ (waiting ++ e ∷ [])) (is.later (e ∷ [])) form))

    explained_then : (more : List Event) → AreExplained limits (is.passed ++ (waiting ++ e ∷ more)) →
        AreExplained limits (((there.before ++ there.behind) ++ b ∷ []) ++ ((waiting ++ e ∷ []) ++ more))
    explained_then more way = subst (AreExplained limits) (behind_all more)
        (late_stamp_loses_nothing limits issued.lane issued.call issued.stamp loses.version there.before there.behind
        (waiting ++ e ∷ more) range issued.issues issued.is_of free
        (never_among issued.lane there.behind behind_spared)
        (subst (λ (d : Event). EndsBy issued.lane (Returns issued.lane (Stamp issued.stamp)) (waiting ++ d ∷ more))
        (sym issued.returns)
        (ends_past waiting (Returns issued.lane (Stamp issued.stamp) ∷ more)
        (never_among issued.lane waiting (subst (IsSpared waiting) lane_is unended)) ends_next))
        (older_with loses.older (e ∷ more)) (subst (AreExplained limits) (in_its_place more) way))
      where
        older_with : ReturnsOlder limits loses.version waiting → (more : List Event) →
            ReturnsOlder limits loses.version (waiting ++ more)
        older_with older more = record {
          before = older.before;
          begun = older.begun;
          behind = older.behind ++ more;
          events_are = ap (λ (xs : List Event). xs ++ more) older.events_are ∙
              append_assoc older.before (older.begun ∷ older.behind) more;
          one = record {
            between = older.one.between;
            end = older.one.end;
            rest = older.one.rest ++ more;
            of = older.one.of;
            behind_is = ap (λ (xs : List Event). xs ++ more) older.one.behind_is ∙
                append_assoc older.one.between (older.one.end ∷ older.one.rest) more;
            spared = older.one.spared;
            issues = older.one.issues;
            older = older.one.older;
          };
        }

    all_of : take (length run + 1) (run ++ e ∷ []) ≡ run ++ e ∷ []
    all_of = take_all (length run + 1) (run ++ e ∷ [])
        (let long : length (run ++ e ∷ []) ≡ length run + 1 = length_push run e in omega (arith, long))

    none_behind : drop (length run + 1) (run ++ e ∷ []) ≡ []
    none_behind = ap (λ (n : ℕ). drop n (run ++ e ∷ [])) (sym (length_push run e)) ∙ drop-length (run ++ e ∷ [])

    later_then : (more : List Event) → BeginsLater ((run ++ e ∷ []) ++ more)
        (((there.before ++ there.behind) ++ b ∷ []) ++ ((waiting ++ e ∷ []) ++ more))
    later_then more = subst (λ (xs : List Event). BeginsLater xs
        (((there.before ++ there.behind) ++ b ∷ []) ++ ((waiting ++ e ∷ []) ++ more)))
        (sym (append_assoc run (e ∷ []) more)) (subst (BeginsLater (run ++ e ∷ more)) (behind_all more)
        (moves_behind (run ++ e ∷ more) there.before there.behind (waiting ++ e ∷ more) issued.lane issued.call
        behind_spared (subst (BeginsLater (run ++ e ∷ more)) (in_its_place more) (is.later (e ∷ more)))))

    as_it_stands : (more : List Event) → AreExplained limits ((run ++ e ∷ []) ++ more) →
        AreExplained limits (is.passed ++ (waiting ++ e ∷ more))
    as_it_stands more way = subst (AreExplained limits)
        (sym (append_assoc is.moved (drop many run) (e ∷ more)) ∙
        ap (λ (xs : List Event). xs ++ e ∷ more) (sym is.parts) ∙ append_assoc is.passed waiting (e ∷ more))
        (is.nothing_lost (drop many run ++ e ∷ more) (subst (AreExplained limits)
        (append_assoc run (e ∷ []) more ∙ ap (λ (xs : List Event). xs ++ e ∷ more) (sym (take-append-drop many run)) ∙
        append_assoc (take many run) (drop many run) (e ∷ more)) way))

    as_long : length (((there.before ++ there.behind) ++ b ∷ []) ++ (waiting ++ e ∷ [])) ≡ length run + 1
    as_long = ap (λ (xs : List Event). length (((there.before ++ there.behind) ++ b ∷ []) ++ xs))
        (sym (append-nil (waiting ++ e ∷ []))) ∙ later_as_long ((run ++ e ∷ []) ++ [])
        (((there.before ++ there.behind) ++ b ∷ []) ++ ((waiting ++ e ∷ []) ++ [])) (later_then []) ∙
        ap (λ (xs : List Event). length xs) (append-nil (run ++ e ∷ [])) ∙ length_push run e

    last_moved : drop (length run) (((there.before ++ there.behind) ++ b ∷ []) ++ (waiting ++ e ∷ [])) ≡ e ∷ []
    last_moved = ap (drop (length run))
        (sym (append_assoc ((there.before ++ there.behind) ++ b ∷ []) waiting (e ∷ []))) ∙
        ap (λ (n : ℕ). drop n ((((there.before ++ there.behind) ++ b ∷ []) ++ waiting) ++ e ∷ [])) many_before ∙
        drop-append_seam (((there.before ++ there.behind) ++ b ∷ []) ++ waiting) (e ∷ [])
      where
        many_before : length run ≡ length (((there.before ++ there.behind) ++ b ∷ []) ++ waiting)
        many_before = let all : length (((there.before ++ there.behind) ++ b ∷ []) ++ (waiting ++ e ∷ [])) ≡
            length run + 1 = as_long in
            let parts : length ((((there.before ++ there.behind) ++ b ∷ []) ++ waiting) ++ e ∷ []) ≡
            length (((there.before ++ there.behind) ++ b ∷ []) ++ (waiting ++ e ∷ [])) =
            ap (λ (xs : List Event). length xs) (append_assoc ((there.before ++ there.behind) ++ b ∷ []) waiting
            (e ∷ [])) in
            let one : length ((((there.before ++ there.behind) ++ b ∷ []) ++ waiting) ++ e ∷ []) ≡
            length (((there.before ++ there.behind) ++ b ∷ []) ++ waiting) + 1 =
            length_push (((there.before ++ there.behind) ++ b ∷ []) ++ waiting) e in omega (arith, all, parts, one)

    pub shown_late : IsShown limits (run ++ e ∷ []) (given ++ b ∷ []) (remove aside place) (waiting ++ e ∷ [])
        (length run + 1)
    shown_late = record {
      within = let long : length (run ++ e ∷ []) ≡ length run + 1 = length_push run e in omega (arith, long);
      moved = ((there.before ++ there.behind) ++ b ∷ []) ++ (waiting ++ e ∷ []);
      as_many = as_long;
      same_end = ap (λ (n : ℕ). drop n (((there.before ++ there.behind) ++ b ∷ []) ++ (waiting ++ e ∷ [])))
          (omega arith) ∙ last_moved ∙ sym (drop-append_seam run (e ∷ [])) ∙ ap (drop (length run)) (sym all_of) ∙
          ap (λ (n : ℕ). drop n (take (length run + 1) (run ++ e ∷ []))) (omega arith);
      passed = (there.before ++ there.behind) ++ b ∷ [];
      parts = sym (append-nil (((there.before ++ there.behind) ++ b ∷ []) ++ (waiting ++ e ∷ []))) ∙
          ap (λ (xs : List Event). (((there.before ++ there.behind) ++ b ∷ []) ++ (waiting ++ e ∷ [])) ++ xs)
          (sym none_behind);
      in_place = in_place_given given (remove aside place) (there.before ++ there.behind) b others there.others;
      later = later_then;
      nothing_lost = λ more way. subst (AreExplained limits)
          (sym (append_assoc ((there.before ++ there.behind) ++ b ∷ []) (waiting ++ e ∷ []) more))
          (explained_then more (as_it_stands more (subst (λ (xs : List Event). AreExplained limits (xs ++ more)) all_of
          way)));
    }

-- where no call is aside, a run that is stuck with calls begun late is stuck as it stands
module _ (limits : Bounds) (run given waiting : List Event) (many : ℕ)
    (is : IsShown limits run given [] waiting many) where
  as_given : is.passed ≡ given
  as_given = in_place_none given is.passed is.in_place

  -- so many events with those calls moved, where all of them that are moved are among those
  cut_moved : (n : ℕ) → many ≤ n → n ≤ length run → take n (given ++ waiting) ≡ is.moved ++ take (n - many)
      (drop many run)
  cut_moved n more within = ap (take n) (ap (λ (xs : List Event). xs ++ waiting) (sym as_given) ∙ is.parts) ∙
      ap (λ (k : ℕ). take k (is.moved ++ drop many run)) (sym sum) ∙
      take-append-add is.moved (drop many run) (n - many)
    where
      sum : length is.moved + (n - many) ≡ n
      sum = let long : length is.moved ≡ many = is.as_many in omega (arith, long, more)

  cut_run : (n : ℕ) → many ≤ n → n ≤ length run → take n run ≡ take many run ++ take (n - many) (drop many run)
  cut_run n more within = ap (take n) (sym (take-append-drop many run)) ∙
      ap (λ (k : ℕ). take k (take many run ++ drop many run)) (sym sum) ∙
      take-append-add (take many run) (drop many run) (n - many)
    where
      sum : length (take many run) + (n - many) ≡ n
      sum = let long : length (take many run) ≡ many = length-take-le many run is.within in omega (arith, long, more)

  pub settled_cut : (n : ℕ) → many ≤ n → n ≤ length run → AreExplained limits (take n run) →
      AreExplained limits (take n (given ++ waiting))
  settled_cut n more within way = subst (AreExplained limits) (sym (cut_moved n more within))
      (is.nothing_lost (take (n - many) (drop many run)) (subst (AreExplained limits) (cut_run n more within) way))

  -- the run goes on as those do, from the last of those events on
  pub settled_drop : (k : ℕ) → many ≤ k + 1 → drop k run ≡ drop k (given ++ waiting)
  settled_drop k more = sym (from run) ∙ ap (drop (k - (many - 1))) here ∙ from (given ++ waiting)
    where
      from : (events : List Event) → drop (k - (many - 1)) (drop (many - 1) events) ≡ drop k events
      from events = drop-drop (k - (many - 1)) (many - 1) events ∙
          ap (λ (n : ℕ). drop n events) (omega (arith, more))

      here : drop (many - 1) run ≡ drop (many - 1) (given ++ waiting)
      here = ap (drop (many - 1)) (sym (take-append-drop many run)) ∙
          drop-append-le (many - 1) (take many run) (drop many run)
          (let long : length (take many run) ≡ many = length-take-le many run is.within in omega (arith, long)) ∙
          ap (λ (xs : List Event). xs ++ drop many run) (sym is.same_end) ∙
          sym (drop-append-le (many - 1) is.moved (drop many run)
          (let long : length is.moved ≡ many = is.as_many in omega (arith, long))) ∙
          ap (drop (many - 1)) (sym is.parts ∙ ap (λ (xs : List Event). xs ++ waiting) as_given)

  pub settled_later : BeginsLater run (given ++ waiting)
  settled_later = subst (λ (xs : List Event). BeginsLater xs (given ++ waiting)) (append-nil run)
      (subst (BeginsLater (run ++ [])) (ap (λ (xs : List Event). is.passed ++ xs) (append-nil waiting) ∙
      ap (λ (xs : List Event). xs ++ waiting) as_given) (is.later []))
