-- What is found of events that are in form, and of a run of which they are the first.
use Rattle.std.proofs.Common.{ℕ, ◌≡◌, ◌≢◌, ◌+◌, ◌-◌, ◌/◌, ◌<◌, ◌≤◌, List, [], ◌∷◌, ◌++◌, length, get_or, Option}
use Rattle.std.proofs.Common.{refl, sym, ◌∙◌, ap, inr, zero-add}
use Rattle.std.proofs.Common.{subst, arith, add_assoc, add-zero, append_assoc, append-nil}
use Rattle.std.specs.Prelude.{take, drop, IfOk, Result, Ok, Err}
use Rattle.std.proofs.lemmas.List.{take_all, drop_all, take-append-drop, take-append-le, take-take, drop-drop, drop_at}
use Rattle.std.proofs.lemmas.List.{length-take-le, length-append}
use Rattle.std.proofs.Math.Seq.{take-append-add}
use Rattle.stamp_core.specs.Limits.{Bounds}
use Rattle.stamp_runs.specs.declared.event.Event.{Event}
use Rattle.stamp_runs.specs.BothRun.{AreExplained}
use Rattle.stamp_sets.specs.declared.progress.Progress.{Progress}
use Rattle.stamp_sets.specs.declared.progress.Progress.TheVariants as progress
use Rattle.stamp_watch.specs.declared.verdict.Verdict.{Verdict}
use Rattle.stamp_watch.specs.declared.verdict.Verdict.TheVariants.{Explained, Stuck, StuckWithin, Undecided, Broken}
use Rattle.stamp_watch.specs.declared.verdict.Why.TheVariants as cause
use Rattle.stamp_sets.specs.declared.watch.Watch.{Watch}
use Rattle.stamp_watch.specs.Verdict.{AreOfLanes, AreTooMany, IsInFormUpTo, IsVerdict}
use Rattle.stamp_sets.specs.Watch.{IsCopy, IsUntold, IsWatching}
use Rattle.stamp_watch.specs.Judging.{IsJudging, IsFound}
use Rattle.stamp_watch.specs.inner.Judging.{GivesUpAmong, IsStep, IsBetween, IsOutcome, IsBase, IsStuckAmong}
use Rattle.stamp_watch.specs.inner.Judging.{IsStuckBehind}
use Rattle.stamp_watch.specs.declared.judge.Outcome.{Outcome}
use Rattle.stamp_watch.specs.declared.judge.Outcome.TheVariants.{Unexplained, TooMany}
use Rattle.stamp_watch.specs.declared.judge.Outcome.TheVariants as judged
use Rattle.stamp_watch.proofs.Forming.{of_lanes_up_to}
use Rattle.stamp_watch.proofs.Judging.{judging_copied, judging_first}
use Rattle.stamp_watch.proofs.Reading.{take_read, drop_read, around}

-- the events that are past, one event on
pub past_on : (past events : List Event) (k : ℕ) (e : Event) → k < length events → e ≡ get_or events k e →
    past ++ take k events ++ e ∷ [] ≡ past ++ take (k + 1) events
past_on past events k e less read = append_assoc past (take k events) (e ∷ []) ∙
    ap (λ (xs : List Event). past ++ xs) (sym (take_read events k e less read))

-- one event on
module _ (limits : Bounds) (first : ℕ) (past events : List Event) (most k : ℕ) (e : Event) (less : k < length events)
    (read : e ≡ get_or events k e) where
  pub judging_here : (watch : Watch) → IsJudging limits (first + k) (past ++ take k events) (drop k events) watch →
      IsJudging limits (first + k) (past ++ take k events) (e ∷ drop (k + 1) events) watch
  judging_here watch judging =
      subst (λ (future : List Event). IsJudging limits (first + k) (past ++ take k events) future watch)
      (drop_read events k e less read) judging

  whole_around : past ++ take k events ++ e ∷ drop (k + 1) events ≡ past ++ events
  whole_around = append_assoc past (take k events) (e ∷ drop (k + 1) events) ∙
      ap (λ (xs : List Event). past ++ xs) (around events k e less read)

  module _ (watch : Watch) (answer : Progress)
      (step : IsStep limits (first + k) (past ++ take k events) e (drop (k + 1) events) most watch answer) where
    pub judging_more : answer ≡ progress.Going →
        IsJudging limits (first + (k + 1)) (past ++ take (k + 1) events) (drop (k + 1) events) watch
    judging_more is =
        subst (λ (n : ℕ). IsJudging limits n (past ++ take (k + 1) events) (drop (k + 1) events) watch)
        (add_assoc first k 1)
        (subst (λ (before : List Event). IsJudging limits (first + k + 1) before (drop (k + 1) events) watch)
        (past_on past events k e less read)
        (subst (λ (p : Progress). IsStep limits (first + k) (past ++ take k events) e (drop (k + 1) events) most watch
        p)
        is step))

    pub unexplained_here : answer ≡ progress.Dead → AreExplained limits (past ++ take k events) →
        IsOutcome limits first past events most (Unexplained k)
    unexplained_here is explained = (
      less,
      explained,
      λ whole. none (subst (AreExplained limits) (sym whole_around)
          whole),
    )
      where
        none : ¬ AreExplained limits (past ++ take k events ++ e ∷ drop (k + 1) events)
        none = subst (λ (p : Progress).
            IsStep limits (first + k) (past ++ take k events) e (drop (k + 1) events) most watch p) is step

    pub too_many_here : answer ≡ progress.TooMany → AreExplained limits (past ++ take k events) →
        IsOutcome limits first past events most (TooMany k)
    too_many_here is explained = (
      less,
      explained,
      subst (λ (future : List Event). AreTooMany limits (first + k) (past ++ take k events) future most)
          (sym (drop_read events k e less read))
          (subst (λ (p : Progress).
          IsStep limits (first + k) (past ++ take k events) e (drop (k + 1) events) most watch p) is step),
    )

    pub never_refused : answer ≡ progress.Refused → ⊥
    never_refused is =
        subst (λ (p : Progress). IsStep limits (first + k) (past ++ take k events) e (drop (k + 1) events) most watch
        p)
        is step

pub judging_start : (limits : Bounds) (first : ℕ) (past events : List Event) (watch : Watch) →
    IsJudging limits first past events watch →
    IsJudging limits (first + 0) (past ++ take 0 events) (drop 0 events) watch
judging_start limits first past events watch judging =
    subst (λ (n : ℕ). IsJudging limits n (past ++ []) events watch) (sym (add-zero first))
    (subst (λ (before : List Event). IsJudging limits first before events watch) (sym (append-nil past)) judging)

pub all_explained : (limits : Bounds) (first : ℕ) (past events : List Event) (k : ℕ) (watch : Watch) →
    length events ≤ k → IsJudging limits (first + k) (past ++ take k events) (drop k events) watch →
    AreExplained limits (past ++ events)
all_explained limits first past events k watch high judging =
    subst (λ (xs : List Event). AreExplained limits (past ++ xs)) (take_all k events high) judging.explained

pub all_seen : (limits : Bounds) (first : ℕ) (past events : List Event) (k : ℕ) (watch : Watch) →
    k ≡ length events → IsJudging limits (first + k) (past ++ take k events) (drop k events) watch →
    IsJudging limits (first + length events) (past ++ events) [] watch
all_seen limits first past events k watch all judging =
    subst (λ (n : ℕ). IsJudging limits (first + n) (past ++ events) [] watch) all
    (subst (λ (xs : List Event). IsJudging limits (first + k) (past ++ events) xs watch)
    (drop_all k events (omega (arith, all)))
    (subst (λ (xs : List Event). IsJudging limits (first + k) (past ++ xs) (drop k events) watch)
    (take_all k events (omega (arith, all))) judging))

-- so many events behind others
pub cut_behind : (n k : ℕ) (past events : List Event) → n ≡ length past →
    take (n + k) (past ++ events) ≡ past ++ take k events
cut_behind n k past events at = ap (λ (m : ℕ). take (m + k) (past ++ events)) at ∙ take-append-add past events k

pub rest_behind : (n k : ℕ) (past events : List Event) → n ≡ length past →
    drop (n + k) (past ++ events) ≡ drop k events
rest_behind n k past events at =
    sym (drop-drop k n (past ++ events)) ∙ ap (drop k) (drop_at past events n (sym at))

pub length_behind : (n : ℕ) (past events : List Event) → n ≡ length past → length (past ++ events) ≡ n + length events
length_behind n past events at =
    length-append past events ∙ ap (λ (m : ℕ). m + length events) (sym at)

-- the search between two places
module _ (limits : Bounds) (events : List Event) where
  pub between_higher : (low high k : ℕ) → k < high → IsBetween limits events low high →
      AreExplained limits (take k events) → IsBetween limits events k high
  between_higher low high k less between explained = record {
    apart = less;
    within = between.within;
    explained = explained;
    stuck = between.stuck;
  }

  pub between_lower : (low high k : ℕ) → low < k → k ≤ high → IsBetween limits events low high →
      ¬ AreExplained limits (take k events) → IsBetween limits events low k
  between_lower low high k more less between stuck = record {
    apart = more;
    within = let within : high ≤ length events = between.within in omega (arith, within, less);
    explained = between.explained;
    stuck = stuck;
  }

  module _ (most : ℕ) (ahead : Option ℕ) (whole : AreOfLanes events) where
    pub found_stuck : (low high : ℕ) → high ≤ low + 1 → IsBetween limits events low high →
        IsFound limits events most ahead (Stuck low)
    found_stuck low high near between more = (
      subst AreOfLanes (sym cut) (of_lanes_up_to (low + 1) events whole),
      record {
        explained = subst (AreExplained limits) (sym (take-append-le low events more (omega (arith, apart, within))))
            between.explained;
        stuck = λ explained. between.stuck (subst (λ (n : ℕ). AreExplained limits (take n events)) (sym next)
            (subst (AreExplained limits) cut explained));
      },
    )
      where
        apart : low < high
        apart = between.apart

        within : high ≤ length events
        within = between.within

        next : high ≡ low + 1
        next = omega (arith, apart, near)

        cut : take (low + 1) (events ++ more) ≡ take (low + 1) events
        cut = take-append-le (low + 1) events more (omega (arith, next, within))

    pub found_within : (low high cut place : ℕ) → low < cut → cut < high → cut ≡ low + (high - low) / 2 →
        place < cut → IsBetween limits events low high →
        AreTooMany limits place (take place events) (drop place (take cut events)) most →
        IsFound limits events most ahead (StuckWithin low high)
    found_within low high cut place after less half before between many more = record {
      there = let long : length (events ++ more) ≡ length events + length more = length-append events more in
          omega (arith, within, long);
      whole = subst AreOfLanes (sym (take-append-le high events more between.within))
          (of_lanes_up_to high events whole);
      explained = subst (AreExplained limits) (sym (take-append-le low events more (omega (arith, apart, within))))
          between.explained;
      stuck = λ explained. between.stuck
          (subst (AreExplained limits) (take-append-le high events more between.within) explained);
      cut = cut;
      after = after;
      within = less;
      half = half;
      place = place;
      before = before;
      too_many = subst (λ (past : List Event).
          AreTooMany limits place past (drop place (take cut (events ++ more))) most)
          (sym (take-append-le place events more (omega (arith, before, less, within))))
          (subst (λ (future : List Event). AreTooMany limits place (take place events) (drop place future) most)
          (sym (take-append-le cut events more (omega (arith, less, within)))) many);
    }
      where
        apart : low < high
        apart = between.apart

        within : high ≤ length events
        within = between.within

-- the search, behind other events
pub record IsSearching (n k low high : ℕ) (events : List Event) (base : Watch) : Type 0 where
  pub after : k ≤ low
  pub apart : low < high
  pub within : high ≤ length events
  pub between : (limits : Bounds) (past : List Event) → IsBase limits n k past events base →
      IsStuckBehind limits past events k → IsBetween limits (past ++ events) (n + low) (n + high)

module _ (n k : ℕ) (events : List Event) (base : Watch) where
  pub searching_first : (many : ℕ) → many ≡ length events → k < length events → IsSearching n k k many events base
  searching_first many all less = record {
    after = omega arith;
    apart = omega (arith, all, less);
    within = omega (arith, all);
    between = λ limits past is stuck. record {
      apart = omega (arith, all, less);
      within = let long : length (past ++ events) ≡ n + length events = length_behind n past events is.place in
          omega (arith, all, long);
      explained = subst (AreExplained limits) (sym (cut_behind n k past events is.place)) stuck.explained;
      stuck = λ whole. stuck.stuck (subst (AreExplained limits) (cut_behind n many past events is.place ∙
          ap (λ (xs : List Event). past ++ xs) (take_all many events (omega (arith, all)))) whole);
    };
  }

  module _ (low high : ℕ) (searching : IsSearching n k low high events base) where
    base_whole : (limits : Bounds) (past : List Event) → IsBase limits n k past events base →
        AreOfLanes (past ++ events)
    base_whole limits past from = subst (λ (xs : List Event). AreOfLanes (past ++ xs))
        (take_all (length events) events (omega arith)) (from.judging (length events)
        (let after : k ≤ low = searching.after in let apart : low < high = searching.apart in
        let within : high ≤ length events = searching.within in omega (arith, after, apart, within))
        (omega arith)).followed.whole

    pub from_base : (limits : Bounds) (past : List Event) (middle : ℕ) (start : Watch) →
        IsBase limits n k past events base → low < middle → middle < high → IsCopy base start →
        IsJudging limits n past (take middle events) start
    from_base limits past middle start from more less same = judging_copied limits n past (take middle events) base
        start
        same (from.judging middle (let after : k ≤ low = searching.after in omega (arith, after, more))
        (let within : high ≤ length events = searching.within in omega (arith, within, less)))

    pub searching_higher : (middle most : ℕ) (start : Watch) (answer : Outcome) → low < middle → middle < high →
        answer ≡ judged.Explained → IsCopy base start →
        ((limits : Bounds) (past : List Event) → IsJudging limits n past (take middle events) start →
        IsOutcome limits n past (take middle events) most answer) → IsSearching n k middle high events base
    searching_higher middle most start answer more less found same is = record {
      after = let after : k ≤ low = searching.after in omega (arith, after, more);
      apart = less;
      within = searching.within;
      between = λ limits past from stuck. between_higher limits (past ++ events) (n + low) (n + high) (n + middle)
          (omega (arith, less)) (searching.between limits past from stuck)
          (subst (AreExplained limits) (sym (cut_behind n middle past events from.place))
          (subst (λ (o : Outcome). IsOutcome limits n past (take middle events) most o) found
          (is limits past (from_base limits past middle start from more less same))));
    }

    pub searching_lower : (middle most place : ℕ) (start : Watch) (answer : Outcome) → low < middle → middle < high →
        answer ≡ Unexplained place → IsCopy base start →
        ((limits : Bounds) (past : List Event) → IsJudging limits n past (take middle events) start →
        IsOutcome limits n past (take middle events) most answer) → IsSearching n k low middle events base
    searching_lower middle most place start answer more less found same is = record {
      after = searching.after;
      apart = more;
      within = let within : high ≤ length events = searching.within in omega (arith, within, less);
      between = λ limits past from stuck. between_lower limits (past ++ events) (n + low) (n + high) (n + middle)
          (omega (arith, more)) (omega (arith, less)) (searching.between limits past from stuck)
          (λ whole. (subst (λ (o : Outcome). IsOutcome limits n past (take middle events) most o) found
          (is limits past (from_base limits past middle start from more less same))).2
          (subst (AreExplained limits) (cut_behind n middle past events from.place) whole));
    }

    pub search_too_many : (middle most place : ℕ) (ahead : Option ℕ) (start : Watch) (answer : Outcome) →
        low < middle → middle < high → middle ≡ low + (high - low) / 2 →
        answer ≡ TooMany place → IsCopy base start →
        ((limits : Bounds) (past : List Event) → IsJudging limits n past (take middle events) start →
        IsOutcome limits n past (take middle events) most answer) → (limits : Bounds) (past : List Event) →
        IsBase limits n k past events base → IsStuckBehind limits past events k →
        IsFound limits (past ++ events) most ahead (StuckWithin (n + low) (n + high))
    search_too_many middle most place ahead start answer more less half found same is limits past from stuck =
        found_within limits (past ++ events) most ahead (base_whole limits past from) (n + low) (n + high) (n + middle)
        (n + place) (omega (arith, more)) (omega (arith, less)) (omega (arith, half)) (omega (arith, below))
        (searching.between limits past from stuck)
        (subst (λ (before : List Event). AreTooMany limits (n + place) before
        (drop (n + place) (take (n + middle) (past ++ events))) most)
        (ap (λ (xs : List Event). past ++ xs) (take-take place middle events (omega (arith, below))) ∙
        sym (cut_behind n place past events from.place))
        (subst (λ (future : List Event). AreTooMany limits (n + place) (past ++ take place (take middle events)) future
        most)
        (sym (ap (drop (n + place)) (cut_behind n middle past events from.place) ∙
        rest_behind n place past (take middle events) from.place)) many.2))
      where
        many : (place < length (take middle events)) × AreExplained limits (past ++ take place (take middle events)) ×
            AreTooMany limits (n + place) (past ++ take place (take middle events)) (drop place (take middle events))
            most
        many = subst (λ (o : Outcome). IsOutcome limits n past (take middle events) most o) found
            (is limits past (from_base limits past middle start from more less same))

        below : place < middle
        below = let before : place < length (take middle events) = many.0 in
            let within : high ≤ length events = searching.within in
            let long : length (take middle events) ≡ middle =
            length-take-le middle events (omega (arith, less, within)) in omega (arith, before, long)

    pub search_ends : (most : ℕ) (ahead : Option ℕ) → high ≤ low + 1 → (limits : Bounds) (past : List Event) →
        IsBase limits n k past events base → IsStuckBehind limits past events k →
        IsFound limits (past ++ events) most ahead (Stuck (n + low))
    search_ends most ahead near limits past from stuck = found_stuck limits (past ++ events) most ahead
        (base_whole limits past from) (n + low) (n + high) (omega (arith, near))
        (searching.between limits past from stuck)

-- the verdict on a run of which the first events are in form
pub undecided_at : (limits : Bounds) (events : List Event) (most many k : ℕ) (ahead : Option ℕ) →
    IsInFormUpTo events many →
    IsOutcome limits 0 [] (take many events) most (TooMany k) →
    IsVerdict limits events most ahead (Undecided k cause.TooMany)
undecided_at limits events most many k ahead form outcome = (
  record {
    there = let within : many ≤ length events = form.within in omega (arith, below, within);
    whole = subst AreOfLanes (take-take (k + 1) many events (omega (arith, below)))
        (of_lanes_up_to (k + 1) (take many events) form.whole);
  },
  subst (AreExplained limits) cut outcome.1,
  record {
    known = many;
    far = record { whole = form.whole; far = inr form.broken };
    too_many = subst (λ (past : List Event). AreTooMany limits k past (drop k (take many events)) most) cut
        (subst (λ (n : ℕ). AreTooMany limits n (take k (take many events)) (drop k (take many events)) most)
        (zero-add k) outcome.2);
  },
)
  where
    below : k < many
    below = let less : k < length (take many events) = outcome.0 in
        let long : length (take many events) ≡ many = length-take-le many events form.within in
        omega (arith, less, long)

    cut : take k (take many events) ≡ take k events
    cut = take-take k many events (omega (arith, below))

pub broken_at : (limits : Bounds) (events : List Event) (most many : ℕ) (ahead : Option ℕ) → many ≢ length events →
    IsInFormUpTo events many → AreExplained limits (take many events) →
    IsVerdict limits events most ahead (Broken many)
broken_at limits events most many ahead short form explained = (
  record {
    whole = form.whole;
    broken = form.broken (let within : many ≤ length events = form.within in omega (arith, within, short));
  },
  explained,
)

pub explained_whole : (limits : Bounds) (events : List Event) (most many : ℕ) (ahead : Option ℕ) →
    many ≡ length events →
    IsInFormUpTo events many → AreExplained limits (take many events) → IsVerdict limits events most ahead Explained
explained_whole limits events most many ahead all form explained =
    (subst AreOfLanes same form.whole, subst (AreExplained limits) same explained)
  where
    same : take many events ≡ events
    same = take_all many events (omega (arith, all))

pub found_in_whole : (limits : Bounds) (events : List Event) (most many : ℕ) (ahead : Option ℕ) (verdict : Verdict) →
    IsFound limits (take many events) most ahead verdict → IsVerdict limits events most ahead verdict
found_in_whole limits events most many ahead verdict found =
    subst (λ (run : List Event). IsVerdict limits run most ahead verdict) (take-append-drop many events)
    (found (drop many events))

-- any of the events can be judged from the opening
pub base_first : (limits : Bounds) (k : ℕ) (events : List Event) (watch : Watch) → IsWatching [] watch →
    IsUntold watch limits → AreOfLanes events → IsBase limits 0 k [] events watch
base_first limits k events watch watching untold whole = record {
  place = refl;
  judging = λ m more within. judging_first limits (take m events) watch watching untold (of_lanes_up_to m events whole);
}

pub stuck_behind : (limits : Bounds) (n : ℕ) (past events : List Event) (most k : ℕ) →
    IsOutcome limits n past events most (Unexplained k) → IsStuckBehind limits past events k
stuck_behind limits n past events most k outcome = record { explained = outcome.1; stuck = outcome.2 }

-- what is found of events that are not explained is never that they are
pub never_explained : (limits : Bounds) (events : List Event) (most : ℕ) (ahead : Option ℕ) (verdict : Verdict) →
    IsFound limits events most ahead verdict → ¬ AreExplained limits events → verdict ≢ Explained
never_explained limits events most ahead verdict found stuck same =
    stuck (subst (AreExplained limits) (append-nil events) is.1)
  where
    is : AreOfLanes (events ++ []) × AreExplained limits (events ++ [])
    is = subst (λ (v : Verdict). IsVerdict limits (events ++ []) most ahead v) same (found [])

-- of what is there, both hold
pub both_ok : {X E : Type 0} (r : Result X E) (P Q : X → Type 0) → IfOk r P → IfOk r Q →
    IfOk r (λ (x : X). P x × Q x)
both_ok (Ok x) P Q p q = (p, q)
both_ok (Err e) P Q p q = tt

-- a search for where events are stuck is given up at none
pub never_given_up : (events : List Event) (from to : ℕ) (verdict : Verdict) → IsStuckAmong from to verdict →
    GivesUpAmong events verdict
never_given_up events from to (Undecided k why) among = absurd among
never_given_up events from to (Broken k) among = absurd among
never_given_up events from to _ among = tt
