-- A run that is judged while it goes on.
use Rattle.std.proofs.Common.{ℕ, ◌≡◌, ◌≢◌, ◌⊎◌, ◌+◌, ◌-◌, ◌<◌, ◌≤◌, true, List, [], ◌∷◌, ◌++◌, length}
use Rattle.std.proofs.Common.{get_or, Option, Some, refl, sym, ◌∙◌, ap, subst, inl, inr, arith, append_assoc}
use Rattle.std.proofs.Common.{append-nil, add_assoc}
use Rattle.std.specs.Prelude.{take, drop, is_some, IsSome}
use Rattle.std.proofs.lemmas.Bool.{cases_eq, false≢true}
use Rattle.std.proofs.lemmas.List.{take-append-drop, take-append-le, take_rest, drop-append-le, length-append}
use Rattle.std.proofs.lemmas.List.{length-drop, drop-drop}
use Rattle.std.proofs.Math.Seq.{take-add, take-append_seam}
use Rattle.stamp_core.specs.Limits.{Bounds}
use Rattle.stamp_runs.specs.declared.event.Event.{Event}
use Rattle.stamp_runs.specs.declared.event.Event.TheVariants.{Begins, Returns, Withdraws}
use Rattle.stamp_runs.specs.BothRun.{AreExplained}
use Rattle.stamp_runs.specs.Run.{IsEndOf}
use Rattle.stamp_sets.specs.declared.ending.Ending.{Ending}
use Rattle.stamp_sets.specs.declared.ending.Ending.TheVariants as ending
use Rattle.stamp_sets.specs.declared.open_call.OpenCall.{OpenCall}
use Rattle.stamp_sets.specs.declared.progress.Progress.{Progress}
use Rattle.stamp_sets.specs.declared.progress.Progress.TheVariants as progress
use Rattle.stamp_sets.specs.declared.watch.Watch.{Watch}
use Rattle.stamp_runs.proofs.Owning.{in_other}
use Rattle.stamp_watch.specs.AsObserved.{AreEnded, ending_of}
use Rattle.stamp_watch.specs.AsObserved.Ending.{StaysOpen}
use Rattle.stamp_runs.specs.Own.{open_after, open_then}
use Rattle.stamp_watch.specs.Foretold.{told_as}
use Rattle.stamp_watch.specs.Form.{is_busy_after}
use Rattle.stamp_watch.specs.Verdict.{AreOfLanes, AreTooMany, IsFarEnough, IsVerdict, MayComeNext}
use Rattle.stamp_watch.specs.Judging.{IsFound, IsJudging}
use Rattle.stamp_watch.specs.inner.Judging.{IsBase, IsEndTold, IsOutcome, IsStep, IsStuckBehind, IsStuckFrom}
use Rattle.stamp_watch.specs.Course.{IsOver, IsRest, IsRunOn, IsStanding}
use Rattle.stamp_watch.specs.inner.Course.{IsKnown, broken_off}
use Rattle.stamp_watch.specs.declared.judge.Outcome.{Outcome}
use Rattle.stamp_watch.specs.declared.judge.Outcome.TheVariants as judged
use Rattle.stamp_watch.specs.declared.verdict.Verdict.{Verdict}
use Rattle.stamp_watch.specs.declared.verdict.Verdict.TheVariants as verdict
use Rattle.stamp_watch.specs.declared.verdict.Why.TheVariants as cause
use Rattle.stamp_watch.proofs.Form.{past_end}
use Rattle.stamp_watch.proofs.Forming.{busy_after_one, form_first, of_lanes_up_to}
use Rattle.stamp_watch.proofs.Judged.{cut_behind, rest_behind, judging_here, judging_more, past_on, unexplained_here}
use Rattle.stamp_watch.proofs.Judged.{length_behind, too_many_here}
use Rattle.stamp_watch.proofs.Judging.{agrees, judging_first, judging_copied}
use Rattle.stamp_watch.proofs.Reading.{drop_read}
use Rattle.stamp_sets.specs.Watch.{IsCopy, IsUntold, IsWatching, open_of}
use Rattle.stamp_watch.proofs.Numbered.{end_or_not, end_told, ending_spares, open_or_ended}

-- how a call ends stays as it is when more events come
ending_stays : (lane n : ℕ) (events more : List Event) → ending_of lane n events ≢ StaysOpen →
    ending_of lane n (events ++ more) ≡ ending_of lane n events
ending_stays lane n [] more ended = absurd (ended refl)
ending_stays lane n (event ∷ events) more ended = by (end_or_not lane event)
    (λ later. ending_stays lane (n + 1) events more later)
  where
    by : IsEndOf lane event ⊎ (¬ IsEndOf lane event) → (ending_of lane (n + 1) events ≢ StaysOpen →
        ending_of lane (n + 1) (events ++ more) ≡ ending_of lane (n + 1) events) →
        ending_of lane n (event ∷ events ++ more) ≡ ending_of lane n (event ∷ events)
    by (inl end) _ = end_told lane n event (events ++ more) events end
    by (inr not) later = ending_spares lane n event (events ++ more) not ∙
        later (λ open_still. ended (ending_spares lane n event events not ∙ open_still)) ∙
        sym (ending_spares lane n event events not)

-- so a watch goes on judging when more events come
pub standing_more : (limits : Bounds) (n : ℕ) (past future more : List Event) (watch : Watch) →
    AreOfLanes (past ++ (future ++ more)) → IsStanding limits n past future watch →
    IsStanding limits n past (future ++ more) watch
standing_more limits n past future more watch whole is = record {
  judging = record {
    limits_are = is.judging.limits_are;
    watching = is.judging.watching;
    explained = is.judging.explained;
    followed = record {
      whole = whole;
      told = λ lane begun opened. is.judging.followed.told lane begun opened ∙
          sym (ending_stays lane n future more (is.ended.ends lane (busy lane begun opened)));
      last = is.judging.followed.last;
    };
  };
  ended = record {
    ends = λ lane taken open_still. is.ended.ends lane taken
        (sym (ending_stays lane n future more (is.ended.ends lane taken)) ∙ open_still);
  };
}
  where
    busy : (lane : ℕ) (begun : OpenCall) → open_of watch lane ≡ Some begun →
        is_busy_after past lane ≡ true
    busy lane begun opened = sym (agrees past watch is.judging.watching lane) ∙ ap is_some opened

-- behind others, from so many of these events to more of them
pub standing_up_to : (limits : Bounds) (n k m : ℕ) (past events : List Event) (watch : Watch) →
    AreOfLanes (past ++ events) → k ≤ m → IsStanding limits n past (take k events) watch →
    IsStanding limits n past (take m events) watch
standing_up_to limits n k m past events watch whole less is =
    subst (λ (future : List Event). IsStanding limits n past future watch) (sym parts)
    (standing_more limits n past (take k events) (take (m - k) (drop k events)) watch
    (subst (λ (future : List Event). AreOfLanes (past ++ future)) parts part) is)
  where
    sum_is : k + (m - k) ≡ m
    sum_is = omega (arith, less)

    parts : take m events ≡ take k events ++ take (m - k) (drop k events)
    parts = ap (λ (i : ℕ). take i events) (sym sum_is) ∙ take-add k (m - k) events

    part : AreOfLanes (past ++ take m events)
    part = subst AreOfLanes (cut_behind (length past) m past events refl)
        (of_lanes_up_to (length past + m) (past ++ events) whole)

-- the end that is told of a call, where it is known
told_ended : (ends : Ending) → ends ≢ ending.Never → told_as ends ≢ StaysOpen
told_ended (ending.Returns told place) known open_still = open_or_ended (sym open_still)
told_ended ending.Withdraws known open_still = cc
told_ended ending.Never known open_still = absurd (known refl)

ended_past : (n : ℕ) (past : List Event) (e : Event) (ahead : List Event) → AreEnded n past (e ∷ ahead) →
    ((lane : ℕ) → IsSome (open_then (open_after past) e lane) →
    (is_busy_after past lane ≡ true) × (¬ IsEndOf lane e)) → AreEnded (n + 1) (past ++ e ∷ []) ahead
ended_past n past e ahead old was = record {
  ends = λ lane busy open_still.
      let before = was lane (sym (busy_after_one past e lane) ∙ busy) in
      old.ends lane before.0 (ending_spares lane n e ahead before.1 ∙ open_still);
}

-- one event on the open calls end as well
pub ended_on : (n : ℕ) (past : List Event) (e : Event) (ahead : List Event) (ends : Ending) →
    AreEnded n past (e ∷ ahead) → IsEndTold e (n + 1) ahead ends → IsKnown e ends →
    AreEnded (n + 1) (past ++ e ∷ []) ahead
ended_on n past (Begins v call) ahead ends old told known = record {
  ends = λ lane busy. by lane (sym (busy_after_one past (Begins v call) lane) ∙ busy) (cases_eq v lane);
}
  where
    by : (lane : ℕ) → IsSome (open_then (open_after past) (Begins v call) lane) → (v ≡ lane) ⊎ (v ≢ lane) →
        ending_of lane (n + 1) ahead ≢ StaysOpen
    by lane busy (inl same) open_still = told_ended ends known
        (told ∙ ap (λ (u : ℕ). ending_of u (n + 1) ahead) same ∙ open_still)
    by lane busy (inr apart) open_still = old.ends lane
        (sym (ap is_some (in_other (Some call) (open_after past lane) apart)) ∙ busy) open_still
ended_on n past (Returns v reply) ahead ends old told known =
    ended_past n past (Returns v reply) ahead old (λ lane busy. past_end v lane (open_after past lane) busy)
ended_on n past (Withdraws v) ahead ends old told known =
    ended_past n past (Withdraws v) ahead old (λ lane busy. past_end v lane (open_after past lane) busy)

-- before any event
pub run_first : (limits : Bounds) (events : List Event) (base watch : Watch) → events ≡ [] → IsWatching [] base →
    IsUntold base limits → IsCopy base watch → IsRunOn limits [] 0 0 events base watch
run_first limits events base watch none watching untold copied =
    subst (λ (xs : List Event). IsRunOn limits [] 0 0 xs base watch) (sym none) (record {
      past = [];
      run_is = refl;
      place = refl;
      whole = whole;
      within = omega arith;
      from_base = record { judging = judging; ended = ended };
      now = record { judging = judging_copied limits 0 [] [] base watch copied judging; ended = ended };
    })
  where
    whole : AreOfLanes []
    whole = form_first.0

    judging : IsJudging limits 0 [] [] base
    judging = judging_first limits [] base watching untold whole

    ended : AreEnded 0 [] []
    ended = record { ends = λ lane busy. absurd (false≢true busy) }

-- one event more
pub run_added : (limits : Bounds) (run : List Event) (first seen : ℕ) (events then_events : List Event)
    (base watch : Watch) (e : Event) → then_events ≡ events ++ e ∷ [] → AreOfLanes (run ++ e ∷ []) →
    IsRunOn limits run first seen events base watch → IsRunOn limits (run ++ e ∷ []) first seen then_events base watch
run_added limits run first seen events then_events base watch e added whole is =
    subst (λ (xs : List Event). IsRunOn limits (run ++ e ∷ []) first seen xs base watch) (sym added) (record {
      past = is.past;
      run_is = run_then;
      place = is.place;
      whole = subst AreOfLanes run_then whole;
      within = let long : length (events ++ e ∷ []) ≡ length events + length (e ∷ []) =
          length-append events (e ∷ []) in
          let within : seen ≤ length events = is.within in omega (arith, long, within);
      from_base = subst (λ (xs : List Event). IsStanding limits first is.past xs base) (sym same_seen) is.from_base;
      now = subst (λ (xs : List Event). IsStanding limits (first + seen) (is.past ++ xs) (drop seen (events ++ e ∷ []))
          watch) (sym same_seen)
          (subst (λ (xs : List Event). IsStanding limits (first + seen) (is.past ++ take seen events) xs watch)
          (sym (drop-append-le seen events (e ∷ []) is.within))
          (standing_more limits (first + seen) (is.past ++ take seen events) (drop seen events) (e ∷ []) watch
          (subst AreOfLanes (sym around) whole) is.now));
    })
  where
    run_then : run ++ e ∷ [] ≡ is.past ++ (events ++ e ∷ [])
    run_then = ap (λ (xs : List Event). xs ++ e ∷ []) is.run_is ∙ append_assoc is.past events (e ∷ [])

    same_seen : take seen (events ++ e ∷ []) ≡ take seen events
    same_seen = take-append-le seen events (e ∷ []) is.within

    around : (is.past ++ take seen events) ++ (drop seen events ++ e ∷ []) ≡ run ++ e ∷ []
    around = append_assoc is.past (take seen events) (drop seen events ++ e ∷ []) ∙
        ap (λ (xs : List Event). is.past ++ xs) (sym (append_assoc (take seen events) (drop seen events) (e ∷ [])) ∙
        ap (λ (xs : List Event). xs ++ e ∷ []) (take-append-drop seen events)) ∙ sym run_then

module _ (limits : Bounds) (run : List Event) (first seen : ℕ) (events : List Event) (base watch : Watch)
    (is : IsRunOn limits run first seen events base watch) where
  -- so many of the events, and not fewer than were seen, can be judged from the base
  pub run_base : (k : ℕ) → seen ≤ k → IsBase limits first k is.past events base
  run_base k less = record {
    place = is.place;
    judging = λ m more within. (standing_up_to limits first seen m is.past events base is.whole
        (omega (arith, less, more))
        is.from_base).judging;
  }

  pub run_found : (most : ℕ) (ahead : Option ℕ) (v : Verdict) → IsFound limits (is.past ++ events) most ahead v →
      IsFound limits run most ahead v
  run_found most ahead v found = subst (λ (xs : List Event). IsFound limits xs most ahead v) (sym is.run_is) found

  pub run_stuck_from : (k : ℕ) (slice : List Event) → slice ≡ events → seen ≤ k →
      IsStuckBehind limits is.past events k →
      IsStuckFrom first k slice base
  run_stuck_from k slice same less stuck = subst (λ (xs : List Event). IsStuckFrom first k xs base) (sym same)
      (record {
        limits = limits;
        past = is.past;
        base = run_base k less;
        stuck = stuck;
      })

  pub run_finds : (k most : ℕ) (ahead : Option ℕ) (slice : List Event) (v : Verdict) → slice ≡ events → seen ≤ k →
      IsStuckBehind limits is.past events k →
      ((l : Bounds) (past : List Event) → IsBase l first k past slice base → IsStuckBehind l past slice k →
      IsFound l (past ++ slice) most ahead v) → IsFound limits run most ahead v
  run_finds k most ahead slice v same less stuck found = run_found most ahead v
      (subst (λ (xs : List Event). IsFound limits (is.past ++ xs) most ahead v) same (found limits is.past
      (subst (λ (xs : List Event). IsBase limits first k is.past xs base) (sym same) (run_base k less))
      (subst (λ (xs : List Event). IsStuckBehind limits is.past xs k) (sym same) stuck)))

  pub cut_run : (k : ℕ) (more : List Event) → k ≤ length events →
      take (first + k) (run ++ more) ≡ is.past ++ take k events
  cut_run k more within = ap (λ (xs : List Event). take (first + k) (xs ++ more)) is.run_is ∙
      ap (take (first + k)) (append_assoc is.past events more) ∙ cut_behind first k is.past (events ++ more) is.place ∙
      ap (λ (xs : List Event). is.past ++ xs) (take-append-le k events more within)

  part_of_lanes : (k : ℕ) → AreOfLanes (is.past ++ take k events)
  part_of_lanes k = subst AreOfLanes (cut_behind (length is.past) k is.past events refl)
      (of_lanes_up_to (length is.past + k) (is.past ++ events) is.whole)

  -- so many of the events are in form
  pub front_of_run : (k : ℕ) (later : List Event) → k ≤ length events → AreOfLanes (take (first + k) (run ++ later))
  front_of_run k later within = subst AreOfLanes (sym (cut_run k later within)) (part_of_lanes k)

  -- each of them may come there
  pub next_of_run : (k : ℕ) (later : List Event) → k < length events → MayComeNext (run ++ later) (first + k)
  next_of_run k later less = record {
    there = let long : length run ≡ first + length events =
        ap length is.run_is ∙ length_behind first is.past events is.place in
        let both : length (run ++ later) ≡ length run + length later = length-append run later in
        omega (arith, less, long, both);
    whole = subst (λ (n : ℕ). AreOfLanes (take n (run ++ later))) (sym (add_assoc first k 1))
        (front_of_run (k + 1) later (omega (arith, less)));
  }

  rest_run : (k : ℕ) (later : List Event) → drop (first + k) (take (length run) (run ++ later)) ≡ drop k events
  rest_run k later = ap (drop (first + k)) (take-append_seam run later ∙ is.run_is) ∙
      rest_behind first k is.past events is.place

  run_of_lanes : (later : List Event) → AreOfLanes (take (length run) (run ++ later))
  run_of_lanes later = subst AreOfLanes (sym (take-append_seam run later ∙ is.run_is)) is.whole

  -- the whole run is known, and each call ends in it that was open behind what was seen
  ended_far : (later : List Event) → IsFarEnough (run ++ later) (first + seen) (length run)
  ended_far later = record {
    whole = run_of_lanes later;
    far = inl (subst (λ (xs : List Event).
        AreEnded (first + seen) xs (drop (first + seen) (take (length run) (run ++ later))))
        (sym (cut_run seen later is.within))
        (subst (λ (xs : List Event). AreEnded (first + seen) (is.past ++ take seen events) xs)
        (sym (rest_run seen later)) is.now.ended));
  }

  over_far : (k : ℕ) (later : List Event) → IsOver run later → IsFarEnough (run ++ later) k (length run)
  over_far k later over = record { whole = run_of_lanes later; far = inr over }

  run_undecided : (most k : ℕ) (ahead : Option ℕ) (later : List Event) → k < length events →
      IsFarEnough (run ++ later) (first + k) (length run) →
      AreExplained limits (is.past ++ take k events) →
      AreTooMany limits (first + k) (is.past ++ take k events) (drop k events) most →
      IsVerdict limits (run ++ later) most ahead (verdict.Undecided (first + k) cause.TooMany)
  run_undecided most k ahead later less far explained many = (
    next_of_run k later less,
    subst (AreExplained limits) (sym cut) explained,
    record {
      known = length run;
      far = far;
      too_many = subst (λ (xs : List Event).
          AreTooMany limits (first + k) xs (drop (first + k) (take (length run) (run ++ later))) most)
          (sym cut)
          (subst (λ (xs : List Event). AreTooMany limits (first + k) (is.past ++ take k events) xs most)
          (sym (rest_run k later)) many);
    },
  )
    where
      cut : take (first + k) (run ++ later) ≡ is.past ++ take k events
      cut = cut_run k later (omega (arith, less))

  -- one event is seen
  module _ (e : Event) (less : seen < length events) (read : e ≡ get_or events seen e) (most : ℕ) where
    pub run_here : IsJudging limits (first + seen) (is.past ++ take seen events) (e ∷ drop (seen + 1) events) watch
    run_here = judging_here limits first is.past events most seen e less read watch is.now.judging

    pub run_steps : (ends : Ending) (new : Watch) (answer : Progress) → answer ≡ progress.Going →
        IsEndTold e (first + seen + 1) (drop (seen + 1) events) ends → IsKnown e ends →
        IsStep limits (first + seen) (is.past ++ take seen events) e (drop (seen + 1) events) most new answer →
        IsRunOn limits run first (seen + 1) events base new
    run_steps ends new answer going told known step = record {
      past = is.past;
      run_is = is.run_is;
      place = is.place;
      whole = is.whole;
      within = omega (arith, less);
      from_base = standing_up_to limits first seen (seen + 1) is.past events base is.whole (omega arith) is.from_base;
      now = record {
        judging = judging_more limits first is.past events most seen e less read new answer step going;
        ended = subst (λ (n : ℕ). AreEnded n (is.past ++ take (seen + 1) events) (drop (seen + 1) events))
            (add_assoc first seen 1)
            (subst (λ (before : List Event). AreEnded (first + seen + 1) before (drop (seen + 1) events))
            (past_on is.past events seen e less read)
            (ended_on (first + seen) (is.past ++ take seen events) e (drop (seen + 1) events) ends
            (subst (λ (future : List Event). AreEnded (first + seen) (is.past ++ take seen events) future)
            (drop_read events seen e less read) is.now.ended) told known));
      };
    }

    pub run_dead : (new : Watch) (answer : Progress) → answer ≡ progress.Dead →
        IsStep limits (first + seen) (is.past ++ take seen events) e (drop (seen + 1) events) most new answer →
        IsStuckBehind limits is.past events seen
    run_dead new answer dead step = record {
      explained = is.now.judging.explained;
      stuck = (unexplained_here limits first is.past events most seen e less read new answer step dead
          is.now.judging.explained).2;
    }

    pub run_too_many : (ahead : Option ℕ) (new : Watch) (answer : Progress) → answer ≡ progress.TooMany →
        IsStep limits (first + seen) (is.past ++ take seen events) e (drop (seen + 1) events) most new answer →
        IsFound limits run most ahead (verdict.Undecided (first + seen) cause.TooMany)
    run_too_many ahead new answer many step more = run_undecided most seen ahead more less (ended_far more)
        is.now.judging.explained (too_many_here limits first is.past events most seen e less read new answer step many
        is.now.judging.explained).2

  -- the run ends here
  seen_and_rest : (is.past ++ take seen events) ++ drop seen events ≡ is.past ++ events
  seen_and_rest = append_assoc is.past (take seen events) (drop seen events) ∙
      ap (λ (xs : List Event). is.past ++ xs) (take-append-drop seen events)

  seen_and_some : (k : ℕ) → (is.past ++ take seen events) ++ take k (drop seen events) ≡ is.past ++ take (seen + k)
      events
  seen_and_some k = append_assoc is.past (take seen events) (take k (drop seen events)) ∙
      ap (λ (xs : List Event). is.past ++ xs) (sym (take-add seen k events))

  pub rest_within : (k : ℕ) → k < length (drop seen events) → seen + k < length events
  rest_within k less = let rest : length (drop seen events) ≡ length events - seen = length-drop seen events in
      let within : seen ≤ length events = is.within in omega (arith, less, rest, within)

  -- a copy of the watch judges the events that were not seen, as they are read from a slice
  module _ (slice : List Event) (same : slice ≡ events) where
    rest_read : take (length slice - seen) (drop seen slice) ≡ drop seen events
    rest_read = take_rest slice seen ∙ ap (drop seen) same

    pub rest_judged : (copy : Watch) → IsCopy watch copy →
        IsJudging limits (first + seen) (is.past ++ take seen events) (take (length slice - seen) (drop seen slice))
        copy
    rest_judged copy copied =
        subst (λ (future : List Event). IsJudging limits (first + seen) (is.past ++ take seen events) future copy)
        (sym rest_read) (judging_copied limits (first + seen) (is.past ++ take seen events) (drop seen events) watch
        copy copied is.now.judging)

    pub rest_outcome : (most : ℕ) (outcome : Outcome) →
        IsOutcome limits (first + seen) (is.past ++ take seen events) (take (length slice - seen) (drop seen slice))
        most outcome →
        IsOutcome limits (first + seen) (is.past ++ take seen events) (drop seen events) most outcome
    rest_outcome most outcome found = subst (λ (xs : List Event).
        IsOutcome limits (first + seen) (is.past ++ take seen events) xs most outcome) rest_read found

  module _ (most : ℕ) (ahead : Option ℕ) where
    pub rest_explained :
        IsOutcome limits (first + seen) (is.past ++ take seen events) (drop seen events) most judged.Explained →
        IsRest limits run most ahead verdict.Explained
    rest_explained explained = (
      subst AreOfLanes (sym is.run_is) is.whole,
      subst (AreExplained limits) (seen_and_rest ∙ sym is.run_is) explained,
    )

    pub rest_stuck : (k : ℕ) →
        IsOutcome limits (first + seen) (is.past ++ take seen events) (drop seen events) most (judged.Unexplained k) →
        IsStuckBehind limits is.past events (seen + k)
    rest_stuck k outcome = record {
      explained = subst (AreExplained limits) (seen_and_some k) outcome.1;
      stuck = λ whole. outcome.2 (subst (AreExplained limits) (sym seen_and_rest) whole);
    }

    pub rest_undecided : (k : ℕ) →
        IsOutcome limits (first + seen) (is.past ++ take seen events) (drop seen events) most (judged.TooMany k) →
        IsRest limits run most ahead (verdict.Undecided (first + seen + k) cause.TooMany)
    rest_undecided k outcome later over =
        subst (λ (n : ℕ). IsVerdict limits (run ++ later) most ahead (verdict.Undecided n cause.TooMany))
        (sym (add_assoc first seen k)) (run_undecided most (seen + k) ahead later
        (rest_within k outcome.0)
        (over_far (first + (seen + k)) later over) (subst (AreExplained limits) (seen_and_some k) outcome.1) many)
      where
        many : AreTooMany limits (first + (seen + k)) (is.past ++ take (seen + k) events) (drop (seen + k) events) most
        many =
            subst (λ (n : ℕ). AreTooMany limits n (is.past ++ take (seen + k) events) (drop (seen + k) events) most)
            (add_assoc first seen k)
            (subst (λ (xs : List Event). AreTooMany limits (first + seen + k) xs (drop (seen + k) events) most)
            (seen_and_some k) (subst (λ (xs : List Event). AreTooMany limits (first + seen + k)
            ((is.past ++ take seen events) ++ take k (drop seen events)) xs most) (drop-drop k seen events) outcome.2))

-- what is found, whatever comes later
pub found_now : (limits : Bounds) (run : List Event) (most : ℕ) (ahead : Option ℕ) (v : Verdict) →
    IsFound limits run most ahead v →
    IsVerdict limits run most ahead v
found_now limits run most ahead v found =
    subst (λ (xs : List Event). IsVerdict limits xs most ahead v) (append-nil run) (found [])

pub found_later : (limits : Bounds) (run : List Event) (most : ℕ) (ahead : Option ℕ) (v : Verdict) (e : Event) →
    IsFound limits run most ahead v → IsFound limits (run ++ e ∷ []) most ahead v
found_later limits run most ahead v e found more =
    subst (λ (xs : List Event). IsVerdict limits xs most ahead v) (sym (append_assoc run (e ∷ []) more))
    (found (e ∷ more))

pub rest_found : (limits : Bounds) (run : List Event) (most : ℕ) (ahead : Option ℕ) (v : Verdict) →
    IsFound limits run most ahead v →
    IsRest limits run most ahead v
rest_found limits run most ahead verdict.Explained found = found_now limits run most ahead verdict.Explained found
rest_found limits run most ahead (verdict.Undecided k cause.TooMany) found = λ later over. found later
rest_found limits run most ahead (verdict.Undecided k cause.TooFar) found = found
rest_found limits run most ahead _ found = found

-- no event comes
pub over_here : (run : List Event) → IsOver run []
over_here run less whole =
    let same : length (run ++ []) ≡ length run = ap length (append-nil run) in omega (arith, less, same)

pub rest_now : (limits : Bounds) (run : List Event) (most : ℕ) (ahead : Option ℕ) (v : Verdict) →
    IsRest limits run most ahead v →
    IsVerdict limits run most ahead v
rest_now limits run most ahead verdict.Explained rest = rest
rest_now limits run most ahead (verdict.Undecided k cause.TooMany) rest =
    subst (λ (xs : List Event). IsVerdict limits xs most ahead (verdict.Undecided k cause.TooMany)) (append-nil run)
    (rest [] (over_here run))
rest_now limits run most ahead (verdict.Undecided k cause.TooFar) rest =
    found_now limits run most ahead (verdict.Undecided k cause.TooFar) rest
rest_now limits run most ahead which rest = found_now limits run most ahead which rest

-- an event that may not come there
module _ (limits : Bounds) (run : List Event) (most : ℕ) (ahead : Option ℕ) (place : ℕ) (e : Event)
    (at : place ≡ length run) (not_there : ¬ AreOfLanes (run ++ e ∷ [])) where
  cut_before : (more : List Event) → take place (run ++ e ∷ [] ++ more) ≡ run
  cut_before more = ap (λ (n : ℕ). take n (run ++ e ∷ [] ++ more)) at ∙
      ap (take (length run)) (append_assoc run (e ∷ []) more) ∙ take-append_seam run (e ∷ more)

  cut_behind_it : (more : List Event) → take (place + 1) (run ++ e ∷ [] ++ more) ≡ run ++ e ∷ []
  cut_behind_it more = ap (λ (n : ℕ). take n (run ++ e ∷ [] ++ more)) long ∙ take-append_seam (run ++ e ∷ []) more
    where
      long : place + 1 ≡ length (run ++ e ∷ [])
      long = let whole : length (run ++ e ∷ []) ≡ length run + length (e ∷ []) = length-append run (e ∷ []) in
          omega (arith, whole, at)

  it_follows : (more : List Event) → take (length run + 1) (run ++ e ∷ more) ≡ run ++ e ∷ []
  it_follows more = ap (λ (n : ℕ). take (n + 1) (run ++ e ∷ more)) (sym at) ∙
      ap (take (place + 1)) (sym (append_assoc run (e ∷ []) more)) ∙ cut_behind_it more

  pub over_broken : (more : List Event) → IsOver run (e ∷ more)
  over_broken more less whole = not_there (subst AreOfLanes (it_follows more) whole)

  pub broken_found : (v : Verdict) → IsRest limits run most ahead v →
      IsFound limits (run ++ e ∷ []) most ahead (broken_off v place)
  broken_found verdict.Explained rest more = (
    record {
      whole = subst AreOfLanes (sym (cut_before more)) rest.0;
      broken = λ whole. not_there (subst AreOfLanes (cut_behind_it more) whole);
    },
    subst (AreExplained limits) (sym (cut_before more)) rest.1,
  )
  broken_found (verdict.Undecided k cause.TooMany) rest more =
      subst (λ (xs : List Event). IsVerdict limits xs most ahead (verdict.Undecided k cause.TooMany))
      (sym (append_assoc run (e ∷ []) more)) (rest (e ∷ more) (over_broken more))
  broken_found (verdict.Undecided k cause.TooFar) rest more = found_later limits run most ahead
      (verdict.Undecided k cause.TooFar) e rest more
  broken_found which rest more = found_later limits run most ahead which e rest more
