-- Letting go of the first events of a course.
use Rattle.std.proofs.Common.{ℕ, ◌≡◌, ◌+◌, ◌-◌, ◌≤◌, List, [], ◌∷◌, ◌++◌, length, sym, ◌∙◌, ap, subst, arith}
use Rattle.std.proofs.Common.{append_assoc}
use Rattle.std.specs.Prelude.{take, drop}
use Rattle.std.proofs.lemmas.List.{take-append-drop, take-append-le, take_rest, drop-append-le, drop-drop}
use Rattle.std.proofs.lemmas.List.{length-append, length-drop, length-take-le}
use Rattle.std.proofs.Math.Seq.{take-add, drop-append-add}
use Rattle.stamp_core.specs.Limits.{Bounds}
use Rattle.stamp_runs.specs.declared.event.Event.{Event}
use Rattle.stamp_sets.specs.declared.watch.Watch.{Watch}
use Rattle.stamp_watch.specs.Verdict.{AreOfLanes}
use Rattle.stamp_sets.specs.Watch.{IsCopy}
use Rattle.stamp_watch.specs.Course.{IsLooked, IsRunOn, IsSpare, IsStanding}
use Rattle.stamp_watch.proofs.Judged.{cut_behind, length_behind}
use Rattle.stamp_watch.proofs.Judging.{judging_copied}
use Rattle.stamp_watch.proofs.Running.{standing_up_to}

standing_copied : (limits : Bounds) (n : ℕ) (past future : List Event) (watch copy : Watch) → IsCopy watch copy →
    IsStanding limits n past future watch → IsStanding limits n past future copy
standing_copied limits n past future watch copy copied is = record {
  judging = judging_copied limits n past future watch copy copied is.judging;
  ended = is.ended;
}

-- a spare watch stays one when an event comes
pub spare_added : (limits : Bounds) (run : List Event) (place reach : ℕ) (spare : Watch) (e : Event) →
    IsSpare limits run place reach spare → IsSpare limits (run ++ e ∷ []) place reach spare
spare_added limits run place reach spare e is = record {
  within = let long : length (run ++ e ∷ []) ≡ length run + length (e ∷ []) = length-append run (e ∷ []) in
      let within : place + reach ≤ length run = is.within in omega (arith, long, within);
  standing = subst (λ (past : List Event). IsStanding limits place past (take reach (drop place (run ++ e ∷ [])))
      spare)
      (sym (take-append-le place run (e ∷ []) place_within))
      (subst (λ (future : List Event). IsStanding limits place (take place run) future spare) (sym same) is.standing);
}
  where
    place_within : place ≤ length run
    place_within = let within : place + reach ≤ length run = is.within in omega (arith, within)

    reach_within : reach ≤ length (drop place run)
    reach_within = let within : place + reach ≤ length run = is.within in
        let long : length (drop place run) ≡ length run - place = length-drop place run in omega (arith, within, long)

    same : take reach (drop place (run ++ e ∷ [])) ≡ take reach (drop place run)
    same = ap (λ (xs : List Event). take reach xs) (drop-append-le place run (e ∷ []) place_within) ∙
        take-append-le reach (drop place run) (e ∷ []) reach_within

module _ (limits : Bounds) (run : List Event) (first seen : ℕ) (events : List Event) (base watch : Watch)
    (is : IsRunOn limits run first seen events base watch) where
  -- the events of the run before and behind so many of those that are kept
  run_before : (k : ℕ) → take (first + k) run ≡ is.past ++ take k events
  run_before k = ap (λ (xs : List Event). take (first + k) xs) is.run_is ∙ cut_behind first k is.past events is.place

  pub run_behind : (k : ℕ) → drop (first + k) run ≡ drop k events
  run_behind k = ap (λ (xs : List Event). drop (first + k) xs) is.run_is ∙
      ap (λ (n : ℕ). drop (n + k) (is.past ++ events)) is.place ∙ drop-append-add is.past events k

  pub run_length : length run ≡ first + length events
  run_length = ap length is.run_is ∙ length_behind first is.past events is.place

  pub spare_within : (place reach : ℕ) (spare : Watch) → IsSpare limits run (first + place) reach spare →
      place + reach ≤ length events
  spare_within place reach spare spare_is = let within : first + place + reach ≤ length run = spare_is.within in
      let long : length run ≡ first + length events = run_length in omega (arith, within, long)

  -- a copy of the watch can be the spare one
  pub spare_here : (copy : Watch) (reach : ℕ) → IsCopy watch copy → reach ≡ length events - seen →
      IsSpare limits run (first + seen) reach copy
  spare_here copy reach copied rest = record {
    within = let long : length run ≡ first + length events = run_length in
        let within : seen ≤ length events = is.within in omega (arith, long, within, rest);
    standing = subst (λ (past : List Event). IsStanding limits (first + seen) past
        (take reach (drop (first + seen) run)) copy) (sym (run_before seen))
        (subst (λ (future : List Event). IsStanding limits (first + seen) (is.past ++ take seen events) future copy)
        (sym all) (standing_copied limits (first + seen) (is.past ++ take seen events) (drop seen events) watch copy
        copied is.now));
  }
    where
      all : take reach (drop (first + seen) run) ≡ drop seen events
      all = ap (λ (xs : List Event). take reach xs) (run_behind seen) ∙
          ap (λ (k : ℕ). take k (drop seen events)) rest ∙ take_rest events seen

  -- the spare watch can be the base
  module _ (place reach fresh : ℕ) (spare : Watch) (spare_is : IsSpare limits run (first + place) reach spare)
      (at : seen ≡ place + fresh) (ripe : reach ≤ fresh) where
    place_within : place ≤ length events
    place_within = let within : seen ≤ length events = is.within in omega (arith, within, at)

    stands_there : IsStanding limits (first + place) (is.past ++ take place events) (take reach (drop place events))
        spare
    stands_there = subst (λ (past : List Event). IsStanding limits (first + place) past
        (take reach (drop place events)) spare) (run_before place)
        (subst (λ (xs : List Event). IsStanding limits (first + place) (take (first + place) run) (take reach xs)
        spare) (run_behind place) spare_is.standing)

    seam : (is.past ++ take place events) ++ drop place events ≡ is.past ++ events
    seam = append_assoc is.past (take place events) (drop place events) ∙
        ap (λ (xs : List Event). is.past ++ xs) (take-append-drop place events)

    whole_there : AreOfLanes ((is.past ++ take place events) ++ drop place events)
    whole_there = subst AreOfLanes (sym seam) is.whole

    long_there : first + place ≡ length (is.past ++ take place events)
    long_there =
        let both : length (is.past ++ take place events) ≡ length is.past + length (take place events) =
        length-append is.past (take place events) in
        let few : length (take place events) ≡ place = length-take-le place events place_within in
        let low : first ≡ length is.past = is.place in omega (arith, both, few, low)

    within_there : fresh ≤ length (drop place events)
    within_there = let long : length (drop place events) ≡ length events - place = length-drop place events in
        let within : seen ≤ length events = is.within in omega (arith, long, within, at)

    past_there : is.past ++ take seen events ≡ (is.past ++ take place events) ++ take fresh (drop place events)
    past_there = ap (λ (n : ℕ). is.past ++ take n events) at ∙
        ap (λ (xs : List Event). is.past ++ xs) (take-add place fresh events) ∙
        sym (append_assoc is.past (take place events) (take fresh (drop place events)))

    future_there : drop seen events ≡ drop fresh (drop place events)
    future_there = ap (λ (n : ℕ). drop n events) at ∙ sym (drop-drop fresh place events)

    number_there : first + seen ≡ first + place + fresh
    number_there = omega (arith, at)

    now_there : IsStanding limits (first + place + fresh)
        ((is.past ++ take place events) ++ take fresh (drop place events)) (drop fresh (drop place events)) watch
    now_there = subst (λ (n : ℕ). IsStanding limits n
        ((is.past ++ take place events) ++ take fresh (drop place events)) (drop fresh (drop place events)) watch)
        number_there (subst (λ (past : List Event). IsStanding limits (first + seen) past
        (drop fresh (drop place events)) watch) past_there
        (subst (λ (future : List Event). IsStanding limits (first + seen) (is.past ++ take seen events) future watch)
        future_there is.now))

    pub run_let_go : (rest : List Event) → rest ≡ drop place events →
        IsRunOn limits run (first + place) fresh rest spare watch
    run_let_go rest same = subst (λ (xs : List Event). IsRunOn limits run (first + place) fresh xs spare watch)
        (sym same) (record {
          past = is.past ++ take place events;
          run_is = is.run_is ∙ sym seam;
          place = long_there;
          whole = whole_there;
          within = within_there;
          from_base = standing_up_to limits (first + place) reach fresh (is.past ++ take place events)
              (drop place events) spare whole_there ripe stands_there;
          now = now_there;
        })

    pub looked_let_go : (looked : ℕ) (rest : List Event) → rest ≡ drop place events →
        IsLooked looked (drop seen events) → IsLooked looked (drop fresh rest)
    looked_let_go looked rest same is_looked = subst (λ (xs : List Event). IsLooked looked (drop fresh xs)) (sym same)
        (subst (λ (xs : List Event). IsLooked looked xs) future_there is_looked)

    pub long_let_go : (rest : List Event) → rest ≡ drop place events →
        first + place + length rest ≡ first + length events
    long_let_go rest same =
        let long : length rest ≡ length events - place = ap length same ∙ length-drop place events in
        let within : place ≤ length events = place_within in omega (arith, long, within)
