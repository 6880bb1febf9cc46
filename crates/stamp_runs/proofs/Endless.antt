-- Calls that never end: what they got makes no difference.
use Rattle.std.proofs.Common.{◌≡◌, ◌≢◌, ◌⊎◌, ℕ, Bool, true, false, List, ◌∷◌, refl, sym, ◌∙◌, subst, inl, inr}
use Rattle.std.proofs.lemmas.Bool.{cases_eq, cases_Bool}
use Rattle.std.proofs.lemmas.List.Elements.{All-head, All-tail}
use Rattle.stamp_core.specs.declared.reply.Reply.{Reply}
use Rattle.stamp_runs.specs.declared.event.Event.{Event}
use Rattle.stamp_runs.specs.Object.{Object}
use Rattle.stamp_runs.specs.Run.{EndsNever, IsEndOf, Lanes, Phase, Sets, lane_of}
use Rattle.stamp_runs.specs.Run.Phase.{Idle, Gets}
use Rattle.stamp_runs.specs.Position.{AskAgain}
use Rattle.stamp_runs.proofs.Lanes.{asks_or_gets, happens_as, idle_or_gets, open_apart, pick, picks_first}
use Rattle.stamp_runs.proofs.Lanes.{picks_second, set_of, sets_by, sets_of, true_or_false}
use Rattle.stamp_runs.proofs.Going.{GoesOnIn}
use Rattle.stamp_runs.proofs.Going.GoesOnIn.{at_end, one_effect, one_event}

-- the next event is none of this lane's, and its call ends never after it
pub never_here : (event : Event) (events : List Event) (lane : ℕ) → EndsNever lane (event ∷ events) →
    ¬ IsEndOf lane event
never_here event events lane never = All-head (λ (e : Event). ¬ IsEndOf lane e) event events never

pub never_later : (event : Event) (events : List Event) (lane : ℕ) → EndsNever lane (event ∷ events) →
    EndsNever lane events
never_later event events lane never = All-tail (λ (e : Event). ¬ IsEndOf lane e) event events never

pub busy : {phase : Phase} → (reply : Reply) × (phase ≡ Gets reply) → phase ≡ Idle → ⊥
busy gets idle = idle_or_gets idle gets.1

-- where a lane of both becomes the same, the others are as they were
pub asking_on : {endless : ℕ → Bool} {a after b : Lanes} (u : ℕ) {phase : Phase} → endless u ≡ false →
    Sets a after u phase → AskAgain endless a b → AskAgain endless after (set_of b u phase)
asking_on {endless} {a} {after} {b} u {phase} not sets asking = record {
  in_effect = λ v is. let gets = asking.in_effect v is in (
    gets.0,
    sets.others v (λ e. true_or_false is (subst (λ (w : ℕ). endless w ≡ false) (sym e) not)) ∙ gets.1,
  );
  others = λ v none. alike v none (cases_eq v u);
}
  where
    alike : (v : ℕ) → endless v ≡ false → (v ≡ u) ⊎ (v ≢ u) → set_of b u phase v ≡ after v
    alike v none (inl same) = subst (λ (w : ℕ). set_of b u phase w ≡ after w) (sym same)
        ((sets_of b u phase).here ∙ sym sets.here)
    alike v none (inr beyond) = (sets_of b u phase).others v beyond ∙ asking.others v none ∙ sym (sets.others v beyond)

module _ {S : Type 0} (O : Object S) where
  pub asking_goes_on : {n : ℕ} {events : List Event} {s : S} {a : Lanes} (endless : ℕ → Bool) →
      ((v : ℕ) → endless v ≡ true → EndsNever v events) → GoesOnIn O n events s a → (b : Lanes) →
      AskAgain endless a b → GoesOnIn O n events s b
  asking_goes_on endless never at_end b asking = at_end
  asking_goes_on {a = a} endless never (one_effect {after = after} u c r asks step sets rest) b asking =
      one_effect u c r (asking.others u not ∙ asks) step (sets_of b u (Gets r))
      (asking_goes_on endless never rest (set_of b u (Gets r)) (asking_on u not sets asking))
    where
      by : (endless u ≡ true) ⊎ (endless u ≡ false) → endless u ≡ false
      by (inl is) = absurd (asks_or_gets asks (asking.in_effect u is).1)
      by (inr none) = none

      not : endless u ≡ false
      not = by (cases_Bool (endless u))
  asking_goes_on {a = a} endless never (one_event {events = events} {after = after} event happens rest) b asking =
      one_event event (happens_as a after b event happens (asking.others u not))
      (asking_goes_on endless (λ v is. never_later event events v (never v is)) rest (set_of b u (after u))
      (asking_on u not (sets_by a after event happens) asking))
    where
      u : ℕ
      u = lane_of event

      by : (endless u ≡ true) ⊎ (endless u ≡ false) → endless u ≡ false
      by (inl is) = absurd (open_apart a after event u (busy (asking.in_effect u is)) (never_here event events u
          (never u is)) happens refl)
      by (inr none) = none

      not : endless u ≡ false
      not = by (cases_Bool (endless u))

  -- one of them
  pub one_asks_on : {n : ℕ} {events : List Event} {s : S} {a : Lanes} (lane : ℕ) (gotten : Reply) (phase : Phase) →
      a lane ≡ Gets gotten → EndsNever lane events → GoesOnIn O n events s a → (b : Lanes) → Sets a b lane phase →
      GoesOnIn O n events s b
  one_asks_on {events = events} {a = a} lane gotten phase gets never way b sets = asking_goes_on only
      (λ v is. subst (λ (w : ℕ). EndsNever w events) (sym (is_it v is)) never) way b (record {
        in_effect = λ v is. (gotten, subst (λ (w : ℕ). a w ≡ Gets gotten) (sym (is_it v is)) gets);
        others = λ v not. sets.others v (λ e. true_or_false (picks_first (cases_eq v lane) true false e) not);
      })
    where
      only : ℕ → Bool
      only = λ v. pick (cases_eq v lane) true false

      is_it : (v : ℕ) → only v ≡ true → v ≡ lane
      is_it v is = by (cases_eq v lane)
        where
          by : (v ≡ lane) ⊎ (v ≢ lane) → v ≡ lane
          by (inl same) = same
          by (inr apart) = absurd (true_or_false is (picks_second (cases_eq v lane) true false apart))
