-- Readers that are in effect: what goes on without them goes on with them.
use Rattle.std.proofs.Common.{◌≡◌, ◌≢◌, ◌⊎◌, ℕ, Bool, true, false, List, ◌∷◌, refl, sym, ◌∙◌, subst, inl, inr, suc}
use Rattle.std.proofs.lemmas.Bool.{cases_eq, cases_Bool}
use Rattle.stamp_core.specs.declared.call.Call.{Call}
use Rattle.stamp_core.specs.declared.reply.Reply.{Reply}
use Rattle.stamp_runs.specs.declared.event.Event.{Event}
use Rattle.stamp_runs.specs.declared.event.Event.TheVariants.{Returns}
use Rattle.stamp_runs.specs.Object.{Object}
use Rattle.stamp_runs.specs.Run.{EndsBy, Happens, Lanes, Phase, Sets, lane_of}
use Rattle.stamp_runs.specs.Run.EndsBy.{ends_next, ends_later}
use Rattle.stamp_runs.specs.Run.Phase.{Idle, Asks, Gets}
use Rattle.stamp_runs.specs.Position.{AreShown, IsReader}
use Rattle.stamp_runs.proofs.Lanes.{asks_or_gets, happens_as, idle_or_asks, idle_or_gets, one_call, open_apart, pick}
use Rattle.stamp_runs.proofs.Lanes.{picks_first, picks_second, set_of, sets_of, stays_beside}
use Rattle.stamp_runs.proofs.Lanes.{true_or_false}
use Rattle.stamp_runs.proofs.Going.{GoesOnIn, gotten_is_told, more_in}
use Rattle.stamp_runs.proofs.Going.GoesOnIn.{at_end, one_effect, one_event}

-- an end that comes is not that of another lane's call
pub ends_past : {v : ℕ} {r : Reply} {event : Event} {events : List Event} → EndsBy v (Returns v r) (event ∷ events) →
    lane_of event ≢ v → EndsBy v (Returns v r) events
ends_past ends_next apart = absurd (apart refl)
ends_past (ends_later event not later) apart = later

-- where the event is of the lane of an open call it is its end
pub ends_here : {v : ℕ} {end event : Event} {events : List Event} (a after : Lanes) → EndsBy v end (event ∷ events) →
    lane_of event ≡ v → (a v ≡ Idle → ⊥) → Happens event a after → event ≡ end
ends_here a after ends_next here busy happens = refl
ends_here {v} {event = event} a after (ends_later itself not later) here busy happens =
    absurd (open_apart a after event v busy not happens here)

module _ {S : Type 0} (O : Object S) (told : ℕ → Reply) where
  abbrev pub AllRead : (ℕ → Bool) → List Event → Lanes → Type 0
  AllRead readers events l = (v : ℕ) → readers v ≡ true → IsReader O v (told v) events (l v)

  is_busy : {v : ℕ} {events : List Event} {phase : Phase} → IsReader O v (told v) events phase → phase ≡ Idle → ⊥
  is_busy {v} {events} {phase} is idle = by is.phase_is
    where
      by : (phase ≡ Asks is.call) ⊎ ((reply : Reply) × (phase ≡ Gets reply)) → ⊥
      by (inl asks) = idle_or_asks idle asks
      by (inr gets) = idle_or_gets idle gets.1

  asked_call : {v : ℕ} {events : List Event} {phase : Phase} {c : Call} →
      (is : IsReader O v (told v) events phase) → phase ≡ Asks c → c ≡ is.call
  asked_call {v} {events} {phase} {c} is asks = by is.phase_is
    where
      by : (phase ≡ Asks is.call) ⊎ ((reply : Reply) × (phase ≡ Gets reply)) → c ≡ is.call
      by (inl same) = one_call asks same
      by (inr gets) = absurd (asks_or_gets asks gets.1)

  -- it is a reader in other lanes, and after the next event
  read_there : {v : ℕ} {events later : List Event} {phase other : Phase} → IsReader O v (told v) events phase →
      other ≡ phase → EndsBy v (Returns v (told v)) later → IsReader O v (told v) later other
  read_there {v} {events} {later} is same ends = record {
    call = is.call;
    still = is.still;
    phase_is = subst (λ (p : Phase). (p ≡ Asks is.call) ⊎ ((reply : Reply) × (p ≡ Gets reply))) (sym same) is.phase_is;
    ends = ends;
  }

  read_after : {readers : ℕ → Bool} {events : List Event} {a after : Lanes} (u : ℕ) (r : Reply) →
      AllRead readers events a → Sets a after u (Gets r) → AllRead readers events after
  read_after {readers} {events} {a} {after} u r each sets v is = by (cases_eq v u)
    where
      by : (v ≡ u) ⊎ (v ≢ u) → IsReader O v (told v) events (after v)
      by (inr apart) = read_there (each v is) (sets.others v apart) (each v is).ends
      by (inl same) = record {
        call = (each v is).call;
        still = (each v is).still;
        phase_is = inr (r, subst (λ (w : ℕ). after w ≡ Gets r) (sym same) sets.here);
        ends = (each v is).ends;
      }

  abbrev without : ℕ → (ℕ → Bool) → ℕ → Bool
  without u readers v = pick (cases_eq v u) false (readers v)

  still_reads : (readers : ℕ → Bool) {u v : ℕ} → without u readers v ≡ true → (v ≢ u) × (readers v ≡ true)
  still_reads readers {u} {v} is = (apart, by (cases_eq v u))
    where
      apart : v ≢ u
      apart same = true_or_false is (picks_first (cases_eq v u) false (readers v) same)

      by : (v ≡ u) ⊎ (v ≢ u) → readers v ≡ true
      by (inl same) = absurd (apart same)
      by (inr other) = sym (picks_second (cases_eq v u) false (readers v) other) ∙ is

  pub readers_go_on : {n : ℕ} {events : List Event} {s : S} {a : Lanes} (readers : ℕ → Bool) →
      AllRead readers events a → GoesOnIn O n events s a → (b : Lanes) → AreShown readers told a b →
      GoesOnIn O n events s b
  readers_go_on readers each at_end b shown = at_end
  readers_go_on {s = s} {a} readers each (one_effect {n = n} {events = events} {next = next} {after = after} u c r asks
      step sets rest) b shown = by (cases_Bool (readers u))
      (λ b1 shown1. readers_go_on readers (read_after u r each sets) rest b1 shown1)
    where
      by : (readers u ≡ true) ⊎ (readers u ≡ false) →
          ((b1 : Lanes) → AreShown readers told after b1 → GoesOnIn O n events next b1) →
          GoesOnIn O (suc n) events s b
      by (inl is) on = subst (λ (w : S). GoesOnIn O (suc n) events w b) stays (more_in O (on b (record {
        read = shown.read;
        others = λ v not. shown.others v not ∙ sym (sets.others v (λ e. true_or_false is
            (subst (λ (w : ℕ). readers w ≡ false) e not)));
      })))
        where
          stays : next ≡ s
          stays = (each u is).still s next (subst (λ (x : Reply). O s (each u is).call x next)
              (gotten_is_told O u r (told u) sets.here (each u is).ends rest)
              (subst (λ (x : Call). O s x r next) (asked_call (each u is) asks) step))
      by (inr not) on = one_effect u c r (shown.others u not ∙ asks) step (sets_of b u (Gets r)) (on
          (set_of b u (Gets r)) (record {
            read = λ v is. (sets_of b u (Gets r)).others v (λ e. true_or_false is
                (subst (λ (w : ℕ). readers w ≡ false) (sym e) not)) ∙ shown.read v is;
            others = λ v none. alike v none (cases_eq v u);
          }))
        where
          alike : (v : ℕ) → readers v ≡ false → (v ≡ u) ⊎ (v ≢ u) → set_of b u (Gets r) v ≡ after v
          alike v none (inl same) = subst (λ (w : ℕ). set_of b u (Gets r) w ≡ after w) (sym same)
              ((sets_of b u (Gets r)).here ∙ sym sets.here)
          alike v none (inr beyond) = (sets_of b u (Gets r)).others v beyond ∙ shown.others v none ∙
              sym (sets.others v beyond)
  readers_go_on {n = n} {s = s} {a} readers each (one_event {events = events} {after = after} event happens rest) b
      shown
      = by (cases_Bool (readers u))
      (λ readers1 each1 b1 shown1. readers_go_on readers1 each1 rest b1 shown1)
    where
      u : ℕ
      u = lane_of event

      each_then : (v : ℕ) → readers v ≡ true → u ≢ v → IsReader O v (told v) events (after v)
      each_then v is apart = read_there (each v is) (stays_beside a after event v apart happens)
          (ends_past (each v is).ends apart)

      by : (readers u ≡ true) ⊎ (readers u ≡ false) →
          ((readers1 : ℕ → Bool) → AllRead readers1 events after → (b1 : Lanes) → AreShown readers1 told after b1 →
          GoesOnIn O n events s b1) → GoesOnIn O n (event ∷ events) s b
      by (inr not) on = one_event event (happens_as a after b event happens (shown.others u not))
          (on readers (λ v is. each_then v is (other v is)) (set_of b u (after u)) (record {
            read = λ v is. (sets_of b u (after u)).others v (λ e. other v is (sym e)) ∙ shown.read v is;
            others = λ v none. alike v none (cases_eq v u);
          }))
        where
          other : (v : ℕ) → readers v ≡ true → u ≢ v
          other v is e = true_or_false is (subst (λ (w : ℕ). readers w ≡ false) e not)

          alike : (v : ℕ) → readers v ≡ false → (v ≡ u) ⊎ (v ≢ u) → set_of b u (after u) v ≡ after v
          alike v none (inl same) = subst (λ (w : ℕ). set_of b u (after u) w ≡ after w) (sym same)
              (sets_of b u (after u)).here
          alike v none (inr beyond) = (sets_of b u (after u)).others v beyond ∙ shown.others v none ∙
              sym (stays_beside a after event v (λ e. beyond (sym e)) happens)
      by (inl is) on = subst (λ (x : Event). GoesOnIn O n (x ∷ events) s b) (sym end) (one_event (Returns u (told u))
          (shown.read u is, sets_of b u Idle) (on (without u readers)
          (λ v still. each_then v (still_reads readers still).1 (λ e. (still_reads readers still).0 (sym e))) (set_of
          b u Idle) (record {
            read = λ v still. (sets_of b u Idle).others v (still_reads readers still).0 ∙ shown.read v
                (still_reads readers still).1;
            others = λ v none. alike v none (cases_eq v u);
          })))
        where
          end : event ≡ Returns u (told u)
          end = ends_here a after (each u is).ends refl (is_busy (each u is)) happens

          idle : after u ≡ Idle
          idle = (subst (λ (x : Event). Happens x a after) end happens).1.here

          alike : (v : ℕ) → without u readers v ≡ false → (v ≡ u) ⊎ (v ≢ u) → set_of b u Idle v ≡ after v
          alike v none (inl same) = subst (λ (w : ℕ). set_of b u Idle w ≡ after w) (sym same)
              ((sets_of b u Idle).here ∙ sym idle)
          alike v none (inr beyond) = (sets_of b u Idle).others v beyond ∙ shown.others v
              (sym (picks_second (cases_eq v u) false (readers v) beyond) ∙ none) ∙
              sym (stays_beside a after event v (λ e. beyond (sym e)) happens)
