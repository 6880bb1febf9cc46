-- Ways on, with a bound on how many calls take effect.
use Rattle.std.proofs.Common.{◌≡◌, ℕ, suc, List, [], ◌∷◌, ◌∙◌, subst}
use Rattle.stamp_core.specs.declared.call.Call.{Call}
use Rattle.stamp_core.specs.declared.reply.Reply.{Reply}
use Rattle.stamp_runs.specs.declared.event.Event.{Event}
use Rattle.stamp_runs.specs.declared.event.Event.TheVariants.{Returns, Withdraws}
use Rattle.stamp_runs.specs.Object.{Object}
use Rattle.stamp_runs.specs.Run.{EndsBy, Happens, Lanes, Leads, Sets, Survives}
use Rattle.stamp_runs.specs.Run.EndsBy.{ends_next, ends_later}
use Rattle.stamp_runs.specs.Run.Leads.{leads_nowhere, by_effect, by_event}
use Rattle.stamp_runs.specs.Run.Phase.{Asks, Gets}
use Rattle.stamp_runs.specs.Watching.{FitsOne, MayGet, Told}
use Rattle.stamp_runs.specs.Watching.Told.{Nothing, Returning, Withdrawing, Never}
use Rattle.stamp_runs.proofs.Lanes.{asks_or_gets, idle_or_gets, one_reply, open_apart, stays_beside}

-- along these events some way goes on from the configuration, on which at most so many calls take effect
pub data GoesOnIn {S : Type 0} (O : Object S) : ℕ → List Event → S → Lanes → Type 0 where
  at_end : {n : ℕ} {s : S} {lanes : Lanes} → GoesOnIn O n [] s lanes
  one_effect : {n : ℕ} {events : List Event} {s next : S} {lanes after : Lanes} (lane : ℕ) (call : Call)
      (reply : Reply) → lanes lane ≡ Asks call → O s call reply next → Sets lanes after lane (Gets reply) →
      GoesOnIn O n events next after → GoesOnIn O (suc n) events s lanes
  one_event : {n : ℕ} {events : List Event} {s : S} {lanes after : Lanes} (event : Event) →
      Happens event lanes after → GoesOnIn O n events s after → GoesOnIn O n (event ∷ events) s lanes

module _ {S : Type 0} (O : Object S) where
  pub survives : {n : ℕ} {events : List Event} {s : S} {l : Lanes} → GoesOnIn O n events s l → Survives O events s l
  survives at_end = record { state = _; last = _; way = leads_nowhere }
  survives (one_effect lane call reply asks step sets rest) = let on = survives rest in
      record { state = on.state; last = on.last; way = by_effect lane call reply asks step sets on.way }
  survives (one_event event happens rest) = let on = survives rest in
      record { state = on.state; last = on.last; way = by_event event happens on.way }

  pub goes_on_in : {events : List Event} {s t : S} {l m : Lanes} → Leads O events s l t m →
      (n : ℕ) × GoesOnIn O n events s l
  goes_on_in leads_nowhere = (0, at_end)
  goes_on_in (by_effect lane call reply asks step sets rest) = let on = goes_on_in rest in
      (suc on.0, one_effect lane call reply asks step sets on.1)
  goes_on_in (by_event event happens rest) = let on = goes_on_in rest in (on.0, one_event event happens on.1)

  pub more_in : {n : ℕ} {events : List Event} {s : S} {l : Lanes} → GoesOnIn O n events s l →
      GoesOnIn O (suc n) events s l
  more_in at_end = at_end
  more_in (one_effect lane call reply asks step sets rest) = one_effect lane call reply asks step sets (more_in rest)
  more_in (one_event event happens rest) = one_event event happens (more_in rest)

  -- a call in effect has the reply that is told of it
  pub gotten_is_told : {n : ℕ} {events : List Event} {s : S} {l : Lanes} (lane : ℕ) (gotten reply : Reply) →
      l lane ≡ Gets gotten → EndsBy lane (Returns lane reply) events → GoesOnIn O n events s l → gotten ≡ reply
  gotten_is_told lane gotten reply gets tells at_end = elim tells [ ]
  gotten_is_told {l = l} lane gotten reply gets tells (one_effect u c r asks step sets rest) =
      gotten_is_told lane gotten reply
      (sets.others lane (λ e. asks_or_gets asks (subst (λ (v : ℕ). l v ≡ Gets gotten) e gets)) ∙ gets) tells rest
  gotten_is_told lane gotten reply gets ends_next (one_event event happens rest) = one_reply gets happens.0
  gotten_is_told {l = l} lane gotten reply gets (ends_later itself not tells) (one_event {after = later} event happens
      rest) = gotten_is_told lane gotten reply (stays_beside l later event lane (open_apart l later event lane (λ idle.
      idle_or_gets idle gets) not happens) happens ∙ gets) tells rest

  -- a call that is withdrawn takes no effect
  pub withdrawn_is_not : {n : ℕ} {events : List Event} {s : S} {l : Lanes} (lane : ℕ) (gotten : Reply) →
      l lane ≡ Gets gotten → EndsBy lane (Withdraws lane) events → GoesOnIn O n events s l → ⊥
  withdrawn_is_not lane gotten gets tells at_end = elim tells [ ]
  withdrawn_is_not {l = l} lane gotten gets tells (one_effect u c r asks step sets rest) =
      withdrawn_is_not lane gotten
      (sets.others lane (λ e. asks_or_gets asks (subst (λ (v : ℕ). l v ≡ Gets gotten) e gets)) ∙ gets) tells rest
  withdrawn_is_not lane gotten gets ends_next (one_event event happens rest) = asks_or_gets happens.1 gets
  withdrawn_is_not {l = l} lane gotten gets (ends_later itself not tells) (one_event {after = later} event happens
      rest) = withdrawn_is_not lane gotten (stays_beside l later event lane (open_apart l later event lane (λ idle.
      idle_or_gets idle gets) not happens) happens ∙ gets) tells rest

  -- and any call has one that it may get
  pub may_get : {n : ℕ} {events : List Event} {s : S} {l : Lanes} (told : Told) (v : ℕ) (r : Reply) →
      FitsOne v told events → l v ≡ Gets r → GoesOnIn O n events s l → MayGet told r
  may_get Nothing v r fits gets way = tt
  may_get (Returning reply place) v r fits gets way = gotten_is_told v r reply gets fits way
  may_get Withdrawing v r fits gets way = withdrawn_is_not v r gets fits way
  may_get Never v r fits gets way = tt

  pub survives_effect : {events : List Event} {s next : S} {l after : Lanes} (lane : ℕ) (call : Call) (reply : Reply) →
      l lane ≡ Asks call → O s call reply next → Sets l after lane (Gets reply) → Survives O events next after →
      Survives O events s l
  survives_effect lane call reply asks step sets on =
      record { state = on.state; last = on.last; way = by_effect lane call reply asks step sets on.way }

  pub survives_event : {events : List Event} {s : S} {l after : Lanes} (event : Event) → Happens event l after →
      Survives O events s after → Survives O (event ∷ events) s l
  survives_event event happens on =
      record { state = on.state; last = on.last; way = by_event event happens on.way }
