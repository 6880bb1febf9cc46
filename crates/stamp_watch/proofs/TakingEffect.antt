-- The moment at which a call takes effect.
use Rattle.std.proofs.Common.{◌≡◌, ◌≢◌, ◌⊎◌, ℕ, List, [], ◌∷◌, ◌++◌, refl, sym, ◌∙◌, subst, inl, inr}
use Rattle.std.proofs.lemmas.Bool.{cases_eq}
use Rattle.stamp_core.specs.declared.call.Call.{Call}
use Rattle.stamp_core.specs.declared.reply.Reply.{Reply}
use Rattle.stamp_runs.specs.Object.{Object}
use Rattle.stamp_runs.specs.Run.{Happens, Lanes, Leads, Sets}
use Rattle.stamp_runs.specs.Run.Leads.{by_effect, by_event, leads_nowhere}
use Rattle.stamp_runs.specs.Run.Phase.{Asks, Gets}
use Rattle.stamp_runs.specs.declared.event.Event.{Event}
use Rattle.stamp_runs.proofs.Lanes.{asks_or_gets, one_call, one_reply, stays_beside}
use Rattle.stamp_watch.specs.Ahead.{IsSpared}
use Rattle.stamp_watch.proofs.Ways.{first_same, gets_still, no_empty, other_first, others_spared, rest_same}

module _ {S : Type 0} (O : Object S) where
  -- a way in two parts, between which the call of a lane takes effect
  pub record TakesEffect (events : List Event) (s : S) (a : Lanes) (t : S) (b : Lanes) (lane : ℕ) (call : Call)
      (reply : Reply) : Type 0 where
    pub before : List Event
    pub behind : List Event
    pub parts : events ≡ before ++ behind
    pub state : S
    pub asking : Lanes
    pub next : S
    pub answered : Lanes
    pub first : Leads O before s a state asking
    pub asks : asking lane ≡ Asks call
    pub step : O state call reply next
    pub sets : Sets asking answered lane (Gets reply)
    pub later : Leads O behind next answered t b

  -- where a call is not in effect at first, and is then
  pub takes_effect_between : {events : List Event} {s t : S} {a b : Lanes} (lane : ℕ) (call : Call) (reply : Reply) →
      IsSpared events lane → a lane ≡ Asks call → b lane ≡ Gets reply → Leads O events s a t b →
      TakesEffect events s a t b lane call reply
  takes_effect_between lane call reply spared asks gets leads_nowhere = absurd (asks_or_gets asks gets)
  takes_effect_between {events} {s} {t} {a} {b} lane call reply spared asks gets
      (by_effect {next = next} {after = after} u c r asks_u step sets rest) = by (cases_eq u lane)
      (λ apart. takes_effect_between lane call reply spared (sets.others lane (λ e. apart (sym e)) ∙ asks) gets rest)
    where
      by : (u ≡ lane) ⊎ (u ≢ lane) →
          (u ≢ lane → TakesEffect events next after t b lane call reply) → TakesEffect events s a t b lane call reply
      by (inr apart) on = let it = on apart in record {
        before = it.before;
        behind = it.behind;
        parts = it.parts;
        state = it.state;
        asking = it.asking;
        next = it.next;
        answered = it.answered;
        first = by_effect u c r asks_u step sets it.first;
        asks = it.asks;
        step = it.step;
        sets = it.sets;
        later = it.later;
      }
      by (inl same) on = record {
        before = [];
        behind = events;
        parts = refl;
        state = s;
        asking = a;
        next = next;
        answered = after;
        first = leads_nowhere;
        asks = asks;
        step = subst (λ (x : Reply). O s call x next) own
            (subst (λ (x : Call). O s x r next) (one_call (subst (λ (v : ℕ). a v ≡ Asks c) same asks_u) asks) step);
        sets = subst (λ (x : Reply). Sets a after lane (Gets x)) own
            (subst (λ (v : ℕ). Sets a after v (Gets r)) same sets);
        later = rest;
      }
        where
          own : r ≡ reply
          own = one_reply (gets_still lane r spared (subst (λ (v : ℕ). after v ≡ Gets r) same sets.here) rest) gets
  takes_effect_between {s = s} {a = a} lane call reply spared asks gets
      (by_event {events = events} {after = after} event happens rest) =
      let it = takes_effect_between lane call reply (others_spared lane event events spared)
      (stays_beside a after event lane (other_first lane event events spared) happens ∙ asks) gets rest in record {
        before = event ∷ it.before;
        behind = it.behind;
        parts = subst (λ (xs : List Event). event ∷ events ≡ event ∷ xs) it.parts refl;
        state = it.state;
        asking = it.asking;
        next = it.next;
        answered = it.answered;
        first = by_event event happens it.first;
        asks = it.asks;
        step = it.step;
        sets = it.sets;
        later = it.later;
      }

  -- a way comes to an event, which happens there
  pub record ComesTo (event : Event) (rest : List Event) (s : S) (a : Lanes) (t : S) (b : Lanes) : Type 0 where
    pub state : S
    pub lanes : Lanes
    pub after : Lanes
    pub first : Leads O [] s a state lanes
    pub happens : Happens event lanes after
    pub later : Leads O rest state after t b

  comes_along : {events : List Event} {s t : S} {a b : Lanes} (event : Event) (rest : List Event) →
      Leads O events s a t b → events ≡ event ∷ rest → ComesTo event rest s a t b
  comes_along event rest leads_nowhere is = absurd (no_empty is)
  comes_along event rest (by_effect u call r asks step sets way) is =
      let on = comes_along event rest way is in record {
        state = on.state;
        lanes = on.lanes;
        after = on.after;
        first = by_effect u call r asks step sets on.first;
        happens = on.happens;
        later = on.later;
      }
  comes_along {s = s} {t} {a} {b} event rest (by_event {after = after} first happens way) is = record {
    state = s;
    lanes = a;
    after = after;
    first = leads_nowhere;
    happens = subst (λ (e : Event). Happens e a after) (first_same is) happens;
    later = subst (λ (es : List Event). Leads O es s after t b) (rest_same is) way;
  }

  pub comes_to : {s t : S} {a b : Lanes} (event : Event) (rest : List Event) → Leads O (event ∷ rest) s a t b →
      ComesTo event rest s a t b
  comes_to event rest way = comes_along event rest way refl
