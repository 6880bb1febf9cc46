-- Ways along the events of a run.
use Rattle.std.proofs.Common.{◌≡◌, ◌≢◌, ◌⊎◌, ℕ, List, [], ◌∷◌, ◌++◌, refl, sym, ◌∙◌, subst, inl, inr}
use Rattle.std.proofs.lemmas.Bool.{cases_eq}
use Rattle.std.proofs.lemmas.List.Elements.{All-cons, All-head, All-nil, All-tail, All-take, All-weaker}
use Rattle.std.specs.Prelude.{take}
use Rattle.stamp_core.specs.declared.call.Call.{Call}
use Rattle.stamp_core.specs.declared.reply.Reply.{Reply}
use Rattle.stamp_runs.specs.declared.event.Event.{Event}
use Rattle.stamp_runs.specs.declared.event.Event.TheVariants.{Begins, Returns, Withdraws}
use Rattle.stamp_runs.specs.Object.{Object}
use Rattle.stamp_runs.specs.Run.{EndsBy, Happens, IsEndOf, Lanes, Leads, Phase, Sets, Survives, lane_of}
use Rattle.stamp_runs.specs.Run.{EndsNever}
use Rattle.stamp_runs.specs.Run.EndsBy.{ends_next, ends_later}
use Rattle.stamp_runs.specs.Run.Leads.{leads_nowhere, by_effect, by_event}
use Rattle.stamp_runs.specs.Run.Phase.{Idle, Asks, Gets}
use Rattle.stamp_runs.proofs.Lanes.{happens_beside, open_apart, stays_beside, asks_or_gets, idle_or_gets, leads_on}
use Rattle.stamp_runs.proofs.Lanes.{set_of, sets_of, sets_swapped}
use Rattle.stamp_runs.proofs.Going as going
use Rattle.stamp_runs.proofs.Sets.{leads_survive}
use Rattle.stamp_watch.specs.Ahead.{IsSpared}

pub no_empty : {e : Event} {es : List Event} → [] ≡ e ∷ es → ⊥
no_empty same = cc

pub first_same : {d e : Event} {ds es : List Event} → d ∷ ds ≡ e ∷ es → d ≡ e
first_same same = cc

pub rest_same : {d e : Event} {ds es : List Event} → d ∷ ds ≡ e ∷ es → ds ≡ es
rest_same same = cc

-- what was set is set back
pub sets_back : {old new : Lanes} {lane : ℕ} {phase was : Phase} → Sets old new lane phase → old lane ≡ was →
    Sets new old lane was
sets_back sets is = record { here = is; others = λ other apart. sym (sets.others other apart) }

-- a call that takes effect leaves other lanes as they are, and keeps its own busy
pub takes_beside : {a b : Lanes} {u lane : ℕ} {call : Call} {reply : Reply} {phase : Phase} → a u ≡ Asks call →
    Sets a b u (Gets reply) → ((c : Call) → phase ≢ Asks c) → a lane ≡ phase → b lane ≡ phase
takes_beside {a} {u = u} {lane} {call} asks sets not is =
    sets.others lane (λ e. not call (sym is ∙ subst (λ (v : ℕ). a v ≡ Asks call) (sym e) asks)) ∙ is

pub still_busy : {a b : Lanes} {u lane : ℕ} {reply : Reply} → Sets a b u (Gets reply) → a lane ≢ Idle →
    b lane ≢ Idle
still_busy {a} {b} {u} {lane} {reply} sets busy idle = by (cases_eq lane u)
  where
    by : (lane ≡ u) ⊎ (lane ≢ u) → ⊥
    by (inl same) = idle_or_gets idle (subst (λ (v : ℕ). b v ≡ Gets reply) (sym same) sets.here)
    by (inr apart) = busy (sym (sets.others lane apart) ∙ idle)

-- none of these events is of the lane, or ends its call: so it is with the first, and the others
pub other_first : (lane : ℕ) (event : Event) (events : List Event) → IsSpared (event ∷ events) lane →
    lane_of event ≢ lane
other_first lane event events spared = All-head (λ (e : Event). lane_of e ≢ lane) event events spared

pub others_spared : (lane : ℕ) (event : Event) (events : List Event) → IsSpared (event ∷ events) lane →
    IsSpared events lane
others_spared lane event events spared = All-tail (λ (e : Event). lane_of e ≢ lane) event events spared

pub spared_one : (lane : ℕ) (event : Event) → lane_of event ≢ lane → IsSpared (event ∷ []) lane
spared_one lane event apart = All-cons (λ (e : Event). lane_of e ≢ lane) event [] apart
    (All-nil (λ (e : Event). lane_of e ≢ lane))

pub not_end : (lane : ℕ) (event : Event) (events : List Event) → EndsNever lane (event ∷ events) →
    ¬ IsEndOf lane event
not_end lane event events never = All-head (λ (e : Event). ¬ IsEndOf lane e) event events never

pub never_later : (lane : ℕ) (event : Event) (events : List Event) → EndsNever lane (event ∷ events) →
    EndsNever lane events
never_later lane event events never = All-tail (λ (e : Event). ¬ IsEndOf lane e) event events never

-- what ends a call is of its lane
pub ends_own : (lane : ℕ) (event : Event) → lane_of event ≢ lane → ¬ IsEndOf lane event
ends_own lane (Begins u call) apart ends = ends
ends_own lane _ apart ends = apart ends

pub never_among : (lane : ℕ) (events : List Event) → IsSpared events lane → EndsNever lane events
never_among lane events spared =
    All-weaker (λ (e : Event). lane_of e ≢ lane) (λ (e : Event). ¬ IsEndOf lane e) (ends_own lane) events spared

pub never_of_spared : (lane n : ℕ) (events : List Event) → IsSpared events lane → EndsNever lane (take n events)
never_of_spared lane n events spared =
    All-take (λ (e : Event). ¬ IsEndOf lane e) n events (never_among lane events spared)

-- a call ends behind events that don't end it
pub ends_past : {lane : ℕ} {end : Event} (before rest : List Event) → EndsNever lane before → EndsBy lane end rest →
    EndsBy lane end (before ++ rest)
ends_past [] rest never ends = ends
ends_past {lane} (event ∷ before) rest never ends = ends_later event (not_end lane event before never)
    (ends_past before rest (never_later lane event before never) ends)

pub ends_behind : {lane : ℕ} {end : Event} (before rest : List Event) → EndsNever lane before → IsEndOf lane end →
    EndsBy lane end (before ++ rest) → EndsBy lane end rest
ends_behind [] rest never is ends = ends
ends_behind {lane} (event ∷ before) rest never is ends_next = absurd (not_end lane event before never is)
ends_behind {lane} (event ∷ before) rest never is (ends_later first not later) =
    ends_behind before rest (never_later lane event before never) is later

module _ {S : Type 0} {O : Object S} where
  -- some way goes on
  pub at_end : {s : S} {lanes : Lanes} → Survives O [] s lanes
  at_end = record { state = _; last = _; way = leads_nowhere }

  pub takes_effect : {events : List Event} {s next : S} {lanes after : Lanes} (lane : ℕ) (call : Call)
      (reply : Reply) →
      lanes lane ≡ Asks call → O s call reply next → Sets lanes after lane (Gets reply) →
      Survives O events next after →
      Survives O events s lanes
  takes_effect lane call reply asks step sets rest =
      record { state = rest.state; last = rest.last; way = by_effect lane call reply asks step sets rest.way }

  pub comes_next : {events : List Event} {s : S} {lanes after : Lanes} (event : Event) → Happens event lanes after →
      Survives O events s after → Survives O (event ∷ events) s lanes
  comes_next event happens rest =
      record { state = rest.state; last = rest.last; way = by_event event happens rest.way }

  pub survives_on : {past more : List Event} {s t : S} {a b : Lanes} → Leads O past s a t b → Survives O more t b →
      Survives O (past ++ more) s a
  survives_on way later = leads_survive O (leads_on way later.way)

-- a way in two parts
pub record InTwo {S : Type 0} (O : Object S) (past rest : List Event) (s : S) (a : Lanes) (t : S) (b : Lanes) : Type 0
  where
    pub state : S
    pub lanes : Lanes
    pub before : Leads O past s a state lanes
    pub behind : Leads O rest state lanes t b

module _ {S : Type 0} {O : Object S} where
  all_behind : {events rest : List Event} {s t : S} {a b : Lanes} → Leads O events s a t b → events ≡ rest →
      InTwo O [] rest s a t b
  all_behind {s = s} {t} {a} {b} way same = record {
    state = s;
    lanes = a;
    before = leads_nowhere;
    behind = subst (λ (es : List Event). Leads O es s a t b) same way;
  }

  cut_at : {events : List Event} {s t : S} {a b : Lanes} → Leads O events s a t b → (past rest : List Event) →
      events ≡ past ++ rest → InTwo O past rest s a t b
  cut_at leads_nowhere [] rest same = all_behind leads_nowhere same
  cut_at leads_nowhere (event ∷ past) rest same = absurd (no_empty same)
  cut_at (by_effect lane call reply asks step sets way) [] rest same =
      all_behind (by_effect lane call reply asks step sets way) same
  cut_at (by_effect lane call reply asks step sets way) (event ∷ past) rest same =
      let two = cut_at way (event ∷ past) rest same in record {
        state = two.state;
        lanes = two.lanes;
        before = by_effect lane call reply asks step sets two.before;
        behind = two.behind;
      }
  cut_at (by_event first happens way) [] rest same = all_behind (by_event first happens way) same
  cut_at {s = s} {a = a} (by_event first happens way) (event ∷ past) rest same =
      let two = cut_at way past rest (rest_same same) in record {
        state = two.state;
        lanes = two.lanes;
        before = subst (λ (e : Event). Leads O (e ∷ past) s a two.state two.lanes) (first_same same)
            (by_event first happens two.before);
        behind = two.behind;
      }

  pub cut : {s t : S} {a b : Lanes} (past rest : List Event) → Leads O (past ++ rest) s a t b →
      InTwo O past rest s a t b
  cut past rest way = cut_at way past rest refl

  pub survives_first : {s : S} {a : Lanes} (past rest : List Event) → Survives O (past ++ rest) s a →
      Survives O past s a
  survives_first past rest way = leads_survive O (cut past rest way.way).before

  -- a call in effect has the reply that is told of it, and is not withdrawn
  pub gotten_is_told : {events : List Event} {s t : S} {a b : Lanes} (lane : ℕ) (gotten reply : Reply) →
      a lane ≡ Gets gotten → EndsBy lane (Returns lane reply) events → Leads O events s a t b → gotten ≡ reply
  gotten_is_told lane gotten reply gets tells way = going.gotten_is_told O lane gotten reply gets tells
      (going.goes_on_in O way).1

  pub withdrawn_is_not : {events : List Event} {s t : S} {a b : Lanes} (lane : ℕ) (gotten : Reply) →
      a lane ≡ Gets gotten → EndsBy lane (Withdraws lane) events → ¬ Leads O events s a t b
  withdrawn_is_not lane gotten gets withdrawn way =
      going.withdrawn_is_not O lane gotten gets withdrawn (going.goes_on_in O way).1

  -- an idle lane, and a call in effect, stay what they are where no event is of the lane
  pub stays : {events : List Event} {s t : S} {a b : Lanes} (lane : ℕ) (phase : Phase) →
      ((call : Call) → phase ≢ Asks call) → IsSpared events lane → a lane ≡ phase → Leads O events s a t b →
      b lane ≡ phase
  stays lane phase not spared is leads_nowhere = is
  stays lane phase not spared is (by_effect u call reply asks step sets rest) =
      stays lane phase not spared (takes_beside asks sets not is) rest
  stays {a = a} lane phase not spared is (by_event {events = events} {after = after} event happens rest) =
      stays lane phase not (others_spared lane event events spared)
      (stays_beside a after event lane (other_first lane event events spared) happens ∙ is) rest

  pub gets_still : {events : List Event} {s t : S} {a b : Lanes} (lane : ℕ) (reply : Reply) → IsSpared events lane →
      a lane ≡ Gets reply → Leads O events s a t b → b lane ≡ Gets reply
  gets_still lane reply spared gets way = stays lane (Gets reply) (λ call is. asks_or_gets is refl) spared gets way

  -- so does a call that does not take effect
  pub asks_still : {events : List Event} {s t : S} {a b : Lanes} (lane : ℕ) (call : Call) → IsSpared events lane →
      a lane ≡ Asks call → ((reply : Reply) → b lane ≢ Gets reply) → Leads O events s a t b → b lane ≡ Asks call
  asks_still lane call spared asks none leads_nowhere = asks
  asks_still lane call spared asks none (by_effect {after = after} u c reply asks_u step sets rest) =
      asks_still lane call spared (sets.others lane (λ e. none reply (gets_still lane reply spared
      (subst (λ (v : ℕ). after v ≡ Gets reply) (sym e) sets.here) rest)) ∙ asks) none rest
  asks_still {a = a} lane call spared asks none (by_event {events = events} {after = after} event happens rest) =
      asks_still lane call (others_spared lane event events spared)
      (stays_beside a after event lane (other_first lane event events spared) happens ∙ asks) none rest

  -- a lane that is idle then was idle
  pub was_idle : {events : List Event} {s t : S} {a b : Lanes} (lane : ℕ) → IsSpared events lane → b lane ≡ Idle →
      Leads O events s a t b → a lane ≡ Idle
  was_idle lane spared idle leads_nowhere = idle
  was_idle lane spared idle (by_effect {after = after} u call reply asks step sets rest) =
      let later : after lane ≡ Idle = was_idle lane spared idle rest in
      sym (sets.others lane (λ e. idle_or_gets later (subst (λ (v : ℕ). after v ≡ Gets reply) (sym e) sets.here))) ∙
      later
  was_idle {a = a} lane spared idle (by_event {events = events} {after = after} event happens rest) =
      sym (stays_beside a after event lane (other_first lane event events spared) happens) ∙
      was_idle lane (others_spared lane event events spared) idle rest

  -- where a lane has a call that does not end, no event is of it
  pub spared_while_open : {events : List Event} {s t : S} {a b : Lanes} (lane : ℕ) → a lane ≢ Idle →
      EndsNever lane events → Leads O events s a t b → IsSpared events lane
  spared_while_open lane busy never leads_nowhere = All-nil (λ (e : Event). lane_of e ≢ lane)
  spared_while_open lane busy never (by_effect u call reply asks step sets rest) =
      spared_while_open lane (still_busy sets busy) never rest
  spared_while_open {a = a} lane busy never (by_event {events = events} {after = after} event happens rest) =
      let apart : lane_of event ≢ lane = open_apart a after event lane busy (not_end lane event events never)
      happens in
      All-cons (λ (e : Event). lane_of e ≢ lane) event events apart (spared_while_open lane
      (λ idle. busy (sym (stays_beside a after event lane apart happens) ∙ idle))
      (never_later lane event events never) rest)

  -- where no event is of a lane and its call does not take effect, the lane may be about anything else
  pub beside : {events : List Event} {s t : S} {a b : Lanes} (lane : ℕ) (phase : Phase) → IsSpared events lane →
      ((call : Call) (reply : Reply) → a lane ≡ Asks call → b lane ≢ Gets reply) → Leads O events s a t b →
      Leads O events s (set_of a lane phase) t (set_of b lane phase)
  beside lane phase spared none leads_nowhere = leads_nowhere
  beside {a = a} lane phase spared none (by_effect {after = after} u call reply asks step sets rest) =
      by_effect u call reply ((sets_of a lane phase).others u apart ∙ asks) step
      (sets_swapped a after (set_of a lane phase) (set_of after lane phase) u lane (Gets reply) phase apart sets
      (sets_of a lane phase) (sets_of after lane phase))
      (beside lane phase spared (λ c r is. none c r (sym (sets.others lane (λ e. apart (sym e))) ∙ is)) rest)
    where
      apart : u ≢ lane
      apart e = none call reply (subst (λ (v : ℕ). a v ≡ Asks call) e asks)
          (gets_still lane reply spared (subst (λ (v : ℕ). after v ≡ Gets reply) e sets.here) rest)
  beside {a = a} lane phase spared none (by_event {events = events} {after = after} event happens rest) =
      by_event event (happens_beside event lane phase apart happens (sets_of a lane phase) (sets_of after lane phase))
      (beside lane phase (others_spared lane event events spared)
      (λ c r is. none c r (sym (stays_beside a after event lane apart happens) ∙ is)) rest)
    where
      apart : lane_of event ≢ lane
      apart = other_first lane event events spared
