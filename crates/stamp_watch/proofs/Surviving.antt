-- In which order calls may take effect along the events of a run.
use Rattle.std.proofs.Common.{◌≡◌, ◌≢◌, ℕ, List, ◌∷◌, refl, ◌∙◌, subst, sym}
use Rattle.stamp_core.specs.declared.call.Call.{Call}
use Rattle.stamp_core.specs.declared.reply.Reply.{Reply}
use Rattle.stamp_runs.specs.declared.event.Event.{Event}
use Rattle.stamp_runs.specs.declared.event.Event.TheVariants.{Begins, Returns, Withdraws}
use Rattle.stamp_runs.specs.Object.{Object}
use Rattle.stamp_runs.specs.Run.{Happens, Lanes, Leads, Sets, Survives, lane_of}
use Rattle.stamp_runs.specs.Run.Leads.{by_effect, by_event}
use Rattle.stamp_runs.specs.Run.Phase.{Idle, Asks, Gets}
use Rattle.stamp_runs.proofs.Lanes.{happens_beside, stays_beside, asks_or_gets, idle_or_gets, one_reply, set_of}
use Rattle.stamp_runs.proofs.Lanes.{sets_alike, sets_of}
use Rattle.stamp_runs.proofs.Sets.{leads_survive}
use Rattle.stamp_watch.specs.WatchLaws.{BeginsAtOnce, BeginsFirst, ReturnsAtOnce, ReturnsFirst, TakesEffectFirst}
use Rattle.stamp_watch.specs.WatchLaws.{TakesEffectNext, WithdrawsAtOnce, WithdrawsFirst}
use Rattle.stamp_watch.specs.WatchLaws.{ShorterStayExplained, UnchangingNeverNeeded}
use Rattle.stamp_watch.specs.WatchLaws.{WithdrawnTakesNoEffect}
use Rattle.stamp_watch.proofs.Ways.{beside, sets_back, spared_while_open, survives_first, takes_beside, takes_effect}
use Rattle.stamp_watch.proofs.Ways.{withdrawn_is_not}

-- an event comes before others take effect
pub record ComesFirst {S : Type 0} (O : Object S) (event : Event) (events : List Event) (s : S) (lanes : Lanes) :
    Type 0
  where
    pub after : Lanes
    pub happens : Happens event lanes after
    pub survives : Survives O events s after

-- the call of a lane is in effect, if one returns
abbrev IsDue : Event → Lanes → Type 0
IsDue (Begins lane call) lanes = Unit {0}
IsDue (Returns lane reply) lanes = (gotten : Reply) × (lanes lane ≡ Gets gotten)
IsDue (Withdraws lane) lanes = Unit {0}

due_apart : {lanes after : Lanes} {u : ℕ} {call : Call} {reply : Reply} (then : Lanes) (event : Event) →
    IsDue event lanes →
    lanes u ≡ Asks call → Sets lanes after u (Gets reply) → Happens event after then → lane_of event ≢ u
due_apart {after = after} then (Begins lane call) due asks sets happens e =
    idle_or_gets (subst (λ (v : ℕ). after v ≡ Idle) e happens.0) sets.here
due_apart {lanes} then (Returns lane reply) due asks sets happens e =
    asks_or_gets asks (subst (λ (v : ℕ). lanes v ≡ Gets due.0) e due.1)
due_apart {after = after} then (Withdraws lane) due asks sets happens e =
    asks_or_gets (subst (λ (v : ℕ). after v ≡ Asks happens.0) e happens.1) sets.here

due_still : {lanes after : Lanes} {u : ℕ} {call : Call} {reply : Reply} (event : Event) → IsDue event lanes →
    lanes u ≡ Asks call → Sets lanes after u (Gets reply) → IsDue event after
due_still (Returns lane reply) due asks sets =
    (due.0, takes_beside asks sets (λ c is. asks_or_gets is refl) due.1)
due_still _ due asks sets = tt

module _ {S : Type 0} {O : Object S} where
  pub comes_first : {events : List Event} {s t : S} {a b : Lanes} (event : Event) → IsDue event a →
      Leads O (event ∷ events) s a t b → ComesFirst O event events s a
  comes_first {events} {s} {a = a} event due (by_effect {next = next} {after = after} u call reply asks step sets
      rest) = by (comes_first event (due_still event due asks sets) rest)
    where
      by : ComesFirst O event events next after → ComesFirst O event events s a
      by later = record {
        after = set_of later.after u (Asks call);
        happens = happens_beside event u (Asks call) apart later.happens (sets_back sets asks)
            (sets_of later.after u (Asks call));
        survives = takes_effect u call reply (sets_of later.after u (Asks call)).here step (record {
          here = stays_beside after later.after event u apart later.happens ∙ sets.here;
          others = λ v other. sym ((sets_of later.after u (Asks call)).others v other);
        }) later.survives;
      }
        where
          apart : lane_of event ≢ u
          apart = due_apart later.after event due asks sets later.happens
  comes_first event due (by_event first happens rest) =
      record { after = _; happens = happens; survives = leads_survive O rest }

module _ {S : Type 0} (O : Object S) where
  -- a call that begins next begins before others take effect
  pub begins_first : BeginsFirst O
  begins_first t call events s lanes way = by (comes_first (Begins t call) tt way.way)
    where
      by : ComesFirst O (Begins t call) events s lanes → BeginsAtOnce O t call events s lanes
      by first = record {
        idle = first.happens.0;
        survives = λ after sets. subst (Survives O events s)
            (sets_alike lanes first.after after t (Asks call) first.happens.1 sets)
            first.survives;
      }

  -- a call in effect that returns next returns before others take effect
  pub returns_first : ReturnsFirst O
  returns_first t reply gotten events s lanes gets way = by (comes_first (Returns t reply) (gotten, gets) way.way)
    where
      by : ComesFirst O (Returns t reply) events s lanes →
          ReturnsAtOnce O t reply gotten events s lanes
      by first = record {
        same = one_reply gets first.happens.0;
        survives = λ after sets. subst (Survives O events s)
            (sets_alike lanes first.after after t Idle first.happens.1 sets)
            first.survives;
      }

  -- a call that is withdrawn next is withdrawn before others take effect
  pub withdraws_first : WithdrawsFirst O
  withdraws_first t events s lanes way = by (comes_first (Withdraws t) tt way.way)
    where
      by : ComesFirst O (Withdraws t) events s lanes → WithdrawsAtOnce O t events s lanes
      by first = record {
        call = first.happens.0;
        asks = first.happens.1;
        survives = λ after sets. subst (Survives O events s)
            (sets_alike lanes first.after after t Idle first.happens.2 sets)
            first.survives;
      }

  -- where the call that returns next is not in effect, some call takes effect first
  pub takes_effect_first : TakesEffectFirst O
  takes_effect_first t reply call events s lanes asks way = by asks way.way
    where
      by : {u : S} {a b : Lanes} → a t ≡ Asks call →
          Leads O (Returns t reply ∷ events) s a u b →
          TakesEffectNext O (Returns t reply ∷ events) s a
      by asks (by_effect u c r asks_u step sets rest) = record {
        lane = u;
        call = c;
        reply = r;
        asks = asks_u;
        next = _;
        step = step;
        after = _;
        sets = sets;
        survives = leads_survive O rest;
      }
      by asks (by_event event happens rest) = absurd (asks_or_gets asks happens.0)

  -- a call that is withdrawn takes no effect
  pub withdrawn_takes_no_effect : WithdrawnTakesNoEffect O
  withdrawn_takes_no_effect t reply events s lanes gets withdrawn way =
      withdrawn_is_not t reply gets withdrawn way.way

  -- what goes on after a call that changed nothing and never returns goes on without it
  pub unchanging_never_needed : UnchangingNeverNeeded O
  unchanging_never_needed t call reply events s lanes after asks sets never way =
      subst (Survives O events s)
      (sets_alike after (set_of after t (Asks call)) lanes t (Asks call) (sets_of after t (Asks call))
      (sets_back sets asks)) (leads_survive O (beside t (Asks call)
      (spared_while_open t (λ idle. idle_or_gets idle sets.here) never way.way)
      (λ c r is. absurd (asks_or_gets is sets.here)) way.way))

-- what is explained is explained up to each of its events
pub shorter_stay_explained : ShorterStayExplained
shorter_stay_explained limits past future explained = survives_first past future explained
