-- The calls that are still to take effect, event by event.
use Rattle.std.proofs.Common.{◌≡◌, ◌≢◌, ◌⊎◌, ℕ, ◌+◌, ◌<◌, ◌≤◌, List, ◌∷◌, refl, sym, ◌∙◌, subst, inl, inr, arith}
use Rattle.std.proofs.Common.{Some, ap}
use Rattle.std.specs.List.{Contains}
use Rattle.std.proofs.lemmas.Bool.{cases_eq}
use Rattle.stamp_core.specs.declared.call.Call.{Call}
use Rattle.stamp_core.specs.declared.reply.Reply.{Reply}
use Rattle.stamp_explain.specs.declared.observed.Observation.{Observation}
use Rattle.stamp_explain.specs.declared.observed.Returned.{Returned}
use Rattle.stamp_runs.specs.declared.event.Event.{Event}
use Rattle.stamp_runs.specs.declared.event.Event.TheVariants.{Begins, Returns, Withdraws}
use Rattle.stamp_runs.specs.Run.{Happens, Lanes, Sets, lane_of}
use Rattle.stamp_runs.specs.Run.Phase.{Idle, Asks, Gets}
use Rattle.stamp_runs.proofs.Lanes.{idle_or_asks, idle_or_gets, asks_or_gets, one_call, one_reply, pick, picks_first}
use Rattle.stamp_runs.proofs.Lanes.{picks_second}
use Rattle.stamp_watch.specs.AsObserved.{Ending, ending_of, entries_from}
use Rattle.stamp_watch.proofs.Ways.{ends_own}
use Rattle.stamp_watch.proofs.Numbered.{IsEntryOf, IsReplyOf, entry_tells, entry_returned, in_with_entry}
use Rattle.stamp_watch.proofs.Numbered.{with_entry_has, first_from, last_from, ending_last, return_ends, ending_spares}
use Rattle.stamp_watch.proofs.Numbered.{withdrawal_ends}

-- at which event the open call of each lane began, once one more has
abbrev pub begun_at : (ℕ → ℕ) → ℕ → ℕ → ℕ → ℕ
begun_at begun lane n = λ (other : ℕ). pick (cases_eq other lane) n (begun other)

pub begun_here : (begun : ℕ → ℕ) (lane n : ℕ) → begun_at begun lane n lane ≡ n
begun_here begun lane n = picks_first (cases_eq lane lane) n (begun lane) refl

pub begun_there : (begun : ℕ → ℕ) (lane n other : ℕ) → other ≢ lane → begun_at begun lane n other ≡ begun other
begun_there begun lane n other apart = picks_second (cases_eq other lane) n (begun other) apart

-- the entry of a call that may still take effect: one that is open and not in effect, or that begins later
pub data IsAhead (lanes : Lanes) (begun : ℕ → ℕ) (n : ℕ) (events : List Event) (e : Observation) : Type 0 where
  of_open : (lane : ℕ) (call : Call) → lanes lane ≡ Asks call →
      IsEntryOf lane call (begun lane) (ending_of lane n events) e → IsAhead lanes begun n events e
  of_later : Contains (entries_from n events) e → IsAhead lanes begun n events e

-- a call begins
pub begins_there : (lanes after : Lanes) (begun : ℕ → ℕ) (lane n : ℕ) (call : Call) (events : List Event)
    (e : Observation) → lanes lane ≡ Idle → Sets lanes after lane (Asks call) →
    IsAhead lanes begun n (Begins lane call ∷ events) e → IsAhead after (begun_at begun lane n) (n + 1) events e
begins_there lanes after begun lane n call events e idle sets (of_open other c asks is) =
    of_open other c (sets.others other apart ∙ asks)
    (subst (λ (k : ℕ). IsEntryOf other c k (ending_of other (n + 1) events) e)
    (sym (begun_there begun lane n other apart)) is)
  where
    apart : other ≢ lane
    apart same = idle_or_asks idle (subst (λ (v : ℕ). lanes v ≡ Asks c) same asks)
begins_there lanes after begun lane n call events e idle sets (of_later has) =
    by (in_with_entry lane call n (ending_of lane (n + 1) events) (entries_from (n + 1) events) e has)
  where
    by : IsEntryOf lane call n (ending_of lane (n + 1) events) e ⊎ Contains (entries_from (n + 1) events) e →
        IsAhead after (begun_at begun lane n) (n + 1) events e
    by (inl is) = of_open lane call sets.here
        (subst (λ (k : ℕ). IsEntryOf lane call k (ending_of lane (n + 1) events) e) (sym (begun_here begun lane n)) is)
    by (inr later) = of_later later

pub begins_back : (lanes after : Lanes) (begun : ℕ → ℕ) (lane n : ℕ) (call : Call) (events : List Event)
    (e : Observation) → Sets lanes after lane (Asks call) →
    IsAhead after (begun_at begun lane n) (n + 1) events e → IsAhead lanes begun n (Begins lane call ∷ events) e
begins_back lanes after begun lane n call events e sets (of_open other c asks is) = by (cases_eq other lane)
  where
    by : (other ≡ lane) ⊎ (other ≢ lane) → IsAhead lanes begun n (Begins lane call ∷ events) e
    by (inl same) = of_later (with_entry_has lane call n (ending_of lane (n + 1) events) (entries_from (n + 1) events)
        e (inl (subst (λ (k : ℕ). IsEntryOf lane call k (ending_of lane (n + 1) events) e) (begun_here begun lane n)
        (subst (λ (x : Call). IsEntryOf lane x (begun_at begun lane n lane) (ending_of lane (n + 1) events) e) its
        (subst (λ (v : ℕ). IsEntryOf v c (begun_at begun lane n v) (ending_of v (n + 1) events) e) same is)))))
      where
        its : c ≡ call
        its = one_call (subst (λ (v : ℕ). after v ≡ Asks c) same asks) sets.here
    by (inr apart) = of_open other c (sym (sets.others other apart) ∙ asks)
        (subst (λ (k : ℕ). IsEntryOf other c k (ending_of other (n + 1) events) e)
        (begun_there begun lane n other apart) is)
begins_back lanes after begun lane n call events e sets (of_later has) = of_later (with_entry_has lane call n
    (ending_of lane (n + 1) events) (entries_from (n + 1) events) e (inr has))

-- an event that ends the call of this lane, and of no other; what begins later begins behind it
pub record EndsOne (lanes : Lanes) (begun : ℕ → ℕ) (lane n : ℕ) (event : Event) (events : List Event) : Type 0 where
  pub spares : (other : ℕ) → other ≢ lane → ending_of other n (event ∷ events) ≡ ending_of other (n + 1) events
  pub later : entries_from n (event ∷ events) ≡ entries_from (n + 1) events
  pub gone : (call : Call) (e : Observation) → lanes lane ≡ Asks call →
      ¬ IsEntryOf lane call (begun lane) (ending_of lane n (event ∷ events)) e

pub ends_there : (lanes after : Lanes) (begun : ℕ → ℕ) (lane n : ℕ) (event : Event) (events : List Event)
    (e : Observation) → Sets lanes after lane Idle → EndsOne lanes begun lane n event events →
    IsAhead lanes begun n (event ∷ events) e → IsAhead after begun (n + 1) events e
ends_there lanes after begun lane n event events e sets ends (of_open other c asks is) = by (cases_eq other lane)
  where
    by : (other ≡ lane) ⊎ (other ≢ lane) → IsAhead after begun (n + 1) events e
    by (inl same) = absurd (ends.gone c e (subst (λ (v : ℕ). lanes v ≡ Asks c) same asks)
        (subst (λ (v : ℕ). IsEntryOf v c (begun v) (ending_of v n (event ∷ events)) e) same is))
    by (inr apart) = of_open other c (sets.others other apart ∙ asks)
        (subst (λ (x : Ending). IsEntryOf other c (begun other) x e) (ends.spares other apart) is)
ends_there lanes after begun lane n event events e sets ends (of_later has) =
    of_later (subst (λ (es : List Observation). Contains es e) ends.later has)

pub ends_back : (lanes after : Lanes) (begun : ℕ → ℕ) (lane n : ℕ) (event : Event) (events : List Event)
    (e : Observation) → Sets lanes after lane Idle → EndsOne lanes begun lane n event events →
    IsAhead after begun (n + 1) events e → IsAhead lanes begun n (event ∷ events) e
ends_back lanes after begun lane n event events e sets ends (of_open other c asks is) =
    of_open other c (sym (sets.others other apart) ∙ asks)
    (subst (λ (x : Ending). IsEntryOf other c (begun other) x e) (sym (ends.spares other apart)) is)
  where
    apart : other ≢ lane
    apart same = idle_or_asks sets.here (subst (λ (v : ℕ). after v ≡ Asks c) same asks)
ends_back lanes after begun lane n event events e sets ends (of_later has) =
    of_later (subst (λ (es : List Observation). Contains es e) (sym ends.later) has)

-- a call takes effect
pub takes_there : (lanes after : Lanes) (begun : ℕ → ℕ) (lane n : ℕ) (call : Call) (reply : Reply)
    (events : List Event) (e : Observation) → lanes lane ≡ Asks call → Sets lanes after lane (Gets reply) →
    IsAhead lanes begun n events e →
    IsAhead after begun n events e ⊎ IsEntryOf lane call (begun lane) (ending_of lane n events) e
takes_there lanes after begun lane n call reply events e asks sets (of_open other c asks_other is) =
    by (cases_eq other lane)
  where
    by : (other ≡ lane) ⊎ (other ≢ lane) →
        IsAhead after begun n events e ⊎ IsEntryOf lane call (begun lane) (ending_of lane n events) e
    by (inl same) = inr (subst (λ (x : Call). IsEntryOf lane x (begun lane) (ending_of lane n events) e)
        (one_call (subst (λ (v : ℕ). lanes v ≡ Asks c) same asks_other) asks)
        (subst (λ (v : ℕ). IsEntryOf v c (begun v) (ending_of v n events) e) same is))
    by (inr apart) = inl (of_open other c (sets.others other apart ∙ asks_other) is)
takes_there lanes after begun lane n call reply events e asks sets (of_later has) = inl (of_later has)

pub takes_back : (lanes after : Lanes) (begun : ℕ → ℕ) (lane n : ℕ) (reply : Reply) (events : List Event)
    (e : Observation) → Sets lanes after lane (Gets reply) → IsAhead after begun n events e →
    IsAhead lanes begun n events e
takes_back lanes after begun lane n reply events e sets (of_open other c asks is) =
    of_open other c (sym (sets.others other apart) ∙ asks) is
  where
    apart : other ≢ lane
    apart same = asks_or_gets (subst (λ (v : ℕ). after v ≡ Asks c) same asks) sets.here
takes_back lanes after begun lane n reply events e sets (of_later has) = of_later has

-- then its entry is no longer ahead
pub takes_apart : (lanes after : Lanes) (begun : ℕ → ℕ) (lane n : ℕ) (call : Call) (reply : Reply)
    (events : List Event) (e : Observation) → begun lane < n → Sets lanes after lane (Gets reply) →
    IsEntryOf lane call (begun lane) (ending_of lane n events) e → ¬ IsAhead after begun n events e
takes_apart lanes after begun lane n call reply events e low sets is (of_open other c asks is_other) = asks_or_gets
    (subst (λ (v : ℕ). after v ≡ Asks c) same asks) sets.here
  where
    same : other ≡ lane
    same = sym (entry_tells other c (begun other) (ending_of other n events) e is_other).its_lane ∙
        (entry_tells lane call (begun lane) (ending_of lane n events) e is).its_lane
takes_apart lanes after begun lane n call reply events e low sets is (of_later has) =
    let later = first_from n events e has in
    let at = (entry_tells lane call (begun lane) (ending_of lane n events) e is).its_first in absurd (omega arith)

-- what is ahead returns no sooner
pub ahead_last : (lanes : Lanes) (begun : ℕ → ℕ) (n : ℕ) (events : List Event) (e : Observation) (r : Returned) →
    IsAhead lanes begun n events e → e.returned ≡ Some r → n ≤ r.last
ahead_last lanes begun n events e r (of_open lane call asks is) back =
    ending_last lane n events r (entry_returned lane call (begun lane) (ending_of lane n events) e r is back)
ahead_last lanes begun n events e r (of_later has) back =
    let later = last_from n events e r has back in omega arith

-- in the opening nothing is open
pub ahead_at_first : (lanes : Lanes) (begun : ℕ → ℕ) (events : List Event) (e : Observation) →
    ((lane : ℕ) → lanes lane ≡ Idle) → IsAhead lanes begun 0 events e → Contains (entries_from 0 events) e
ahead_at_first lanes begun events e idle (of_open lane call asks is) = absurd (idle_or_asks (idle lane) asks)
ahead_at_first lanes begun events e idle (of_later has) = has

-- the calls that are open began before this event
abbrev pub HaveBegun : Lanes → (ℕ → ℕ) → ℕ → Type 0
HaveBegun lanes begun n = (lane : ℕ) (call : Call) → lanes lane ≡ Asks call → begun lane < n

have_begun : (lanes after : Lanes) (begun : ℕ → ℕ) (lane n : ℕ) (call : Call) → Sets lanes after lane (Asks call) →
    HaveBegun lanes begun n → HaveBegun after (begun_at begun lane n) (n + 1)
have_begun lanes after begun lane n call sets low other c asks = by (cases_eq other lane)
  where
    by : (other ≡ lane) ⊎ (other ≢ lane) → begun_at begun lane n other < n + 1
    by (inl same) = let at : begun_at begun lane n other ≡ n =
        ap (λ (v : ℕ). begun_at begun lane n v) same ∙ begun_here begun lane n in omega arith
    by (inr apart) = let at = begun_there begun lane n other apart in
        let less = low other c (sym (sets.others other apart) ∙ asks) in omega arith

pub have_begun_still : (lanes after : Lanes) (begun : ℕ → ℕ) (lane n m : ℕ) → n ≤ m →
    ((call : Call) → after lane ≢ Asks call) → ((other : ℕ) → other ≢ lane → after other ≡ lanes other) →
    HaveBegun lanes begun n → HaveBegun after begun m
have_begun_still lanes after begun lane n m le not others low other c asks = by (cases_eq other lane)
  where
    by : (other ≡ lane) ⊎ (other ≢ lane) → begun other < m
    by (inl same) = absurd (not c (subst (λ (v : ℕ). after v ≡ Asks c) same asks))
    by (inr apart) = let less = low other c (sym (others other apart) ∙ asks) in omega arith

-- what calls in effect have got is what they return
abbrev pub HaveGot : Lanes → ℕ → List Event → Type 0
HaveGot lanes n events =
    (lane : ℕ) (reply : Reply) → lanes lane ≡ Gets reply → IsReplyOf reply (ending_of lane n events)

-- past one event the same calls are ahead, and those in effect return the same
pub record MovesOn (lanes after : Lanes) (begun then_begun : ℕ → ℕ) (n : ℕ) (event : Event) (events : List Event) :
    Type 0 where
  pub there : (e : Observation) → IsAhead lanes begun n (event ∷ events) e → IsAhead after then_begun (n + 1) events e
  pub back : (e : Observation) → IsAhead after then_begun (n + 1) events e → IsAhead lanes begun n (event ∷ events) e
  pub low : HaveBegun lanes begun n → HaveBegun after then_begun (n + 1)
  pub gets_there : HaveGot lanes n (event ∷ events) → HaveGot after (n + 1) events
  pub gets_back : HaveGot after (n + 1) events → HaveGot lanes n (event ∷ events)

begins_moves : (lanes after : Lanes) (begun : ℕ → ℕ) (lane n : ℕ) (call : Call) (events : List Event) →
    lanes lane ≡ Idle → Sets lanes after lane (Asks call) →
    MovesOn lanes after begun (begun_at begun lane n) n (Begins lane call) events
begins_moves lanes after begun lane n call events idle sets = record {
  there = λ e is. begins_there lanes after begun lane n call events e idle sets is;
  back = λ e is. begins_back lanes after begun lane n call events e sets is;
  low = have_begun lanes after begun lane n call sets;
  gets_there = λ got other reply is. got other reply (sym (sets.others other
      (λ same. asks_or_gets sets.here (subst (λ (v : ℕ). after v ≡ Gets reply) same is))) ∙ is);
  gets_back = λ got other reply is. got other reply (sets.others other
      (λ same. idle_or_gets idle (subst (λ (v : ℕ). lanes v ≡ Gets reply) same is)) ∙ is);
}

ends_moves : (lanes after : Lanes) (begun : ℕ → ℕ) (lane n : ℕ) (event : Event) (events : List Event) →
    Sets lanes after lane Idle → EndsOne lanes begun lane n event events →
    ((reply : Reply) → lanes lane ≡ Gets reply → IsReplyOf reply (ending_of lane n (event ∷ events))) →
    MovesOn lanes after begun begun n event events
ends_moves lanes after begun lane n event events sets ends own = record {
  there = λ e is. ends_there lanes after begun lane n event events e sets ends is;
  back = λ e is. ends_back lanes after begun lane n event events e sets ends is;
  low = have_begun_still lanes after begun lane n (n + 1) (omega arith) (λ c asks. idle_or_asks sets.here asks)
      sets.others;
  gets_there = there;
  gets_back = λ got other reply is. by got other reply is (cases_eq other lane);
}
  where
    there : HaveGot lanes n (event ∷ events) → HaveGot after (n + 1) events
    there got other reply is = subst (λ (x : Ending). IsReplyOf reply x) (ends.spares other apart)
        (got other reply (sym (sets.others other apart) ∙ is))
      where
        apart : other ≢ lane
        apart same = idle_or_gets sets.here (subst (λ (v : ℕ). after v ≡ Gets reply) same is)

    by : HaveGot after (n + 1) events → (other : ℕ) (reply : Reply) → lanes other ≡ Gets reply →
        (other ≡ lane) ⊎ (other ≢ lane) → IsReplyOf reply (ending_of other n (event ∷ events))
    by got other reply is (inl same) = subst (λ (v : ℕ). IsReplyOf reply (ending_of v n (event ∷ events))) (sym same)
        (own reply (subst (λ (v : ℕ). lanes v ≡ Gets reply) same is))
    by got other reply is (inr apart) = subst (λ (x : Ending). IsReplyOf reply x) (sym (ends.spares other apart))
        (got other reply (sets.others other apart ∙ is))

-- an event that ends the call of its lane
is_end : (lanes : Lanes) (begun : ℕ → ℕ) (lane n : ℕ) (event : Event) (events : List Event) → lane_of event ≡ lane →
    entries_from n (event ∷ events) ≡ entries_from (n + 1) events →
    ((call : Call) (e : Observation) → lanes lane ≡ Asks call →
    ¬ IsEntryOf lane call (begun lane) (ending_of lane n (event ∷ events)) e) → EndsOne lanes begun lane n event events
is_end lanes begun lane n event events own later gone = record {
  spares = λ other apart. ending_spares other n event events (ends_own other event (λ is. apart (sym is ∙ own)));
  later = later;
  gone = gone;
}

-- at which event the open call of each lane began, past one event
abbrev pub begun_then : (ℕ → ℕ) → ℕ → Event → ℕ → ℕ
begun_then begun n (Begins lane call) = begun_at begun lane n
begun_then begun n (Returns lane reply) = begun
begun_then begun n (Withdraws lane) = begun

pub happens_moves : (lanes after : Lanes) (begun : ℕ → ℕ) (n : ℕ) (event : Event) (events : List Event) →
    Happens event lanes after → MovesOn lanes after begun (begun_then begun n event) n event events
happens_moves lanes after begun n (Begins lane call) events happens =
    begins_moves lanes after begun lane n call events happens.0 happens.1
happens_moves lanes after begun n (Returns lane reply) events happens = ends_moves lanes after begun lane n
    (Returns lane reply) events happens.1 (is_end lanes begun lane n (Returns lane reply) events refl refl
    (λ call e asks is. asks_or_gets asks happens.0))
    (λ gotten is. subst (λ (x : Ending). IsReplyOf gotten x) (sym (return_ends lane lane n reply events refl))
    (one_reply happens.0 is))
happens_moves lanes after begun n (Withdraws lane) events happens =
    ends_moves lanes after begun lane n (Withdraws lane)
    events happens.2 (is_end lanes begun lane n (Withdraws lane) events refl refl
    (λ call e asks is. subst (λ (x : Ending). IsEntryOf lane call (begun lane) x e)
    (withdrawal_ends lane lane n events refl) is)) (λ gotten is. absurd (asks_or_gets happens.1 is))
