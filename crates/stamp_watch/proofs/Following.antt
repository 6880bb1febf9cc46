-- From an order of the calls that are ahead a way along the events.
use Rattle.std.proofs.Common.{◌≡◌, ◌≢◌, ◌⊎◌, ℕ, ◌+◌, ◌<◌, List, [], ◌∷◌, length, get_or, refl, sym, ◌∙◌}
use Rattle.std.proofs.Common.{ap, subst, inl, inr, arith, Some}
use Rattle.std.specs.Prelude.{slice_get, is_some, IsSome}
use Rattle.std.specs.List.{Contains}
use Rattle.std.proofs.lemmas.Bool.{cases_eq, false≢true}
use Rattle.std.proofs.lemmas.List.Elements.{All-head, All-tail, All-map, All-contains}
use Rattle.stamp_core.specs.declared.call.Call.{Call}
use Rattle.stamp_core.specs.declared.reply.Reply.{Reply}
use Rattle.stamp_explain.specs.declared.observed.Observation.{Observation}
use Rattle.stamp_explain.specs.Observed.{IsBefore}
use Rattle.stamp_explain.specs.Explained.{Effect, IsEffectOf, AreOfTwoEntries, RespectsBefore}
use Rattle.stamp_explain.proofs.Lists.{none_in_empty, contains_cases, pairs_head, pairs_tail}
use Rattle.stamp_runs.specs.declared.event.Event.{Event}
use Rattle.stamp_runs.specs.declared.event.Event.TheVariants.{Begins, Returns, Withdraws}
use Rattle.stamp_runs.specs.Object.{Object}
use Rattle.stamp_runs.specs.Own.{AreInFormFrom, open_then}
use Rattle.stamp_runs.specs.Run.{Happens, Lanes, Phase, Sets, Survives}
use Rattle.stamp_runs.specs.Run.Phase.{Idle, Asks, Gets}
use Rattle.stamp_runs.proofs.Lanes.{asks_or_gets, one_reply, set_of, sets_of}
use Rattle.stamp_runs.proofs.OwnEvents.{AreOpenIn, open_happens, open_takes}
use Rattle.stamp_runs.proofs.Owning.{Calls}
use Rattle.stamp_watch.specs.AsObserved.{Ending, ending_of}
use Rattle.stamp_watch.proofs.Numbered.{IsEntryOf, IsReplyOf, entry_tells, entry_replies, one_entry, first_from}
use Rattle.stamp_watch.proofs.Numbered.{return_ends, withdrawal_ends}
use Rattle.stamp_watch.proofs.Ways.{at_end, comes_next, takes_effect}
use Rattle.stamp_watch.proofs.Remaining.{IsAhead, begun_at, takes_there, takes_back, takes_apart, HaveBegun}
use Rattle.stamp_watch.proofs.Remaining.{have_begun_still, HaveGot, MovesOn, begun_then, happens_moves}
use Rattle.stamp_watch.proofs.Remaining.IsAhead.{of_open, of_later}
use Rattle.stamp_watch.proofs.Planning.{entries_of, IsLate, IsPlan, same_plan}

-- where the events go on: which calls are open, when they began, and what those in effect return
pub record Stands (calls : Calls) (lanes : Lanes) (begun : ℕ → ℕ) (n : ℕ) (events : List Event) : Type 0 where
  pub has : AreOpenIn calls lanes
  pub low : HaveBegun lanes begun n
  pub gets : HaveGot lanes n events

abbrev pub PlanAt : {S : Type 0} → Object S → List Observation → Lanes → (ℕ → ℕ) → ℕ → List Event → S → List Effect →
    Type 0
PlanAt O entries lanes begun n events s order =
    IsPlan O entries (IsAhead lanes begun n events) (n + length events) s order

-- the rest of the events can be gone along from each such place
abbrev pub GoesAlong : {S : Type 0} → Object S → List Observation → Calls → (ℕ → ℕ) → ℕ → List Event → Type 0
GoesAlong {S} O entries calls begun n events = (s : S) (lanes : Lanes) (order : List Effect) →
    Stands calls lanes begun n events → PlanAt O entries lanes begun n events s order →
    Survives O events s lanes

-- and so past one event
goes_past : {S : Type 0} (O : Object S) (entries : List Observation) (calls : Calls) (begun : ℕ → ℕ) (n : ℕ)
    (event : Event) (events : List Event) → GoesAlong O entries (open_then calls event) (begun_then begun n event)
    (n + 1) events → (s : S) (lanes after : Lanes) (order : List Effect) →
    Happens event lanes after → Stands calls lanes begun n (event ∷ events) →
    PlanAt O entries lanes begun n (event ∷ events) s order → Survives O (event ∷ events) s lanes
goes_past O entries calls begun n event events go s lanes after order happens stands plan =
    comes_next event happens (go s after order (record {
      has = open_happens lanes after event happens stands.has;
      low = moves.low stands.low;
      gets = moves.gets_there stands.gets;
    }) (same_plan O entries (IsAhead lanes begun n (event ∷ events))
    (IsAhead after (begun_then begun n event) (n + 1) events) (n + length (event ∷ events)) (n + 1 + length events) s
    order (omega arith) moves.there moves.back plan))
  where
    moves : MovesOn lanes after begun (begun_then begun n event) n event events
    moves = happens_moves lanes after begun n event events happens

abbrev pub AreSingle : List Observation → Type 0
AreSingle entries = (i j : ℕ) (e : Observation) → slice_get entries i ≡ Some e → slice_get entries j ≡ Some e → i ≡ j

-- the first of an order is an open call
record IsOpenCall (lanes : Lanes) (begun : ℕ → ℕ) (n : ℕ) (events : List Event) (x : Effect) : Type 0
  where
    lane : ℕ
    call : Call
    asks : lanes lane ≡ Asks call
    is : IsEntryOf lane call (begun lane) (ending_of lane n events) x.entry

-- a return comes next
module _ {S : Type 0} (O : Object S) (entries : List Observation) (single : AreSingle entries) (calls : Calls)
    (begun : ℕ → ℕ) (n : ℕ) (lane : ℕ) (reply : Reply) (events : List Event) (may : IsSome (calls lane))
    (go : GoesAlong O entries (open_then calls (Returns lane reply)) begun (n + 1)
    events)
  where
    now_returns : (gotten : Reply) (s : S) (lanes : Lanes) (order : List Effect) →
        lanes lane ≡ Gets gotten → Stands calls lanes begun n (Returns lane reply ∷ events) →
        PlanAt O entries lanes begun n (Returns lane reply ∷ events) s order →
        Survives O (Returns lane reply ∷ events) s lanes
    now_returns gotten s lanes order gets stands plan = goes_past O entries calls begun n (Returns lane reply)
        events
        go s lanes (set_of lanes lane Idle) order (is, sets_of lanes lane Idle) stands plan
      where
        is : lanes lane ≡ Gets reply
        is = gets ∙ ap Gets (sym (subst (λ (x : Ending). IsReplyOf gotten x)
            (return_ends lane lane n reply events refl) (stands.gets lane gotten gets)))

    -- the entry of the awaited call
    awaited : Call → Observation
    awaited call = record {
      thread = lane;
      call = call;
      first = begun lane;
      returned = Some (record { last = n; reply = reply });
    }

    is_awaited : (call : Call) (lanes : Lanes) → lanes lane ≡ Asks call →
        IsAhead lanes begun n (Returns lane reply ∷ events) (awaited call)
    unfolding awaited
    is_awaited call lanes asks = of_open lane call asks (subst
        (λ (x : Ending). IsEntryOf lane call (begun lane) x (awaited call))
        (sym (return_ends lane lane n reply events refl)) refl)

    none_left : (call : Call) (s : S) (lanes : Lanes) → lanes lane ≡ Asks call →
        PlanAt O entries lanes begun n (Returns lane reply ∷ events) s [] → ⊥
    unfolding awaited
    none_left call s lanes asks plan = none_in_empty (awaited call)
        (plan.whole (awaited call) (is_awaited call lanes asks) (record { last = n; reply = reply }, refl))

    first_open : (call : Call) (s : S) (lanes : Lanes) (x : Effect) (order : List Effect) →
        lanes lane ≡ Asks call → Stands calls lanes begun n (Returns lane reply ∷ events) →
        PlanAt O entries lanes begun n (Returns lane reply ∷ events) s (x ∷ order) →
        IsOpenCall lanes begun n (Returns lane reply ∷ events) x
    unfolding awaited
    first_open call s lanes x order asks stands plan = by (All-head
        (λ (y : Effect). IsAhead lanes begun n (Returns lane reply ∷ events) y.entry ⊎
        IsLate (n + length (Returns lane reply ∷ events)) y.entry) x order plan.each)
      where
        after_it : (x.entry ≡ awaited call) ⊎ Contains (entries_of order) (awaited call) → ¬ (n < x.entry.first)
        after_it (inl same) less =
            let began = stands.low lane call asks in
            let at : x.entry.first ≡ begun lane = ap (λ (o : Observation). o.first) same in omega arith
        after_it (inr later) less = All-contains (λ (o : Observation). ¬ IsBefore o x.entry) (entries_of order)
            (awaited call) (All-map (λ (o : Observation). ¬ IsBefore o x.entry) (λ (y : Effect). y.entry) order
            (pairs_head RespectsBefore x order plan.ordered)) later less

        no_later : ¬ (n < x.entry.first)
        no_later = after_it (contains_cases x.entry (entries_of order) (awaited call)
            (plan.whole (awaited call) (is_awaited call lanes asks) (record { last = n; reply = reply }, refl)))

        by : IsAhead lanes begun n (Returns lane reply ∷ events) x.entry ⊎
            IsLate (n + length (Returns lane reply ∷ events)) x.entry →
            IsOpenCall lanes begun n (Returns lane reply ∷ events) x
        by (inl (of_open other c asks_other is)) = record { lane = other; call = c; asks = asks_other; is = is }
        by (inl (of_later has)) = let from = first_from (n + 1) events x.entry has in absurd (no_later (omega arith))
        by (inr late) = let from = late.begins in absurd (no_later (omega arith))

    -- and takes effect
    module _ (s : S) (lanes : Lanes) (x : Effect) (order : List Effect)
        (stands : Stands calls lanes begun n (Returns lane reply ∷ events))
        (plan : PlanAt O entries lanes begun n (Returns lane reply ∷ events) s (x ∷ order))
        (head : IsOpenCall lanes begun n (Returns lane reply ∷ events) x)
      where
        after : Lanes
        after = set_of lanes head.lane (Gets x.reply)

        sets : Sets lanes after head.lane (Gets x.reply)
        unfolding after
        sets = sets_of lanes head.lane (Gets x.reply)

        step : O s head.call x.reply plan.runs.0
        step =
            subst (λ (c : Call). O s c x.reply plan.runs.0)
            (entry_tells head.lane head.call (begun head.lane) (ending_of head.lane n (Returns lane reply ∷ events))
            x.entry head.is).its_call plan.runs.1.0

        then_stands : Stands calls after begun n (Returns lane reply ∷ events)
        then_stands = record {
          has = open_takes head.asks sets stands.has;
          low = have_begun_still lanes after begun head.lane n n (omega arith)
              (λ c asks. asks_or_gets asks sets.here) sets.others stands.low;
          gets = λ other r is. got other r is (cases_eq other head.lane);
        }
          where
            got : (other : ℕ) (r : Reply) → after other ≡ Gets r → (other ≡ head.lane) ⊎ (other ≢ head.lane) →
                IsReplyOf r (ending_of other n (Returns lane reply ∷ events))
            got other r is (inl same) = subst (λ (v : ℕ). IsReplyOf r (ending_of v n (Returns lane reply ∷ events)))
                (sym same) (subst
                (λ (q : Reply). IsReplyOf q (ending_of head.lane n (Returns lane reply ∷ events)))
                (one_reply sets.here (subst (λ (v : ℕ). after v ≡ Gets r) same is)) (entry_replies head.lane head.call
                (begun head.lane) (ending_of head.lane n (Returns lane reply ∷ events)) x.entry x.reply head.is
                (All-head (IsEffectOf entries) x order plan.effects).replies))
            got other r is (inr apart) = stands.gets other r (sym (sets.others other apart) ∙ is)

        still : (y : Effect) → IsEffectOf entries y → AreOfTwoEntries x y →
            IsAhead lanes begun n (Returns lane reply ∷ events) y.entry ⊎
            IsLate (n + length (Returns lane reply ∷ events)) y.entry →
            IsAhead after begun n (Returns lane reply ∷ events) y.entry ⊎
            IsLate (n + length (Returns lane reply ∷ events)) y.entry
        still y effect two (inr late) = inr late
        still y effect two (inl is) = by (takes_there lanes after begun head.lane n head.call x.reply
            (Returns lane reply ∷ events) y.entry head.asks sets is)
          where
            by : IsAhead after begun n (Returns lane reply ∷ events) y.entry ⊎ IsEntryOf head.lane head.call
                (begun head.lane) (ending_of head.lane n (Returns lane reply ∷ events)) y.entry →
                IsAhead after begun n (Returns lane reply ∷ events) y.entry ⊎
                IsLate (n + length (Returns lane reply ∷ events)) y.entry
            by (inl later) = inl later
            by (inr its) = absurd (two (single x.index y.index y.entry (subst
                (λ (o : Observation). slice_get entries x.index ≡ Some o)
                (one_entry head.lane head.call (begun head.lane)
                (ending_of head.lane n (Returns lane reply ∷ events)) x.entry y.entry head.is its)
                (All-head (IsEffectOf entries) x order plan.effects).is_entry) effect.is_entry))

        then_plan : PlanAt O entries after begun n (Returns lane reply ∷ events) plan.runs.0 order
        then_plan = record {
          effects = All-tail (IsEffectOf entries) x order plan.effects;
          each = λ k d lt. still (get_or order k d) (All-tail (IsEffectOf entries) x order plan.effects k d lt)
              (pairs_head AreOfTwoEntries x order plan.once k d lt)
              (All-tail (λ (y : Effect). IsAhead lanes begun n (Returns lane reply ∷ events) y.entry ⊎
              IsLate (n + length (Returns lane reply ∷ events)) y.entry) x order plan.each k d lt);
          once = pairs_tail AreOfTwoEntries x order plan.once;
          whole = λ e is back. has e is (contains_cases x.entry (entries_of order) e (plan.whole e
              (takes_back lanes after begun head.lane n x.reply (Returns lane reply ∷ events) e sets is) back));
          ordered = pairs_tail RespectsBefore x order plan.ordered;
          runs = plan.runs.1.1;
        }
          where
            has : (e : Observation) → IsAhead after begun n (Returns lane reply ∷ events) e →
                (x.entry ≡ e) ⊎ Contains (entries_of order) e → Contains (entries_of order) e
            has e is (inr later) = later
            has e is (inl same) = absurd (takes_apart lanes after begun head.lane n head.call x.reply
                (Returns lane reply ∷ events) e (stands.low head.lane head.call head.asks) sets
                (subst (λ (o : Observation). IsEntryOf head.lane head.call (begun head.lane)
                (ending_of head.lane n (Returns lane reply ∷ events)) o) same head.is) is)

    -- open calls take effect, until the one that returns is in effect
    pub awaits : (order : List Effect) (s : S) (lanes : Lanes) →
        Stands calls lanes begun n (Returns lane reply ∷ events) →
        PlanAt O entries lanes begun n (Returns lane reply ∷ events) s order →
        Survives O (Returns lane reply ∷ events) s lanes
    awaits [] s lanes stands plan = by (lanes lane) refl
      where
        by : (p : Phase) → lanes lane ≡ p → Survives O (Returns lane reply ∷ events) s lanes
        by Idle is = absurd (false≢true (sym (ap is_some ((stands.has lane).1 is)) ∙ may))
        by (Gets gotten) is = now_returns gotten s lanes [] is stands plan
        by (Asks call) is = absurd (none_left call s lanes is plan)
    awaits (x ∷ order) s lanes stands plan = by (lanes lane) refl (λ head. takes_effect head.lane head.call x.reply
        head.asks (step s lanes x order stands plan head) (sets s lanes x order stands plan head)
        (awaits order plan.runs.0 (after s lanes x order stands plan head)
        (then_stands s lanes x order stands plan head) (then_plan s lanes x order stands plan head)))
      where
        by : (p : Phase) → lanes lane ≡ p → (IsOpenCall lanes begun n (Returns lane reply ∷ events) x →
            Survives O (Returns lane reply ∷ events) s lanes) →
            Survives O (Returns lane reply ∷ events) s lanes
        by Idle is more = absurd (false≢true (sym (ap is_some ((stands.has lane).1 is)) ∙ may))
        by (Gets gotten) is more = now_returns gotten s lanes (x ∷ order) is stands plan
        by (Asks call) is more = more (first_open call s lanes x order is stands plan)

-- a withdrawal comes next: the call is not in effect
withdrawn_asks : (calls : Calls) (lanes : Lanes) (begun : ℕ → ℕ) (n lane : ℕ) (events : List Event) →
    IsSome (calls lane) → Stands calls lanes begun n (Withdraws lane ∷ events) →
    (call : Call) × (lanes lane ≡ Asks call)
withdrawn_asks calls lanes begun n lane events may stands = by (lanes lane) refl
  where
    by : (p : Phase) → lanes lane ≡ p → (call : Call) × (lanes lane ≡ Asks call)
    by Idle is = absurd (false≢true (sym (ap is_some ((stands.has lane).1 is)) ∙ may))
    by (Gets gotten) is = absurd (subst (λ (x : Ending). IsReplyOf gotten x) (withdrawal_ends lane lane n events refl)
        (stands.gets lane gotten is))
    by (Asks call) is = (call, is)

-- each order has a way
pub follows : {S : Type 0} (O : Object S) (entries : List Observation) → AreSingle entries → (events : List Event)
    (calls : Calls) (begun : ℕ → ℕ) (n : ℕ) → AreInFormFrom calls events →
    GoesAlong O entries calls begun n events
follows O entries single [] calls begun n form s lanes order stands plan = at_end
follows O entries single (Begins lane call ∷ events) calls begun n form s lanes order stands plan =
    goes_past O entries calls begun n (Begins lane call) events (follows O entries single events
    (open_then calls (Begins lane call)) (begun_at begun lane n) (n + 1) form.1) s lanes
    (set_of lanes lane (Asks call)) order
    ((stands.has lane).0 form.0, sets_of lanes lane (Asks call)) stands plan
follows O entries single (Returns lane reply ∷ events) calls begun n form s lanes order stands plan =
    awaits O entries single calls begun n lane reply events form.0 (follows O entries single events
    (open_then calls (Returns lane reply)) begun (n + 1) form.1) order s lanes stands
    plan
follows O entries single (Withdraws lane ∷ events) calls begun n form s lanes order stands plan =
    let its = withdrawn_asks calls lanes begun n lane events form.0 stands in
    goes_past O entries calls begun n (Withdraws lane) events (follows O entries single events
    (open_then calls (Withdraws lane)) begun (n + 1) form.1) s lanes
    (set_of lanes lane Idle) order (its.0, its.1, sets_of lanes lane Idle) stands plan
