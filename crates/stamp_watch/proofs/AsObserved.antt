-- A run is explained exactly where it is as an observed history.
use Rattle.std.proofs.Common.{◌≡◌, ◌⊎◌, ℕ, ◌+◌, Bool, true, false, List, [], ◌∷◌, length, get_or, refl, sym}
use Rattle.std.proofs.Common.{◌∙◌, ap, subst, inl, inr, arith, Some}
use Rattle.std.specs.Prelude.{slice_get, not}
use Rattle.std.specs.Bool.{MatchBool}
use Rattle.std.specs.List.{All, Contains}
use Rattle.std.proofs.lemmas.List.Elements.{All-head, All-tail}
use Rattle.std.proofs.lemmas.Option.{slice_get-get_or, none-some}
use Rattle.stamp_core.specs.Limits.{Bounds}
use Rattle.stamp_core.specs.Call.{is_lock_call}
use Rattle.stamp_core.specs.Content.{RecordReplies, zeros}
use Rattle.stamp_core.specs.Transition.{transition}
use Rattle.stamp_core.specs.History.{History, Replies}
use Rattle.stamp_core.specs.declared.call.Call.{Call}
use Rattle.stamp_core.specs.declared.reply.Reply.{Reply}
use Rattle.stamp_explain.specs.declared.observed.Observation.{Observation}
use Rattle.stamp_explain.specs.Observed.{HasReturned, observed_as}
use Rattle.stamp_explain.specs.Explained.{Effect, IsEffectOf, history_of, indices_of, IsExplained}
use Rattle.stamp_explain.specs.inner.States.{Runs, StateTransition, after_call}
use Rattle.stamp_explain.proofs.Lists.{contains_at}
use Rattle.stamp_explain.proofs.Lists.{none_in_empty, contains_cases, contains_first, contains_rest}
use Rattle.stamp_explain.proofs.Entries.{same_entry}
use Rattle.stamp_explain.proofs.Legal.{legal_runs, runs_legal}
use Rattle.stamp_explain.proofs.Replies.{lock_leaves, record_appends}
use Rattle.stamp_runs.specs.declared.event.Event.{Event}
use Rattle.stamp_runs.specs.Run.{AreExplainedFrom, Lanes, all_idle}
use Rattle.stamp_runs.specs.BothRun.{Both, State, start}
use Rattle.stamp_runs.specs.Object.{LockStep, RecordStep}
use Rattle.stamp_runs.specs.Own.{AreInForm, none_open, own_events}
use Rattle.stamp_runs.specs.Pairs.{not_of}
use Rattle.stamp_runs.specs.Trace.{LeadsBy, Taken, order_of}
use Rattle.stamp_runs.proofs.Lanes.{idle_or_asks, idle_or_gets}
use Rattle.stamp_runs.proofs.Laws.{trace_tells}
use Rattle.stamp_runs.proofs.Merging.{orders_merge}
use Rattle.stamp_runs.proofs.Ordering.{order_on}
use Rattle.stamp_runs.proofs.OwnEvents.{none_idle}
use Rattle.stamp_watch.specs.AsObserved.{entries_from}
use Rattle.stamp_watch.specs.Ordered.{Explains}
use Rattle.stamp_watch.specs.WatchLaws.{ExplainedAsObserved, OrderExplains, TracesExplain}
use Rattle.stamp_watch.proofs.Numbered.{own_firsts}
use Rattle.stamp_watch.proofs.Remaining.{IsAhead, ahead_at_first}
use Rattle.stamp_watch.proofs.Remaining.IsAhead.{of_later}
use Rattle.stamp_watch.proofs.Planning.{AnswersOf, entries_of, IsLate, IsPlanned, planned}
use Rattle.stamp_watch.proofs.Following.{AreSingle, PlanAt, follows}

-- these entries are those of the run, beside such as begin behind it
pub record AreOfRun (entries : List Observation) (events : List Event) : Type 0 where
  pub inside : (e : Observation) → Contains (entries_from 0 events) e → Contains entries e
  pub each : (i : ℕ) (e : Observation) → slice_get entries i ≡ Some e → Contains (entries_from 0 events) e ⊎
      IsLate (length events) e
  pub single : AreSingle entries

-- lock and record side by side answer as the two of a legal history
module _ (limits : Bounds) (s t : State) (x : Call × Reply) where
  both_answer : StateTransition limits s x t → AnswersOf (Both limits) s x t
  both_answer goes = subst (Both limits s x.0 x.1) (sym goes.next) (by (is_lock_call x.0) refl goes.replies)
    where
      by : (b : Bool) → is_lock_call x.0 ≡ b →
          MatchBool b (Replies (transition limits s.0 x.0) x.1) (RecordReplies s.1 x.0 x.1) →
          Both limits s x.0 x.1 (after_call limits s x)
      by true own replies =
          (rw own (record { replies = replies; appends = refl }), rw own (lock_leaves s.1 x.0 x.1 own))
      by false other replies =
          (rw other (record_appends limits s.0 x.0 other), rw other (record { replies = replies; leaves = refl }))

  answered_so : AnswersOf (Both limits) s x t → StateTransition limits s x t
  answered_so step = by (is_lock_call x.0) refl step.0 step.1
    where
      by : (b : Bool) → is_lock_call x.0 ≡ b → MatchBool b (LockStep limits s.0 x.0 x.1 t.0) (t.0 ≡ s.0) →
          MatchBool (not b) (RecordStep s.1 x.0 x.1 t.1) (t.1 ≡ s.1) → StateTransition limits s x t
      by true own lock same = record {
        replies = rw own lock.replies;
        next = λ i. (lock.appends i, (same ∙ sym (lock_leaves s.1 x.0 x.1 own)) i);
      }
      by false other same guarded = record {
        replies = rw other guarded.replies;
        next = λ i. ((same ∙ sym (record_appends limits s.0 x.0 other)) i, guarded.leaves i);
      }

-- one object runs what another does that answers so
runs_as : {S : Type 0} (P Q : S → Call × Reply → S → Type 0) →
    ((s t : S) (x : Call × Reply) → P s x t → Q s x t) → (s : S) (history : History) → Runs P s history →
    Runs Q s history
runs_as P Q each s [] runs = tt
runs_as P Q each s (x ∷ history) runs =
    (runs.0, (each s runs.0 x runs.1.0, runs_as P Q each runs.0 history runs.1.1))

-- an order has an entry where it has its index
entry_in : (entries : List Observation) (order : List Effect) (i : ℕ) (e : Observation) →
    All (IsEffectOf entries) order → slice_get entries i ≡ Some e → Contains (indices_of order) i →
    Contains (entries_of order) e
entry_in entries [] i e effects at has = absurd (none_in_empty i has)
entry_in entries (x ∷ order) i e effects at has = by (contains_cases x.index (indices_of order) i has)
    (λ later. entry_in entries order i e (All-tail (IsEffectOf entries) x order effects) at later)
  where
    by : (x.index ≡ i) ⊎ Contains (indices_of order) i →
        (Contains (indices_of order) i → Contains (entries_of order) e) → Contains (x.entry ∷ entries_of order) e
    by (inl same) _ = contains_first x.entry (entries_of order) e
        (same_entry entries x i e (All-head (IsEffectOf entries) x order effects) same at)
    by (inr later) more = contains_rest x.entry (entries_of order) e (more later)

index_in : (entries : List Observation) → AreSingle entries → (order : List Effect) (i : ℕ) (e : Observation) →
    All (IsEffectOf entries) order → slice_get entries i ≡ Some e → Contains (entries_of order) e →
    Contains (indices_of order) i
index_in entries single [] i e effects at has = absurd (none_in_empty e has)
index_in entries single (x ∷ order) i e effects at has = by (contains_cases x.entry (entries_of order) e has)
    (λ later. index_in entries single order i e (All-tail (IsEffectOf entries) x order effects) at later)
  where
    by : (x.entry ≡ e) ⊎ Contains (entries_of order) e →
        (Contains (entries_of order) e → Contains (indices_of order) i) → Contains (x.index ∷ indices_of order) i
    by (inl same) _ = contains_first x.index (indices_of order) i (single x.index i e
        (subst (λ (o : Observation). slice_get entries x.index ≡ Some o) same
        (All-head (IsEffectOf entries) x order effects).is_entry) at)
    by (inr later) more = contains_rest x.index (indices_of order) i (more later)

-- the order of a way along the events explains them
pub order_explains : (limits : Bounds) (width : ℕ) (entries : List Observation) (events : List Event) →
    AreOfRun entries events → (taken : List Taken) (s : State) (lanes : Lanes) →
    LeadsBy (Both limits) 0 taken events ([], zeros width) all_idle s lanes →
    Explains (observed_as limits width entries) taken
order_explains limits width entries events are taken s lanes way = record {
  effects = found.order;
  taken = found.as_taken;
  by = record {
    effects = found.plan.effects;
    once = found.plan.once;
    returned = λ i e at back. index_in entries are.single found.order i e found.plan.effects at
        (has e back (are.each i e at));
    ordered = found.plan.ordered;
    legal = legal_runs limits [] (zeros width) (history_of found.order) (runs_as (AnswersOf (Both limits))
        (StateTransition limits) (answered_so limits) ([], zeros width) (history_of found.order) found.plan.runs);
  };
}
  where
    found : IsPlanned (Both limits) entries events 0 ([], zeros width) all_idle (λ (lane : ℕ). 0) taken
    found = planned (Both limits) entries events 0 ([], zeros width) all_idle (λ (lane : ℕ). 0)
        (λ lane call asks. absurd (idle_or_asks refl asks))
        (λ e is. are.inside e (ahead_at_first all_idle (λ (lane : ℕ). 0) events e (λ lane. refl) is)) way

    has : (e : Observation) → HasReturned e → Contains (entries_from 0 events) e ⊎ IsLate (length events) e →
        Contains (entries_of found.order) e
    has e back (inl is) = found.plan.whole e (of_later is) back
    has e back (inr late) = absurd (none-some back.0 (sym late.open_still ∙ back.1))

-- what is explained along the events has an order
pub run_explained : (limits : Bounds) (width : ℕ) (entries : List Observation) (events : List Event) →
    AreOfRun entries events → AreExplainedFrom (Both limits) ([], zeros width) events →
    IsExplained (observed_as limits width entries)
run_explained limits width entries events are way =
    let order = order_on (Both limits) way.way 0 in
    let made = order_explains limits width entries events are order.0 way.state way.last order.1 in
    record { order = made.effects; by = made.by }

-- and what has an order is explained along the events
pub explained_run : (limits : Bounds) (width : ℕ) (entries : List Observation) (events : List Event) →
    AreInForm events → AreOfRun entries events → IsExplained (observed_as limits width entries) →
    AreExplainedFrom (Both limits) ([], zeros width) events
explained_run limits width entries events form are explained = follows (Both limits) entries are.single events
    none_open (λ (lane : ℕ). 0) 0 form ([], zeros width) all_idle order (record {
      has = λ lane. none_idle;
      low = λ lane call asks. absurd (idle_or_asks refl asks);
      gets = λ lane reply gets. absurd (idle_or_gets refl gets);
    }) plan
  where
    order : List Effect
    order = explained.order

    effects : All (IsEffectOf entries) explained.order
    effects = explained.by.effects

    ahead : (e : Observation) → Contains (entries_from 0 events) e ⊎ IsLate (length events) e →
        IsAhead all_idle (λ (lane : ℕ). 0) 0 events e ⊎ IsLate (0 + length events) e
    ahead e (inl has) = inl (of_later has)
    ahead e (inr late) = let from = late.begins in
        inr (record { begins = omega arith; open_still = late.open_still })

    whole : (e : Observation) → Contains entries e → HasReturned e → Contains (entries_of explained.order) e
    whole e place back =
        let at : slice_get entries place.0 ≡ Some e =
        slice_get-get_or entries place.0 e place.1 ∙ ap (λ (o : Observation). Some o) place.2 in
        entry_in entries explained.order place.0 e effects at (explained.by.returned place.0 e at back)

    plan : PlanAt (Both limits) entries all_idle (λ (lane : ℕ). 0) 0 events ([], zeros width) explained.order
    plan = record {
      effects = effects;
      each = λ k d lt. ahead (get_or explained.order k d).entry
          (are.each (get_or explained.order k d).index (get_or explained.order k d).entry (effects k d lt).is_entry);
      once = explained.by.once;
      whole = λ e is back. whole e
          (are.inside e (ahead_at_first all_idle (λ (lane : ℕ). 0) events e (λ lane. refl) is)) back;
      ordered = explained.by.ordered;
      runs = runs_as (StateTransition limits) (AnswersOf (Both limits)) (both_answer limits) ([], zeros width)
          (history_of explained.order) (runs_legal limits [] (zeros width) (history_of explained.order)
          explained.by.legal);
    }

of_run : (events : List Event) → AreOfRun (entries_from 0 events) events
of_run events = record {
  inside = λ e has. has;
  each = λ i e at. inl (contains_at (entries_from 0 events) i e at);
  single = λ i j e at_i at_j. own_firsts 0 events i j e e at_i at_j refl;
}

pub explained_as_observed : ExplainedAsObserved
explained_as_observed limits events form = (
  (λ way. run_explained limits 1 (entries_from 0 events) events (of_run events) way),
  (λ explained. explained_run limits 1 (entries_from 0 events) events form (of_run events) explained),
)

pub order_is_of_history : OrderExplains
order_is_of_history limits events order s lanes way =
    order_explains limits 1 (entries_from 0 events) events (of_run events) order s lanes way

pub traces_explain : TracesExplain
traces_explain limits events form moves others order p q trace trace_too merges ascends =
    let first = (trace_tells (LockStep limits) start.0 (own_events is_lock_call events) moves p trace).0 in
    let second = (trace_tells RecordStep start.1 (own_events (not_of is_lock_call) events) others q trace_too).0 in
    let both = orders_merge is_lock_call (LockStep limits) RecordStep start.0 p.state start.1 q.state events
    (order_of moves) (order_of others) order p.lanes q.lanes form first second merges ascends in
    order_is_of_history limits events order (p.state, q.state) both.0 both.1
