-- From a way along the events an order of the calls that are ahead.
use Rattle.std.proofs.Common.{◌≡◌, ◌⊎◌, ℕ, ◌+◌, ◌<◌, ◌≤◌, List, [], ◌∷◌, length, get_or, refl, sym}
use Rattle.std.proofs.Common.{◌∙◌, ap, subst, inl, inr, arith, Option, Some, None}
use Rattle.std.specs.Prelude.{map, MatchOption}
use Rattle.std.specs.List.{All, AllPairs, AllZip, Contains}
use Rattle.std.proofs.lemmas.List.Elements.{All-nil, All-cons, All-weaker}
use Rattle.std.proofs.lemmas.Option.{slice_get-get_or, none-some}
use Rattle.stamp_core.specs.declared.call.Call.{Call}
use Rattle.stamp_core.specs.declared.reply.Reply.{Reply}
use Rattle.stamp_explain.specs.declared.observed.Observation.{Observation}
use Rattle.stamp_explain.specs.declared.observed.Returned.{Returned}
use Rattle.stamp_explain.specs.Observed.{IsBefore, HasReturned}
use Rattle.stamp_explain.specs.Explained.{Effect, IsEffectOf, history_of, AreOfTwoEntries, RespectsBefore}
use Rattle.stamp_explain.specs.inner.States.{Runs}
use Rattle.stamp_explain.proofs.Lists.{none_in_empty, contains_first, contains_rest, pairs_none, pairs_cons}
use Rattle.stamp_explain.proofs.Entries.{same_entry}
use Rattle.stamp_explain.proofs.Entries.{has_returned}
use Rattle.stamp_runs.specs.declared.event.Event.{Event}
use Rattle.stamp_runs.specs.Object.{Object}
use Rattle.stamp_runs.specs.Run.{Lanes, Sets}
use Rattle.stamp_runs.specs.Run.Phase.{Asks, Gets}
use Rattle.stamp_runs.specs.Trace.{LeadsBy, Taken, taken_at}
use Rattle.stamp_runs.specs.Trace.LeadsBy.{led_nowhere, by_taken, by_next}
use Rattle.stamp_runs.proofs.Lanes.{asks_or_gets}
use Rattle.stamp_watch.specs.AsObserved.{ending_of}
use Rattle.stamp_watch.specs.Ordered.{IsTakenAs}
use Rattle.stamp_watch.proofs.Numbered.{AreOfEntry, IsEntryOf, HasEntry, entry_tells, entry_of_reply}
use Rattle.stamp_watch.proofs.Numbered.{entry_returned, one_entry}
use Rattle.stamp_watch.proofs.Numbered.{open_or_ended}
use Rattle.stamp_watch.proofs.Remaining.{IsAhead, takes_there, takes_back, takes_apart, ahead_last}
use Rattle.stamp_watch.proofs.Remaining.{HaveBegun}
use Rattle.stamp_watch.proofs.Remaining.{have_begun_still, HaveGot, MovesOn, begun_then, happens_moves}
use Rattle.stamp_watch.proofs.Remaining.IsAhead.{of_open, of_later}

abbrev pub entries_of : List Effect → List Observation
entries_of order = map (λ (x : Effect). x.entry) order

-- the entry of a call that begins behind the events, and has not returned
pub record IsLate (end : ℕ) (e : Observation) : Type 0 where
  pub begins : end ≤ e.first
  pub open_still : e.returned ≡ None

-- the object's answers
abbrev pub AnswersOf : {S : Type 0} → Object S → S → Call × Reply → S → Type 0
AnswersOf O s x t = O s x.0 x.1 t

-- in this order the calls that are ahead may take effect from this state on
pub record IsPlan {S : Type 0} (O : Object S) (entries : List Observation) (ahead : Observation → Type 0) (end : ℕ)
    (s : S) (order : List Effect) : Type 0 where
  pub effects : All (IsEffectOf entries) order
  pub each : All (λ (x : Effect). ahead x.entry ⊎ IsLate end x.entry) order
  pub once : AllPairs AreOfTwoEntries order
  pub whole : (e : Observation) → ahead e → HasReturned e → Contains (entries_of order) e
  pub ordered : AllPairs RespectsBefore order
  pub runs : Runs (AnswersOf O) s (history_of order)

-- a plan for the same calls, named otherwise
pub same_plan : {S : Type 0} (O : Object S) (entries : List Observation) (old new : Observation → Type 0)
    (end then_end : ℕ) (s : S) (order : List Effect) → then_end ≤ end → ((e : Observation) → old e → new e) →
    ((e : Observation) → new e → old e) → IsPlan O entries old end s order →
    IsPlan O entries new then_end s order
same_plan O entries old new end then_end s order less there back plan = record {
  effects = plan.effects;
  each = All-weaker (λ (x : Effect). old x.entry ⊎ IsLate end x.entry)
      (λ (x : Effect). new x.entry ⊎ IsLate then_end x.entry) (λ x is. by x.entry is) order plan.each;
  once = plan.once;
  whole = λ e ahead returned. plan.whole e (back e ahead) returned;
  ordered = plan.ordered;
  runs = plan.runs;
}
  where
    by : (e : Observation) → old e ⊎ IsLate end e → new e ⊎ IsLate then_end e
    by e (inl is) = inl (there e is)
    by e (inr late) = let from = late.begins in
        inr (record { begins = omega arith; open_still = late.open_still })

pub before_last : (a b : Observation) (r : Returned) → a.returned ≡ Some r → IsBefore a b → r.last < b.first
before_last a b r back before =
    subst (λ (o : Option Returned). MatchOption o ⊥ (λ (q : Returned). q.last < b.first)) back before

-- this order for the calls that are ahead; and what calls in effect have got is what they return
pub record IsPlanned {S : Type 0} (O : Object S) (entries : List Observation) (events : List Event) (n : ℕ)
    (s : S) (lanes : Lanes) (begun : ℕ → ℕ) (taken : List Taken) : Type 0 where
  pub order : List Effect
  pub as_taken : AllZip IsTakenAs taken order
  pub plan : IsPlan O entries (IsAhead lanes begun n events) (n + length events) s order
  pub gets : HaveGot lanes n events

-- one call more takes effect before others
module _ {S : Type 0} (O : Object S) (entries : List Observation) (events : List Event) (n : ℕ) (s next : S)
    (lanes after : Lanes) (begun : ℕ → ℕ) (lane : ℕ) (call : Call) (reply : Reply) (asks : lanes lane ≡ Asks call)
    (low : begun lane < n) (step : O s call reply next) (sets : Sets lanes after lane (Gets reply))
    (inside : (e : Observation) → IsAhead lanes begun n events e → Contains entries e) (taken : List Taken)
    (later : IsPlanned O entries events n next after begun taken)
  where
    its : HasEntry lane call (begun lane) (ending_of lane n events) reply
    its = entry_of_reply lane call (begun lane) (ending_of lane n events) reply (later.gets lane reply sets.here)

    ahead : IsAhead lanes begun n events its.entry
    ahead = of_open lane call asks its.is

    place : Contains entries its.entry
    place = inside its.entry ahead

    effect : Effect
    effect = record { index = place.0; entry = its.entry; reply = reply }

    tells : AreOfEntry lane call (begun lane) its.entry
    tells = entry_tells lane call (begun lane) (ending_of lane n events) its.entry its.is

    is_effect : IsEffectOf entries effect
    unfolding effect
    is_effect = record {
      is_entry = slice_get-get_or entries place.0 its.entry place.1 ∙ ap (λ (o : Observation). Some o) place.2;
      replies = its.allows;
    }

    apart : (y : Effect) → IsEffectOf entries y → IsAhead after begun n events y.entry ⊎
        IsLate (n + length events) y.entry → AreOfTwoEntries effect y
    unfolding effect
    apart y is each same = by each
      where
        entry : its.entry ≡ y.entry
        entry = sym (same_entry entries y place.0 its.entry is (sym same) (is_effect.is_entry))

        by : IsAhead after begun n events y.entry ⊎ IsLate (n + length events) y.entry → ⊥
        by (inl later_on) = takes_apart lanes after begun lane n call reply events y.entry low sets
            (subst (λ (o : Observation). IsEntryOf lane call (begun lane) (ending_of lane n events) o) entry its.is)
            later_on
        by (inr late) =
            let at = tells.its_first in
            let same_first = ap (λ (o : Observation). o.first) entry in
            let from = late.begins in omega arith

    respects : (y : Effect) → IsAhead after begun n events y.entry ⊎ IsLate (n + length events) y.entry →
        RespectsBefore effect y
    unfolding effect
    respects y each before = by each (has_returned y.entry its.entry before)
      where
        by : IsAhead after begun n events y.entry ⊎ IsLate (n + length events) y.entry → HasReturned y.entry → ⊥
        by (inl later_on) back =
            let at = tells.its_first in
            let last = ahead_last after begun n events y.entry back.0 later_on back.1 in
            let less = before_last y.entry its.entry back.0 back.1 before in omega arith
        by (inr late) back = none-some back.0 (sym late.open_still ∙ back.1)

    pub takes_first : IsPlanned O entries events n s lanes begun (taken_at n (lane, reply) ∷ taken)
    unfolding effect
    takes_first = record {
      order = effect ∷ later.order;
      as_taken = (
        record {
          lane = tells.its_lane;
          reply = refl;
          began = let at = tells.its_first in omega arith;
          still_open = λ r back. ahead_last lanes begun n events its.entry r ahead back;
        },
        later.as_taken,
      );
      plan = record {
        effects = All-cons (IsEffectOf entries) effect later.order is_effect later.plan.effects;
        each = All-cons (λ (x : Effect). IsAhead lanes begun n events x.entry ⊎ IsLate (n + length events) x.entry)
            effect later.order (inl ahead) (All-weaker
            (λ (x : Effect). IsAhead after begun n events x.entry ⊎ IsLate (n + length events) x.entry)
            (λ (x : Effect). IsAhead lanes begun n events x.entry ⊎ IsLate (n + length events) x.entry)
            (λ y is. still y.entry is) later.order later.plan.each);
        once = pairs_cons AreOfTwoEntries effect later.order (λ k d lt. apart (get_or later.order k d)
            (later.plan.effects k d lt) (later.plan.each k d lt)) later.plan.once;
        whole = λ e is back. has e back
            (takes_there lanes after begun lane n call reply events e asks sets is);
        ordered = pairs_cons RespectsBefore effect later.order
            (λ k d lt. respects (get_or later.order k d) (later.plan.each k d lt)) later.plan.ordered;
        runs = (
          next,
          (
            subst (λ (c : Call). O s c reply next)
                (sym tells.its_call) step,
            later.plan.runs,
          ),
        );
      };
      gets = λ other gotten is. later.gets other gotten
          (sets.others other (λ same. asks_or_gets asks (subst (λ (v : ℕ). lanes v ≡ Gets gotten) same is)) ∙ is);
    }
      where
        still : (e : Observation) → IsAhead after begun n events e ⊎ IsLate (n + length events) e →
            IsAhead lanes begun n events e ⊎ IsLate (n + length events) e
        still e (inl is) = inl (takes_back lanes after begun lane n reply events e sets is)
        still e (inr late) = inr late

        has : (e : Observation) → HasReturned e →
            IsAhead after begun n events e ⊎ IsEntryOf lane call (begun lane) (ending_of lane n events) e →
            Contains (its.entry ∷ entries_of later.order) e
        has e back (inl is) = contains_rest its.entry (entries_of later.order) e (later.plan.whole e is back)
        has e back (inr is) = contains_first its.entry (entries_of later.order) e
            (one_entry lane call (begun lane) (ending_of lane n events) its.entry e its.is is)

-- an event comes before them
planned_past : {S : Type 0} (O : Object S) (entries : List Observation) (event : Event) (events : List Event) (n : ℕ)
    (s : S) (lanes after : Lanes) (begun then_begun : ℕ → ℕ) (taken : List Taken) →
    MovesOn lanes after begun then_begun n event events →
    IsPlanned O entries events (n + 1) s after then_begun taken →
    IsPlanned O entries (event ∷ events) n s lanes begun taken
planned_past O entries event events n s lanes after begun then_begun taken moves later = record {
  order = later.order;
  as_taken = later.as_taken;
  plan = same_plan O entries (IsAhead after then_begun (n + 1) events) (IsAhead lanes begun n (event ∷ events))
      (n + 1 + length events) (n + length (event ∷ events)) s later.order (omega arith) moves.back moves.there
      later.plan;
  gets = moves.gets_back later.gets;
}

nothing_ahead : (lanes : Lanes) (begun : ℕ → ℕ) (n : ℕ) (e : Observation) → IsAhead lanes begun n [] e →
    ¬ HasReturned e
nothing_ahead lanes begun n e (of_open lane call asks is) back = open_or_ended
    (entry_returned lane call (begun lane) (ending_of lane n []) e back.0 is back.1)
nothing_ahead lanes begun n e (of_later has) back = none_in_empty e has

-- the order of each way along the events is such a one
pub planned : {S : Type 0} (O : Object S) (entries : List Observation) (events : List Event) (n : ℕ) (s : S)
    (lanes : Lanes) (begun : ℕ → ℕ) {taken : List Taken} {t : S} {last : Lanes} → HaveBegun lanes begun n →
    ((e : Observation) → IsAhead lanes begun n events e → Contains entries e) →
    LeadsBy O n taken events s lanes t last → IsPlanned O entries events n s lanes begun taken
planned O entries events n s lanes begun low inside led_nowhere = record {
  order = [];
  as_taken = tt;
  plan = record {
    effects = All-nil (IsEffectOf entries);
    each = All-nil (λ (x : Effect). IsAhead lanes begun n [] x.entry ⊎ IsLate (n + length {A = Event} []) x.entry);
    once = pairs_none AreOfTwoEntries;
    whole = λ e is back. absurd (nothing_ahead lanes begun n e is back);
    ordered = pairs_none RespectsBefore;
    runs = tt;
  };
  gets = λ lane reply is. tt;
}
planned O entries events n s lanes begun low inside (by_taken {order = taken} {next = next} {after = after} lane call
    reply asks step sets rest) = takes_first O entries events n s next lanes after begun lane call reply asks
    (low lane call asks) step sets inside taken
    (planned O entries events n next after begun
    (have_begun_still lanes after begun lane n n (omega arith) (λ c asks_c. asks_or_gets asks_c sets.here) sets.others
    low)
    (λ e is. inside e (takes_back lanes after begun lane n reply events e sets is)) rest)
planned O entries events n s lanes begun low inside (by_next {order = taken} {events = more} {after = after} event
    happens rest) =
    let moves : MovesOn lanes after begun (begun_then begun n event) n event more =
    happens_moves lanes after begun n event more happens in
    planned_past O entries event more n s lanes after begun (begun_then begun n event) taken moves
    (planned O entries more (n + 1) s after (begun_then begun n event) (moves.low low)
    (λ e is. inside e (moves.back e is)) rest)
