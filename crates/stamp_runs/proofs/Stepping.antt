-- Positions where a call begins, or is withdrawn; and a set of which each position is kept as another.
use Rattle.std.proofs.Common.{◌≡◌, ◌≢◌, ℕ, suc, List, ◌∷◌, sym, ◌∙◌, subst, append-nil}
use Rattle.stamp_core.specs.declared.call.Call.{Call}
use Rattle.stamp_runs.specs.declared.event.Event.{Event}
use Rattle.stamp_runs.specs.declared.event.Event.TheVariants.{Begins, Withdraws}
use Rattle.stamp_runs.specs.Object.{Object}
use Rattle.stamp_runs.specs.Run.{Lanes, Leads, all_idle}
use Rattle.stamp_runs.specs.Run.Leads.{leads_nowhere, by_event}
use Rattle.stamp_runs.specs.Run.Phase.{Asks, Gets, Idle}
use Rattle.stamp_runs.specs.Watching.{GoesOn, StandFor}
use Rattle.stamp_runs.specs.Position.{OfSome, Position}
use Rattle.stamp_runs.specs.Returning.{IsKeptAs, IsReached, OneOf}
use Rattle.stamp_runs.specs.Stepping.{IsBegun, IsWithdrawn}
use Rattle.stamp_runs.proofs.Lanes.{asks_or_gets, idle_or_asks, leads_on, set_of, sets_alike, sets_of, sets_swapped}
use Rattle.stamp_runs.proofs.Lanes.{true_or_false}
use Rattle.stamp_runs.proofs.Going.{GoesOnIn, goes_on_in, survives}
use Rattle.stamp_runs.proofs.Going.GoesOnIn.{one_effect, one_event}
use Rattle.stamp_runs.proofs.Hiding.{asked_before, hidden_beside}
use Rattle.stamp_runs.proofs.Sources.{unfree_stays}
use Rattle.stamp_runs.proofs.Reaching.{reached_came}
use Rattle.stamp_runs.proofs.Keeping.{kept_holds}

module _ {S : Type 0} (O : Object S) where
  -- nothing is lost if a call begins before others take effect
  begins_first : {n : ℕ} {events : List Event} {s : S} {l : Lanes} (lane : ℕ) (call : Call) → l lane ≡ Idle →
      GoesOnIn O n (Begins lane call ∷ events) s l → GoesOnIn O n events s (set_of l lane (Asks call))
  begins_first {l = l} lane call idle (one_effect {after = after} u c r asks step sets rest) = one_effect u c r
      ((sets_of l lane (Asks call)).others u (λ e. other (sym e)) ∙ asks) step
      (sets_swapped l after (set_of l lane (Asks call)) (set_of after lane (Asks call)) u lane (Gets r) (Asks call)
      (λ e. other (sym e)) sets (sets_of l lane (Asks call)) (sets_of after lane (Asks call)))
      (begins_first lane call (sets.others lane other ∙ idle) rest)
    where
      other : lane ≢ u
      other e = idle_or_asks (subst (λ (v : ℕ). l v ≡ Idle) e idle) asks
  begins_first {n} {events} {s} {l} lane call idle (one_event {after = after} itself happens rest) =
      subst (λ (a : Lanes). GoesOnIn O n events s a)
      (sets_alike l after (set_of l lane (Asks call)) lane (Asks call) happens.1 (sets_of l lane (Asks call))) rest

  -- a call that is withdrawn is not in effect, and nothing is lost if it is withdrawn before others take effect
  record WithdrawsAtOnce (n : ℕ) (events : List Event) (s : S) (l : Lanes) (lane : ℕ) : Type 0 where
    call : Call
    asks : l lane ≡ Asks call
    goes : GoesOnIn O n events s (set_of l lane Idle)

  withdraws_first : {n : ℕ} {events : List Event} {s : S} {l : Lanes} (lane : ℕ) →
      GoesOnIn O n (Withdraws lane ∷ events) s l → WithdrawsAtOnce n events s l lane
  withdraws_first {events = events} {s} {l} lane (one_effect {n = n} {next = next} {after = after} u c r asks step sets
      rest) = by (withdraws_first lane rest)
    where
      by : WithdrawsAtOnce n events next after lane → WithdrawsAtOnce (suc n) events s l lane
      by later = record {
        call = later.call;
        asks = sym (sets.others lane other) ∙ later.asks;
        goes = one_effect u c r ((sets_of l lane Idle).others u (λ e. other (sym e)) ∙ asks) step
            (sets_swapped l after (set_of l lane Idle) (set_of after lane Idle) u lane (Gets r) Idle
            (λ e. other (sym e)) sets (sets_of l lane Idle) (sets_of after lane Idle)) later.goes;
      }
        where
          other : lane ≢ u
          other e = asks_or_gets later.asks (subst (λ (v : ℕ). after v ≡ Gets r) (sym e) sets.here)
  withdraws_first {n} {events} {s} {l} lane (one_event {after = after} itself happens rest) = record {
    call = happens.0;
    asks = happens.1;
    goes = subst (λ (a : Lanes). GoesOnIn O n events s a)
        (sets_alike l after (set_of l lane Idle) lane Idle happens.2 (sets_of l lane Idle)) rest;
  }

  pub go_on_by_beginning : (fits then_fits : List Event → Type 0) (lane : ℕ) (call : Call) (old new : Position S →
      Type 0) →
      ((future : List Event) → then_fits future → fits (Begins lane call ∷ future)) →
      ((q : Position S) → new q → OneOf old (λ (p : Position S). IsBegun lane call p q)) →
      ((p : Position S) → old p → OneOf new (IsBegun lane call p)) →
      GoesOn O (Begins lane call) fits then_fits (OfSome O old) (OfSome O new)
  go_on_by_beginning fits then_fits lane call old new fits_then come stay = record {
    fits_then = fits_then;
    comes = λ s l of. let one = come of.position of.among in
        let idle : Lanes = set_of l lane Idle in record {
          state = s;
          before = idle;
          among = record {
            position = one.position;
            among = one.there;
            stands = record {
              same = one.is.state ∙ of.stands.same;
              hidden = hidden_beside O lane (λ v other free. sym (one.is.free.others v other) ∙ free) of.stands.hidden
                  (λ r free gets. true_or_false free one.is.free.not_it) Idle one.position.lanes idle
                  (record { here = one.is.idle; others = λ v other. sym (one.is.sets.others v other) })
                  (sets_of l lane Idle);
            };
          };
          leads = by_event (Begins lane call) (
            (sets_of l lane Idle).here,
            record {
              here = unfree_stays O lane one.is.free.not_it of.stands.hidden ∙ one.is.sets.here;
              others = λ v other. sym ((sets_of l lane Idle).others v other);
            },
          ) leads_nowhere;
        };
    whole = λ future fit some. let one = stay some.among.position some.among.among in
        let hidden = some.among.stands.hidden in
        record {
          state = some.state;
          lanes = set_of some.lanes lane (Asks call);
          among = record {
            position = one.position;
            among = one.there;
            stands = record {
              same = sym one.is.state ∙ some.among.stands.same;
              hidden = hidden_beside O lane (λ v other free. one.is.free.others v other ∙ free) hidden
                  (λ r free gets. true_or_false free one.is.not_free) (Asks call) one.position.lanes
                  (set_of some.lanes lane (Asks call)) one.is.sets (sets_of some.lanes lane (Asks call));
            };
          };
          survives = survives O (begins_first lane call (unfree_stays O lane one.is.not_free hidden ∙ one.is.idle)
              (goes_on_in O some.survives.way).1);
        };
  }

  pub go_on_by_withdrawal : (fits then_fits : List Event → Type 0) (lane : ℕ) (old new : Position S → Type 0) →
      ((future : List Event) → then_fits future → fits (Withdraws lane ∷ future)) →
      ((q : Position S) → new q → OneOf old (λ (p : Position S). IsWithdrawn lane p q)) →
      ((p : Position S) (call : Call) → old p → p.lanes lane ≡ Asks call → OneOf new (IsWithdrawn lane p)) →
      GoesOn O (Withdraws lane) fits then_fits (OfSome O old) (OfSome O new)
  go_on_by_withdrawal fits then_fits lane old new fits_then come stay = record {
    fits_then = fits_then;
    comes = λ s l of. let one = come of.position of.among in
        let asking : Lanes = set_of l lane (Asks one.is.call) in record {
          state = s;
          before = asking;
          among = record {
            position = one.position;
            among = one.there;
            stands = record {
              same = one.is.state ∙ of.stands.same;
              hidden = hidden_beside O lane (λ v other free. sym (one.is.free.others v other) ∙ free) of.stands.hidden
                  (λ r free gets. true_or_false free one.is.free.not_it) (Asks one.is.call) one.position.lanes asking
                  (record { here = one.is.asks; others = λ v other. sym (one.is.sets.others v other) })
                  (sets_of l lane (Asks one.is.call));
            };
          };
          leads = by_event (Withdraws lane) (
            one.is.call,
            (sets_of l lane (Asks one.is.call)).here,
            record {
              here = unfree_stays O lane one.is.free.not_it of.stands.hidden ∙ one.is.sets.here;
              others = λ v other. sym ((sets_of l lane (Asks one.is.call)).others v other);
            },
          ) leads_nowhere;
        };
    whole = λ future fit some. let first = withdraws_first lane (goes_on_in O some.survives.way).1 in
        let hidden = some.among.stands.hidden in
        let one = stay some.among.position first.call some.among.among
        (asked_before O lane first.call hidden first.asks) in record {
          state = some.state;
          lanes = set_of some.lanes lane Idle;
          among = record {
            position = one.position;
            among = one.there;
            stands = record {
              same = sym one.is.state ∙ some.among.stands.same;
              hidden = hidden_beside O lane (λ v other free. one.is.free.others v other ∙ free) hidden
                  (λ r free gets. asks_or_gets first.asks gets) Idle one.position.lanes
                  (set_of some.lanes lane Idle) one.is.sets (sets_of some.lanes lane Idle);
            };
          };
          survives = survives O first.goes;
        };
  }

  pub stand_as_kept : (start : S) (past : List Event) (fits : List Event → Type 0) (old new : Position S → Type 0) →
      StandFor O start past fits (OfSome O old) → ((q : Position S) → new q → IsReached O old q) →
      ((p : Position S) → old p → OneOf new (IsKeptAs O fits p)) → StandFor O start past fits (OfSome O new)
  stand_as_kept start past fits old new stand reached kept = record {
    possible = λ s l of. let came = reached_came O of.position (reached of.position of.among) s l of.stands in
        subst (λ (events : List Event). Leads O events start all_idle s l) (append-nil past)
        (leads_on (stand.possible came.state came.before came.among) came.way);
    whole = λ future fit explained. let one = stand.whole future fit explained in
        let then = kept one.among.position one.among.among in
        let held = kept_holds O {p = one.among.position} {q = then.position} fit then.is one.among.stands
        (goes_on_in O one.survives.way).1 in record {
          state = one.state;
          lanes = held.shown;
          among = record { position = then.position; among = then.there; stands = held.stands };
          survives = survives O held.goes;
        };
  }
