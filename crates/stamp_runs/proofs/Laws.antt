-- The laws, of any object.
use Rattle.std.proofs.Common.{◌≡◌, ℕ, Bool, None, Some, List, [], ◌∷◌, ◌++◌, inl, inr, refl, sym, ◌∙◌}
use Rattle.std.proofs.Common.{subst, append-nil, zero, suc, arith}
use Rattle.std.specs.Prelude.{◌⊎◌, ◌≢◌, true, false}
use Rattle.std.specs.List.{Contains}
use Rattle.std.proofs.Math.Seq.{take-append_seam, take-append-add}
use Rattle.std.proofs.lemmas.Bool.{cases_eq}
use Rattle.std.proofs.lemmas.List.Elements.{Contains-append_left, Contains-push}
use Rattle.stamp_core.specs.declared.call.Call.{Call}
use Rattle.stamp_core.specs.declared.reply.Reply.{Reply}
use Rattle.stamp_runs.specs.declared.event.Event.{Event}
use Rattle.stamp_runs.specs.declared.event.Event.TheVariants.{Begins, Returns, Withdraws}
use Rattle.stamp_runs.specs.Object.{Object}
use Rattle.stamp_runs.specs.Run.{AreExplainedFrom, EndsBy, Lanes, Leads, Sets, all_idle}
use Rattle.stamp_runs.specs.Run.Leads.{leads_nowhere}
use Rattle.stamp_runs.specs.Run.Phase.{Asks, Gets}
use Rattle.stamp_runs.specs.Watching.{Fits}
use Rattle.stamp_runs.specs.Position.{Hidden, OfSome, Overwrites, Position, StandsFor, opening_position}
use Rattle.stamp_runs.specs.Position.Hidden.{no_more, overwrites}
use Rattle.stamp_runs.specs.RunLaws.{AtOnceLosesNothing, EndlessAlikeFirst, EndlessMayAsk, ExplainedApart, FreeOrAsks}
use Rattle.stamp_runs.specs.RunLaws.{ExplainedByOwn, OwnEventsTell}
use Rattle.stamp_runs.specs.RunLaws.{FreeCovers, HiddenAlikeFirst, HiddenIsPossible, HiddenLosesNothing}
use Rattle.stamp_runs.specs.RunLaws.{HiddenWithReaders}
use Rattle.stamp_runs.specs.RunLaws.{OpeningStands, OthersStay, OverwritingIsPossible, OverwritingLosesNothing}
use Rattle.stamp_runs.specs.RunLaws.{PositionsGoOn, PositionsTell, ReadersLoseNothing, ReturnsGoOn, SoonerAlikeFirst}
use Rattle.stamp_runs.specs.RunLaws.{BeginsGoOn, KeptStand, OrderTells, StuckIsExact, TraceLeads, TracesGoOn}
use Rattle.stamp_runs.specs.RunLaws.{WithdrawsGoOn}
use Rattle.stamp_runs.specs.Returning.{told_return}
use Rattle.stamp_runs.proofs.Lanes.{asks_or_gets, one_call, pick, picks_first, picks_second, sets_itself}
use Rattle.stamp_runs.proofs.Lanes.{true_or_false}
use Rattle.stamp_runs.proofs.Hiding.{EachOverwrites, asked_before, from_any, hidden_beside, hidden_first, hidden_leads}
use Rattle.stamp_runs.proofs.Hiding.{hidden_on, with_more}
use Rattle.stamp_runs.proofs.Owning.{others_join, own_goes_on}
use Rattle.stamp_runs.proofs.Owning.Fit.{is_free}
use Rattle.stamp_runs.specs.Own.{none_open}
use Rattle.stamp_runs.specs.Pairs.{Of, not_of}
use Rattle.stamp_runs.proofs.Apart.{way_of_first, way_of_other, ways_merge}
use Rattle.stamp_runs.proofs.Apart.Together.{all_are_idle}
use Rattle.stamp_runs.proofs.Going.{goes_on_in, survives}
use Rattle.stamp_runs.proofs.Readers.{readers_first}
use Rattle.stamp_runs.proofs.Reading.{readers_go_on}
use Rattle.stamp_runs.proofs.Endless.{asking_goes_on}
use Rattle.stamp_runs.proofs.Sets.{leads_survive, none_among, stand_on}
use Rattle.stamp_runs.proofs.Alike.{endless_first, sooner_first, twisted_of}
use Rattle.stamp_runs.proofs.Placing.{hidden_alike}
use Rattle.stamp_runs.proofs.Ordering.{leads_of, order_on}
use Rattle.stamp_runs.proofs.Traces.{event_traced, reached_traced}
use Rattle.stamp_runs.proofs.Tracing.{trace_leads}
use Rattle.stamp_runs.proofs.Returning.{go_on_by_return}
use Rattle.stamp_runs.proofs.Stepping.{go_on_by_beginning, go_on_by_withdrawal, stand_as_kept}

pub explained_apart : {S T : Type 0} (mine : Call → Bool) (O : Object S) (P : Object T) → ExplainedApart mine O P
explained_apart mine O P start other events = (
  (λ way. (
    record { state = way.state.0; last = way.last; way = way_of_first mine O P way.way },
    record { state = way.state.1; last = way.last; way = way_of_other mine O P way.way },
  )),
  λ ways. ways_merge mine O P (λ lane. all_are_idle refl refl refl) ways.0.way ways.1.way,
)

pub own_events_tell : {S : Type 0} (O : Object S) → OwnEventsTell O
own_events_tell O mine start events form = (
  (λ way. survives O (own_goes_on mine O (goes_on_in (Of mine O) way.way).1 none_open all_idle
      (λ v. is_free refl refl refl))),
  λ way. others_join mine O events none_open form (λ v. is_free refl refl refl) (goes_on_in O way.way).1,
)

pub explained_by_own : {S T : Type 0} (mine : Call → Bool) (O : Object S) (P : Object T) → ExplainedByOwn mine O P
explained_by_own mine O P start other events form = (
  (λ way. let parts = (explained_apart mine O P start other events).0 way in (
    (own_events_tell O mine start events form).0 parts.0,
    (own_events_tell P (not_of mine) other events form).0 parts.1,
  )),
  λ parts. (explained_apart mine O P start other events).1 (
    (own_events_tell O mine start events form).1 parts.0,
    (own_events_tell P (not_of mine) other events form).1 parts.1,
  ),
)

module _ {S : Type 0} (O : Object S) where
  pub overwriting_is_possible : OverwritingIsPossible O
  overwriting_is_possible start past old new lane call reply asks over sets apart way s lanes stands =
      subst (λ (t : S). Leads O past start all_idle t lanes) stands.same
      (hidden_leads O lane call reply new.state over apart stands.hidden old.state tt old.lanes asks sets way)

  pub overwriting_loses_nothing : OverwritingLosesNothing O
  overwriting_loses_nothing old new lane call reply other s next lanes after over sets frees stands asks step
      sets_after
      = record {
        same = sym (over.leaves s next other step);
        hidden = hidden_beside O lane frees.others stands.hidden (λ r free gets. asks_or_gets asks gets)
            (Gets reply) new.lanes after sets
            (subst (λ (r : Reply). Sets lanes after lane (Gets r)) (over.answer s next other step) sets_after);
      }

  pub others_stay : OthersStay O
  others_stay old new lane s lanes after apart frees sets sets_after stands = record {
    same = refl;
    hidden = hidden_beside O lane (λ v other free. frees.others v other ∙ free) stands.hidden
        (λ r free gets. true_or_false free apart) (after lane) new.lanes after sets sets_after;
  }

  pub free_or_asks : FreeOrAsks O
  free_or_asks old new lane call s lanes same alike frees stands asks = record {
    same = sym same ∙ stands.same;
    hidden = subst (λ (a : Lanes). Hidden O new.free None a lanes) alike
        (hidden_beside O lane (λ v other free. frees.others v other ∙ free) stands.hidden
        (λ r free gets. asks_or_gets asks gets) (lanes lane) old.lanes lanes
        (sets_itself old.lanes lane (lanes lane) (asked_before O lane call stands.hidden asks ∙ sym asks))
        (sets_itself lanes lane (lanes lane) refl));
  }

  pub hidden_is_possible : HiddenIsPossible O
  hidden_is_possible old new s lanes same hidden more stands = record {
    same = same ∙ stands.same;
    hidden = hidden_on O hidden (with_more O more stands.hidden);
  }

  pub hidden_loses_nothing : HiddenLosesNothing O
  hidden_loses_nothing old new lane reply s lanes each same free sets frees stands gets = record {
    same = sym same ∙ stands.same;
    hidden = hidden_first O lane reply (λ v apart is. frees.others v apart ∙ is) stands.hidden overwrite gets
        new.lanes sets;
  }
    where
      overwrite : EachOverwrites O old.free old.lanes
      overwrite v is call asks = (
        (each v is).reply,
        (each v is).leaves,
        subst (λ (x : Call). Overwrites O x (each v is).reply (each v is).leaves)
            (one_call (each v is).asks asks) (each v is).overwrites,
      )

  pub hidden_with_readers : HiddenWithReaders O
  hidden_with_readers ahead old new lane reply t readers told s lanes shown after ok stands gets shows = record {
    same = sym after.state ∙ stands.same;
    hidden = readers_first O ahead old.free new.free readers told lane reply t after.free
        stands.hidden after.each after.overwrites None (inl refl) new.lanes shown after.shows shows gets ok;
  }

  pub readers_lose_nothing : ReadersLoseNothing O
  readers_lose_nothing readers told events s lanes shown each shows way =
      survives O (readers_go_on O told readers each (goes_on_in O way.way).1 shown shows)

  -- it is the only reader
  pub at_once_loses_nothing : AtOnceLosesNothing O
  at_once_loses_nothing lane call reply events s lanes after still asks sets tells way = readers_lose_nothing only
      (λ v. reply) events s lanes after (λ v is. record {
        call = call;
        still = still;
        phase_is = inl (subst (λ (w : ℕ). lanes w ≡ Asks call) (sym (is_it v is)) asks);
        ends = subst (λ (w : ℕ). EndsBy w (Returns w reply) events) (sym (is_it v is)) tells;
      }) (record {
        read = λ v is. subst (λ (w : ℕ). after w ≡ Gets reply) (sym (is_it v is)) sets.here;
        others = λ v not. sets.others v (λ e. true_or_false (picks_first (cases_eq v lane) true false e) not);
      }) way
    where
      only : ℕ → Bool
      only = λ v. pick (cases_eq v lane) true false

      is_it : (v : ℕ) → only v ≡ true → v ≡ lane
      is_it v is = by (cases_eq v lane)
        where
          by : (v ≡ lane) ⊎ (v ≢ lane) → v ≡ lane
          by (inl same) = same
          by (inr apart) = absurd (true_or_false is (picks_second (cases_eq v lane) true false apart))

  pub endless_may_ask : EndlessMayAsk O
  endless_may_ask endless events s lanes asking never again way =
      survives O (asking_goes_on O endless never (goes_on_in O way.way).1 asking again)

  pub sooner_alike_first : SoonerAlikeFirst O
  sooner_alike_first lane than call other reply events s lanes later sooner same apart asks asks_too sets sets_sooner
      tells returns_sooner way = survives O (sooner_first O lane than call other reply same apart
      (sets.others lane apart ∙ asks) sets.here tells returns_sooner (goes_on_in O way.way).1 sooner
      (twisted_of lanes later sooner lane than other reply apart asks_too sets sets_sooner))

  pub endless_alike_first : EndlessAlikeFirst O
  endless_alike_first lane than call other reply events s lanes later sooner same apart asks asks_too sets sets_sooner
      never nor_than way = survives O (endless_first O lane than call other reply same apart reply
      (sets.others lane apart ∙ asks) sets.here never nor_than (goes_on_in O way.way).1 sooner
      (twisted_of lanes later sooner lane than other reply apart asks_too sets sets_sooner))

  pub hidden_alike_first : HiddenAlikeFirst O
  hidden_alike_first p lane than call other reply t events lanes apart asks asks_too free alike over first stands gets
      way = let one = hidden_alike O p lane than call other reply t lanes apart asks asks_too free alike over first
      stands gets (goes_on_in O way.way).1 in
      record { lanes = one.lanes; stands = one.stands; gets = one.gets; survives = survives O one.goes }

  none_free : {l m : Lanes} → Hidden O (λ v. false) None l m → l ≡ m
  none_free no_more = refl
  none_free (overwrites u c r t is asks over sets rest) = absurd (true_or_false is refl)

  pub opening_stands : OpeningStands O
  opening_stands start told = record {
    possible = λ s lanes of. opened s lanes of;
    whole = λ future fits explained. record {
      state = start;
      lanes = all_idle;
      among = record {
        position = opening_position start;
        among = Contains-push [] (opening_position start);
        stands = record { same = refl; hidden = no_more };
      };
      survives = explained;
    };
  }
    where
      opened : (s : S) (lanes : Lanes) → OfSome O (Contains (opening_position start ∷ [])) s lanes → Leads O []
          start all_idle s
          lanes
      opened s lanes of = by of.among
        where
          at : (p : Position S) → opening_position start ≡ p → StandsFor O p s lanes → Leads O [] start all_idle s
              lanes
          at p same stands = so (subst (λ (q : Position S). StandsFor O q s lanes) (sym same) stands)
            where
              so : StandsFor O (opening_position start) s lanes → Leads O [] start all_idle s lanes
              so is = subst (λ (t : S). Leads O [] start all_idle t lanes) is.same
                  (subst (λ (l : Lanes). Leads O [] start all_idle start l) (none_free is.hidden) leads_nowhere)

          by : Contains (opening_position start ∷ []) of.position → Leads O [] start all_idle s lanes
          by (zero, low, same) = at of.position same of.stands
          by (suc n, low, same) = absurd (omega (arith, low))

  pub positions_go_on : PositionsGoOn O
  positions_go_on start past event told then_told old new stand goes = stand_on O start past event (Fits told)
      (Fits then_told) (OfSome O (Contains old)) (OfSome O (Contains new)) stand goes

  pub positions_tell : PositionsTell O
  positions_tell start past told kept stand = (some, none)
    where
      some : (p : Position S) (others : List (Position S)) → kept ≡ p ∷ others → AreExplainedFrom O start past
      some p others are = leads_survive O (stand.possible p.state p.lanes (record {
        position = p;
        among = subst (λ (ps : List (Position S)). Contains ps p) (sym are)
            (Contains-append_left (p ∷ []) others p (Contains-push [] p));
        stands = record { same = refl; hidden = no_more };
      }))

      none : (future : List Event) → kept ≡ [] → Fits told future → ¬ AreExplainedFrom O start (past ++ future)
      none future are fits explained = let one = stand.whole future fits explained in
          none_among O one.state one.lanes
          (subst (λ (ps : List (Position S)). OfSome O (Contains ps) one.state one.lanes) are one.among)

  pub stuck_is_exact : StuckIsExact O
  stuck_is_exact start past event more told then_told p others stand goes fits = record {
    explained = subst (AreExplainedFrom O start) (sym (take-append_seam past (event ∷ more)))
        ((positions_tell start past told (p ∷ others) stand).0 p others refl);
    stuck = λ explained. (positions_tell start (past ++ event ∷ []) then_told []
        (positions_go_on start past event told then_told (p ∷ others) [] stand goes)).1 [] refl fits
        (subst (AreExplainedFrom O start)
        (take-append-add past (event ∷ more) 1 ∙ sym (append-nil (past ++ event ∷ []))) explained);
  }

  pub returns_go_on : ReturnsGoOn O
  returns_go_on told then_told lane reply old looked new fits by = go_on_by_return O
      (told_return told then_told lane reply) (Contains old) (Contains looked) (Contains new) (λ future fit. fit)
      fits by

  pub begins_go_on : BeginsGoOn O
  begins_go_on told then_told lane call old new fits come stay = go_on_by_beginning O (Fits told) (Fits then_told) lane
      call (Contains old) (Contains new) fits come stay

  pub withdraws_go_on : WithdrawsGoOn O
  withdraws_go_on told then_told lane old new fits come stay = go_on_by_withdrawal O (Fits told) (Fits then_told) lane
      (Contains old) (Contains new) fits come stay

  pub kept_stand : KeptStand O
  kept_stand start past told old new stand reached kept = stand_as_kept O start past (Fits told) (Contains old)
      (Contains new) stand reached kept

  pub free_covers : FreeCovers O
  free_covers p q lane call reply t same asks over free sets more s lanes stands = record {
    same = sym same ∙ stands.same;
    hidden = overwrites lane call reply t free asks over sets (from_any O (Some t) (with_more O more stands.hidden));
  }

  pub order_tells : OrderTells O
  order_tells n events s t lanes last = ((λ way. leads_of O way.1), (λ way. order_on O way n))

  pub trace_tells : TraceLeads O
  trace_tells start past moves p trace = (trace_leads O start p trace p.lanes no_more, trace_leads O start p trace)

  pub traces_go_on : TracesGoOn O
  traces_go_on start past old traced = (
    reached_traced O start past (Contains old) traced,
    (λ lane call p q there is. event_traced O start past (Contains old) traced (Begins lane call) p q there is.state
        (is.idle, is.sets) is.free),
    (λ lane p q there is. event_traced O start past (Contains old) traced (Withdraws lane) p q there is.state
        (is.call, is.asks, is.sets) is.free),
    (λ told then_told lane reply p q there is. event_traced O start past (Contains old) traced (Returns lane reply) p q
        there is.state (is.gets, is.sets) is.free),
  )
