-- A return by positions.
use Rattle.std.proofs.Common.{◌≡◌, ◌≢◌, ◌⊎◌, ℕ, suc, Bool, true, false, List, ◌∷◌, None, Some, refl}
use Rattle.std.proofs.Common.{sym, ◌∙◌, ap, inl, inr, subst}
use Rattle.std.proofs.lemmas.Bool.{cases_eq, cases_Bool}
use Rattle.stamp_core.specs.declared.call.Call.{Call}
use Rattle.stamp_core.specs.declared.reply.Reply.{Reply}
use Rattle.stamp_runs.specs.declared.event.Event.{Event}
use Rattle.stamp_runs.specs.declared.event.Event.TheVariants.{Returns}
use Rattle.stamp_runs.specs.Object.{Object}
use Rattle.stamp_runs.specs.Run.{Happens, Lanes, Sets}
use Rattle.stamp_runs.specs.Run.Leads.{leads_nowhere, by_event}
use Rattle.stamp_runs.specs.Run.Phase.{Asks, Gets, Idle}
use Rattle.stamp_runs.specs.Watching.{ComesFrom, Fits, GoesOn, MayGet, OneSurvives}
use Rattle.stamp_runs.specs.Position.{Hidden, OfSome, Overwrites, OverwritesNever, Position, StandsFor}
use Rattle.stamp_runs.specs.Position.Hidden.{no_more, overwrites, sees}
use Rattle.stamp_runs.specs.Returning.{AsksSomeCall, Comes, Effect, GivesPlace, GivesWay, IsHiddenWith, IsInEffect}
use Rattle.stamp_runs.specs.Returning.{IsSeenTo, IsSource, OneOf, Return, ReturnsAs, ReturnsBy, TakesEffect}
use Rattle.stamp_runs.specs.Returning.{event_of, of_other}
use Rattle.stamp_runs.specs.Returning.IsSeenTo.{is_looked_at, is_unseen, gives_way}
use Rattle.stamp_runs.proofs.Lanes.{asks_or_gets, leads_on, one_reply, set_of, sets_alike, sets_itself}
use Rattle.stamp_runs.proofs.Lanes.{sets_of, sets_swapped, true_or_false}
use Rattle.stamp_runs.proofs.Going.{GoesOnIn, goes_on_in, may_get, survives}
use Rattle.stamp_runs.proofs.Going.GoesOnIn.{one_effect, one_event}
use Rattle.stamp_runs.proofs.Hiding.{asked_before, hidden_beside, hidden_on, stays_in_effect}
use Rattle.stamp_runs.proofs.Hiding.{with_more}
use Rattle.stamp_runs.proofs.Reading.{readers_go_on}
use Rattle.stamp_runs.proofs.Readers.{readers_first}
use Rattle.stamp_runs.proofs.Alike.{Twisted, alike_first, twist, twist_is, twisted_of}
use Rattle.stamp_runs.proofs.Placing.{hidden_alike, place_given}
use Rattle.stamp_runs.proofs.Keeping.{HoldsIn, are_shown, kept_holds, reads_there, shown_by}
use Rattle.stamp_runs.proofs.Reaching.{reached_came}
use Rattle.stamp_runs.proofs.Lanes.{none_some}
use Rattle.stamp_runs.proofs.Sources.{HasSource, answered_of, asks_or_is_hidden, source_of, unfree_stays}

module _ {S : Type 0} (O : Object S) where
  -- a call that is in effect and returns next returns before others take effect
  record ReturnsAtOnce (n : ℕ) (events : List Event) (s : S) (lanes : Lanes) (lane : ℕ) (gotten reply : Reply) : Type 0
    where
      same : gotten ≡ reply
      goes : GoesOnIn O n events s (set_of lanes lane Idle)

  returns_first : {n : ℕ} {events : List Event} {s : S} {l : Lanes} (lane : ℕ) (gotten reply : Reply) →
      l lane ≡ Gets gotten → GoesOnIn O n (Returns lane reply ∷ events) s l →
      ReturnsAtOnce n events s l lane gotten reply
  returns_first {events = events} {s} {l} lane gotten reply gets (one_effect {n = n} {next = next} {after = after} u c
      r asks step sets rest) = by (returns_first lane gotten reply (sets.others lane other ∙ gets) rest)
    where
      other : lane ≢ u
      other e = asks_or_gets asks (subst (λ (v : ℕ). l v ≡ Gets gotten) e gets)

      by : ReturnsAtOnce n events next after lane gotten reply → ReturnsAtOnce (suc n) events s l lane gotten reply
      by later = record {
        same = later.same;
        goes = one_effect u c r ((sets_of l lane Idle).others u (λ e. other (sym e)) ∙ asks) step
            (sets_swapped l after (set_of l lane Idle) (set_of after lane Idle) u lane (Gets r) Idle
            (λ e. other (sym e)) sets (sets_of l lane Idle) (sets_of after lane Idle)) later.goes;
      }
  returns_first {n} {events} {s} {l} lane gotten reply gets (one_event {after = after} itself happens rest) = record {
    same = one_reply gets happens.0;
    goes = subst (λ (a : Lanes). GoesOnIn O n events s a)
        (sets_alike l after (set_of l lane Idle) lane Idle happens.1 (sets_of l lane Idle)) rest;
  }

  module _ (e : Return) (old looked new : Position S → Type 0)
      (all_fit : (future : List Event) → e.fits future → Fits e.told future)
      (fits_then : (future : List Event) → e.then_fits future → e.fits (event_of e ∷ future))
      (by : ReturnsBy O e old looked new) where
    abbrev lane : ℕ
    lane = e.lane

    abbrev frees : Position S → ℕ → Bool
    frees = by.followed.frees

    abbrev After : List Event → Type 0
    After = e.then_fits

    now : {future : List Event} → After future → Comes e (event_of e ∷ future)
    now {future} fit = record { later = future; events_are = refl; fits = fit }

    gets_may : {n : ℕ} {future : List Event} {s : S} {l : Lanes} → After future → (v : ℕ) (r : Reply) → l v ≡ Gets r →
        GoesOnIn O n (event_of e ∷ future) s l → MayGet (e.told v) r
    gets_may {future = future} fit v r gets way = may_get O (e.told v) v r ((all_fit (event_of e ∷ future)
        (fits_then future fit)).each v) gets way

    -- a configuration on the way: a position stands for it; or it is one behind calls that are unseen
    data IsAt (s : S) (l : Lanes) : Type 0 where
      it_stands : (p : Position S) → looked p → StandsFor O p s l → IsAt s l
      unseen : (p : Position S) (asked : Call) → looked p → p.lanes lane ≡ Asks asked →
          ((last : Lanes) → Hidden O (frees p) (Some s) l last → Hidden O (frees p) None p.lanes last) →
          ((v : ℕ) (c : Call) (r : Reply) (t : S) → p.lanes v ≡ Asks c → O s c r t → MayGet (e.told v) r →
          Overwrites O c r t ⊎ ((frees p v ≡ true) × (t ≡ s))) → IsAt s l

    -- where it is in effect it returns
    in_effect_goes_on : {n : ℕ} {future : List Event} → After future → (s : S) (l : Lanes) (p : Position S) →
        looked p → StandsFor O p s l → p.lanes lane ≡ Gets e.reply →
        GoesOnIn O n future s (set_of l lane Idle) → OneSurvives O future (OfSome O new)
    in_effect_goes_on {n} {future} fit s l p there stands gets way = record {
      state = s;
      lanes = held.shown;
      among = record { position = one.position; among = one.there; stands = held.stands };
      survives = survives O held.goes;
    }
      where
        one : OneOf new (ReturnsAs O e p)
        one = by.left.stay p there gets

        held : HoldsIn O n future s one.position
        held = kept_holds O {p = one.is.then} {q = one.position} fit one.is.kept (record {
          same = sym one.is.return.state ∙ stands.same;
          hidden = hidden_beside O lane (λ v other free. one.is.return.free.others v other ∙ free) stands.hidden
              (λ r free is. true_or_false free one.is.return.not_free) Idle one.is.then.lanes (set_of l lane Idle)
              one.is.return.sets (sets_of l lane Idle);
        }) way

    -- what stands there once a call that overwrites has taken effect
    stands_then : (s : S) (l after : Lanes) (p q : Position S) (x : Effect S) → Hidden O (frees p) None p.lanes l →
        l x.lane ≡ Asks x.call → Sets l after x.lane (Gets x.reply) → Overwrites O x.call x.reply x.next →
        IsInEffect O (frees p) x p q → StandsFor O q x.next after
    stands_then s l after p q x hidden asks sets over is = record {
      same = is.state;
      hidden = hidden_beside O x.lane (is.frees_all over) hidden (λ r free gets. asks_or_gets asks gets)
          (Gets x.reply) q.lanes after is.sets sets;
    }

    -- on the way, in a configuration that is looked at
    record GoesOnAt (n : ℕ) (future : List Event) (s : S) : Type 0 where
      shown : Lanes
      at : IsAt s shown
      goes : GoesOnIn O n (event_of e ∷ future) s shown

    looked_at : {n : ℕ} {future : List Event} {s : S} {l : Lanes} (p : Position S) → After future → (x : Effect S) →
        (one : OneOf looked (TakesEffect O e (frees p) x p)) → StandsFor O one.is.then s l →
        GoesOnIn O n (event_of e ∷ future) s l → GoesOnAt n future s
    looked_at {n} {future} {s} p fit x one stands way = record {
      shown = held.shown;
      at = it_stands one.position one.there held.stands;
      goes = held.goes;
    }
      where
        held : HoldsIn O n (event_of e ∷ future) s one.position
        held = kept_holds O {p = one.is.then} {q = one.position} (now fit) one.is.kept stands way

    -- one that is alike takes effect instead
    given_at : {n : ℕ} {future : List Event} → After future → (s : S) {l after : Lanes} (p : Position S) (x : Effect S)
        → Hidden O (frees p) None p.lanes l → l x.lane ≡ Asks x.call → Sets l after x.lane (Gets x.reply) →
        GoesOnIn O n (event_of e ∷ future) x.next after → (gives : GivesWay O e (frees p) looked p x) →
        ((q : Position S) → IsInEffect O (frees p) (of_other gives.ahead gives.other x) p q →
        l gives.ahead ≡ Asks gives.other → StandsFor O q x.next (set_of l gives.ahead (Gets x.reply))) →
        GoesOnAt n future x.next
    given_at {n} {future} fit s {l} {after} p x hidden asks sets way gives stands_so =
        kind (asks_or_is_hidden O ahead other hidden gives.instead.asks)
      where
        ahead : ℕ
        ahead = gives.ahead

        other : Call
        other = gives.other

        apart : ahead ≢ x.lane
        apart = gives.instead.apart

        kind : (l ahead ≡ Asks other) ⊎ ((g : Reply) × (l ahead ≡ Gets g)) → GoesOnAt n future x.next
        kind (inl asks_ahead) = looked_at p fit (of_other ahead other x) gives.effect
            (stands_so gives.effect.is.then gives.effect.is.effect asks_ahead)
            (alike_first O ahead x.lane other x.call x.reply gives.instead.alike.does apart
            (sets.others ahead apart ∙ asks_ahead) sets.here
            (gives.instead.first (event_of e ∷ future) (now fit)) way (set_of l ahead (Gets x.reply))
            (twisted_of l after (set_of l ahead (Gets x.reply)) ahead x.lane x.call x.reply apart asks sets
            (sets_of l ahead (Gets x.reply))))
        kind (inr gets) = so gives.unfree
          where
            swapped : Lanes
            swapped = twist x.lane ahead other x.reply l

            is_swapped : Twisted x.lane ahead other x.reply l swapped
            is_swapped = twist_is x.lane ahead other x.reply l (λ e. apart (sym e))

            so : (frees p ahead ≡ false) ⊎ (Overwrites O x.call x.reply x.next × (frees p x.lane ≡ true)) →
                GoesOnAt n future x.next
            so (inl unfree) = absurd (asks_or_gets gives.instead.asks (sym (unfree_stays O ahead unfree hidden)
                ∙ gets.1))
            so (inr over) = looked_at p fit (of_other ahead other x) gives.effect
                (stands_then s swapped after p gives.effect.is.then (of_other ahead other x)
                (place_given O (frees p) x.lane ahead x.call other x.reply apart hidden gives.instead.asks got asks
                over.1
                gives.instead.alike.does gives.instead.alike.done_by swapped is_swapped) is_swapped.there (record {
                  here = sets.others ahead apart ∙ got;
                  others = λ v beyond. alike v beyond (cases_eq v x.lane);
                }) (record {
                  may = λ w. gives.instead.alike.done_by w x.next x.reply (over.0.may w);
                  answer = λ w t q step. over.0.answer w t q (gives.instead.alike.does w t q step);
                  leaves = λ w t q step. over.0.leaves w t q (gives.instead.alike.does w t q step);
                }) gives.effect.is.effect) way
              where
                got : l ahead ≡ Gets x.reply
                got = let answered = answered_of O ahead other gets.0 hidden gives.instead.asks gets.1 in gets.1 ∙
                    ap Gets (over.0.answer answered.0 answered.1 gets.0
                    (gives.instead.alike.does answered.0 answered.1 gets.0 answered.2))

                alike : (v : ℕ) → v ≢ ahead → (v ≡ x.lane) ⊎ (v ≢ x.lane) → after v ≡ swapped v
                alike v beyond (inl e) = subst (λ (w : ℕ). after w ≡ swapped w) (sym e)
                    (sets.here ∙ sym is_swapped.here)
                alike v beyond (inr not) = sets.others v not ∙ sym (is_swapped.others v not beyond)

    -- on the way one more call takes effect
    effect_at : {n : ℕ} {future : List Event} → After future → {s : S} {l after : Lanes} (x : Effect S) →
        l x.lane ≡ Asks x.call → O s x.call x.reply x.next → Sets l after x.lane (Gets x.reply) →
        GoesOnIn O n (event_of e ∷ future) x.next after → IsAt s l →
        GoesOnAt n future x.next ⊎ OneSurvives O future (OfSome O new)
    effect_at {n} {future} fit {s} {l} {after} x asks step sets way (it_stands p there stands) =
        kind (by.left.is_open p there)
      where
        free : Hidden O (frees p) None p.lanes l
        free = with_more O (by.followed.free p there) stands.hidden

        so : IsSeenTo O e (frees p) looked p x → (asked : Call) → p.lanes lane ≡ Asks asked → GoesOnAt n future x.next
        so (is_looked_at one) asked it = looked_at p fit x one (record {
          same = one.is.effect.state;
          hidden = hidden_beside O x.lane one.is.effect.free.others stands.hidden
              (λ r free gets. asks_or_gets asks gets) (Gets x.reply) one.is.then.lanes after one.is.effect.sets sets;
        }) way
        so (is_unseen not) asked it = record {
          shown = after;
          at = unseen p asked there it (λ last rest. hidden_on O free
              (overwrites x.lane x.call x.reply x.next not.is_free asks not.overwrites sets rest)) not.only;
          goes = way;
        }
        so (gives_way gives) asked it = given_at fit s p x free asks sets way gives (λ q is asks_ahead. record {
          same = is.state;
          hidden = hidden_beside O gives.ahead is.free.others stands.hidden
              (λ r free gets. asks_or_gets asks_ahead gets) (Gets x.reply) q.lanes
              (set_of l gives.ahead (Gets x.reply)) is.sets (sets_of l gives.ahead (Gets x.reply));
        })

        kind : ((c : Call) × (p.lanes lane ≡ Asks c)) ⊎ (p.lanes lane ≡ Gets e.reply) →
            GoesOnAt n future x.next ⊎ OneSurvives O future (OfSome O new)
        kind (inr gets) = inr (in_effect_goes_on fit s l p there stands gets
            (returns_first lane e.reply e.reply (stays_in_effect O lane e.reply stands.hidden gets)
            (one_effect x.lane x.call x.reply asks step sets way)).goes)
        kind (inl it) = inl (so (by.followed.effects p x it.0 there it.1 (record {
          asks = asked_before O x.lane x.call stands.hidden asks;
          step = subst (λ (w : S). O w x.call x.reply x.next) (sym stands.same) step;
          may = gets_may fit x.lane x.reply sets.here way;
        })) it.0 it.1)
    effect_at {n} {future} fit {s} {l} {after} x asks step sets way (unseen p asked there it before only) =
        inl (kind (only x.lane x.call x.reply x.next asks_there step may))
      where
        hidden : Hidden O (frees p) None p.lanes l
        hidden = before l no_more

        asks_there : p.lanes x.lane ≡ Asks x.call
        asks_there = asked_before O x.lane x.call hidden asks

        may : MayGet (e.told x.lane) x.reply
        may = gets_may fit x.lane x.reply sets.here way

        so : Overwrites O x.call x.reply x.next → IsSeenTo O e (frees p) looked p x → GoesOnAt n future x.next
        so over (is_looked_at one) = looked_at p fit x one
            (stands_then s l after p one.is.then x hidden asks sets over one.is.effect) way
        so over (is_unseen not) = record {
          shown = after;
          at = unseen p asked there it (λ last rest. before last
              (overwrites x.lane x.call x.reply x.next not.is_free asks over sets rest)) not.only;
          goes = way;
        }
        so over (gives_way gives) = given_at fit s p x hidden asks sets way gives
            (λ q is asks_ahead. stands_then s l (set_of l gives.ahead (Gets x.reply)) p q
            (of_other gives.ahead gives.other x) hidden asks_ahead (sets_of l gives.ahead (Gets x.reply)) (record {
              may = λ w. gives.instead.alike.done_by w x.next x.reply (over.may w);
              answer = λ w t q step. over.answer w t q (gives.instead.alike.does w t q step);
              leaves = λ w t q step. over.leaves w t q (gives.instead.alike.does w t q step);
            }) is)

        kind : Overwrites O x.call x.reply x.next ⊎ ((frees p x.lane ≡ true) × (x.next ≡ s)) → GoesOnAt n future x.next
        kind (inl over) = so over (by.followed.effects p x asked there it
            (record { asks = asks_there; step = over.may p.state; may = may }))
        kind (inr reads) = record {
          shown = after;
          at = subst (λ (w : S). IsAt w after) (sym reads.1) (unseen p asked there it (λ last rest. before last
              (sees x.lane x.call x.reply reads.0 asks (subst (λ (w : S). O s x.call x.reply w) reads.1 step) sets
              rest)) only);
          goes = way;
        }

    -- where the call that returns is in effect
    at_return : {n : ℕ} {future : List Event} {s : S} {l after : Lanes} → After future →
        Happens (event_of e) l after → GoesOnIn O n future s after → IsAt s l → OneSurvives O future (OfSome O new)
    at_return {n} {future} {s} {l} {after} fit happens rest (it_stands p there stands) = kind (by.left.is_open p there)
      where
        kind : ((c : Call) × (p.lanes lane ≡ Asks c)) ⊎ (p.lanes lane ≡ Gets e.reply) →
            OneSurvives O future (OfSome O new)
        kind (inr gets) = in_effect_goes_on fit s l p there stands gets (subst (λ (a : Lanes). GoesOnIn O n future s a)
            (sets_alike l after (set_of l lane Idle) lane Idle happens.1 (sets_of l lane Idle)) rest)
        kind (inl it) = absurd (asks_or_gets it.1 (sym (unfree_stays O lane (by.followed.apart p there)
            (with_more O (by.followed.free p there) stands.hidden)) ∙ happens.0))
    at_return {l = l} fit happens rest (unseen p asked there it before only) =
        absurd (asks_or_gets it (sym (unfree_stays O lane (by.followed.apart p there) (before l no_more)) ∙ happens.0))

    -- from what is looked at a way goes on
    way_goes_on : {future : List Event} → After future → (n : ℕ) {s : S} {l : Lanes} →
        GoesOnIn O n (event_of e ∷ future) s l → IsAt s l → OneSurvives O future (OfSome O new)
    way_goes_on fit n (one_event itself happens rest) at = at_return fit happens rest at
    way_goes_on {future} fit (suc n) (one_effect {next = next} u call answer asks step sets rest) at =
        so (effect_at fit (record { lane = u; call = call; reply = answer; next = next }) asks step sets rest at)
        (λ shown way at_then. way_goes_on fit n way at_then)
      where
        so : GoesOnAt n future next ⊎ OneSurvives O future (OfSome O new) →
            ((shown : Lanes) → GoesOnIn O n (event_of e ∷ future) next shown → IsAt next shown →
            OneSurvives O future (OfSome O new)) → OneSurvives O future (OfSome O new)
        so (inl then_at) on = on then_at.shown then_at.goes then_at.at
        so (inr done) on = done

    -- a call that is not in effect is looked at as such
    asks_goes_on : {n : ℕ} {future : List Event} → After future → (s : S) (l : Lanes) (p : Position S) →
        old p → StandsFor O p s l → ((r : Reply) → p.free lane ≡ true → l lane ≡ Gets r → ⊥) →
        l lane ≡ p.lanes lane → GoesOnIn O n (event_of e ∷ future) s l → OneSurvives O future (OfSome O new)
    asks_goes_on {n} fit s l p there stands not same way = let one = by.taken.each p there in
        way_goes_on fit n way (it_stands one.position one.there (record {
          same = sym one.is.state ∙ stands.same;
          hidden = subst (λ (a : Lanes). Hidden O one.position.free None a l) one.is.lanes
              (hidden_beside O lane (λ v other free. one.is.free.others v other ∙ free) stands.hidden not (l lane)
              p.lanes l (sets_itself p.lanes lane (l lane) (sym same)) (sets_itself l lane (l lane) refl));
        }))

    -- one that is hidden is so with its readers
    hidden_goes_on : {n : ℕ} {future : List Event} → After future → (s : S) (l : Lanes) (p : Position S) (x : Effect S)
        → StandsFor O p s l → l x.lane ≡ Gets x.reply → OneOf looked (IsHiddenWith O e x p) →
        GoesOnIn O n (event_of e ∷ future) s l → OneSurvives O future (OfSome O new)
    hidden_goes_on {n} fit s l p x stands gets one way =
        way_goes_on fit n (readers_go_on O told readers (λ w is. reads_there O {p = p} (now fit) stands
        (one.is.each w is))
        way shown (are_shown readers told l)) (it_stands one.position one.there (record {
          same = sym one.is.after.state ∙ stands.same;
          hidden = readers_first O e.told p.free one.position.free readers told x.lane x.reply x.next
              one.is.after.free stands.hidden one.is.after.each one.is.after.overwrites None (inl refl)
              one.position.lanes shown one.is.after.shows (record {
                here = (are_shown readers told l).others x.lane one.is.apart ∙ gets;
                readers_get = λ w apart is. (are_shown readers told l).read w is;
                others = λ w apart not. (are_shown readers told l).others w not;
              }) gets (λ w q is. gets_may fit w q is way);
        }))
      where
        readers : ℕ → Bool
        readers = one.is.readers

        told : ℕ → Reply
        told = one.is.told

        shown : Lanes
        shown = shown_by readers told l

    -- the source is so, or one that is alike and goes first
    source_goes_on : {n : ℕ} {future : List Event} → After future → (s : S) (l : Lanes) (p : Position S) (x : Effect S)
        → StandsFor O p s l → l x.lane ≡ Gets x.reply → IsSource O e p x →
        OneOf looked (IsHiddenWith O e x p) ⊎ GivesPlace O e looked p x → GoesOnIn O n (event_of e ∷ future) s l →
        OneSurvives O future (OfSome O new)
    source_goes_on fit s l p x stands gets source (inl one) way = hidden_goes_on fit s l p x stands gets one way
    source_goes_on fit s l p x stands gets source (inr gives) way = let one = hidden_alike O p gives.ahead x.lane
        gives.other x.call x.reply x.next l gives.instead.apart gives.instead.asks source.asks gives.free
        gives.instead.alike source.overwrites (gives.instead.first _ (now fit)) stands gets way in
        hidden_goes_on fit s one.lanes p (of_other gives.ahead gives.other x) one.stands one.gets gives.hidden one.goes

    -- and so it does from the old ones
    old_goes_on : (future : List Event) → After future → OneSurvives O (event_of e ∷ future) (OfSome O old) →
        OneSurvives O future (OfSome O new)
    old_goes_on future fit one = kind (cases_Bool (p.free lane))
      where
        p : Position S
        p = one.among.position

        there : old p
        there = one.among.among

        stands : StandsFor O p one.state one.lanes
        stands = one.among.stands

        way : (n : ℕ) × GoesOnIn O n (event_of e ∷ future) one.state one.lanes
        way = goes_on_in O one.survives.way

        on_source : (x : Effect S) → one.lanes x.lane ≡ Gets x.reply → p.free lane ≡ true → IsSource O e p x →
            OneSurvives O future (OfSome O new)
        on_source x gets free source = source_goes_on fit one.state one.lanes p x stands gets source
            (by.taken.hidden p x there free source) way.1

        on_hidden : (r : Reply) → p.free lane ≡ true → AsksSomeCall O (p.lanes lane) → one.lanes lane ≡ Gets r →
            OneSurvives O future (OfSome O new)
        on_hidden r free it gets = by_kind it.kind
          where
            gets_reply : one.lanes lane ≡ Gets e.reply
            gets_reply = gets ∙ ap Gets (returns_first lane r e.reply gets way.1).same

            answered : (s : S) × (t : S) × O s it.call e.reply t
            answered = answered_of O lane it.call e.reply stands.hidden it.asks gets_reply

            by_kind : ((q : Reply) × (t : S) × Overwrites O it.call q t) ⊎ OverwritesNever O it.call →
                OneSurvives O future (OfSome O new)
            by_kind (inl over) = on_source
                (record { lane = lane; call = it.call; reply = e.reply; next = over.1 }) gets_reply free (record {
                  free = free;
                  asks = it.asks;
                  overwrites = subst (λ (q : Reply). Overwrites O it.call q over.1)
                      (sym (over.2.answer answered.0 answered.1 e.reply answered.2)) over.2;
                  call = it.call;
                  reads = it.asks;
                  from = inl refl;
                })
            by_kind (inr none) = by_source (source_of O lane it.call e.reply stands.hidden it.asks gets_reply)
              where
                by_source : HasSource O p.free lane p.lanes one.lanes it.call e.reply ⊎
                    ((t : S) × (None ≡ Some t) × O t it.call e.reply t) → OneSurvives O future (OfSome O new)
                by_source (inr not) = absurd (none_some not.1)
                by_source (inl source) = on_source source.x source.gets free (record {
                  free = source.is_free;
                  asks = source.asks;
                  overwrites = source.over;
                  call = it.call;
                  reads = it.asks;
                  from = by_from source.from;
                })
                  where
                    by_from : (source.x.lane ≡ lane) ⊎ O source.x.next it.call e.reply source.x.next →
                        (source.x.lane ≡ lane) ⊎ (O source.x.next it.call e.reply source.x.next ×
                        OverwritesNever O it.call)
                    by_from (inl same) = inl same
                    by_from (inr step) = inr (step, none)

        kind : ((p.free lane ≡ true) ⊎ (p.free lane ≡ false)) → OneSurvives O future (OfSome O new)
        kind (inr not) = asks_goes_on fit one.state one.lanes p there stands (λ r free gets. true_or_false free not)
            (unfree_stays O lane not stands.hidden) way.1
        kind (inl free) = so (by.taken.asks p there free)
          where
            so : AsksSomeCall O (p.lanes lane) → OneSurvives O future (OfSome O new)
            so it = which (asks_or_is_hidden O lane it.call stands.hidden it.asks)
              where
                which : (one.lanes lane ≡ Asks it.call) ⊎ ((r : Reply) × (one.lanes lane ≡ Gets r)) →
                    OneSurvives O future (OfSome O new)
                which (inl asks) = asks_goes_on fit one.state one.lanes p there stands
                    (λ r is gets. asks_or_gets asks gets) (asks ∙ sym it.asks) way.1
                which (inr gets) = on_hidden gets.0 free it gets.1

    new_comes : (s : S) (l : Lanes) → OfSome O new s l → ComesFrom O (event_of e) (OfSome O old) s l
    new_comes s l of = let one = by.left.come of.position of.among in
        let in_effect : Lanes = set_of l lane (Gets e.reply) in
        let before = reached_came O one.position (by.reached one.position one.there) s in_effect (record {
          same = one.is.state ∙ of.stands.same;
          hidden = hidden_beside O lane (λ v other free. sym (one.is.free.others v other) ∙ free) of.stands.hidden
              (λ r free gets. true_or_false free one.is.free.not_it) (Gets e.reply) one.position.lanes in_effect
              (record { here = one.is.gets; others = λ v other. sym (one.is.sets.others v other) })
              (sets_of l lane (Gets e.reply));
        }) in record {
          state = before.state;
          before = before.before;
          among = before.among;
          leads = leads_on before.way (by_event (event_of e) (
            (sets_of l lane (Gets e.reply)).here,
            record {
              here = unfree_stays O lane one.is.free.not_it of.stands.hidden ∙ one.is.sets.here;
              others = λ v other. sym ((sets_of l lane (Gets e.reply)).others v other);
            },
          ) leads_nowhere);
        }

    pub go_on_by_return : GoesOn O (event_of e) e.fits After (OfSome O old) (OfSome O new)
    go_on_by_return = record { fits_then = fits_then; comes = new_comes; whole = old_goes_on }
