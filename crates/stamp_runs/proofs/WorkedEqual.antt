-- A return where two puts are alike, worked out.
use Rattle.std.proofs.Common.{◌≡◌, ◌≢◌, ◌⊎◌, ℕ, zero, suc, arith, Bool, true, false, List, [], ◌∷◌, refl, sym}
use Rattle.std.proofs.Common.{◌∙◌, subst, inl, inr}
use Rattle.std.specs.List.{Contains}
use Rattle.stamp_core.specs.declared.call.Call.{Call}
use Rattle.stamp_core.specs.declared.call.Call.TheVariants.{Get, Put}
use Rattle.stamp_core.specs.declared.reply.Reply.TheVariants.{Done, Content}
use Rattle.stamp_runs.specs.declared.event.Event.{Event}
use Rattle.stamp_runs.specs.declared.event.Event.TheVariants.{Returns}
use Rattle.stamp_runs.specs.Object.{RecordStep}
use Rattle.stamp_runs.specs.Run.{EndsBy, GoesFirst, Phase, Sets}
use Rattle.stamp_runs.specs.Run.EndsBy.{ends_later, ends_next}
use Rattle.stamp_runs.specs.Run.GoesFirst.{goes_sooner}
use Rattle.stamp_runs.specs.Run.ReturnsSooner.{sooner_later}
use Rattle.stamp_runs.specs.Run.Phase.{Idle, Asks, Gets}
use Rattle.stamp_runs.specs.Watching.{MayGet}
use Rattle.stamp_runs.specs.Position.{AreShown, Overwrites, OverwritesNever, Position, ReadsOrOverwrites, Shows}
use Rattle.stamp_runs.specs.Position.Hidden.{no_more, overwrites, sees}
use Rattle.stamp_runs.specs.Returning.{AsksSomeCall, Comes, Effect, GivesPlace, GoesInstead, IsFixed, IsHiddenWith}
use Rattle.stamp_runs.specs.Returning.{IsOpen, IsReached, IsReturn, IsSeenTo, IsSettled, IsSource, IsToldReader}
use Rattle.stamp_runs.specs.Returning.{MayTakeEffect, OneOf, ReturnsAs, TakesEffect}
use Rattle.stamp_runs.specs.Returning.IsReached.{from_old, by_changing, by_overwriting}
use Rattle.stamp_runs.specs.Returning.IsSeenTo.{is_looked_at, gives_way}
use Rattle.stamp_runs.specs.WorkedReturns.{one, two}
use Rattle.stamp_runs.specs.WorkedEqual.{EqualReturns, after, before, fixed, free_three, hidden_both, in_effect}
use Rattle.stamp_runs.specs.WorkedEqual.{position, returning, three}
use Rattle.stamp_runs.proofs.Lanes.{asks_or_gets, idle_or_asks}
use Rattle.stamp_runs.proofs.Objects.{get_never, one_content, put_overwrites}
use Rattle.stamp_runs.proofs.Keeping.{kept_itself, kept_settled}
use Rattle.stamp_runs.proofs.WorkedReturns.{asked, get_reads, nor_so, not_so, one_or_two, pick_one, pick_three}
use Rattle.stamp_runs.proofs.WorkedReturns.{pick_two}
use Rattle.stamp_runs.proofs.WorkedReturns.{put, puts_only}

-- a second put, in lane 3
abbrev second : Effect (List ℕ)
second = record { lane = 3; call = Put two; reply = Done; next = two }

sets_first : (x y z : Phase) → Sets (three x z) (three y z) 1 y
sets_first x y z = record { here = refl; others = λ v apart. by v apart }
  where
    by : (v : ℕ) → v ≢ 1 → three y z v ≡ three x z v
    by (suc zero) apart = absurd (apart refl)
    by (suc (suc (suc zero))) apart = refl
    by _ apart = refl

sets_second : (x y z : Phase) → Sets (three x y) (three x z) 2 z
sets_second x y z = record { here = refl; others = λ v apart. by v apart }
  where
    by : (v : ℕ) → v ≢ 2 → three x z v ≡ three x y v
    by (suc (suc zero)) apart = absurd (apart refl)
    by (suc (suc (suc zero))) apart = refl
    by _ apart = refl

-- what asks stands in lanes 1 to 3
each_lane : (Q : ℕ → Type 0) (x y : Phase) {c : Call} → Q 1 → Q 2 → Q 3 → (v : ℕ) → three x y v ≡ Asks c → Q v
each_lane Q x y q r t (suc zero) asks = q
each_lane Q x y q r t (suc (suc zero)) asks = r
each_lane Q x y q r t (suc (suc (suc zero))) asks = t
each_lane Q x y q r t _ asks = absurd (idle_or_asks refl asks)

less_free : (a b c d : Bool) → (a ≡ true → c ≡ true) → (b ≡ true → d ≡ true) → (v : ℕ) → free_three a b v ≡ true →
    free_three c d v ≡ true
less_free a b c d first other (suc zero) is = first is
less_free a b c d first other (suc (suc zero)) is = other is
less_free a b c d first other (suc (suc (suc zero))) is = refl
less_free a b c d first other _ is = is

-- the get is the reader
abbrev reads : ℕ → Bool
reads (suc (suc zero)) = true
reads _ = false

only_get : (Q : ℕ → Type 0) → Q 2 → (v : ℕ) → reads v ≡ true → Q v
only_get Q q (suc (suc zero)) is = q
only_get Q q _ is = not_so is

get_shown : (x : Phase) → AreShown reads (λ v. Content two) (three x (Asks Get)) (three x (Gets (Content two)))
get_shown x = record {
  read = only_get (λ (v : ℕ). three x (Gets (Content two)) v ≡ Gets (Content two)) refl;
  others = by;
}
  where
    by : (v : ℕ) → reads v ≡ false → three x (Gets (Content two)) v ≡ three x (Asks Get) v
    by (suc (suc zero)) not = nor_so not
    by (suc (suc (suc zero))) not = refl
    by _ not = refl

get_told : (x : Phase) (v : ℕ) → reads v ≡ true →
    IsToldReader RecordStep (Comes returning) v (Content two) (three x (Asks Get) v)
get_told x = only_get (λ (v : ℕ). IsToldReader RecordStep (Comes returning) v (Content two) (three x (Asks Get) v))
    (record {
      call = Get;
      asks = refl;
      still = λ u w step. step.leaves;
      ends = λ future fit. subst (EndsBy 2 (Returns 2 (Content two))) (sym fit.events_are) ends_next;
    })

get_settled : IsSettled RecordStep (Comes returning) (position two (Gets Done) (Asks Get) false false) in_effect
get_settled = record {
  readers = reads;
  told = λ v. Content two;
  state = refl;
  shown = get_shown (Gets Done);
  free = λ v not is. is;
  each = get_told (Gets Done);
  apart = only_get (λ (v : ℕ). (call : Call) → three (Gets Done) (Asks Get) v ≡ Asks call →
      OverwritesNever RecordStep call) (λ call asks. subst (OverwritesNever RecordStep) (asked asks) get_never);
}

-- the put of lane 1 is hidden with it
put_shows : Shows 1 Done reads (λ v. Content two) before.lanes hidden_both.lanes
put_shows = record {
  here = refl;
  readers_get = λ v apart. only_get (λ (w : ℕ). hidden_both.lanes w ≡ Gets (Content two)) refl v;
  others = others;
}
  where
    others : (v : ℕ) → v ≢ 1 → reads v ≡ false → hidden_both.lanes v ≡ before.lanes v
    others (suc zero) apart not = absurd (apart refl)
    others (suc (suc zero)) apart not = nor_so not
    others (suc (suc (suc zero))) apart not = refl
    others _ apart not = refl

put_is_hidden : IsHiddenWith RecordStep returning put before hidden_both
put_is_hidden = record {
  readers = reads;
  told = λ v. Content two;
  after = record {
    state = refl;
    shows = put_shows;
    free = free;
    overwrites = λ call asks. subst (λ (c : Call). Overwrites RecordStep c Done two) (asked asks) (put_overwrites two);
    each = λ v call is asks apart. each_lane (λ (w : ℕ). w ≢ 1 → before.lanes w ≡ Asks call →
        ReadsOrOverwrites RecordStep returning.told two reads w call) (Asks (Put two)) (Asks Get)
        (λ other. absurd (other refl)) (λ other asks_get. record {
          which = inr (λ reply step may. refl);
          apart = λ reads. subst (OverwritesNever RecordStep) (asked asks_get) get_never;
        }) (λ other asks_put. record {
          which = inl (
            Done,
            two,
            subst (λ (c : Call). Overwrites RecordStep c Done two) (asked asks_put)
                (put_overwrites two),
          );
          apart = λ reads. not_so reads;
        }) v asks apart asks;
  };
  apart = refl;
  each = get_told (Asks (Put two));
}
  where
    free : (v : ℕ) → v ≢ 1 → reads v ≡ false → free_three true true v ≡ true → free_three false false v ≡ true
    free zero apart not is = is
    free (suc zero) apart not is = absurd (apart refl)
    free (suc (suc zero)) apart not is = nor_so not
    free (suc (suc (suc zero))) apart not is = refl
    free (suc (suc (suc (suc n)))) apart not is = is

-- it takes effect now, and the get with it
put_takes_effect : TakesEffect RecordStep returning (free_three true false) put fixed in_effect
put_takes_effect = record {
  then = position two (Gets Done) (Asks Get) false false;
  effect = record {
    state = refl;
    sets = sets_first (Asks (Put two)) (Gets Done) (Asks Get);
    free = record { not_it = refl; others = others };
    frees_all = λ over. others;
  };
  kept = kept_settled RecordStep get_settled;
}
  where
    others : (v : ℕ) → v ≢ 1 → free_three true false v ≡ true → free_three false false v ≡ true
    others zero apart is = is
    others (suc zero) apart is = absurd (apart refl)
    others (suc (suc zero)) apart is = is
    others (suc (suc (suc zero))) apart is = is
    others (suc (suc (suc (suc n)))) apart is = is

-- the put of lane 1 goes first
first_goes : (future : List Event) → Comes returning future → GoesFirst 1 3 Done future
first_goes future fit = subst (GoesFirst 1 3 Done) (sym fit.events_are) (goes_sooner
    (ends_later (Returns 2 (Content two)) (λ (e : 2 ≡ 1). omega (arith, e)) (fit.fits.each 1))
    (sooner_later (Returns 2 (Content two)) (λ (e : 2 ≡ 1). omega (arith, e)) (λ (e : 2 ≡ 3). omega (arith, e))
    (fit.fits.ordered 1 3 Done Done 2 3 refl refl (omega arith))))

goes_instead : (p : Position (List ℕ)) → p.lanes 1 ≡ Asks (Put two) →
    GoesInstead RecordStep returning p second 1 (Put two)
goes_instead p asks = record {
  apart = λ (e : 1 ≡ 3). omega (arith, e);
  asks = asks;
  alike = record { does = λ s t reply step. step; done_by = λ s t reply step. step };
  first = first_goes;
}

abbrev Looked : Position (List ℕ) → Type 0
Looked = Contains (fixed ∷ hidden_both ∷ in_effect ∷ [])

effects_seen : (x : Effect (List ℕ)) → MayTakeEffect RecordStep returning fixed x →
    IsSeenTo RecordStep returning (free_three true false) Looked fixed x
effects_seen x may = each_lane (λ (v : ℕ). x.lane ≡ v → Seen x) (Asks (Put two)) (Asks Get) of_put of_get of_second
    x.lane may.asks refl
  where
    Seen : Effect (List ℕ) → Type 0
    Seen y = IsSeenTo RecordStep returning (free_three true false) Looked fixed y

    asks_at : (v : ℕ) → x.lane ≡ v → fixed.lanes v ≡ Asks x.call
    asks_at v lane = subst (λ (w : ℕ). fixed.lanes w ≡ Asks x.call) lane may.asks

    of_put : x.lane ≡ 1 → Seen x
    of_put lane = puts_only Seen 1
        (is_looked_at (record { position = in_effect; there = (2, omega arith, refl); is = put_takes_effect }))
        x lane (sym (asked (asks_at 1 lane))) (inr may.step)

    of_second : x.lane ≡ 3 → Seen x
    of_second lane = puts_only Seen 3 (gives_way (record {
      ahead = 1;
      other = Put two;
      instead = goes_instead fixed refl;
      unfree = inr (put_overwrites two, refl);
      effect = record { position = in_effect; there = (2, omega arith, refl); is = put_takes_effect };
    })) x lane (sym (asked (asks_at 3 lane))) (inr may.step)

    of_get : x.lane ≡ 2 → Seen x
    of_get lane = absurd (one_or_two (one_content (sym (subst (λ (c : Call). RecordStep one c x.reply x.next)
        (sym (asked (asks_at 2 lane))) may.step).replies ∙
        subst (λ (v : ℕ). MayGet (returning.told v) x.reply) lane may.may)))

source_hidden : (x : Effect (List ℕ)) → IsSource RecordStep returning before x →
    OneOf Looked (IsHiddenWith RecordStep returning x before) ⊎ GivesPlace RecordStep returning Looked before x
source_hidden x source = each_lane (λ (v : ℕ). x.lane ≡ v → Placed x) (Asks (Put two)) (Asks Get) of_put of_get
    of_second x.lane source.asks refl
  where
    Placed : Effect (List ℕ) → Type 0
    Placed y = OneOf Looked (IsHiddenWith RecordStep returning y before) ⊎
        GivesPlace RecordStep returning Looked before y

    asks_at : (v : ℕ) → x.lane ≡ v → before.lanes v ≡ Asks x.call
    asks_at v lane = subst (λ (w : ℕ). before.lanes w ≡ Asks x.call) lane source.asks

    of_put : x.lane ≡ 1 → Placed x
    of_put lane = puts_only Placed 1
        (inl (record { position = hidden_both; there = (1, omega arith, refl); is = put_is_hidden }))
        x lane (sym (asked (asks_at 1 lane))) (inl source.overwrites)

    of_second : x.lane ≡ 3 → Placed x
    of_second lane = puts_only Placed 3 (inr (record {
      ahead = 1;
      other = Put two;
      instead = goes_instead before refl;
      free = refl;
      hidden = record { position = hidden_both; there = (1, omega arith, refl); is = put_is_hidden };
    })) x lane (sym (asked (asks_at 3 lane))) (inl source.overwrites)

    of_get : x.lane ≡ 2 → Placed x
    of_get lane = absurd (get_never x.reply x.next (subst (λ (c : Call). Overwrites RecordStep c x.reply x.next)
        (sym (asked (asks_at 2 lane))) source.overwrites))

reached_fixed : IsReached RecordStep (Contains (before ∷ [])) fixed
reached_fixed = from_old before fixed (0, omega arith, refl) refl no_more
    (less_free true false true true (λ is. is) (λ is. refl))

reached_hidden : IsReached RecordStep (Contains (before ∷ [])) hidden_both
reached_hidden = from_old before hidden_both (0, omega arith, refl) refl (overwrites 1 (Put two) Done two refl refl
    (put_overwrites two) (sets_first (Asks (Put two)) (Gets Done) (Asks Get)) (sees 2 Get (Content two) refl refl
    (get_reads two) (sets_second (Gets Done) (Asks Get) (Gets (Content two))) no_more))
    (less_free false false true true (λ is. refl) (λ is. refl))

reached_in_effect : IsReached RecordStep (Contains (before ∷ [])) in_effect
reached_in_effect = by_changing between in_effect 2 Get (Content two) (by_overwriting fixed between 1 (Put two) Done
    reached_fixed refl (put_overwrites two) (sets_first (Asks (Put two)) (Gets Done) (Asks Get)) refl) refl
    (get_reads two) (sets_second (Gets Done) (Asks Get) (Gets (Content two))) refl (λ v is. is)
  where
    between : Position (List ℕ)
    between = position two (Gets Done) (Asks Get) false false

is_fixed : IsFixed 2 before fixed
is_fixed = record { state = refl; lanes = refl; free = record { not_it = refl; others = others } }
  where
    others : (v : ℕ) → v ≢ 2 → free_three true false v ≡ free_three true true v
    others zero apart = refl
    others (suc zero) apart = refl
    others (suc (suc zero)) apart = absurd (apart refl)
    others (suc (suc (suc zero))) apart = refl
    others (suc (suc (suc (suc n)))) apart = refl

returned : (state : List ℕ) →
    IsReturn returning (position state (Gets Done) (Gets (Content two)) false false) (after state)
returned state = record {
  gets = refl;
  not_free = refl;
  state = refl;
  sets = sets_second (Gets Done) (Gets (Content two)) Idle;
  free = record { not_it = refl; others = λ v apart. refl };
}

pub equal_returns : EqualReturns
equal_returns = record {
  reached = λ p there. pick_three (IsReached RecordStep (Contains (before ∷ []))) p fixed hidden_both in_effect there
      reached_fixed reached_hidden reached_in_effect;
  taken = record {
    each = λ p there. pick_one (λ (q : Position (List ℕ)). OneOf Looked (IsFixed 2 q)) p before there
        (record { position = fixed; there = (0, omega arith, refl); is = is_fixed });
    asks = λ p there free. pick_one (λ (q : Position (List ℕ)). AsksSomeCall RecordStep (q.lanes 2)) p before there
        (record { call = Get; asks = refl; kind = inr get_never });
    hidden = λ p x there free source. pick_one (λ (q : Position (List ℕ)). IsSource RecordStep returning q x →
        OneOf Looked (IsHiddenWith RecordStep returning x q) ⊎ GivesPlace RecordStep returning Looked q x) p before
        there (source_hidden x) source;
  };
  followed = record {
    frees = λ p. free_three true false;
    apart = λ p there. refl;
    free = λ p there. pick_three
        (λ (q : Position (List ℕ)). (v : ℕ) → q.free v ≡ true → free_three true false v ≡ true) p fixed hidden_both
        in_effect there (λ v is. is) (less_free false false true false (λ is. refl) (λ is. is))
        (less_free false false true false (λ is. refl) (λ is. is));
    effects = λ p x call there asks may. pick_three (λ (q : Position (List ℕ)). q.lanes 2 ≡ Asks call →
        MayTakeEffect RecordStep returning q x → IsSeenTo RecordStep returning (free_three true false) Looked q x) p
        fixed hidden_both in_effect there (λ is come. effects_seen x come) (λ is. absurd (asks_or_gets is refl))
        (λ is. absurd (asks_or_gets is refl)) asks may;
  };
  left = record {
    is_open = λ p there. pick_three (λ (q : Position (List ℕ)). IsOpen (Content two) (q.lanes 2)) p fixed hidden_both
        in_effect there (inl (Get, refl)) (inr refl) (inr refl);
    come = λ q there. pick_two (λ (r : Position (List ℕ)). OneOf Looked
        (λ (p : Position (List ℕ)). IsReturn returning p r)) q (after one) (after two) there
        (record { position = hidden_both; there = (1, omega arith, refl); is = returned one })
        (record { position = in_effect; there = (2, omega arith, refl); is = returned two });
    stay = λ p there gets. pick_three (λ (q : Position (List ℕ)). q.lanes 2 ≡ Gets (Content two) →
        OneOf (Contains (after one ∷ after two ∷ [])) (ReturnsAs RecordStep returning q)) p fixed hidden_both
        in_effect there
        (λ is. absurd (asks_or_gets refl is))
        (λ is. record { position = after one; there = (0, omega arith, refl); is = stays one })
        (λ is. record { position = after two; there = (1, omega arith, refl); is = stays two }) gets;
  };
}
  where
    stays : (state : List ℕ) → ReturnsAs RecordStep returning
        (position state (Gets Done) (Gets (Content two)) false false) (after state)
    stays state = record {
      then = after state;
      return = returned state;
      kept = kept_itself RecordStep _ (after state);
    }
