-- Two returns, worked out.
use Rattle.std.proofs.Common.{◌≡◌, ◌≢◌, ◌⊎◌, ℕ, zero, suc, arith, Bool, true, false, List, [], ◌∷◌, refl, sym}
use Rattle.std.proofs.Common.{◌∙◌, subst, inl, inr}
use Rattle.std.specs.List.{Contains}
use Rattle.stamp_core.specs.declared.call.Call.{Call}
use Rattle.stamp_core.specs.declared.call.Call.TheVariants.{Get, Put}
use Rattle.stamp_core.specs.declared.reply.Reply.{Reply}
use Rattle.stamp_core.specs.declared.reply.Reply.TheVariants.{Done, Content}
use Rattle.stamp_runs.specs.declared.event.Event.{Event}
use Rattle.stamp_runs.specs.declared.event.Event.TheVariants.{Returns}
use Rattle.stamp_runs.specs.Object.{RecordStep}
use Rattle.stamp_runs.specs.Run.{EndsBy, Phase, Sets}
use Rattle.stamp_runs.specs.Run.EndsBy.{ends_later, ends_next}
use Rattle.stamp_runs.specs.Run.Phase.{Idle, Asks, Gets}
use Rattle.stamp_runs.specs.Watching.{MayGet}
use Rattle.stamp_runs.specs.Position.{AreShown, Overwrites, OverwritesNever, Position, ReadsOrOverwrites, Shows}
use Rattle.stamp_runs.specs.Position.Hidden.{no_more, overwrites, sees}
use Rattle.stamp_runs.specs.Returning.{Comes, Effect, IsFixed, IsHiddenWith, IsOpen, IsReached, IsReturn}
use Rattle.stamp_runs.specs.Returning.{IsSeenTo, IsSettled, IsSource, IsToldReader, MayTakeEffect, OneOf, Return}
use Rattle.stamp_runs.specs.Returning.{ReturnsAs, ReturnsBy}
use Rattle.stamp_runs.specs.Returning.{TakesEffect, AsksSomeCall}
use Rattle.stamp_runs.specs.Returning.IsReached.{from_old, by_changing, by_overwriting}
use Rattle.stamp_runs.specs.Returning.IsSeenTo.{is_looked_at}
use Rattle.stamp_runs.specs.WorkedReturns.{GetReturns, PutReturns, after_get, after_put, before, free_of, get_fixed}
use Rattle.stamp_runs.specs.WorkedReturns.{get_returning, hidden_both, in_effect, lanes_of, one, position, put_fixed}
use Rattle.stamp_runs.specs.WorkedReturns.{put_returning, two}
use Rattle.stamp_runs.proofs.Lanes.{asks_or_gets, idle_or_asks, true_or_false}
use Rattle.stamp_runs.proofs.Objects.{get_never, one_content, put_overwrites}
use Rattle.stamp_runs.proofs.Keeping.{kept_itself, kept_settled}

pub one_or_two : one ≡ two → ⊥
one_or_two same = cc

pub get_reads : (words : List ℕ) → RecordStep words Get (Content words) words
get_reads words = record { replies = refl; leaves = refl }

pub asked : {c d : Call} → Asks c ≡ Asks d → c ≡ d
asked same = cc

pub not_so : {X : Type 0} → false ≡ true → X
not_so is = absurd (true_or_false is refl)

pub nor_so : {X : Type 0} → true ≡ false → X
nor_so is = absurd (true_or_false refl is)

-- one of one, two or three
pub pick_one : (Q : Position (List ℕ) → Type 0) (p a : Position (List ℕ)) → Contains (a ∷ []) p → Q a → Q p
pick_one Q p a (zero, low, at) q = subst Q at q
pick_one Q p a (suc n, low, at) q = absurd (omega (arith, low))

pub pick_two : (Q : Position (List ℕ) → Type 0) (p a b : Position (List ℕ)) → Contains (a ∷ b ∷ []) p → Q a → Q b → Q p
pick_two Q p a b (zero, low, at) q r = subst Q at q
pick_two Q p a b (suc zero, low, at) q r = subst Q at r
pick_two Q p a b (suc (suc n), low, at) q r = absurd (omega (arith, low))

pub pick_three : (Q : Position (List ℕ) → Type 0) (p a b c : Position (List ℕ)) → Contains (a ∷ b ∷ c ∷ []) p → Q a →
    Q b → Q c → Q p
pick_three Q p a b c (zero, low, at) q r t = subst Q at q
pick_three Q p a b c (suc zero, low, at) q r t = subst Q at r
pick_three Q p a b c (suc (suc zero), low, at) q r t = subst Q at t
pick_three Q p a b c (suc (suc (suc n)), low, at) q r t = absurd (omega (arith, low))

-- lanes 1 and 2 set
sets_first : (x y z : Phase) → Sets (lanes_of x z) (lanes_of y z) 1 y
sets_first x y z = record { here = refl; others = λ v apart. by v apart }
  where
    by : (v : ℕ) → v ≢ 1 → lanes_of y z v ≡ lanes_of x z v
    by (suc (suc (suc n))) apart = refl
    by (suc zero) apart = absurd (apart refl)
    by _ apart = refl

sets_second : (x y z : Phase) → Sets (lanes_of x y) (lanes_of x z) 2 z
sets_second x y z = record { here = refl; others = λ v apart. by v apart }
  where
    by : (v : ℕ) → v ≢ 2 → lanes_of x z v ≡ lanes_of x y v
    by (suc (suc zero)) apart = absurd (apart refl)
    by _ apart = refl

-- what is free
none_free : {X : Type 0} (v : ℕ) → free_of false false v ≡ true → X
none_free (suc (suc zero)) is = not_so is
none_free _ is = not_so is

only_second : (Q : ℕ → Type 0) → Q 2 → (v : ℕ) → free_of false true v ≡ true → Q v
only_second Q q (suc (suc zero)) is = q
only_second Q q _ is = not_so is

both_free : (Q : ℕ → Type 0) → Q 1 → Q 2 → (v : ℕ) → free_of true true v ≡ true → Q v
both_free Q q r (suc zero) is = q
both_free Q q r (suc (suc zero)) is = r
both_free Q q r _ is = not_so is

-- an effect in the first two lanes
each_lane : (Q : ℕ → Type 0) (x y : Phase) {c : Call} → Q 1 → Q 2 → (v : ℕ) → lanes_of x y v ≡ Asks c → Q v
each_lane Q x y q r (suc zero) asks = q
each_lane Q x y q r (suc (suc zero)) asks = r
each_lane Q x y q r _ asks = absurd (idle_or_asks refl asks)

-- the get is the reader
get_ends_later : (future : List Event) → Comes put_returning future → EndsBy 2 (Returns 2 (Content two)) future
get_ends_later future fit = subst (EndsBy 2 (Returns 2 (Content two))) (sym fit.events_are)
    (ends_later (Returns 1 Done) (λ (e : 1 ≡ 2). omega (arith, e)) (fit.fits.each 2))

get_ends_now : (future : List Event) → Comes get_returning future → EndsBy 2 (Returns 2 (Content two)) future
get_ends_now future fit = subst (EndsBy 2 (Returns 2 (Content two))) (sym fit.events_are) ends_next

get_shown : (x : Phase) → AreShown (free_of false true) (λ v. Content two) (lanes_of x (Asks Get))
    (lanes_of x (Gets (Content two)))
get_shown x = record {
  read = only_second (λ (v : ℕ). lanes_of x (Gets (Content two)) v ≡ Gets (Content two)) refl;
  others = λ v not. by v not;
}
  where
    by : (v : ℕ) → free_of false true v ≡ false → lanes_of x (Gets (Content two)) v ≡ lanes_of x (Asks Get) v
    by (suc (suc zero)) not = nor_so not
    by _ not = refl

abbrev GetEnds : (List Event → Type 0) → Type 0
GetEnds fits = (future : List Event) → fits future → EndsBy 2 (Returns 2 (Content two)) future

get_told : (fits : List Event → Type 0) (x : Phase) → GetEnds fits → (v : ℕ) → free_of false true v ≡ true →
    IsToldReader RecordStep fits v (Content two) (lanes_of x (Asks Get) v)
get_told fits x ends = only_second
    (λ (v : ℕ). IsToldReader RecordStep fits v (Content two) (lanes_of x (Asks Get) v))
    (record { call = Get; asks = refl; still = λ u w step. step.leaves; ends = ends })

get_reads_only : (x : Phase) (v : ℕ) → free_of false true v ≡ true → (call : Call) → lanes_of x (Asks Get) v ≡ Asks
    call → OverwritesNever RecordStep call
get_reads_only x = only_second
    (λ (v : ℕ). (call : Call) → lanes_of x (Asks Get) v ≡ Asks call → OverwritesNever RecordStep call)
    (λ call asks. subst (OverwritesNever RecordStep) (asked asks) get_never)

get_settled : (fits : List Event → Type 0) (state : List ℕ) (x : Phase) (free : Bool) → GetEnds fits →
    IsSettled RecordStep fits (position state x (Asks Get) false free)
    (position state x (Gets (Content two)) false false)
get_settled fits state x free ends = record {
  readers = free_of false true;
  told = λ v. Content two;
  state = refl;
  shown = get_shown x;
  free = less free;
  each = get_told fits x ends;
  apart = get_reads_only x;
}
  where
    less : (b : Bool) (v : ℕ) → free_of false true v ≡ false → free_of false b v ≡ true →
        free_of false false v ≡ true
    less b (suc (suc zero)) not is = nor_so not
    less b _ not is = is

-- the put is hidden with it
put_shows : Shows 1 Done (free_of false true) (λ v. Content two) before.lanes hidden_both.lanes
put_shows = record {
  here = refl;
  readers_get = λ v apart. only_second (λ (w : ℕ). hidden_both.lanes w ≡ Gets (Content two)) refl v;
  others = others;
}
  where
    others : (v : ℕ) → v ≢ 1 → free_of false true v ≡ false → hidden_both.lanes v ≡ before.lanes v
    others (suc zero) apart not = absurd (apart refl)
    others (suc (suc zero)) apart not = nor_so not
    others _ apart not = refl

abbrev pub put : Effect (List ℕ)
put = record { lane = 1; call = Put two; reply = Done; next = two }

put_is_hidden : (e : Return) → GetEnds (Comes e) → IsHiddenWith RecordStep e put before hidden_both
put_is_hidden e ends = record {
  readers = free_of false true;
  told = λ v. Content two;
  after = record {
    state = refl;
    shows = put_shows;
    free = free;
    overwrites = λ call asks. subst (λ (c : Call). Overwrites RecordStep c Done two) (asked asks) (put_overwrites two);
    each = λ v call is asks apart. both_free (λ (w : ℕ). w ≢ 1 → before.lanes w ≡ Asks call →
        ReadsOrOverwrites RecordStep e.told two (free_of false true) w call) (λ other. absurd (other refl))
        (λ other asks_get. record {
          which = inr (λ reply step may. refl);
          apart = λ reads. subst (OverwritesNever RecordStep) (asked asks_get) get_never;
        }) v is apart asks;
  };
  apart = refl;
  each = get_told (Comes e) (Asks (Put two)) ends;
}
  where
    free : (v : ℕ) → v ≢ 1 → free_of false true v ≡ false → free_of true true v ≡ true → free_of false false v ≡ true
    free zero apart not is = is
    free (suc zero) apart not is = absurd (apart refl)
    free (suc (suc zero)) apart not is = nor_so not
    free (suc (suc (suc n))) apart not is = is

-- positions that are looked at, the put or the get not free
abbrev fixed : Bool → Bool → Position (List ℕ)
fixed free_first free_second = position one (Asks (Put two)) (Asks Get) free_first free_second

abbrev Looked : Bool → Bool → Position (List ℕ) → Type 0
Looked free_first free_second = Contains (fixed free_first free_second ∷ hidden_both ∷ in_effect ∷ [])

reached_hidden : IsReached RecordStep (Contains (before ∷ [])) hidden_both
reached_hidden = from_old before hidden_both (0, omega arith, refl) refl (overwrites 1 (Put two) Done two refl refl
    (put_overwrites two) (sets_first (Asks (Put two)) (Gets Done) (Asks Get)) (sees 2 Get (Content two) refl refl
    (get_reads two) (sets_second (Gets Done) (Asks Get) (Gets (Content two))) no_more)) (λ v is. none_free v is)

reached_fixed : (a b : Bool) → ((v : ℕ) → free_of a b v ≡ true → free_of true true v ≡ true) →
    IsReached RecordStep (Contains (before ∷ [])) (fixed a b)
reached_fixed a b less = from_old before (fixed a b) (0, omega arith, refl) refl no_more less

reached_in_effect : (a b : Bool) → IsReached RecordStep (Contains (before ∷ [])) (fixed a b) →
    IsReached RecordStep (Contains (before ∷ [])) in_effect
reached_in_effect a b reached = by_changing between in_effect 2 Get (Content two) (by_overwriting (fixed a b) between 1
    (Put two) Done reached refl (put_overwrites two) (sets_first (Asks (Put two)) (Gets Done) (Asks Get)) refl) refl
    (get_reads two) (sets_second (Gets Done) (Asks Get) (Gets (Content two))) refl (λ v is. is)
  where
    between : Position (List ℕ)
    between = position two (Gets Done) (Asks Get) false false

less_free : (a b : Bool) (v : ℕ) → free_of a b v ≡ true → free_of true true v ≡ true
less_free a b zero is = is
less_free a b (suc zero) is = refl
less_free a b (suc (suc zero)) is = refl
less_free a b (suc (suc (suc n))) is = is

all_reached : (a b : Bool) (p : Position (List ℕ)) → Looked a b p → IsReached RecordStep (Contains (before ∷ [])) p
all_reached a b p there = pick_three (IsReached RecordStep (Contains (before ∷ []))) p (fixed a b) hidden_both
    in_effect there
    (reached_fixed a b (less_free a b)) reached_hidden
    (reached_in_effect a b (reached_fixed a b (less_free a b)))

-- the put takes effect now, and the get with it
put_takes_effect : (e : Return) (a b : Bool) → GetEnds (Comes e) →
    TakesEffect RecordStep e (free_of a b) put (fixed a b) in_effect
put_takes_effect e a b ends = record {
  then = position two (Gets Done) (Asks Get) false b;
  effect = record {
    state = refl;
    sets = sets_first (Asks (Put two)) (Gets Done) (Asks Get);
    free = record { not_it = refl; others = others };
    frees_all = λ over. others;
  };
  kept = kept_settled RecordStep (get_settled (Comes e) two (Gets Done) b ends);
}
  where
    others : (v : ℕ) → v ≢ 1 → free_of a b v ≡ true → free_of false b v ≡ true
    others zero apart is = is
    others (suc zero) apart is = absurd (apart refl)
    others (suc (suc zero)) apart is = is
    others (suc (suc (suc n))) apart is = is

-- of an effect of a put only its lane is open
pub puts_only : (Q : Effect (List ℕ) → Type 0) (lane : ℕ) →
    Q (record { lane = lane; call = Put two; reply = Done; next = two }) → (x : Effect (List ℕ)) → x.lane ≡ lane →
    x.call ≡ Put two → Overwrites RecordStep x.call x.reply x.next ⊎ RecordStep one x.call x.reply x.next → Q x
puts_only Q lane q x here call which = subst Q same q
  where
    done : Overwrites RecordStep x.call x.reply x.next ⊎ RecordStep one x.call x.reply x.next →
        RecordStep one (Put two) x.reply x.next
    done (inl over) = subst (λ (c : Call). RecordStep one c x.reply x.next) call (over.may one)
    done (inr step) = subst (λ (c : Call). RecordStep one c x.reply x.next) call step

    step : RecordStep one (Put two) x.reply x.next
    step = done which

    same : record { lane = lane; call = Put two; reply = Done; next = two } ≡ x
    same = λ i. record {
      lane = sym here i;
      call = sym call i;
      reply = sym step.replies i;
      next = sym step.leaves i;
    }

effects_seen : (e : Return) (a b : Bool) → GetEnds (Comes e) → ((reply : Reply) → MayGet (e.told 2) reply →
    reply ≡ Content two) → (x : Effect (List ℕ)) → MayTakeEffect RecordStep e (fixed a b) x →
    IsSeenTo RecordStep e (free_of a b) (Looked a b) (fixed a b) x
effects_seen e a b ends gets x may = each_lane (λ (v : ℕ). x.lane ≡ v →
    IsSeenTo RecordStep e (free_of a b) (Looked a b) (fixed a b) x) (Asks (Put two)) (Asks Get) of_put of_get x.lane
    may.asks refl
  where
    of_put : x.lane ≡ 1 → IsSeenTo RecordStep e (free_of a b) (Looked a b) (fixed a b) x
    of_put lane = puts_only (IsSeenTo RecordStep e (free_of a b) (Looked a b) (fixed a b)) 1 (is_looked_at (record {
      position = in_effect;
      there = (2, omega arith, refl);
      is = put_takes_effect e a b ends;
    })) x lane (sym (asked (subst (λ (v : ℕ). lanes_of (Asks (Put two)) (Asks Get) v ≡ Asks x.call) lane may.asks)))
        (inr may.step)

    of_get : x.lane ≡ 2 → IsSeenTo RecordStep e (free_of a b) (Looked a b) (fixed a b) x
    of_get lane = absurd (one_or_two (one_content (sym (subst (λ (c : Call). RecordStep one c x.reply x.next)
        (sym (asked (subst (λ (v : ℕ). lanes_of (Asks (Put two)) (Asks Get) v ≡ Asks x.call) lane may.asks)))
        may.step).replies ∙ gets x.reply (subst (λ (v : ℕ). MayGet (e.told v) x.reply) lane may.may))))

-- the source is the put
source_hidden : (e : Return) (a b : Bool) → GetEnds (Comes e) → (x : Effect (List ℕ)) → IsSource RecordStep e before x
    → OneOf (Looked a b) (IsHiddenWith RecordStep e x before)
source_hidden e a b ends x source = each_lane (λ (v : ℕ). x.lane ≡ v →
    OneOf (Looked a b) (IsHiddenWith RecordStep e x before)) (Asks (Put two)) (Asks Get) of_put of_get x.lane
    source.asks refl
  where
    of_put : x.lane ≡ 1 → OneOf (Looked a b) (IsHiddenWith RecordStep e x before)
    of_put lane = puts_only (λ (y : Effect (List ℕ)). OneOf (Looked a b) (IsHiddenWith RecordStep e y before)) 1
        (record {
          position = hidden_both;
          there = (1, omega arith, refl);
          is = put_is_hidden e ends;
        }) x lane (sym (asked (subst (λ (v : ℕ). before.lanes v ≡ Asks x.call) lane source.asks)))
        (inl source.overwrites)

    of_get : x.lane ≡ 2 → OneOf (Looked a b) (IsHiddenWith RecordStep e x before)
    of_get lane = absurd (get_never x.reply x.next (subst (λ (c : Call). Overwrites RecordStep c x.reply
        x.next) (sym (asked (subst (λ (v : ℕ). before.lanes v ≡ Asks x.call) lane source.asks))) source.overwrites))

put_returned : (state : List ℕ) →
    IsReturn put_returning (position state (Gets Done) (Gets (Content two)) false false) (after_put state)
put_returned state = record {
  gets = refl;
  not_free = refl;
  state = refl;
  sets = sets_first (Gets Done) Idle (Gets (Content two));
  free = record { not_it = refl; others = λ v apart. refl };
}

get_returned : (state : List ℕ) →
    IsReturn get_returning (position state (Gets Done) (Gets (Content two)) false false) (after_get state)
get_returned state = record {
  gets = refl;
  not_free = refl;
  state = refl;
  sets = sets_second (Gets Done) (Gets (Content two)) Idle;
  free = record { not_it = refl; others = λ v apart. refl };
}

put_is_fixed : IsFixed 1 before put_fixed
put_is_fixed = record { state = refl; lanes = refl; free = record { not_it = refl; others = others } }
  where
    others : (v : ℕ) → v ≢ 1 → free_of false true v ≡ free_of true true v
    others (suc zero) apart = absurd (apart refl)
    others (suc (suc zero)) apart = refl
    others _ apart = refl

get_is_fixed : IsFixed 2 before get_fixed
get_is_fixed = record { state = refl; lanes = refl; free = record { not_it = refl; others = others } }
  where
    others : (v : ℕ) → v ≢ 2 → free_of true false v ≡ free_of true true v
    others (suc (suc zero)) apart = absurd (apart refl)
    others _ apart = refl

-- the one of the two calls returns, in its lane and with its reply
record ReturnsSo (e : Return) (a b : Bool) (call : Call) (after : List ℕ → Position (List ℕ)) : Type 0 where
  ends : GetEnds (Comes e)
  get : (reply : Reply) → MayGet (e.told 2) reply → reply ≡ Content two
  fixes : IsFixed e.lane before (fixed a b)
  asks : before.lanes e.lane ≡ Asks call
  asks_still : (fixed a b).lanes e.lane ≡ Asks call
  kind : ((reply : Reply) × (t : List ℕ) × Overwrites RecordStep call reply t) ⊎ OverwritesNever RecordStep call
  awaited : free_of a b e.lane ≡ false
  hidden_gets : hidden_both.lanes e.lane ≡ Gets e.reply
  gets : in_effect.lanes e.lane ≡ Gets e.reply
  returned : (state : List ℕ) →
      IsReturn e (position state (Gets Done) (Gets (Content two)) false false) (after state)

returns_so : (e : Return) (a b : Bool) (call : Call) (after : List ℕ → Position (List ℕ)) →
    ReturnsSo e a b call after → ReturnsBy RecordStep e (Contains (before ∷ [])) (Looked a b)
    (Contains (after one ∷ after two ∷ []))
returns_so e a b call after is = record {
  reached = all_reached a b;
  taken = record {
    each = λ p there. pick_one (λ (q : Position (List ℕ)). OneOf (Looked a b) (IsFixed e.lane q)) p before there
        (record { position = fixed a b; there = (0, omega arith, refl); is = is.fixes });
    asks = λ p there free. pick_one (λ (q : Position (List ℕ)). AsksSomeCall RecordStep (q.lanes e.lane)) p before
        there (record { call = call; asks = is.asks; kind = is.kind });
    hidden = λ p x there free source. inl (pick_one (λ (q : Position (List ℕ)). IsSource RecordStep e q x →
        OneOf (Looked a b) (IsHiddenWith RecordStep e x q)) p before there (source_hidden e a b is.ends x) source);
  };
  followed = record {
    frees = λ p. free_of a b;
    apart = λ p there. is.awaited;
    free = λ p there. pick_three (λ (q : Position (List ℕ)). (v : ℕ) → q.free v ≡ true → free_of a b v ≡ true)
        p (fixed a b) hidden_both in_effect there (λ v is. is) (λ v is. none_free v is) (λ v is. none_free v is);
    effects = λ p x asked there asks may. pick_three (λ (q : Position (List ℕ)). q.lanes e.lane ≡ Asks asked →
        MayTakeEffect RecordStep e q x → IsSeenTo RecordStep e (free_of a b) (Looked a b) q x) p (fixed a b)
        hidden_both in_effect there (λ its come. effects_seen e a b is.ends is.get x come)
        (λ its. absurd (asks_or_gets its is.hidden_gets)) (λ its. absurd (asks_or_gets its is.gets)) asks may;
  };
  left = record {
    is_open = λ p there. pick_three (λ (q : Position (List ℕ)). IsOpen e.reply (q.lanes e.lane)) p (fixed a b)
        hidden_both in_effect there (inl (call, is.asks_still)) (inr is.hidden_gets) (inr is.gets);
    come = λ q there. pick_two (λ (r : Position (List ℕ)). OneOf (Looked a b)
        (λ (p : Position (List ℕ)). IsReturn e p r)) q (after one) (after two) there
        (record { position = hidden_both; there = (1, omega arith, refl); is = is.returned one })
        (record { position = in_effect; there = (2, omega arith, refl); is = is.returned two });
    stay = λ p there gets. pick_three (λ (q : Position (List ℕ)). q.lanes e.lane ≡ Gets e.reply →
        OneOf (Contains (after one ∷ after two ∷ [])) (ReturnsAs RecordStep e q)) p (fixed a b) hidden_both in_effect
        there (λ its. absurd (asks_or_gets is.asks_still its))
        (λ its. record { position = after one; there = (0, omega arith, refl); is = stays one })
        (λ its. record { position = after two; there = (1, omega arith, refl); is = stays two }) gets;
  };
}
  where
    stays : (state : List ℕ) →
        ReturnsAs RecordStep e (position state (Gets Done) (Gets (Content two)) false false) (after state)
    stays state = record {
      then = after state;
      return = is.returned state;
      kept = kept_itself RecordStep _ (after state);
    }

pub put_returns : PutReturns
put_returns = returns_so put_returning false true (Put two) after_put (record {
  ends = get_ends_later;
  get = λ reply same. same;
  fixes = put_is_fixed;
  asks = refl;
  asks_still = refl;
  kind = inl (Done, two, put_overwrites two);
  awaited = refl;
  hidden_gets = refl;
  gets = refl;
  returned = put_returned;
})

pub get_returns : GetReturns
get_returns = returns_so get_returning true false Get after_get (record {
  ends = get_ends_now;
  get = λ reply same. same;
  fixes = get_is_fixed;
  asks = refl;
  asks_still = refl;
  kind = inr get_never;
  awaited = refl;
  hidden_gets = refl;
  gets = refl;
  returned = get_returned;
})
