-- A call that is hidden gives its place to one that is alike.
use Rattle.std.proofs.Common.{◌≡◌, ◌≢◌, ◌⊎◌, ℕ, Bool, true, Option, Some, List, sym, ◌∙◌, ap, subst, inl, inr}
use Rattle.std.proofs.lemmas.Bool.{cases_eq}
use Rattle.stamp_core.specs.declared.call.Call.{Call}
use Rattle.stamp_core.specs.declared.reply.Reply.{Reply}
use Rattle.stamp_runs.specs.Object.{Object}
use Rattle.stamp_runs.specs.declared.event.Event.{Event}
use Rattle.stamp_runs.specs.Run.{AreAlike, DoesAs, GoesFirst, Lanes}
use Rattle.stamp_runs.specs.Run.Phase.{Asks, Gets}
use Rattle.stamp_runs.specs.Position.{Hidden, Overwrites, Position, StandsFor}
use Rattle.stamp_runs.specs.Position.Hidden.{no_more, overwrites, sees}
use Rattle.stamp_runs.proofs.Alike.{Twisted, alike_first, twist, twist_is, twisted_on}
use Rattle.stamp_runs.proofs.Going.{GoesOnIn}
use Rattle.stamp_runs.proofs.Sources.{answered_of, asks_or_is_hidden}
use Rattle.stamp_runs.proofs.Hiding.{asked_before, stays_in_effect}
use Rattle.stamp_runs.proofs.Lanes.{asks_or_gets, one_call, one_reply, set_of, sets_of}

-- a call that is hidden gives its place to one that is alike and asks
module _ {S : Type 0} (O : Object S) (free : ℕ → Bool) (u ahead : ℕ) (call other : Call) (g : Reply)
    (apart : ahead ≢ u)
  where
    abbrev Swapped : Lanes → Lanes → Type 0
    Swapped = Twisted u ahead other g

    swapped_one : {a b c : Lanes} → Swapped a b → Swapped a c → b ≡ c
    swapped_one {a} {b} {c} one two = λ i v. by v (cases_eq v u) (cases_eq v ahead) i
      where
        by : (v : ℕ) → (v ≡ u) ⊎ (v ≢ u) → (v ≡ ahead) ⊎ (v ≢ ahead) → b v ≡ c v
        by v (inl e) either = subst (λ (w : ℕ). b w ≡ c w) (sym e) (one.here ∙ sym two.here)
        by v (inr not) (inl e) = subst (λ (w : ℕ). b w ≡ c w) (sym e) (one.there ∙ sym two.there)
        by v (inr not) (inr nor) = one.others v not nor ∙ sym (two.others v not nor)

    -- behind it
    rest_swapped : {at : Option S} {a l : Lanes} → Hidden O free at a l → a ahead ≡ Gets g → l u ≡ Asks call →
        (b k : Lanes) → Swapped a b → Swapped l k → Hidden O free at b k
    rest_swapped {at} no_more gets asks b k swapped swapped_l =
        subst (λ (m : Lanes). Hidden O free at b m) (swapped_one swapped swapped_l) no_more
    rest_swapped {a = a} {l} (overwrites {after = after} v c r t is asks_v over sets rest) gets asks b k swapped
        swapped_l = overwrites v c r t is (swapped.others v not nor ∙ asks_v) over (sets_of b v (Gets r))
        (rest_swapped rest (sets.others ahead (λ e. nor (sym e)) ∙ gets) asks (set_of b v (Gets r)) k
        (twisted_on v not nor sets swapped) swapped_l)
      where
        nor : v ≢ ahead
        nor e = asks_or_gets asks_v (subst (λ (w : ℕ). a w ≡ Gets g) (sym e) gets)

        not : v ≢ u
        not e = asks_or_gets asks (subst (λ (w : ℕ). l w ≡ Gets r) e (stays_in_effect O v r rest sets.here))
    rest_swapped {a = a} {l} (sees {after = after} v c r is asks_v step sets rest) gets asks b k swapped swapped_l =
        sees v c r is (swapped.others v not nor ∙ asks_v) step (sets_of b v (Gets r))
        (rest_swapped rest (sets.others ahead (λ e. nor (sym e)) ∙ gets) asks (set_of b v (Gets r)) k
        (twisted_on v not nor sets swapped) swapped_l)
      where
        nor : v ≢ ahead
        nor e = asks_or_gets asks_v (subst (λ (w : ℕ). a w ≡ Gets g) (sym e) gets)

        not : v ≢ u
        not e = asks_or_gets asks (subst (λ (w : ℕ). l w ≡ Gets r) e (stays_in_effect O v r rest sets.here))

    pub place_given : {at : Option S} {a l : Lanes} → Hidden O free at a l → a ahead ≡ Asks other → l ahead ≡ Gets g →
        l u ≡ Asks call → free u ≡ true → DoesAs O other call → DoesAs O call other → (k : Lanes) → Swapped l k →
        Hidden O free at a k
    place_given no_more asks_a gets asks is_free does done_by k swapped = absurd (asks_or_gets asks_a gets)
    place_given {at} {a} {l} (overwrites {after = after} v c r t is asks_v over sets rest) asks_a gets asks is_free
        does
        done_by k swapped = by (cases_eq v ahead) (λ nor. place_given rest
        (sets.others ahead (λ e. nor (sym e)) ∙ asks_a) gets asks is_free does done_by k swapped)
      where
        asks_u : a u ≡ Asks call
        asks_u = asked_before O {at = at} u call (overwrites v c r t is asks_v over sets rest) asks

        by : (v ≡ ahead) ⊎ (v ≢ ahead) → (v ≢ ahead → Hidden O free (Some t) after k) → Hidden O free at a k
        by (inr nor) more = overwrites v c r t is asks_v over sets (more nor)
        by (inl same) more = overwrites u call g t is_free asks_u its (sets_of a u (Gets g)) (rest_swapped rest
            gets_after asks (set_of a u (Gets g)) k (record {
              here = (sets_of a u (Gets g)).here;
              there = (sets_of a u (Gets g)).others ahead apart ∙ asks_a;
              others = λ w first second. (sets_of a u (Gets g)).others w first ∙
                  sym (sets.others w (λ e. second (e ∙ same)));
            }) swapped)
          where
            got : r ≡ g
            got = one_reply (subst (λ (w : ℕ). l w ≡ Gets r) same (stays_in_effect O v r rest sets.here)) gets

            gets_after : after ahead ≡ Gets g
            gets_after = subst (λ (w : ℕ). after w ≡ Gets r) same sets.here ∙ ap Gets got

            c_is : c ≡ other
            c_is = one_call (subst (λ (w : ℕ). a w ≡ Asks c) same asks_v) asks_a

            over_other : Overwrites O other g t
            over_other = subst (λ (x : Reply). Overwrites O other x t) got
                (subst (λ (x : Call). Overwrites O x r t) c_is over)

            its : Overwrites O call g t
            its = record {
              may = λ s. does s t g (over_other.may s);
              answer = λ s next q step. over_other.answer s next q (done_by s next q step);
              leaves = λ s next q step. over_other.leaves s next q (done_by s next q step);
            }
    place_given {at} {a} {l} (sees {after = after} {t = t} v c r is asks_v step sets rest) asks_a gets asks is_free
        does
        done_by k swapped = by (cases_eq v ahead) (λ nor. place_given rest
        (sets.others ahead (λ e. nor (sym e)) ∙ asks_a) gets asks is_free does done_by k swapped)
      where
        asks_u : a u ≡ Asks call
        asks_u = asked_before O {at = Some t} u call (sees v c r is asks_v step sets rest) asks

        by : (v ≡ ahead) ⊎ (v ≢ ahead) → (v ≢ ahead → Hidden O free (Some t) after k) → Hidden O free (Some t) a k
        by (inr nor) more = sees v c r is asks_v step sets (more nor)
        by (inl same) more = sees u call g is_free asks_u (does t t g (subst (λ (x : Reply). O t other x t) got
            (subst (λ (x : Call). O t x r t) c_is step))) (sets_of a u (Gets g)) (rest_swapped rest gets_after asks
            (set_of a u (Gets g)) k (record {
              here = (sets_of a u (Gets g)).here;
              there = (sets_of a u (Gets g)).others ahead apart ∙ asks_a;
              others = λ w first second. (sets_of a u (Gets g)).others w first ∙
                  sym (sets.others w (λ e. second (e ∙ same)));
            }) swapped)
          where
            got : r ≡ g
            got = one_reply (subst (λ (w : ℕ). l w ≡ Gets r) same (stays_in_effect O v r rest sets.here)) gets

            gets_after : after ahead ≡ Gets g
            gets_after = subst (λ (w : ℕ). after w ≡ Gets r) same sets.here ∙ ap Gets got

            c_is : c ≡ other
            c_is = one_call (subst (λ (w : ℕ). a w ≡ Asks c) same asks_v) asks_a

-- a way goes on where the call of this lane is in effect
pub record GetsIn {S : Type 0} (O : Object S) (n : ℕ) (events : List Event) (s : S) (p : Position S) (lane : ℕ)
    (reply : Reply) : Type 0 where
  pub lanes : Lanes
  pub stands : StandsFor O p s lanes
  pub gets : lanes lane ≡ Gets reply
  pub goes : GoesOnIn O n events s lanes

-- of two free calls that overwrite and are alike the one that goes first is hidden instead of the other
pub hidden_alike : {S : Type 0} (O : Object S) {n : ℕ} {events : List Event} {s : S} (p : Position S) (lane than : ℕ)
    (call other : Call) (reply : Reply) (t : S) (l : Lanes) → lane ≢ than → p.lanes lane ≡ Asks call →
    p.lanes than ≡ Asks other → p.free lane ≡ true → AreAlike O call other → Overwrites O other reply t →
    GoesFirst lane than reply events → StandsFor O p s l → l than ≡ Gets reply → GoesOnIn O n events s l →
    GetsIn O n events s p lane reply
hidden_alike O {n} {events} {s} p lane than call other reply t l apart asks asks_too free alike over first stands gets
    way = kind (asks_or_is_hidden O lane call stands.hidden asks)
  where
    kind : (l lane ≡ Asks call) ⊎ ((g : Reply) × (l lane ≡ Gets g)) → GetsIn O n events s p lane reply
    kind (inl still) = record {
      lanes = twist lane than other reply l;
      stands = record {
        same = stands.same;
        hidden = place_given O p.free lane than call other reply (λ e. apart (sym e)) stands.hidden asks_too gets still
            free alike.done_by alike.does (twist lane than other reply l) (twist_is lane than other reply l apart);
      };
      gets = (twist_is lane than other reply l apart).here;
      goes = alike_first O lane than call other reply alike.does apart still gets first way
          (twist lane than other reply l) (twist_is lane than other reply l apart);
    }
    kind (inr got) = let answered = answered_of O lane call got.0 stands.hidden asks got.1 in record {
      lanes = l;
      stands = stands;
      gets = got.1 ∙ ap Gets (over.answer answered.0 answered.1 got.0
          (alike.does answered.0 answered.1 got.0 answered.2));
      goes = way;
    }
