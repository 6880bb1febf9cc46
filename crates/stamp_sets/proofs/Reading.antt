-- Positions that numbers read as.
use Rattle.std.proofs.Common.{ℕ, ◌≡◌, ◌≢◌, ◌⊎◌, ◌==◌, ◌↔◌, Bool, false, true, List, Option, Some, None, refl, sym}
use Rattle.std.proofs.Common.{◌∙◌, subst, inl, inr, arith, eqb-true}
use Rattle.std.specs.Int.{bit_at}
use Rattle.std.proofs.lemmas.Bool.{cases_eq, false_from_ne_true}
use Rattle.std.proofs.lemmas.Nat.Bits.{bit_at-lt}
use Rattle.stamp_core.specs.declared.call.Call.{Call}
use Rattle.stamp_core.specs.declared.reply.Reply.{Reply}
use Rattle.stamp_runs.specs.Object.{Object}
use Rattle.stamp_runs.specs.Run.{Phase, Sets}
use Rattle.stamp_runs.specs.Run.Phase.{Asks, Gets}
use Rattle.stamp_runs.specs.Position as run
use Rattle.stamp_runs.specs.Returning.{IsReached}
use Rattle.stamp_runs.specs.Position.{FreesNoLess, Overwrites}
use Rattle.stamp_runs.specs.Returning.IsReached.{by_changing, by_overwriting}
use Rattle.stamp_runs.proofs.Lanes.{asks_or_gets, idle_or_asks, one_call, set_of, sets_of}
use Rattle.stamp_sets.specs.declared.open_call.OpenCall.{OpenCall}
use Rattle.stamp_sets.specs.declared.position.Position.{Position}
use Rattle.stamp_sets.specs.Judged.{Judged}
use Rattle.stamp_sets.specs.Kept.{HasPhase, IsFreeCall, IsInEffect, Reads}
use Rattle.stamp_sets.specs.Told.{MayGet, open_at}
use Rattle.stamp_sets.specs.inner.Effect.{AreFree, IsFreed, Takes}
use Rattle.stamp_sets.specs.Lanes.{SetsBit}
use Rattle.stamp_sets.specs.SmallCall.{call_of}
use Rattle.stamp_sets.proofs.Lawful.{IsLawful, not_overwriting, over_as, overwriting_to}
use Rattle.stamp_sets.proofs.Telling.{Beside}

-- the lanes of a number
abbrev pub is_set : ℕ → ℕ → Bool
is_set lanes lane = bit_at lanes lane == 1

pub set_bit : (lanes lane : ℕ) → (is_set lanes lane ≡ true) ↔ (bit_at lanes lane ≡ 1)
set_bit lanes lane = (
  λ is. eqb-true (bit_at lanes lane) 1 is,
  λ is. subst (λ (b : ℕ). (b == 1) ≡ true) (sym is) refl,
)

pub same_bits : (a b : Bool) → (a ≡ true → b ≡ true) → (b ≡ true → a ≡ true) → a ≡ b
same_bits true true one other = refl
same_bits true false one other = sym (one refl)
same_bits false true one other = other refl
same_bits false false one other = refl

pub not_set : (lanes lane : ℕ) → bit_at lanes lane ≡ 0 → is_set lanes lane ≡ false
not_set lanes lane unset = false_from_ne_true (is_set lanes lane)
    (λ is. let one = (set_bit lanes lane).0 is in omega (arith, one, unset))

pub bit_unset : (lanes lane : ℕ) → bit_at lanes lane ≢ 1 → bit_at lanes lane ≡ 0
bit_unset lanes lane not = let low = bit_at-lt lanes lane in omega (arith, low, not)

-- what is left once a bit is cleared
pub cleared : (old new lane u : ℕ) → SetsBit old new lane 0 → bit_at new u ≡ 1 → (u ≢ lane) × (bit_at old u ≡ 1)
cleared old new lane u clears is = (
  apart,
  sym (clears.others u apart) ∙ is,
)
  where
    apart : u ≢ lane
    apart same = let none = clears.here in
        let one : bit_at new lane ≡ 1 = subst (λ (v : ℕ). bit_at new v ≡ 1) same is in omega (arith, none, one)

pub unset_cleared : (old new lane u : ℕ) → SetsBit old new lane 0 → bit_at old u ≡ 0 → bit_at new u ≡ 0
unset_cleared old new lane u clears unset = bit_unset new u
    (λ is. let was = (cleared old new lane u clears is).1 in omega (arith, was, unset))

-- the position with another state, another phase of this lane, and these lanes free
abbrev pub moved : {S : Type 0} → run.Position S → ℕ → Phase → S → ℕ → run.Position S
moved {S} p lane phase next free = record { state = next; lanes = set_of p.lanes lane phase; free = is_set free }

-- it asks this call, which is open there and not in effect
pub record AsksIn (slot : Option OpenCall) (bit : ℕ) (call : Call) : Type 0 where
  pub begun : OpenCall
  pub is_open : slot ≡ Some begun
  pub free : bit ≡ 0
  pub same : call_of begun.asks ≡ call

pub asks_in : (slot : Option OpenCall) (bit : ℕ) (phase : Phase) (call : Call) →
    HasPhase slot bit phase → phase ≡ Asks call → AsksIn slot bit call
asks_in None bit phase call idle asks = absurd (idle_or_asks idle asks)
asks_in (Some begun) bit phase call (inl is) asks =
    record { begun = begun; is_open = refl; free = is.free; same = one_call is.asks asks }
asks_in (Some begun) bit phase call (inr is) asks = absurd (asks_or_gets asks is.gets)

has_phase_same : (r p : Option OpenCall) (a b : ℕ) (x y : Phase) → r ≡ p → a ≡ b → x ≡ y →
    HasPhase r a x → HasPhase p b y
has_phase_same r p a b x y opens bits phases has = subst (λ (z : Phase). HasPhase p b z) phases
    (subst (λ (i : ℕ). HasPhase p i x) bits (subst (λ (q : Option OpenCall). HasPhase q a x) opens has))

free_asks : (begun : OpenCall) (bit : ℕ) (phase : Phase) →
    HasPhase (Some begun) bit phase → bit ≡ 0 → phase ≡ Asks (call_of begun.asks)
free_asks begun bit phase (inl is) free = is.asks
free_asks begun bit phase (inr is) free = let taken = is.taken in absurd (omega (arith, taken, free))

taken_gets : (begun : OpenCall) (bit : ℕ) (phase : Phase) →
    HasPhase (Some begun) bit phase → bit ≡ 1 → IsInEffect begun bit phase
taken_gets begun bit phase (inl is) taken = let free = is.free in absurd (omega (arith, taken, free))
taken_gets begun bit phase (inr is) taken = is

gets_taken : (begun : OpenCall) (bit : ℕ) (phase : Phase) (reply : Reply) →
    HasPhase (Some begun) bit phase → phase ≡ Gets reply → bit ≡ 1
gets_taken begun bit phase reply (inl is) gets = absurd (asks_or_gets is.asks gets)
gets_taken begun bit phase reply (inr is) gets = is.taken

-- effects that change the one position to the other
pub data ComesTo {S : Type 0} (O : Object S) (p : run.Position S) : run.Position S → Type 0 where
  stays : ComesTo O p p
  changes : (q r : run.Position S) (lane : ℕ) (call : Call) (reply : Reply) → ComesTo O p q →
      q.lanes lane ≡ Asks call → O q.state call reply r.state → Sets q.lanes r.lanes lane (Gets reply) →
      r.free lane ≡ false → ((v : ℕ) → r.free v ≡ true → q.free v ≡ true) → ComesTo O p r
  overwrites : (q r : run.Position S) (lane : ℕ) (call : Call) (reply : Reply) → ComesTo O p q →
      q.lanes lane ≡ Asks call → Overwrites O call reply r.state → Sets q.lanes r.lanes lane (Gets reply) →
      r.free lane ≡ false → ComesTo O p r

pub reached_on : {S : Type 0} {O : Object S} {old : run.Position S → Type 0} (p q : run.Position S) →
    IsReached O old p → ComesTo O p q → IsReached O old q
reached_on p q reached stays = reached
reached_on p q reached (changes x y lane call reply rest asks step sets apart fewer) =
    by_changing x y lane call reply (reached_on p x reached rest) asks step sets apart fewer
reached_on p q reached (overwrites x y lane call reply rest asks over sets apart) =
    by_overwriting x y lane call reply (reached_on p x reached rest) asks over sets apart

pub free_call_as : {S : Type 0} (o : Judged S) (a b : Option OpenCall) (m n : ℕ) → a ≡ b → m ≡ n →
    IsFreeCall o a m → IsFreeCall o b n
free_call_as o a b m n slots bits is = subst (λ (k : ℕ). IsFreeCall o b k) bits
    (subst (λ (x : Option OpenCall). IsFreeCall o x m) slots is)

module _ {S : Type 0} (o : Judged S) (table : List (Option OpenCall)) where
  module _ {p : Position} {q : run.Position S} (reads : Reads o table p q) where
    module _ (lane : ℕ) (begun : OpenCall) (is_open : open_at table lane ≡ Some begun) where
      pub phase_at : HasPhase (Some begun) (bit_at p.in_effect lane) (q.lanes lane)
      phase_at = subst (λ (x : Option OpenCall). HasPhase x (bit_at p.in_effect lane) (q.lanes lane)) is_open
          (reads.lanes lane)

      pub asks_at : bit_at p.in_effect lane ≡ 0 → q.lanes lane ≡ Asks (call_of begun.asks)
      asks_at free = free_asks begun (bit_at p.in_effect lane) (q.lanes lane) phase_at free

      pub gets_at : bit_at p.in_effect lane ≡ 1 → IsInEffect begun (bit_at p.in_effect lane) (q.lanes lane)
      gets_at taken = taken_gets begun (bit_at p.in_effect lane) (q.lanes lane) phase_at taken

      pub taken_at : (reply : Reply) → q.lanes lane ≡ Gets reply → bit_at p.in_effect lane ≡ 1
      taken_at reply gets = gets_taken begun (bit_at p.in_effect lane) (q.lanes lane) reply phase_at gets

    pub asked_at : (lane : ℕ) (call : Call) → q.lanes lane ≡ Asks call →
        AsksIn (open_at table lane) (bit_at p.in_effect lane) call
    asked_at lane call asks = asks_in (open_at table lane) (bit_at p.in_effect lane) (q.lanes lane) call
        (reads.lanes lane) asks

  -- with one lane's phase set, in the table and the numbers, too
  pub reads_set : (later : List (Option OpenCall)) (p r : Position) (q : run.Position S) (lane : ℕ) (phase : Phase)
      (next : S) → Reads o table p q → Beside table later lane →
      ((other : ℕ) → other ≢ lane → bit_at r.in_effect other ≡ bit_at p.in_effect other) →
      HasPhase (open_at later lane) (bit_at r.in_effect lane) phase → o.holds r.state next →
      ((u : ℕ) → bit_at r.free u ≡ 1 → IsFreeCall o (open_at later u) (bit_at r.in_effect u)) →
      Reads o later r (moved q lane phase next r.free)
  reads_set later p r q lane phase next reads beside bits has holds kinds = record {
    state = holds;
    lanes = λ u. by u (cases_eq u lane);
    free = λ u. set_bit r.free u;
    kinds = kinds;
  }
    where
      by : (u : ℕ) → (u ≡ lane) ⊎ (u ≢ lane) →
          HasPhase (open_at later u) (bit_at r.in_effect u) (set_of q.lanes lane phase u)
      by u (inl same) = subst
          (λ (v : ℕ). HasPhase (open_at later v) (bit_at r.in_effect v) (set_of q.lanes lane phase v)) (sym same)
          (subst (λ (x : Phase). HasPhase (open_at later lane) (bit_at r.in_effect lane) x)
          (sym (sets_of q.lanes lane phase).here) has)
      by u (inr apart) = has_phase_same (open_at table u) (open_at later u) (bit_at p.in_effect u)
          (bit_at r.in_effect u) (q.lanes u) (set_of q.lanes lane phase u) (sym (beside.same u apart))
          (sym (bits u apart)) (sym ((sets_of q.lanes lane phase).others u apart)) (reads.lanes u)

  pub beside_itself : (lane : ℕ) → Beside table table lane
  beside_itself lane = record { same = λ other apart. refl }

  -- calls of other lanes are free as before
  pub kinds_beside : (later : List (Option OpenCall)) (p r : Position) (q : run.Position S) (lane : ℕ) →
      Reads o table p q → Beside table later lane →
      ((other : ℕ) → other ≢ lane → bit_at r.in_effect other ≡ bit_at p.in_effect other) → (u : ℕ) →
      (u ≢ lane) × (bit_at p.free u ≡ 1) → IsFreeCall o (open_at later u) (bit_at r.in_effect u)
  kinds_beside later p r q lane reads beside bits u is = free_call_as o (open_at table u) (open_at later u)
      (bit_at p.in_effect u) (bit_at r.in_effect u) (sym (beside.same u is.0)) (sym (bits u is.0))
      (reads.kinds u is.1)

  pub unfree_at : (p : Position) (q : run.Position S) (lane : ℕ) → Reads o table p q → bit_at p.free lane ≢ 1 →
      q.free lane ≡ false
  unfree_at p q lane reads not = false_from_ne_true (q.free lane) (λ is. not ((reads.free lane).0 is))

  -- the lane's call in effect
  module _ {lane : ℕ} {p r : Position} {q : run.Position S} (takes : Takes o table lane p r)
      (reads : Reads o table p q) {reply : Reply} {next : S} (may : MayGet takes.begun.ends reply)
      (step : o.step q.state (call_of takes.begun.asks) reply next) where
    asks : q.lanes lane ≡ Asks (call_of takes.begun.asks)
    asks = asks_at reads lane takes.begun takes.is_open takes.free

    pub reads_taken : ((u : ℕ) → bit_at r.free u ≡ 1 → IsFreeCall o (open_at table u) (bit_at r.in_effect u)) →
        Reads o table r (moved q lane (Gets reply) next r.free)
    reads_taken kinds = reads_set table p r q lane (Gets reply) next reads (beside_itself lane) takes.sets.others
        (subst (λ (x : Option OpenCall). HasPhase x (bit_at r.in_effect lane) (Gets reply)) (sym takes.is_open)
        (inr (record { taken = takes.sets.here; reply = reply; may = may; gets = refl })))
        (takes.effect.each q.state next reply reads.state may step) kinds

    -- its own call is not free then, and others as before
    module _ (clears : SetsBit p.free r.free lane 0) where
      pub kinds_cleared : (u : ℕ) → bit_at r.free u ≡ 1 → IsFreeCall o (open_at table u) (bit_at r.in_effect u)
      kinds_cleared u is = kinds_beside table p r q lane reads (beside_itself lane) takes.sets.others u
          (cleared p.free r.free lane u clears is)

      pub comes_changed : (x : run.Position S) → ComesTo o.step x q →
          ComesTo o.step x (moved q lane (Gets reply) next r.free)
      comes_changed x rest = changes q (moved q lane (Gets reply) next r.free) lane (call_of takes.begun.asks) reply
          rest asks step (sets_of q.lanes lane (Gets reply)) (not_set r.free lane clears.here)
          (λ v is. (reads.free v).1 (cleared p.free r.free lane v clears ((set_bit r.free v).0 is)).1)

      no_less_cleared : FreesNoLess q.free (is_set r.free) lane
      no_less_cleared = record {
        not_it = not_set r.free lane clears.here;
        others = λ v apart is. (set_bit r.free v).1 (clears.others v apart ∙ (reads.free v).0 is);
      }

    -- these calls are free then
    module _ (lawful : IsLawful o) (awaited : ℕ) (frees : AreFree o table awaited p lane (o.overwrites takes.begun)
        r.free) where
      pub record FreeThen : Type 0 where
        pub kinds : (u : ℕ) → bit_at r.free u ≡ 1 → IsFreeCall o (open_at table u) (bit_at r.in_effect u)
        pub comes : (x : run.Position S) → ComesTo o.step x q → ComesTo o.step x (moved q lane (Gets reply) next r.free)
        pub no_less : FreesNoLess q.free (is_set r.free) lane
        pub all : Overwrites o.step (call_of takes.begun.asks) reply next → (v : ℕ) → v ≢ lane →
            IsFreed o table awaited p.in_effect v → is_set r.free v ≡ true
        pub not_awaited : bit_at p.free awaited ≡ 0 → bit_at r.free awaited ≡ 0

      free_then : (found : Option ℕ) → o.overwrites takes.begun ≡ found → AreFree o table awaited p lane found r.free →
          FreeThen
      free_then None none clears = record {
        kinds = kinds_cleared clears;
        comes = comes_changed clears;
        no_less = no_less_cleared clears;
        all = λ over v apart freed. absurd (not_overwriting o lawful takes.begun none reply next may over);
        not_awaited = λ unset. unset_cleared p.free r.free lane awaited clears unset;
      }
      free_then (Some number) some others = record {
        kinds = λ u is. let left = cleared others.all r.free lane u others.clears is in
            kind u left.0 (others.frees.only u left.1);
        comes = λ x rest. overwrites q (moved q lane (Gets reply) next r.free) lane (call_of takes.begun.asks) reply
            rest asks over (sets_of q.lanes lane (Gets reply)) (not_set r.free lane others.clears.here);
        no_less = record {
          not_it = not_set r.free lane others.clears.here;
          others = λ v apart is. (set_bit r.free v).1 (others.clears.others v apart ∙
              others.frees.stay v ((reads.free v).0 is));
        };
        all = λ is v apart freed. (set_bit r.free v).1 (others.clears.others v apart ∙ others.frees.freed v tt freed);
        not_awaited = λ unset. unset_cleared others.all r.free lane awaited others.clears (bit_unset others.all awaited
            (λ is. unfreed (others.frees.only awaited is) unset));
      }
        where
          over : Overwrites o.step (call_of takes.begun.asks) reply next
          over = let is = overwriting_to o lawful takes.begun number some in
              over_as o.step (call_of takes.begun.asks) is.reply reply q.state is.next next is.overwrites step

          kind : (u : ℕ) → u ≢ lane → IsFreed o table awaited p.in_effect u ⊎ (bit_at p.free u ≡ 1) →
              IsFreeCall o (open_at table u) (bit_at r.in_effect u)
          kind u apart (inl freed) = free_call_as o (open_at table u) (open_at table u) (bit_at p.in_effect u)
              (bit_at r.in_effect u) refl (sym (takes.sets.others u apart)) freed.is
          kind u apart (inr is) = kinds_beside table p r q lane reads (beside_itself lane) takes.sets.others u
              (apart, is)

          unfreed : IsFreed o table awaited p.in_effect awaited ⊎ (bit_at p.free awaited ≡ 1) →
              bit_at p.free awaited ≡ 0 → ⊥
          unfreed (inl freed) unset = freed.apart refl
          unfreed (inr is) unset = omega (arith, is, unset)

      pub come_free : FreeThen
      come_free = free_then (o.overwrites takes.begun) refl frees
