-- What is kept, one event on.
use Rattle.std.proofs.Common.{ℕ, ◌≡◌, ◌≢◌, ◌⊎◌, ◌+◌, ◌<◌, ◌≤◌, List, [], ◌∷◌, ◌++◌, length, get_or, set}
use Rattle.std.proofs.Common.{true, Option, Some, None, refl, sym, ◌∙◌, ap, subst, inl, inr, arith}
use Rattle.std.specs.Prelude.{slice_set, replicate}
use Rattle.std.specs.Int.{bit_at}
use Rattle.std.specs.List.{All, Contains}
use Rattle.std.proofs.lemmas.Bool.{cases_eq, false_from_ne_true}
use Rattle.std.proofs.lemmas.Nat.Bits.{bit_at-zero}
use Rattle.std.proofs.lemmas.Option.{none-some}
use Rattle.std.proofs.lemmas.List.{length-set, get_or-set_same, get_or-set_other, get_or_default, length-replicate}
use Rattle.std.proofs.lemmas.List.Elements.{All-contains, Contains-get_or, Contains-push}
use Rattle.stamp_runs.specs.Run.{Lanes, Leads, all_idle}
use Rattle.stamp_runs.specs.Run.Leads.{leads_nowhere}
use Rattle.stamp_runs.specs.Run.Phase.{Asks, Idle}
use Rattle.stamp_runs.specs.Watching.{StandFor}
use Rattle.stamp_runs.specs.Position.{OfSome, opening_position}
use Rattle.stamp_runs.specs.Position as run
use Rattle.stamp_runs.specs.Position.Hidden.{no_more}
use Rattle.stamp_runs.specs.Returning.{IsKeptAs, IsReached, OneOf}
use Rattle.stamp_runs.specs.Returning.IsReached.{from_old}
use Rattle.stamp_runs.specs.Stepping.{IsBegun, IsWithdrawn}
use Rattle.stamp_runs.specs.declared.event.Event.{Event}
use Rattle.stamp_runs.specs.declared.event.Event.TheVariants as event
use Rattle.stamp_runs.proofs.Keeping.{kept_settled}
use Rattle.stamp_runs.proofs.Lanes.{sets_of, true_or_false}
use Rattle.stamp_runs.proofs.Sets.{stand_on}
use Rattle.stamp_runs.proofs.Sources.{unfree_stays}
use Rattle.stamp_runs.proofs.Stepping.{go_on_by_beginning, go_on_by_withdrawal, stand_as_kept}
use Rattle.stamp_sets.specs.declared.ending.Ending.{Ending}
use Rattle.stamp_sets.specs.declared.ending.Ending.TheVariants.{Withdraws}
use Rattle.stamp_sets.specs.declared.open_call.OpenCall.{OpenCall}
use Rattle.stamp_sets.specs.declared.position.Position.{Position}
use Rattle.stamp_sets.specs.Judged.{Judged}
use Rattle.stamp_sets.specs.inner.State.{IsState}
use Rattle.stamp_sets.specs.Kept.{AreKept, HasPhase, IsKept, IsPossible, MayBe, Reads}
use Rattle.stamp_sets.specs.Kept.{IsFreeCall, ReadsOne, may_be_free}
use Rattle.stamp_sets.specs.Told.{ComesAsTold, HasEachOpen, MayGet, open_at}
use Rattle.stamp_sets.specs.inner.Effect.{Settles}
use Rattle.stamp_sets.specs.Lanes.{SetsBit}
use Rattle.stamp_sets.specs.inner.Step.{AreBegun, BeginsIn, IsOpening}
use Rattle.stamp_sets.specs.SmallCall.{call_of}
use Rattle.stamp_sets.specs.Unchanging.{reads_only}
use Rattle.stamp_sets.proofs.Layering.{all_from, contains_one}
use Rattle.stamp_sets.proofs.Reading.{is_set, kinds_beside, moved, phase_at, reached_on, reads_set}
use Rattle.stamp_sets.proofs.Reading.{same_bits, set_bit, unfree_at}
use Rattle.stamp_sets.proofs.Lawful.{IsLawful, kind_of, overwriting_to}
use Rattle.stamp_sets.proofs.Returned.{new_may_be, stand_kept}
use Rattle.stamp_sets.proofs.Settled.{SettledTo, is_settled, settled_to}
use Rattle.stamp_sets.proofs.Tables.{one_open, open_at_idle, open_at_set_here, open_at_set_none, open_at_set_other}
use Rattle.stamp_sets.proofs.Telling.{beside_set, no_return, told_begins, told_withdraws}

-- what is kept at first
module _ {S : Type 0} (o : Judged S) (table : List (Option OpenCall)) (p : Position)
    (idle : table ≡ replicate 64 None) (is : IsOpening o p) where
  not_free : (lane : ℕ) → bit_at p.free lane ≢ 1
  not_free lane set = let none = bit_at-zero lane in
      let one : bit_at 0 lane ≡ 1 = subst (λ (n : ℕ). bit_at n lane ≡ 1) is.none_free set in omega (arith, none, one)

  pub opening_reads : Reads o table p (opening_position o.start)
  opening_reads = record {
    state = is.state;
    lanes = λ lane. subst (λ (slot : Option OpenCall). HasPhase slot (bit_at p.in_effect lane) Idle)
        (sym (ap (λ (t : List (Option OpenCall)). open_at t lane) idle ∙ open_at_idle 64 lane)) refl;
    free = λ lane. (
      λ is. absurd (true_or_false is refl),
      λ is. absurd (not_free lane is),
    );
    kinds = λ lane is. absurd (not_free lane is);
  }

  opening_may_be : MayBe o [] (opening_position o.start)
  opening_may_be s lanes stands = subst (λ (t : S). Leads o.step [] o.start all_idle t lanes) stands.same
      (subst (λ (l : Lanes). Leads o.step [] o.start all_idle o.start l)
      (λ i v. sym (unfree_stays o.step v refl stands.hidden) i) leads_nowhere)

  pub kept_first : (kept : List Position) → kept ≡ p ∷ [] → AreKept o [] table 0 kept
  kept_first kept one = record {
    lanes = ap length idle ∙ length-replicate {A = Option OpenCall} 64 None;
    possible = all_from (IsPossible o [] table) kept (λ x among. by x (only x among));
    stand = record {
      possible = λ s lanes of. of.among.may_be s lanes of.stands;
      whole = λ future told explained. record {
        state = o.start;
        lanes = all_idle;
        among = record {
          position = opening_position o.start;
          among = record {
            is = record { numbers = p; among = has; reads = opening_reads };
            may_be = opening_may_be;
          };
          stands = record { same = refl; hidden = no_more };
        };
        survives = explained;
      };
    };
  }
    where
      has : Contains kept p
      has = subst (λ (xs : List Position). Contains xs p) (sym one) (Contains-push [] p)

      only : (x : Position) → Contains kept x → p ≡ x
      only x among = contains_one p x (subst (λ (xs : List Position). Contains xs x) one among)

      by : (x : Position) → p ≡ x → IsPossible o [] table x
      by x same = subst (λ (y : Position). IsPossible o [] table y) same
          (record { position = opening_position o.start; reads = opening_reads; may_be = opening_may_be })

-- a call begins in each position
pub record BegunSoFar {S : Type 0} (o : Judged S) (begun : OpenCall) (lane n : ℕ) (old now : List Position) : Type
    0 where
  pub many : length now ≡ length old
  pub each : (k : ℕ) (d : Position) → k < n → k < length old →
      BeginsIn o begun lane (get_or old k d) (get_or now k d)
  pub rest : (k : ℕ) (d : Position) → n ≤ k → get_or now k d ≡ get_or old k d

module _ {S : Type 0} (o : Judged S) (begun : OpenCall) (lane : ℕ) where
  pub so_far_none : (xs : List Position) → BegunSoFar o begun lane 0 xs xs
  so_far_none xs = record {
    many = refl;
    each = λ k d none less. absurd (omega arith);
    rest = λ k d low. refl;
  }

  pub so_far_more : (n : ℕ) (old now : List Position) (d q : Position) → n < length now →
      BeginsIn o begun lane (get_or now n d) q → BegunSoFar o begun lane n old now →
      BegunSoFar o begun lane (n + 1) old (set now n q)
  so_far_more n old now d q within begins so_far = record {
    many = length-set now n q ∙ so_far.many;
    each = λ k e below less. each k e below less (cases_eq k n);
    rest = λ k e low. get_or-set_other now n k q e (λ same. absurd (omega arith)) ∙ so_far.rest k e (omega arith);
  }
    where
      each : (k : ℕ) (e : Position) → k < n + 1 → k < length old → (k ≡ n) ⊎ (k ≢ n) →
          BeginsIn o begun lane (get_or old k e) (get_or (set now n q) k e)
      each k e below less (inr apart) = subst (λ (x : Position). BeginsIn o begun lane (get_or old k e) x)
          (sym (get_or-set_other now n k q e apart)) (so_far.each k e (omega arith) less)
      each k e below less (inl same) =
          subst (λ (i : ℕ). BeginsIn o begun lane (get_or old i e) (get_or (set now n q) i e)) (sym same)
          (subst (λ (x : Position). BeginsIn o begun lane (get_or old n e) x)
          (sym (get_or-set_same now n q e within))
          (subst (λ (x : Position). BeginsIn o begun lane x q)
          (get_or_default now n d e within ∙ so_far.rest n e (omega arith)) begins))

  pub states_rest : (n : ℕ) (old now : List Position) (d : Position) → n < length old →
      BegunSoFar o begun lane n old now → All (λ (p : Position). IsState o p.state) old →
      IsState o (get_or now n d).state
  states_rest n old now d less so_far are =
      subst (λ (x : Position). IsState o x.state) (sym (so_far.rest n d (omega arith))) (are n d less)

  pub all_begun : (n : ℕ) (old now : List Position) → length now ≤ n → BegunSoFar o begun lane n old now →
      AreBegun o begun lane old now
  all_begun n old now all so_far = record {
    many = so_far.many;
    each = λ k d less. let many = so_far.many in so_far.each k d (omega (arith, many)) less;
  }

-- the lane has no open call, and none is free there; and a call begins in it
module _ {S : Type 0} (o : Judged S) (table : List (Option OpenCall)) (lane : ℕ) (begun : OpenCall)
    (idle : open_at table lane ≡ None) {x : Position} {p : run.Position S} (reads : Reads o table x p) where
  pub idle_unfree : (u : ℕ) → bit_at x.free u ≡ 1 → u ≢ lane
  idle_unfree u is same = none-some at.begun (sym (subst (λ (v : ℕ). open_at table v ≡ None) (sym same) idle) ∙
      at.is_open)
    where
      at : IsFreeCall o (open_at table u) (bit_at x.in_effect u)
      at = reads.kinds u is

  pub reads_begun : {next : Position} → open_at (slice_set table lane (Some begun)) lane ≡ Some begun →
      (begins : BeginsIn o begun lane x next) → Reads o (slice_set table lane (Some begun)) begins.plain
      (moved p lane (Asks (call_of begun.asks)) p.state begins.plain.free)
  reads_begun here begins = reads_set o table (slice_set table lane (Some begun)) x begins.plain p lane (Asks (call_of
      begun.asks)) p.state reads (beside_set table lane (Some begun)) begins.clears.others (subst (λ (slot : Option
      OpenCall). HasPhase slot (bit_at begins.plain.in_effect lane) (Asks (call_of begun.asks))) (sym here) (inl
      (record { free = begins.clears.here; asks = refl }))) (subst (λ (n : ℕ). o.holds n p.state) (sym begins.state)
      reads.state) (λ u is. let was : bit_at x.free u ≡ 1 = subst (λ (n : ℕ). bit_at n u ≡ 1) begins.free is in
      kinds_beside o table (slice_set table lane (Some begun)) x begins.plain p lane reads
      (beside_set table lane (Some begun)) begins.clears.others u (idle_unfree u was, was))

-- what is kept once a call has begun
module _ {S : Type 0} (o : Judged S) (past : List Event)
    (table : List (Option OpenCall)) (last lane : ℕ) (begun : OpenCall) (kept new : List Position)
    (full : length table ≡ 64) (below : lane < 64) (idle : open_at table lane ≡ None)
    (are : AreBegun o begun lane kept new) where
  abbrev later : List (Option OpenCall)
  later = slice_set table lane (Some begun)

  abbrev itself : Event
  itself = event.Begins lane (call_of begun.asks)

  abbrev Old : run.Position S → Type 0
  Old q = IsKept o past table kept q

  here : open_at later lane ≡ Some begun
  here = open_at_set_here table lane (Some begun) (omega (arith, below, full))

  -- the position that comes of an old one as the call begins
  record BegunTo (next : Position) (q : run.Position S) : Type 0 where
    first : run.Position S
    old : Old first
    among : Contains new next
    plain : Position
    settles_to : (t : List (Option OpenCall)) → open_at t lane ≡ Some begun → Settles o t (λ l. l ≡ lane) plain next
    reads : Reads o later plain q
    is : IsBegun lane (call_of begun.asks) first q

  record BegunOne (q : run.Position S) : Type 0 where
    next : Position
    to : BegunTo next q

  settled_one : (next : Position) (q : run.Position S) → BegunTo next q → SettledTo o later (λ l. l ≡ lane) next q
  settled_one next q one = settled_to o later (λ l. l ≡ lane) one.plain next q (one.settles_to later here) one.reads

  -- and what is left once it has settled
  record NewOne (q : run.Position S) : Type 0 where
    is : ReadsOne o later new q
    reached : IsReached o.step BegunOne q

  new_one : (next : Position) (q : run.Position S) (one : BegunTo next q) → NewOne (settled_one next q one).then
  new_one next q one = record {
    is = record { numbers = next; among = one.among; reads = (settled_one next q one).reads };
    reached = reached_on q (settled_one next q one).then
        (from_old q q (record { next = next; to = one }) refl no_more (λ v free. free))
        (settled_one next q one).comes;
  }

  is_begun : (p : run.Position S) (old : Old p) (free : ℕ) → free ≡ old.is.numbers.free →
      IsBegun lane (call_of begun.asks) p (moved p lane (Asks (call_of begun.asks)) p.state free)
  is_begun p old free same = record {
    idle = subst (λ (slot : Option OpenCall). HasPhase slot (bit_at old.is.numbers.in_effect lane)
        (p.lanes lane)) idle (old.is.reads.lanes lane);
    not_free = unfree_at o table old.is.numbers p lane old.is.reads (λ is. idle_unfree o table lane begun idle
        old.is.reads lane is refl);
    state = refl;
    sets = sets_of p.lanes lane (Asks (call_of begun.asks));
    free = record {
      not_it = false_from_ne_true (is_set free lane) (λ is. idle_unfree o table lane begun idle old.is.reads lane (was
          lane is) refl);
      others = λ v apart. same_bits (is_set free v) (p.free v) (λ is. (old.is.reads.free v).1 (was v is))
          (λ is. (set_bit free v).1 (subst (λ (n : ℕ). bit_at n v ≡ 1) (sym same) ((old.is.reads.free v).0 is)));
    };
  }
    where
      was : (v : ℕ) → is_set free v ≡ true → bit_at old.is.numbers.free v ≡ 1
      was v is = subst (λ (n : ℕ). bit_at n v ≡ 1) same ((set_bit free v).0 is)

  begins_at : (p : run.Position S) (old : Old p) (next : Position) → Contains new next →
      (begins : BeginsIn o begun lane old.is.numbers next) →
      BegunTo next (moved p lane (Asks (call_of begun.asks)) p.state begins.plain.free)
  begins_at p old next among begins = record {
    first = p;
    old = old;
    among = among;
    plain = begins.plain;
    settles_to = begins.settles.settles;
    reads = reads_begun o table lane begun idle old.is.reads here begins;
    is = is_begun p old begins.plain.free begins.free;
  }

  -- each of the old numbers has one that comes of it
  record ComesOf (x : Position) : Type 0 where
    next : Position
    among : Contains new next
    begins : BeginsIn o begun lane x next

  comes_of : (x : Position) → Contains kept x → ComesOf x
  comes_of x (k, less, same) = record {
    next = get_or new k x;
    among = Contains-get_or new k x (let many = are.many in omega (arith, many, less));
    begins = subst (λ (y : Position). BeginsIn o begun lane y (get_or new k x)) same (are.each k x less);
  }

  stay : (p : run.Position S) → Old p → OneOf BegunOne (IsBegun lane (call_of begun.asks) p)
  stay p old = let of = comes_of old.is.numbers old.is.among in
      let one = begins_at p old of.next of.among of.begins in record {
        position = moved p lane (Asks (call_of begun.asks)) p.state of.begins.plain.free;
        there = record { next = of.next; to = one };
        is = is_begun p old of.begins.plain.free of.begins.free;
      }

  keep : (q : run.Position S) → BegunOne q → OneOf NewOne (IsKeptAs o.step (ComesAsTold (open_at later) last) q)
  keep q one = record {
    position = (settled_one one.next q one.to).then;
    there = new_one one.next q one.to;
    is = kept_settled o.step (is_settled o later (ComesAsTold (open_at later) last) (λ future fit v b is. fit.ends v b
        is) (λ l. l ≡ lane) one.next q (settled_one one.next q one.to));
  }

  pub kept_begun : AreKept o past table last kept → AreKept o (past ++ itself ∷ []) later last new
  kept_begun old = record {
    lanes = length-set table lane (Some begun) ∙ full;
    possible = all_from (IsPossible o (past ++ itself ∷ []) later) new (λ x among. at x among);
    stand = stand_kept o (past ++ itself ∷ []) later new NewOne (ComesAsTold (open_at later) last) stand
        (λ q one. one.is);
  }
    where
      stand : StandFor o.step o.start (past ++ itself ∷ []) (ComesAsTold (open_at later) last) (OfSome o.step NewOne)
      stand = stand_as_kept o.step o.start (past ++ itself ∷ []) (ComesAsTold (open_at later) last) BegunOne NewOne
          (stand_on o.step o.start past itself (ComesAsTold (open_at table) last) (ComesAsTold (open_at later) last)
          (OfSome o.step Old)
          (OfSome o.step BegunOne) old.stand (go_on_by_beginning o.step (ComesAsTold (open_at table) last)
          (ComesAsTold (open_at later) last) lane (call_of begun.asks) Old BegunOne
          (λ future comes. told_begins table later last lane (call_of begun.asks) future idle
          (beside_set table lane (Some begun)) comes)
          (λ q one. record { position = one.to.first; there = one.to.old; is = one.to.is }) stay))
          (λ q one. one.reached) keep

      at : (x : Position) → Contains new x → IsPossible o (past ++ itself ∷ []) later x
      at x (k, less, same) = subst (λ (y : Position). IsPossible o (past ++ itself ∷ []) later y) same
          (from (old.possible k x low))
        where
          low : k < length kept
          low = let many = are.many in omega (arith, many, less)

          from : IsPossible o past table (get_or kept k x) → IsPossible o (past ++ itself ∷ []) later (get_or new k x)
          from is = record {
            position = (settled_one (get_or new k x) q one).then;
            reads = (settled_one (get_or new k x) q one).reads;
            may_be = new_may_be o (past ++ itself ∷ []) later new NewOne (ComesAsTold (open_at later) last) stand
                (λ r it. it.is) (settled_one (get_or new k x) q one).then (new_one (get_or new k x) q one);
          }
            where
              q : run.Position S
              q = moved is.position lane (Asks (call_of begun.asks)) is.position.state (are.each k x low).plain.free

              one : BegunTo (get_or new k x) q
              one = begins_at is.position (record {
                is = record {
                  numbers = get_or kept k x;
                  among = Contains-get_or kept k x low;
                  reads = is.reads;
                };
                may_be = is.may_be;
              }) (get_or new k x) (Contains-get_or new k x less) (are.each k x low)

-- what is kept once a call was withdrawn
module _ {S : Type 0} (o : Judged S) (lawful : IsLawful o) (past : List Event) (table : List (Option OpenCall))
    (last lane : ℕ) (begun : OpenCall) (kept : List Position) (is_open : open_at table lane ≡ Some begun)
    (ends : begun.ends ≡ Withdraws) where
  abbrev ended : List (Option OpenCall)
  ended = slice_set table lane None

  abbrev Before : run.Position S → Type 0
  Before q = IsKept o past table kept q

  record WithdrawnOne (q : run.Position S) : Type 0 where
    first : run.Position S
    old : Before first
    is : ReadsOne o ended kept q
    was : IsWithdrawn lane first q

  pub asks_in_each : (p : run.Position S) (x : Position) → Reads o table x p → p.lanes lane ≡ Asks (call_of begun.asks)
  asks_in_each p x reads = by (phase_at o table reads lane begun is_open)
    where
      by : HasPhase (Some begun) (bit_at x.in_effect lane) (p.lanes lane) →
          p.lanes lane ≡ Asks (call_of begun.asks)
      by (inl not) = not.asks
      by (inr taken) = absurd (subst (λ (e : Ending). MayGet e taken.reply) ends taken.may)

  -- a call that is withdrawn gets no reply, and is not free
  pub withdrawn_unfree : (p : run.Position S) (x : Position) → Reads o table x p → (u : ℕ) → bit_at x.free u ≡ 1 → u ≢
      lane
  withdrawn_unfree p x reads u is at = by (kind_of o lawful begun
      (subst (λ (c : OpenCall). may_be_free o c ≡ true) (one_open table lane it.begun begun
      (subst (λ (v : ℕ). open_at table v ≡ Some it.begun) at it.is_open) is_open) it.kind))
    where
      it : IsFreeCall o (open_at table u) (bit_at x.in_effect u)
      it = reads.kinds u is

      by : ((n : ℕ) × (o.overwrites begun ≡ Some n)) ⊎ ((o.overwrites begun ≡ None) × (reads_only begun ≡ true)) → ⊥
      by (inl (n, some)) = let over = overwriting_to o lawful begun n some in
          subst (λ (e : Ending). MayGet e over.reply) ends over.may
      by (inr (none, read)) = let still = lawful.reading begun read in
          no_return begun.ends begun.ends still.told still.place refl still.ends ends

  pub reads_ended : (p : run.Position S) (x : Position) → Reads o table x p →
      Reads o ended x (moved p lane Idle p.state x.free)
  reads_ended p x reads = reads_set o table ended x x p lane Idle p.state reads (beside_set table lane None)
      (λ other apart. refl) (subst (λ (slot : Option OpenCall). HasPhase slot (bit_at x.in_effect lane) Idle)
      (sym (open_at_set_none table lane)) refl) reads.state
      (λ u is. kinds_beside o table ended x x p lane reads (beside_set table lane None) (λ other apart. refl) u
      (withdrawn_unfree p x reads u is, is))

  withdrawn_from : (p : run.Position S) (old : Before p) →
      IsWithdrawn lane p (moved p lane Idle p.state old.is.numbers.free)
  withdrawn_from p old = record {
    call = call_of begun.asks;
    asks = asks_in_each p old.is.numbers old.is.reads;
    state = refl;
    sets = sets_of p.lanes lane Idle;
    free = record {
      not_it = false_from_ne_true (is_set old.is.numbers.free lane) (λ is. withdrawn_unfree p old.is.numbers
          old.is.reads lane ((set_bit old.is.numbers.free lane).0 is) refl);
      others = λ v apart. same_bits (is_set old.is.numbers.free v) (p.free v)
          (λ is. (old.is.reads.free v).1 ((set_bit old.is.numbers.free v).0 is))
          (λ is. (set_bit old.is.numbers.free v).1 ((old.is.reads.free v).0 is));
    };
  }

  withdrawn_one : (p : run.Position S) (old : Before p) →
      WithdrawnOne (moved p lane Idle p.state old.is.numbers.free)
  withdrawn_one p old = record {
    first = p;
    old = old;
    is = record {
      numbers = old.is.numbers;
      among = old.is.among;
      reads = reads_ended p old.is.numbers old.is.reads;
    };
    was = withdrawn_from p old;
  }

  pub kept_withdrawn : AreKept o past table last kept → AreKept o (past ++ event.Withdraws lane ∷ []) ended last kept
  kept_withdrawn old = record {
    lanes = length-set table lane None ∙ old.lanes;
    possible = all_from (IsPossible o (past ++ event.Withdraws lane ∷ []) ended) kept (λ x among. at x among
        (All-contains (IsPossible o past table) kept x old.possible among));
    stand = stand_kept o (past ++ event.Withdraws lane ∷ []) ended kept WithdrawnOne (ComesAsTold (open_at ended) last)
        stand
        (λ q one. one.is);
  }
    where
      stand : StandFor o.step o.start (past ++ event.Withdraws lane ∷ []) (ComesAsTold (open_at ended) last)
          (OfSome o.step WithdrawnOne)
      stand = stand_on o.step o.start past (event.Withdraws lane) (ComesAsTold (open_at table) last)
          (ComesAsTold (open_at ended) last)
          (OfSome o.step Before) (OfSome o.step WithdrawnOne) old.stand (go_on_by_withdrawal o.step
          (ComesAsTold (open_at table) last) (ComesAsTold (open_at ended) last) lane Before WithdrawnOne
          (λ future comes. told_withdraws table ended last lane begun future is_open ends
          (beside_set table lane None)
          comes) (λ q one. record { position = one.first; there = one.old; is = one.was })
          (λ p call it asks. record {
            position = moved p lane Idle p.state it.is.numbers.free;
            there = withdrawn_one p it;
            is = withdrawn_from p it;
          }))

      at : (x : Position) → Contains kept x → IsPossible o past table x →
          IsPossible o (past ++ event.Withdraws lane ∷ []) ended x
      at x among is = record {
        position = moved is.position lane Idle is.position.state x.free;
        reads = reads_ended is.position x is.reads;
        may_be = new_may_be o (past ++ event.Withdraws lane ∷ []) ended kept WithdrawnOne
            (ComesAsTold (open_at ended) last)
            stand (λ q one. one.is) (moved is.position lane Idle is.position.state x.free)
            (withdrawn_one is.position (record {
              is = record { numbers = x; among = among; reads = is.reads };
              may_be = is.may_be;
            }));
      }

-- the lanes with an open call
pub busy_first : (table : List (Option OpenCall)) → table ≡ replicate 64 None → HasEachOpen table 0
busy_first table idle = record {
  each = λ lane b is. absurd (none-some b (sym (ap (λ (t : List (Option OpenCall)). open_at t lane) idle ∙
      open_at_idle 64 lane) ∙ is));
}

module _ (table new : List (Option OpenCall)) (lane a b : ℕ) (has : HasEachOpen table a) where
  others_busy : (slot : Option OpenCall) (bit : ℕ) → new ≡ slice_set table lane slot → SetsBit a b lane bit →
      (u : ℕ) (c : OpenCall) → open_at new u ≡ Some c → u ≢ lane → bit_at b u ≡ 1
  others_busy slot bit put sets u c is apart = sets.others u apart ∙ has.each u c
      (sym (ap (λ (t : List (Option OpenCall)). open_at t u) put ∙ open_at_set_other table lane u slot apart) ∙ is)

  pub busy_begun : (slot : Option OpenCall) → new ≡ slice_set table lane slot → SetsBit a b lane 1 → HasEachOpen new b
  busy_begun slot put sets = record { each = λ u c is. by u c is (cases_eq u lane) }
    where
      by : (u : ℕ) (c : OpenCall) → open_at new u ≡ Some c → (u ≡ lane) ⊎ (u ≢ lane) → bit_at b u ≡ 1
      by u c is (inl same) = subst (λ (v : ℕ). bit_at b v ≡ 1) (sym same) sets.here
      by u c is (inr apart) = others_busy slot 1 put sets u c is apart

  pub busy_ended : new ≡ slice_set table lane None → SetsBit a b lane 0 → HasEachOpen new b
  busy_ended put sets = record { each = λ u c is. by u c is (cases_eq u lane) }
    where
      by : (u : ℕ) (c : OpenCall) → open_at new u ≡ Some c → (u ≡ lane) ⊎ (u ≢ lane) → bit_at b u ≡ 1
      by u c is (inl same) = absurd (none-some c (sym (open_at_set_none table lane) ∙
          ap (λ (t : List (Option OpenCall)). open_at t lane) (sym put) ∙ ap (open_at new) (sym same) ∙ is))
      by u c is (inr apart) = others_busy None 0 put sets u c is apart
