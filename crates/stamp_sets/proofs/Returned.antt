-- A return, by layers of numbers: what is kept before it goes on to what is kept after it.
use Rattle.std.proofs.Common.{ℕ, suc, ◌≡◌, ◌≢◌, ◌<◌, ◌⊎◌, ◌≤◌, Bool, false, true, List, [], ◌∷◌, ◌++◌, length, Option}
use Rattle.std.proofs.Common.{Some, None, refl, sym, ◌∙◌, ap, subst, inl, inr, arith, append-nil}
use Rattle.std.specs.Prelude.{slice_set}
use Rattle.std.specs.Int.{bit_at}
use Rattle.std.specs.List.{All, Contains}
use Rattle.std.proofs.lemmas.Bool.{cases_eq, false_from_ne_true}
use Rattle.std.proofs.lemmas.Option.{none-some, same_Some}
use Rattle.std.proofs.lemmas.List.{length-set}
use Rattle.std.proofs.lemmas.List.Elements.{All-contains}
use Rattle.stamp_core.specs.declared.call.Call.{Call}
use Rattle.stamp_core.specs.declared.reply.Reply.{Reply}
use Rattle.stamp_runs.specs.Object.{Object}
use Rattle.stamp_runs.specs.Run.{AreAlike, Leads, Phase, ReturnsSooner, all_idle}
use Rattle.stamp_runs.specs.Run.Phase.{Asks, Gets, Idle}
use Rattle.stamp_runs.specs.Watching.{Fits, FitsOne, StandFor, Told}
use Rattle.stamp_runs.specs.Watching.Told.{Never as NeverEnds, Nothing, Returning, Withdrawing}
use Rattle.stamp_runs.specs.Watching as watched
use Rattle.stamp_runs.specs.Position.{OfSome, Overwrites, OverwritesNever}
use Rattle.stamp_runs.specs.Position as run
use Rattle.stamp_runs.specs.Position.Hidden.{no_more}
use Rattle.stamp_runs.specs.Returning as returning
use Rattle.stamp_runs.specs.Returning.{AreLeft, AsksSomeCall, Comes, Effect, GivesPlace, IsHiddenWith, IsSource}
use Rattle.stamp_runs.specs.Returning.{IsOpen, IsReached, IsReturn, IsSeenTo, MayTakeEffect, OneOf}
use Rattle.stamp_runs.specs.Returning.{Return, ReturnsAs, ReturnsBy}
use Rattle.stamp_runs.specs.Returning.{TakesEffect, of_other}
use Rattle.stamp_runs.specs.Returning.IsReached.{from_old}
use Rattle.stamp_runs.specs.Returning.IsSeenTo.{gives_way, is_looked_at, is_unseen}
use Rattle.stamp_runs.specs.declared.event.Event.{Event}
use Rattle.stamp_runs.specs.declared.event.Event.TheVariants as event
use Rattle.stamp_runs.proofs.Lanes.{leads_on, one_call, pick, picks_first, picks_second, set_of, sets_of}
use Rattle.stamp_runs.proofs.Lanes.{true_or_false}
use Rattle.stamp_runs.proofs.Keeping.{kept_itself, kept_settled}
use Rattle.stamp_runs.proofs.Reaching.{reached_came}
use Rattle.stamp_runs.proofs.Returning.{go_on_by_return}
use Rattle.stamp_runs.proofs.Sets.{stand_on}
use Rattle.stamp_sets.specs.declared.ending.Ending.{Ending}
use Rattle.stamp_sets.specs.declared.ending.Ending.TheVariants.{Never, Returns, Withdraws}
use Rattle.stamp_sets.specs.declared.small_call.SmallReply.{SmallReply}
use Rattle.stamp_sets.specs.declared.open_call.OpenCall.{OpenCall}
use Rattle.stamp_sets.specs.declared.position.Position.{Position}
use Rattle.stamp_sets.specs.Judged.{Judged}
use Rattle.stamp_sets.specs.Kept.{AreKept, HasPhase, IsInEffect as InEffect, IsKept, IsPossible, MayBe, Reads}
use Rattle.stamp_sets.specs.Kept.{IsFreeCall, ReadsOne, may_be_free}
use Rattle.stamp_sets.specs.Told.{ComesAsTold, EndsSo, MayGet, open_at}
use Rattle.stamp_sets.specs.inner.Effect.{GivesWayAmong, GoesBefore, IsEffect, IsFreed, IsOverwriting, TakesEffectTo}
use Rattle.stamp_sets.specs.inner.Effect as unseen
use Rattle.stamp_sets.specs.inner.Effect.{IsLeftOut}
use Rattle.stamp_sets.specs.inner.Layer.{ComesAmong, FollowsIt, IsComeTo, IsExpanded, IsLookedAt}
use Rattle.stamp_sets.specs.Tracing.{IsReturnedFrom}
use Rattle.stamp_sets.specs.inner.Layer.{ReturnsFromOne}
use Rattle.stamp_sets.specs.inner.Layer.IsComeTo.{by_effect, from_start}
use Rattle.stamp_sets.specs.inner.Start.{HidesAmong, HidesInVain, HidesOne, Includes, IsFixed, IsHidden, IsHiddenFor}
use Rattle.stamp_sets.specs.inner.Start.{IsTakenFrom, IsTakenUp, IsTriedFor, StartsWith}
use Rattle.stamp_sets.specs.SmallCall.{call_of, reply_of}
use Rattle.stamp_sets.specs.Unchanging.{reads_only}
use Rattle.stamp_sets.proofs.Effects.{taken_settled, unfree_settled}
use Rattle.stamp_sets.proofs.Going.{ComesFirst, GivesTo, before_alike, before_apart, before_first, before_may}
use Rattle.stamp_sets.proofs.Going.{first_of, rank_of}
use Rattle.stamp_sets.proofs.Lawful.{IsLawful, free_kind, free_reader, kind_of, not_overwriting, over_as}
use Rattle.stamp_sets.proofs.Lawful.{overwriting_to}
use Rattle.stamp_sets.proofs.Layering.{all_from}
use Rattle.stamp_sets.proofs.Reading.{AsksIn, FreeThen, asked_at, asks_at, bit_unset, cleared, come_free}
use Rattle.stamp_sets.proofs.Reading.{gets_at, is_set, kinds_beside, moved, not_set, phase_at, reached_on, reads_set}
use Rattle.stamp_sets.proofs.Reading.{reads_taken, same_bits, set_bit, taken_at, unfree_at}
use Rattle.stamp_sets.proofs.Reading.ComesTo.{stays}
use Rattle.stamp_sets.proofs.Settled.{SettledTo, is_settled, kept_asking, settled_to}
use Rattle.stamp_sets.proofs.Tables.{one_open, open_at_set_none, open_at_within}
use Rattle.stamp_sets.proofs.Telling.{beside_set, told_returns}
use Rattle.stamp_sets.proofs.Unseen.{hidden, hidden_reached, hidden_reads, hidden_with, reader_answered}

-- what is told of a lane
abbrev pub told_as : Ending → Told
told_as (Returns reply place) = Returning (reply_of reply) place
told_as Withdraws = Withdrawing
told_as Never = NeverEnds

abbrev pub told_in : Option OpenCall → Told
told_in None = Nothing
told_in (Some begun) = told_as begun.ends

fits_ending : (v : ℕ) (ends : Ending) (future : List Event) →
    EndsSo v ends future → FitsOne v (told_as ends) future
fits_ending v Never future is = is
fits_ending v _ future is = is

fits_in : (v : ℕ) (slot : Option OpenCall) (future : List Event) →
    ((b : OpenCall) → slot ≡ Some b → EndsSo v b.ends future) → FitsOne v (told_in slot) future
fits_in v None future each = tt
fits_in v (Some b) future each = fits_ending v b.ends future (each b refl)

-- an open call that returns at this place
record OpenTo (slot : Option OpenCall) (place : ℕ) : Type 0 where
  begun : OpenCall
  is_open : slot ≡ Some begun
  told : SmallReply
  ends : begun.ends ≡ Returns told place

place_told : (reply : Reply) (place at : ℕ) (told : SmallReply) →
    Returning (reply_of told) at ≡ Returning reply place →
    Returns told at ≡ Returns told place
place_told reply place at told is = let same : at ≡ place = cc in ap (λ (n : ℕ). Returns told n) same

open_to : (slot : Option OpenCall) (reply : Reply) (place : ℕ) →
    told_in slot ≡ Returning reply place →
    OpenTo slot place
open_to None reply place is = absurd (let none : Nothing ≡ Returning reply place → ⊥ = λ same. cc in none is)
open_to (Some begun) reply place is = by begun.ends refl is
  where
    by : (ends : Ending) → begun.ends ≡ ends → told_as ends ≡ Returning reply place →
        OpenTo (Some begun) place
    by (Returns told at) are is = record {
      begun = begun;
      is_open = refl;
      told = told;
      ends = are ∙ place_told reply place at told is;
    }
    by Withdraws are is = absurd (let none : Withdrawing ≡ Returning reply place → ⊥ = λ same. cc in none is)
    by Never are is = absurd (let none : NeverEnds ≡ Returning reply place → ⊥ = λ same. cc in none is)

may_as_told : (ends : Ending) (reply : Reply) →
    watched.MayGet (told_as ends) reply → MayGet ends reply
may_as_told (Returns reply place) other may = sym may
may_as_told Withdraws other may = may
may_as_told Never other may = may

-- what stands for a run stands for it as what is kept
module _ {S : Type 0} (o : Judged S) (past : List Event) (table : List (Option OpenCall)) (kept : List Position)
    (new : run.Position S → Type 0) (fits : List Event → Type 0)
    (stand : StandFor o.step o.start past fits (OfSome o.step new))
    (reads : (q : run.Position S) → new q → ReadsOne o table kept q) where
  pub new_may_be : (q : run.Position S) → new q → MayBe o past q
  new_may_be q is s lanes stands = stand.possible s lanes (record { position = q; among = is; stands = stands })

  pub stand_kept : StandFor o.step o.start past fits (OfSome o.step (IsKept o past table kept))
  stand_kept = record {
    possible = λ s lanes of. of.among.may_be s lanes of.stands;
    whole = λ future fit explained. let one = stand.whole future fit explained in record {
      state = one.state;
      lanes = one.lanes;
      among = record {
        position = one.among.position;
        among = record {
          is = reads one.among.position one.among.among;
          may_be = new_may_be one.among.position one.among.among;
        };
        stands = one.among.stands;
      };
      survives = one.survives;
    };
  }

-- it is the same, but the lane's call is not free
abbrev pub fixed_as : {S : Type 0} → run.Position S → Position → run.Position S
fixed_as p y = record { state = p.state; lanes = p.lanes; free = is_set y.free }

module _ {S : Type 0} (o : Judged S) (table : List (Option OpenCall)) (lane : ℕ) where
  module _ {x y : Position} {p : run.Position S} (reads : Reads o table x p) (is : IsFixed lane x y) where
    pub fixed_free : (v : ℕ) → bit_at y.free v ≡ 1 → bit_at x.free v ≡ 1
    fixed_free v free = (cleared x.free y.free lane v is.clears free).1

    pub fixed_reads : Reads o table y (fixed_as p y)
    fixed_reads = record {
      state = subst (λ (n : ℕ). o.holds n p.state) (sym is.state) reads.state;
      lanes = λ v. subst (λ (n : ℕ). HasPhase (open_at table v) (bit_at n v) (p.lanes v)) (sym is.in_effect)
          (reads.lanes v);
      free = λ v. set_bit y.free v;
      kinds = λ v free. subst (λ (n : ℕ). IsFreeCall o (open_at table v) (bit_at n v)) (sym is.in_effect)
          (reads.kinds v (fixed_free v free));
    }

    pub fixed_reached : (Old : run.Position S → Type 0) → Old p → IsReached o.step Old (fixed_as p y)
    fixed_reached Old old = from_old p (fixed_as p y) old refl no_more
        (λ v free. (reads.free v).1 (fixed_free v ((set_bit y.free v).0 free)))

    pub fixed_is : returning.IsFixed lane p (fixed_as p y)
    fixed_is = record {
      state = refl;
      lanes = refl;
      free = record {
        not_it = not_set y.free lane is.clears.here;
        others = λ v apart. same_bits (is_set y.free v) (p.free v)
            (λ free. (reads.free v).1 (fixed_free v ((set_bit y.free v).0 free)))
            (λ free. (set_bit y.free v).1 (is.clears.others v apart ∙ (reads.free v).0 free));
      };
    }

  -- where the source's call was hidden it is in effect
  source_taken : (source number : ℕ) (x y : Position) → IsHidden o table source number x y →
      bit_at y.in_effect source ≡ 1
  source_taken source number x y is = subst (λ (n : ℕ). bit_at n source ≡ 1) (sym is.in_effect) (taken_settled o table
      (λ l. bit_at is.there.free l ≡ 1) is.there is.then source is.settled.settles is.takes.here)

  pub hides_taken : (source : ℕ) (x y : Position) → HidesOne o table source lane x y → bit_at y.in_effect lane ≡ 1
  hides_taken source x y hides = by hides.answers
    where
      by : (source ≡ lane) ⊎ (bit_at y.in_effect lane ≡ 1) → bit_at y.in_effect lane ≡ 1
      by (inl same) = subst (λ (u : ℕ). bit_at y.in_effect u ≡ 1) same
          (source_taken source hides.number x y hides.hidden)
      by (inr taken) = taken

  -- what is in effect is not free
  pub taken_unfree : (y : Position) (q : run.Position S) → Reads o table y q → bit_at y.in_effect lane ≡ 1 →
      bit_at y.free lane ≡ 0
  taken_unfree y q reads taken = bit_unset y.free lane
      (λ is. let waits = (reads.kinds lane is).waits in omega (arith, taken, waits))

  -- the lane's call is left out where it returned
  pub read_returned : {x d : Position} {p : run.Position S} → Reads o table x p → bit_at x.free lane ≡ 0 →
      IsReturnedFrom lane x d → Reads o (slice_set table lane None) d (moved p lane Idle p.state d.free)
  read_returned {x} {d} {p} reads unset returned = reads_set o table (slice_set table lane None) x d p lane Idle p.state
      reads (beside_set table lane None) returned.clears.others
      (subst (λ (slot : Option OpenCall). HasPhase slot (bit_at d.in_effect lane) Idle)
      (sym (open_at_set_none table lane)) refl) (subst (λ (n : ℕ). o.holds n p.state) (sym returned.state) reads.state)
      (λ u is. kinds_beside o table (slice_set table lane None) x d p lane reads (beside_set table lane None)
      returned.clears.others u (apart u is, was u is))
    where
      was : (u : ℕ) → bit_at d.free u ≡ 1 → bit_at x.free u ≡ 1
      was u is = subst (λ (n : ℕ). bit_at n u ≡ 1) returned.free is

      apart : (u : ℕ) → bit_at d.free u ≡ 1 → u ≢ lane
      apart u is at = let one : bit_at x.free lane ≡ 1 = subst (λ (v : ℕ). bit_at x.free v ≡ 1) at (was u is) in
          omega (arith, one, unset)

  -- in the first layer the lane's call is not free
  pub first_unfree : (start first : List Position) → StartsWith o table lane start first → (y : Position)
      (q : run.Position S) → Contains first y → Reads o table y q → bit_at y.free lane ≡ 0
  first_unfree start first starts y q among reads = by (starts.only y among).taken
    where
      by : IsTakenFrom o table lane (starts.only y among).from y → bit_at y.free lane ≡ 0
      by (inl fixed) = fixed.clears.here
      by (inr hides) = taken_unfree y q reads (hides_taken hides.0 (starts.only y among).from y hides.1)

module _ {S : Type 0} (o : Judged S) (lawful : IsLawful o) (table : List (Option OpenCall)) (past : List Event)
    (start : List Position) (lane : ℕ) where
  abbrev pub Old : run.Position S → Type 0
  Old q = IsKept o past table start q

  -- the numbers read as a position that is reached, in which the lane's call is not free
  pub record ReadsReached (x : Position) : Type 0 where
    pub position : run.Position S
    pub reads : Reads o table x position
    pub reached : IsReached o.step Old position
    pub not_free : bit_at x.free lane ≡ 0

  follows_read : (p q : Position) → FollowsIt o table lane p q → ReadsReached p → ReadsReached q
  follows_read p q follows from = record {
    position = to.then;
    reads = to.reads;
    reached = reached_on first to.then (reached_on from.position first from.reached
        (freed.comes from.position stays)) to.comes;
    not_free = unfree_settled o table (λ l. Unit {0}) follows.after.between q lane follows.after.settles
        (freed.not_awaited from.not_free);
  }
    where
      effect : TakesEffectTo o follows.after.takes.begun from.position.state follows.after.between.state
      effect = follows.after.takes.effect.some from.position.state from.reads.state

      freed : FreeThen o table follows.after.takes from.reads effect.may effect.step lawful lane follows.after.frees
      freed = come_free o table follows.after.takes from.reads effect.may effect.step lawful lane follows.after.frees

      first : run.Position S
      first = moved from.position follows.lane (Gets effect.reply) effect.next follows.after.between.free

      to : SettledTo o table (λ l. Unit {0}) q first
      to = settled_to o table (λ l. Unit {0}) follows.after.between q first follows.after.settles
          (reads_taken o table follows.after.takes from.reads effect.may effect.step freed.kinds)

  taken_read : (x y : Position) → IsPossible o past table x → Contains start x → IsTakenFrom o table lane x y →
      ReadsReached y
  taken_read x y is among taken = by taken
    where
      old : Old is.position
      old = record { is = record { numbers = x; among = among; reads = is.reads }; may_be = is.may_be }

      by : IsTakenFrom o table lane x y → ReadsReached y
      by (inl fixed) = record {
        position = fixed_as is.position y;
        reads = fixed_reads o table lane is.reads fixed;
        reached = fixed_reached o table lane is.reads fixed Old old;
        not_free = fixed.clears.here;
      }
      by (inr (source, hides)) = let reads = hidden_reads o lawful table is.reads hides.is_open hides.overwrites
          hides.free hides.hidden in record {
            position = hidden o lawful table is.reads hides.is_open hides.overwrites hides.free hides.hidden;
            reads = reads;
            reached = hidden_reached o lawful table is.reads hides.is_open hides.overwrites hides.free hides.hidden Old
                old;
            not_free = taken_unfree o table lane y (hidden o lawful table is.reads hides.is_open hides.overwrites
                hides.free hides.hidden) reads (hides_taken o table lane source x y hides);
          }

  pub reads_come : All (IsPossible o past table) start → (first : List Position) → StartsWith o table lane start first →
      (x : Position) → IsComeTo o table lane first x → ReadsReached x
  reads_come all first starts x (from_start p among) = let one = starts.only x among in
      taken_read one.from x (All-contains (IsPossible o past table) start one.from all one.among) one.among one.taken
  reads_come all first starts x (by_effect p q rest follows) =
      follows_read p x follows (reads_come all first starts p rest)

  -- what is reached may be
  pub reached_may_be : (q : run.Position S) → IsReached o.step Old q → MayBe o past q
  reached_may_be q reached s lanes stands = let came = reached_came o.step q reached s lanes stands in
      subst (λ (events : List Event). Leads o.step events o.start all_idle s lanes) (append-nil past)
      (leads_on (came.among.among.may_be came.state came.before came.among.stands) came.way)

-- calls that are alike overwrite alike
alike_over : {S : Type 0} (O : Object S) (call other : Call) (reply : Reply) (t : S) → AreAlike O call other →
    Overwrites O call reply t → Overwrites O other reply t
alike_over O call other reply t alike over = record {
  may = λ s. alike.does s t reply (over.may s);
  answer = λ s next answer step. over.answer s next answer (alike.done_by s next answer step);
  leaves = λ s next answer step. over.leaves s next answer (alike.done_by s next answer step);
}

-- the phase is that of an open call that asks, and may be free
abbrev pub free_if : {S : Type 0} → Judged S → Option OpenCall → Phase → Bool
free_if o (Some begun) (Asks call) = may_be_free o begun
free_if o _ _ = false

record FreeIf {S : Type 0} (o : Judged S) (slot : Option OpenCall) (phase : Phase) : Type 0 where
  begun : OpenCall
  call : Call
  is_open : slot ≡ Some begun
  asks : phase ≡ Asks call
  kind : may_be_free o begun ≡ true

free_if_so : {S : Type 0} (o : Judged S) (slot : Option OpenCall) (phase : Phase) → free_if o slot phase ≡ true →
    FreeIf o slot phase
free_if_so o (Some begun) (Asks call) is =
    record { begun = begun; call = call; is_open = refl; asks = refl; kind = is }
free_if_so o _ _ is = absurd (true_or_false is refl)

so_free_if : {S : Type 0} (o : Judged S) (slot : Option OpenCall) (phase : Phase) → FreeIf o slot phase →
    free_if o slot phase ≡ true
so_free_if o slot phase is = subst (λ (x : Option OpenCall). free_if o x phase ≡ true) (sym is.is_open)
    (subst (λ (y : Phase). free_if o (Some is.begun) y ≡ true) (sym is.asks) is.kind)

module _ {S : Type 0} (o : Judged S) (lawful : IsLawful o) (table : List (Option OpenCall))
    (past : List Event) (last lane : ℕ) (begun : OpenCall) (reply_told : SmallReply) (place : ℕ) (reply : Reply)
    (is_open : open_at table lane ≡ Some begun) (ends : begun.ends ≡ Returns reply_told place)
    (same : reply_of reply_told ≡ reply) (due : last ≤ place) (full : length table ≡ 64) where
  abbrev pub later : List (Option OpenCall)
  later = slice_set table lane None

  abbrev pub e : Return
  e = record {
    told = λ v. told_in (open_at table v);
    fits = ComesAsTold (open_at table) last;
    then_fits = ComesAsTold (open_at later) place;
    lane = lane;
    reply = reply;
  }

  fits_then : (future : List Event) → ComesAsTold (open_at later) place future →
      ComesAsTold (open_at table) last (event.Returns lane reply ∷ future)
  fits_then future comes = told_returns table later last lane begun reply_told place reply future is_open ends
      same due
      (beside_set table lane None) comes

  all_fit : (future : List Event) → ComesAsTold (open_at table) last future → Fits e.told future
  all_fit future comes = record {
    each = λ v. fits_in v (open_at table v) future (λ b is. comes.ends v b is);
    ordered = λ u v r a p q one other less. sooner u v p q (told_open u r p one) (told_open v a q other) less;
  }
    where
      told_open : (u : ℕ) (r : Reply) (p : ℕ) → told_in (open_at table u) ≡ Returning r p → OpenTo
          (open_at table u) p
      told_open u r p is = open_to (open_at table u) r p is

      sooner : (u v p q : ℕ) → OpenTo (open_at table u) p → OpenTo (open_at table v) q → p < q →
          ReturnsSooner u v future
      sooner u v p q one other less = comes.sooner u v one.begun other.begun one.is_open other.is_open (record {
        reply = one.told;
        answer = other.told;
        place = p;
        later = q;
        first_is = one.ends;
        other_is = other.ends;
        sooner = less;
      })

  now : (future : List Event) → Comes e future → ComesAsTold (open_at table) last future
  now future comes = subst (λ (events : List Event). ComesAsTold (open_at table) last events) (sym comes.events_are)
      (fits_then comes.later comes.fits)

  told_reply : (r : Reply) → MayGet begun.ends r → r ≡ reply
  told_reply r may = sym (subst (λ (x : Ending). MayGet x r) ends may) ∙ same

  module _ (start first seen done : List Position) (starts : StartsWith o table lane start first)
      (includes : Includes first seen) (each : (x : Position) → Contains seen x → IsLookedAt o table lane x done seen)
    where
      abbrev pub OldOnes : run.Position S → Type 0
      OldOnes q = IsKept o past table start q

      -- the positions that are looked at
      pub record Looked (q : run.Position S) : Type 0 where
        pub is : ReadsOne o table seen q
        pub reached : IsReached o.step OldOnes q
        pub not_free : bit_at is.numbers.free lane ≡ 0

      -- and those that are left
      pub record New (q : run.Position S) : Type 0 where
        pub is : ReadsOne o later done q
        pub from : OneOf Looked (λ (p : run.Position S). IsReturn e p q)

      unfree : (p : run.Position S) → Looked p → p.free lane ≡ false
      unfree p there = unfree_at o table there.is.numbers p lane there.is.reads
          (λ is. let none = there.not_free in omega (arith, is, none))

      -- which calls a call makes free that overwrites
      abbrev frees : run.Position S → ℕ → Bool
      frees p v = pick (cases_eq v lane) false (free_if o (open_at table v) (p.lanes v))

      freed_from : (p : run.Position S) (there : Looked p) (v : ℕ) → frees p v ≡ true →
          IsFreed o table lane there.is.numbers.in_effect v
      freed_from p there v is = record {
        is = record {
          begun = it.begun;
          is_open = it.is_open;
          waits = (asked_at o table there.is.reads v it.call it.asks).free;
          kind = it.kind;
        };
        apart = apart;
      }
        where
          apart : v ≢ lane
          apart same = true_or_false is (picks_first (cases_eq v lane) false (free_if o (open_at table v) (p.lanes v))
              same)

          it : FreeIf o (open_at table v) (p.lanes v)
          it = free_if_so o (open_at table v) (p.lanes v)
              (sym (picks_second (cases_eq v lane) false (free_if o (open_at table v) (p.lanes v)) apart) ∙ is)

      freed_so : (p : run.Position S) (v : ℕ) → v ≢ lane → FreeIf o (open_at table v) (p.lanes v) → frees p v ≡ true
      freed_so p v apart it =
          picks_second (cases_eq v lane) false (free_if o (open_at table v) (p.lanes v)) apart ∙
          so_free_if o (open_at table v) (p.lanes v) it

      free_frees : (p : run.Position S) → Looked p → (v : ℕ) → p.free v ≡ true → frees p v ≡ true
      free_frees p there v is = freed_so p v (λ same. true_or_false (subst (λ (u : ℕ). p.free u ≡ true) same is)
          (unfree p there)) (record {
            begun = it.begun;
            call = call_of it.begun.asks;
            is_open = it.is_open;
            asks = asks_at o table there.is.reads v it.begun it.is_open it.waits;
            kind = it.kind;
          })
        where
          it : IsFreeCall o (open_at table v) (bit_at there.is.numbers.in_effect v)
          it = there.is.reads.kinds v ((there.is.reads.free v).0 is)

      comes_looked_at : (p : run.Position S) (there : Looked p) (y : Effect S) (b : OpenCall) →
          open_at table y.lane ≡ Some b → call_of b.asks ≡ y.call → MayGet b.ends y.reply →
          o.step p.state (call_of b.asks) y.reply y.next → ComesAmong o table lane there.is.numbers y.lane seen →
          OneOf Looked (TakesEffect o.step e (frees p) y p)
      comes_looked_at p there y b is its may step comes = record {
        position = to.then;
        there = record {
          is = record { numbers = comes.position; among = comes.among; reads = to.reads };
          reached = reached_on moved_to to.then (reached_on p moved_to there.reached (freed.comes p stays)) to.comes;
          not_free = unfree_settled o table (λ l. Unit {0}) comes.after.between comes.position lane comes.after.settles
              (freed.not_awaited there.not_free);
        };
        is = record {
          then = moved_to;
          effect = record {
            state = refl;
            sets = sets_of p.lanes y.lane (Gets y.reply);
            free = freed.no_less;
            frees_all = λ over v apart is_free. freed.all (subst (λ (c : OpenCall). Overwrites o.step (call_of c.asks)
                y.reply y.next) one (subst (λ (c : Call). Overwrites o.step c y.reply y.next) (sym its) over)) v apart
                (freed_from p there v is_free);
          };
          kept = kept_settled o.step (is_settled o table (Comes e) (λ future comes_so v c open_v. (now future
              comes_so).ends v c open_v) (λ l. Unit {0}) comes.position moved_to to);
        };
      }
        where
          one : b ≡ comes.after.takes.begun
          one = one_open table y.lane b comes.after.takes.begun is comes.after.takes.is_open

          may_it : MayGet comes.after.takes.begun.ends y.reply
          may_it = subst (λ (c : OpenCall). MayGet c.ends y.reply) one may

          step_it : o.step p.state (call_of comes.after.takes.begun.asks) y.reply y.next
          step_it = subst (λ (c : OpenCall). o.step p.state (call_of c.asks) y.reply y.next) one step

          freed : FreeThen o table comes.after.takes there.is.reads may_it step_it lawful lane comes.after.frees
          freed = come_free o table comes.after.takes there.is.reads may_it step_it lawful lane comes.after.frees

          moved_to : run.Position S
          moved_to = moved p y.lane (Gets y.reply) y.next comes.after.between.free

          to : SettledTo o table (λ l. Unit {0}) comes.position moved_to
          to = settled_to o table (λ l. Unit {0}) comes.after.between comes.position moved_to comes.after.settles
              (reads_taken o table comes.after.takes there.is.reads may_it step_it freed.kinds)

      none_looked_at : (p : run.Position S) (there : Looked p) (y : Effect S) (b : OpenCall) →
          open_at table y.lane ≡ Some b → call_of b.asks ≡ y.call → MayGet b.ends y.reply →
          o.step p.state (call_of b.asks) y.reply y.next → IsEffect o there.is.numbers.state b None →
          OneOf Looked (TakesEffect o.step e (frees p) y p)
      none_looked_at p there y b is its may step none =
          let not = none p.state y.next y.reply there.is.reads.state may step in record {
            position = p;
            there = there;
            is = record {
              then = asking;
              effect = record {
                state = refl;
                sets = sets_of p.lanes y.lane (Gets y.reply);
                free = record {
                  not_it = picks_first (cases_eq y.lane y.lane) false (p.free y.lane) refl;
                  others = λ v apart free. picks_second (cases_eq v y.lane) false (p.free v) apart ∙ free;
                };
                frees_all = λ over. absurd (not_overwriting o lawful b not.2 y.reply y.next may
                    (subst (λ (c : Call). Overwrites o.step c y.reply y.next) (sym its) over));
              };
              kept = kept_asking o (Comes e) asking p y.lane y.reply not.1 (sets_of p.lanes y.lane (Gets y.reply))
                  (λ v apart free. sym (picks_second (cases_eq v y.lane) false (p.free v) apart) ∙ free)
                  (λ future comes_so.
                  subst (λ (x : Ending). EndsSo y.lane x future) not.0
                  ((now future comes_so).ends y.lane b is));
            };
          }
        where
          asking : run.Position S
          asking = record {
            state = y.next;
            lanes = set_of p.lanes y.lane (Gets y.reply);
            free = λ v. pick (cases_eq v y.lane) false (p.free v);
          }

      found_looked_at : (p : run.Position S) (there : Looked p) (y : Effect S) (b : OpenCall) →
          open_at table y.lane ≡ Some b → call_of b.asks ≡ y.call → MayGet b.ends y.reply →
          o.step p.state (call_of b.asks) y.reply y.next →
          ComesAmong o table lane there.is.numbers y.lane seen ⊎ IsEffect o there.is.numbers.state b None →
          OneOf Looked (TakesEffect o.step e (frees p) y p)
      found_looked_at p there y b is its may step (inl comes) = comes_looked_at p there y b is its may step comes
      found_looked_at p there y b is its may step (inr none) = none_looked_at p there y b is its may step none

      expanded_at : (p : run.Position S) (there : Looked p) (asked : Call) → p.lanes lane ≡ Asks asked →
          IsExpanded o table lane there.is.numbers seen
      expanded_at p there asked asks = by (each there.is.numbers there.is.among)
        where
          by : IsLookedAt o table lane there.is.numbers done seen → IsExpanded o table lane there.is.numbers seen
          by (inl to) = let free = (asked_at o table there.is.reads lane asked asks).free in
              let taken = to.returned.taken in absurd (omega (arith, free, taken))
          by (inr is) = is

      module _ (p : run.Position S) (there : Looked p) where
        abbrev Waits : ℕ → Type 0
        Waits u = bit_at there.is.numbers.in_effect u ≡ 0

        abbrev NotAwaited : ℕ → Type 0
        NotAwaited u = u ≢ lane

        abbrev IsFound : ℕ → OpenCall → Type 0
        IsFound u b = (ComesAmong o table lane there.is.numbers u seen ⊎ IsEffect o there.is.numbers.state b None) ⊎
            ((number : ℕ) × (o.overwrites b ≡ Some number) ×
            unseen.IsUnseen o table lane there.is.numbers.in_effect number × (u ≢ lane))

        tried_each : (asked : Call) → p.lanes lane ≡ Asks asked → (u : ℕ) (b : OpenCall) → open_at table u ≡ Some b →
            Waits u → IsFound u b ⊎ GivesTo o table Waits NotAwaited u b
        tried_each asked asks u b is free = by (((expanded_at p there asked asks).whole u within).tried b is free)
          where
            within : u < 64
            within = let inside = open_at_within table u b is in omega (arith, inside, full)

            by : ComesAmong o table lane there.is.numbers u seen ⊎ (IsEffect o there.is.numbers.state b None ⊎
                ((u ≢ lane) × IsLeftOut o table lane there.is.numbers.in_effect u b)) →
                IsFound u b ⊎ GivesTo o table Waits NotAwaited u b
            by (inl comes) = inl (inl (inl comes))
            by (inr (inl none)) = inl (inl (inr none))
            by (inr (inr (apart, inr (number, leaves, none)))) = inl (inr (number, leaves, none, apart))
            by (inr (inr (apart, inl way))) = inr (record {
              first_lane = way.first_lane;
              first = way.first;
              is_first = way.is_first;
              among = way.free;
              left = apart;
              changes = way.changes;
              goes = way.goes;
            })

      -- the state that a call left which overwrites
      left_holds : (p : run.Position S) (x : Effect S) (b : OpenCall) (number : ℕ) → o.overwrites b ≡ Some number →
          o.step p.state (call_of b.asks) x.reply x.next → o.holds number x.next
      left_holds p x b number leaves step = let found = overwriting_to o lawful b number leaves in
          subst (λ (t : S). o.holds number t) (sym (found.overwrites.leaves p.state x.next x.reply step)) found.holds

      -- a call that overwrites is as good as hidden where nothing else may follow it
      unseen_at : (p : run.Position S) (x : Effect S) (there : Looked p) (b : OpenCall) (left number : ℕ) →
          o.overwrites b ≡ Some left → open_at table x.lane ≡ Some b → call_of b.asks ≡ x.call → x.lane ≢ lane →
          unseen.IsUnseen o table lane there.is.numbers.in_effect number → o.holds number x.next →
          o.step p.state (call_of b.asks) x.reply x.next → p.lanes x.lane ≡ Asks x.call →
          IsSeenTo o.step e (frees p) Looked p x
      unseen_at p x there b left number leaves is_open its apart none holds step asks = is_unseen (record {
        overwrites = subst (λ (c : Call). Overwrites o.step c x.reply x.next) its over;
        is_free = freed_so p x.lane apart (record {
          begun = b;
          call = x.call;
          is_open = is_open;
          asks = asks;
          kind = free_kind o lawful b left leaves;
        });
        only = λ v c r t asks_c step_c may_c. only v c r t asks_c step_c may_c;
      })
        where
          over : Overwrites o.step (call_of b.asks) x.reply x.next
          over = let found = overwriting_to o lawful b left leaves in
              over_as o.step (call_of b.asks) found.reply x.reply p.state found.next x.next found.overwrites step

          only : (v : ℕ) (c : Call) (r : Reply) (t : S) → p.lanes v ≡ Asks c → o.step x.next c r t →
              watched.MayGet (told_in (open_at table v)) r →
              Overwrites o.step c r t ⊎ ((frees p v ≡ true) × (t ≡ x.next))
          only v c r t asks_c step_c may_c = by (none.each v at.begun at.is_open at.free)
            where
              at : AsksIn (open_at table v) (bit_at there.is.numbers.in_effect v) c
              at = asked_at o table there.is.reads v c asks_c

              may : MayGet at.begun.ends r
              may = may_as_told at.begun.ends r
                  (subst (λ (slot : Option OpenCall). watched.MayGet (told_in slot) r) at.is_open may_c)

              by : unseen.IsPassedOver o lane v at.begun number →
                  Overwrites o.step c r t ⊎ ((frees p v ≡ true) × (t ≡ x.next))
              by (inl (other, some)) = let is = overwriting_to o lawful at.begun other some in
                  inl (over_as o.step c is.reply r x.next is.next t
                  (subst (λ (k : Call). Overwrites o.step k is.reply is.next) at.same is.overwrites) step_c)
              by (inr (inl (reads, other))) = let still = lawful.reading at.begun reads in inr (
                freed_so p v other (record {
                  begun = at.begun;
                  call = c;
                  is_open = at.is_open;
                  asks = asks_c;
                  kind = free_reader o lawful at.begun (lawful.freeing b left leaves) reads;
                }),
                still.unchanging x.next t (subst (λ (k : Reply). o.step x.next (call_of at.begun.asks) k t)
                    (sym (subst (λ (y : Ending). MayGet y r) still.ends may))
                    (subst (λ (k : Call). o.step x.next k r t) (sym at.same) step_c)),
              )
              by (inr (inr (ends_it, dead))) = absurd (ends_it (dead x.next t r holds may
                  (subst (λ (k : Call). o.step x.next k r t) (sym at.same) step_c)).0)

      effects : (p : run.Position S) (x : Effect S) (asked : Call) (there : Looked p) → p.lanes lane ≡ Asks asked →
          MayTakeEffect o.step e p x → IsSeenTo o.step e (frees p) Looked p x
      effects p x asked there asks may = by one.goes
        where
          it : AsksIn (open_at table x.lane) (bit_at there.is.numbers.in_effect x.lane) x.call
          it = asked_at o table there.is.reads x.lane x.call may.asks

          may_it : MayGet it.begun.ends x.reply
          may_it = may_as_told it.begun.ends x.reply
              (subst (λ (slot : Option OpenCall). watched.MayGet (told_in slot) x.reply) it.is_open may.may)

          step_it : o.step p.state (call_of it.begun.asks) x.reply x.next
          step_it = subst (λ (c : Call). o.step p.state c x.reply x.next) (sym it.same) may.step

          one : ComesFirst o table (Waits p there) (NotAwaited p there) (IsFound p there) x.lane it.begun
          one = first_of o table (Waits p there) (NotAwaited p there) (IsFound p there) (tried_each p there asked asks)
              (suc (rank_of x.lane it.begun.ends)) x.lane it.begun it.is_open it.free (omega arith)

          by : ((one.ahead ≡ x.lane) × (one.first ≡ it.begun)) ⊎
              (GoesBefore o one.ahead x.lane one.first it.begun × (reads_only one.first ≡ false) × (x.lane ≢ lane)) →
              IsSeenTo o.step e (frees p) Looked p x
          by (inl itself) = itself_found (subst (λ (c : OpenCall). IsFound p there x.lane c) itself.1
              (subst (λ (u : ℕ). IsFound p there u one.first) itself.0 one.outcome))
            where
              itself_found : IsFound p there x.lane it.begun → IsSeenTo o.step e (frees p) Looked p x
              itself_found (inl found) =
                  is_looked_at (found_looked_at p there x it.begun it.is_open it.same may_it step_it found)
              itself_found (inr (number, leaves, none, apart)) = unseen_at p x there it.begun number number leaves
                  it.is_open it.same apart none (left_holds p x it.begun number leaves step_it) step_it may.asks
          by (inr (before, changes, apart)) = given one.outcome
            where
              alike_it : AreAlike o.step (call_of one.first.asks) (call_of it.begun.asks)
              alike_it = before_alike o one.ahead x.lane one.first it.begun before

              alike : AreAlike o.step (call_of one.first.asks) x.call
              alike = subst (λ (c : Call). AreAlike o.step (call_of one.first.asks) c) it.same alike_it

              both : (n : ℕ) → o.overwrites one.first ≡ Some n → o.overwrites it.begun ≡ None → ⊥
              both n some none = let over = overwriting_to o lawful one.first n some in
                  not_overwriting o lawful it.begun none x.reply x.next may_it (alike_over o.step
                  (call_of one.first.asks) (call_of it.begun.asks) x.reply x.next alike_it (over_as o.step
                  (call_of one.first.asks) over.reply x.reply p.state over.next x.next over.overwrites
                  (alike.done_by p.state x.next x.reply may.step)))

              -- one that goes before overwrites no more than this one
              not_both : o.overwrites it.begun ≡ None → frees p one.ahead ≡ true → ⊥
              not_both none is = kinds (kind_of o lawful one.first
                  (subst (λ (c : OpenCall). may_be_free o c ≡ true) (one_open table one.ahead freed.is.begun one.first
                  freed.is.is_open one.is_first) freed.is.kind))
                where
                  freed : IsFreed o table lane there.is.numbers.in_effect one.ahead
                  freed = freed_from p there one.ahead is

                  kinds : ((n : ℕ) × (o.overwrites one.first ≡ Some n)) ⊎
                      ((o.overwrites one.first ≡ None) × (reads_only one.first ≡ true)) → ⊥
                  kinds (inl (n, some)) = both n some none
                  kinds (inr (other, reads)) = true_or_false reads changes

              unfreed : (found : Option ℕ) → o.overwrites it.begun ≡ found →
                  (frees p one.ahead ≡ false) ⊎ (Overwrites o.step x.call x.reply x.next × (frees p x.lane ≡ true))
              unfreed None none = inl (false_from_ne_true (frees p one.ahead) (λ is. not_both none is))
              unfreed (Some n) some = let over = overwriting_to o lawful it.begun n some in inr (
                subst (λ (c : Call). Overwrites o.step c x.reply x.next) it.same (over_as o.step (call_of it.begun.asks)
                    over.reply x.reply p.state over.next x.next over.overwrites step_it),
                freed_so p x.lane apart (record {
                  begun = it.begun;
                  call = x.call;
                  is_open = it.is_open;
                  asks = may.asks;
                  kind = free_kind o lawful it.begun n some;
                }),
              )

              given_unseen : (number : ℕ) → o.overwrites one.first ≡ Some number →
                  unseen.IsUnseen o table lane there.is.numbers.in_effect number → (found : Option ℕ) →
                  o.overwrites it.begun ≡ found → IsSeenTo o.step e (frees p) Looked p x
              given_unseen number leaves none None not = absurd (both number leaves not)
              given_unseen number leaves none (Some left) some = unseen_at p x there it.begun left number some
                  it.is_open
                  it.same apart none (left_holds p x one.first number leaves
                  (alike.done_by p.state x.next x.reply may.step)) step_it may.asks

              given : IsFound p there one.ahead one.first → IsSeenTo o.step e (frees p) Looked p x
              given (inl found) = gives_way (record {
                ahead = one.ahead;
                other = call_of one.first.asks;
                instead = record {
                  apart = before_apart o table one.ahead x.lane one.first it.begun one.is_first it.is_open before;
                  asks = asks_at o table there.is.reads one.ahead one.first one.is_first one.among;
                  alike = alike;
                  first = λ future comes_so. before_first o table one.ahead x.lane last one.first it.begun x.reply
                      future
                      one.is_first it.is_open (now future comes_so) may_it before;
                };
                unfree = unfreed (o.overwrites it.begun) refl;
                effect = found_looked_at p there
                    (record { lane = one.ahead; call = call_of one.first.asks; reply = x.reply; next = x.next })
                    one.first
                    one.is_first refl (before_may o one.ahead x.lane one.first it.begun x.reply before may_it)
                    (alike.done_by p.state x.next x.reply may.step) found;
              })
              given (inr (number, leaves, none, other)) = given_unseen number leaves none (o.overwrites it.begun) refl

      -- what an old position reads of the calls that are free
      module _ (p : run.Position S) (old : OldOnes p) where
        abbrev Numbers : Position
        Numbers = old.is.numbers

        abbrev IsFreeIn : ℕ → Type 0
        IsFreeIn u = bit_at old.is.numbers.free u ≡ 1

        free_call : (u : ℕ) (b : OpenCall) → open_at table u ≡ Some b → IsFreeIn u → may_be_free o b ≡ true
        free_call u b is free = let it = old.is.reads.kinds u free in
            subst (λ (c : OpenCall). may_be_free o c ≡ true) (one_open table u it.begun b it.is_open is) it.kind

        free_waits : (u : ℕ) (b : OpenCall) → open_at table u ≡ Some b → IsFreeIn u → p.lanes u ≡ Asks (call_of b.asks)
        free_waits u b is free = asks_at o table old.is.reads u b is (old.is.reads.kinds u free).waits

        hidden_from : (u : ℕ) (b : OpenCall) (n : ℕ) → open_at table u ≡ Some b → o.overwrites b ≡ Some n → IsFreeIn u →
            HidesAmong o table u n old.is.numbers first → (z : Effect S) → u ≡ z.lane →
            Overwrites o.step (call_of b.asks) z.reply z.next → OneOf Looked (IsHiddenWith o.step e z p)
        hidden_from u b n is some free hides z same_lane over = record {
          position = hidden o lawful table old.is.reads is some free hides.hidden;
          there = record {
            is = record {
              numbers = hides.position;
              among = includes hides.position hides.among;
              reads = hidden_reads o lawful table old.is.reads is some free hides.hidden;
            };
            reached = hidden_reached o lawful table old.is.reads is some free hides.hidden OldOnes old;
            not_free = first_unfree o table lane start first starts hides.position
                (hidden o lawful table old.is.reads is some free hides.hidden)
                hides.among (hidden_reads o lawful table old.is.reads is some free hides.hidden);
          };
          is = hidden_with o lawful table old.is.reads is some free hides.hidden e (λ v c r opens may. may_as_told
              c.ends r (subst (λ (slot : Option OpenCall). watched.MayGet (told_in slot) r) opens may)) (λ future comes
              v c opens. (now future comes).ends v c opens) z same_lane (over.answer p.state its.next its.reply
              (its.overwrites.may p.state)) (over.leaves p.state its.next its.reply (its.overwrites.may p.state));
        }
          where
            its : IsOverwriting o b n
            its = overwriting_to o lawful b n some

        -- the returning call overwrites itself
        source_itself : (x : Effect S) (n : ℕ) → o.overwrites begun ≡ Some n → IsFreeIn lane → IsSource o.step e p x →
            HidesAmong o table lane n old.is.numbers first → OneOf Looked (IsHiddenWith o.step e x p)
        source_itself x n some free source hides = by source.from
          where
            its : IsOverwriting o begun n
            its = overwriting_to o lawful begun n some

            by : (x.lane ≡ lane) ⊎ (o.step x.next source.call reply x.next × OverwritesNever o.step source.call) →
                OneOf Looked (IsHiddenWith o.step e x p)
            by (inl at) = hidden_from lane begun n is_open some free hides x (sym at)
                (subst (λ (c : Call). Overwrites o.step c x.reply x.next)
                (one_call (subst (λ (u : ℕ). p.lanes u ≡ Asks x.call) at source.asks)
                (free_waits lane begun is_open free)) source.overwrites)
            by (inr (step, never)) = absurd (never its.reply its.next
                (subst (λ (c : Call). Overwrites o.step c its.reply its.next)
                (one_call (free_waits lane begun is_open free) source.reads) its.overwrites))

        -- or reads what another one left
        module _ (none : o.overwrites begun ≡ None) (awaited_free : IsFreeIn lane)
            (tried : (u : ℕ) → u < 64 → IsTriedFor o table lane old.is.numbers u first) where
          abbrev AnyLane : ℕ → Type 0
          AnyLane u = Unit {0}

          abbrev IsHiddenOr : ℕ → OpenCall → Type 0
          IsHiddenOr u b = (n : ℕ) → o.overwrites b ≡ Some n → HidesAmong o table u n old.is.numbers first ⊎
              HidesInVain o table u n lane old.is.numbers

          tried_each_source : (u : ℕ) (b : OpenCall) → open_at table u ≡ Some b → IsFreeIn u →
              IsHiddenOr u b ⊎ GivesTo o table IsFreeIn AnyLane u b
          tried_each_source u b is free = by (o.overwrites b) refl
            where
              within : u < 64
              within = let inside = open_at_within table u b is in omega (arith, inside, full)

              outcome : (n : ℕ) → o.overwrites b ≡ Some n → HidesAmong o table u n old.is.numbers first ⊎
                  (HidesInVain o table u n lane old.is.numbers ⊎
                  GivesWayAmong o table old.is.numbers.free old.is.numbers.in_effect u b) →
                  IsHiddenOr u b ⊎ GivesTo o table IsFreeIn AnyLane u b
              outcome n some (inl hides) = inl (λ m also. inl (subst
                  (λ (k : ℕ). HidesAmong o table u k old.is.numbers first) (same_Some n m (sym some ∙ also)) hides))
              outcome n some (inr (inl vain)) = inl (λ m also. inr (subst
                  (λ (k : ℕ). HidesInVain o table u k lane old.is.numbers) (same_Some n m (sym some ∙ also)) vain))
              outcome n some (inr (inr gives)) = inr (record {
                first_lane = gives.way.first_lane;
                first = gives.way.first;
                is_first = gives.way.is_first;
                among = gives.among;
                left = tt;
                changes = gives.way.changes;
                goes = gives.way.goes;
              })

              by : (found : Option ℕ) → o.overwrites b ≡ found → IsHiddenOr u b ⊎ GivesTo o table IsFreeIn AnyLane u b
              by None not = inl (λ n some. absurd (none-some n (sym not ∙ some)))
              by (Some n) some = outcome n some ((tried u within).tried b n is some free)

          awaited_reads : reads_only begun ≡ true
          awaited_reads = by (kind_of o lawful begun (free_call lane begun is_open awaited_free))
            where
              by : ((n : ℕ) × (o.overwrites begun ≡ Some n)) ⊎
                  ((o.overwrites begun ≡ None) × (reads_only begun ≡ true)) → reads_only begun ≡ true
              by (inl (n, some)) = absurd (none-some n (sym none ∙ some))
              by (inr is) = is.1

          apart_from : (u : ℕ) (b : OpenCall) (n : ℕ) → open_at table u ≡ Some b → o.overwrites b ≡ Some n → lane ≢ u
          apart_from u b n is some at = none-some n (sym none ∙
              ap o.overwrites (one_open table u begun b (subst (λ (v : ℕ). open_at table v ≡ Some begun) at is_open)
              is) ∙
              some)

          -- where one is hidden that leaves what it reads it is answered
          not_in_vain : (u : ℕ) (b : OpenCall) (n : ℕ) (r : Reply) (t : S) → open_at table u ≡ Some b →
              o.overwrites b ≡ Some n → IsFreeIn u → Overwrites o.step (call_of b.asks) r t →
              o.step t (call_of begun.asks) reply t → HidesInVain o table u n lane old.is.numbers → ⊥
          not_in_vain u b n r t is some free over step vain = omega (arith, taken, unset)
            where
              its : IsOverwriting o b n
              its = overwriting_to o lawful b n some

              left_it : its.next ≡ t
              left_it = over.leaves p.state its.next its.reply (its.overwrites.may p.state)

              answered : bit_at vain.hidden.then.in_effect lane ≡ 1
              answered = reader_answered o lawful table old.is.reads is some free vain.hidden lane begun reply
                  (apart_from u b n is some) awaited_free is_open awaited_reads (subst (λ (x : Ending). MayGet x reply)
                  (sym ends) same) (subst (λ (v : S). o.step v (call_of begun.asks) reply v) (sym left_it) step)

              taken : bit_at vain.position.in_effect lane ≡ 1
              taken = subst (λ (k : ℕ). bit_at k lane ≡ 1) (sym vain.hidden.in_effect) answered

              unset : bit_at vain.position.in_effect lane ≡ 0
              unset = vain.waits

          source_other : (x : Effect S) (c : OpenCall) (n : ℕ) → open_at table x.lane ≡ Some c → IsFreeIn x.lane →
              o.overwrites c ≡ Some n → Overwrites o.step (call_of c.asks) x.reply x.next → call_of c.asks ≡ x.call →
              o.step x.next (call_of begun.asks) reply x.next → IsSource o.step e p x →
              OneOf Looked (IsHiddenWith o.step e x p) ⊎ GivesPlace o.step e Looked p x
          source_other x c n is free some over its step source = by one.goes
            where
              one : ComesFirst o table IsFreeIn AnyLane IsHiddenOr x.lane c
              one = first_of o table IsFreeIn AnyLane IsHiddenOr tried_each_source (suc (rank_of x.lane c.ends)) x.lane
                  c
                  is free (omega arith)

              hides_or : (b : OpenCall) (m : ℕ) → open_at table one.ahead ≡ Some b → o.overwrites b ≡ Some m →
                  Overwrites o.step (call_of b.asks) x.reply x.next →
                  HidesAmong o table one.ahead m old.is.numbers first ⊎
                  HidesInVain o table one.ahead m lane old.is.numbers →
                  HidesAmong o table one.ahead m old.is.numbers first
              hides_or b m at also overs (inl hides) = hides
              hides_or b m at also overs (inr vain) = absurd (not_in_vain one.ahead b m x.reply x.next at also one.among
                  overs step vain)

              by : ((one.ahead ≡ x.lane) × (one.first ≡ c)) ⊎
                  (GoesBefore o one.ahead x.lane one.first c × (reads_only one.first ≡ false) × Unit {0}) →
                  OneOf Looked (IsHiddenWith o.step e x p) ⊎ GivesPlace o.step e Looked p x
              by (inl itself) = inl (hidden_from one.ahead one.first n one.is_first some_first one.among
                  (hides_or one.first n one.is_first some_first over_first (one.outcome n some_first)) x itself.0
                  over_first)
                where
                  some_first : o.overwrites one.first ≡ Some n
                  some_first = ap o.overwrites itself.1 ∙ some

                  over_first : Overwrites o.step (call_of one.first.asks) x.reply x.next
                  over_first = subst (λ (b : OpenCall). Overwrites o.step (call_of b.asks) x.reply x.next)
                      (sym itself.1) over
              by (inr (before, changes, any)) = inr (record {
                ahead = one.ahead;
                other = call_of one.first.asks;
                instead = record {
                  apart = before_apart o table one.ahead x.lane one.first c one.is_first is before;
                  asks = free_waits one.ahead one.first one.is_first one.among;
                  alike = subst (λ (k : Call). AreAlike o.step (call_of one.first.asks) k) its alike;
                  first = λ future comes_so. before_first o table one.ahead x.lane last one.first c x.reply future
                      one.is_first is (now future comes_so) may before;
                };
                free = (old.is.reads.free one.ahead).1 one.among;
                hidden = hidden_as (kind_of o lawful one.first (free_call one.ahead one.first one.is_first one.among));
              })
                where
                  alike : AreAlike o.step (call_of one.first.asks) (call_of c.asks)
                  alike = before_alike o one.ahead x.lane one.first c before

                  found : IsOverwriting o c n
                  found = overwriting_to o lawful c n some

                  may : MayGet c.ends x.reply
                  may = subst (λ (r : Reply). MayGet c.ends r)
                      (over.answer p.state found.next found.reply (found.overwrites.may p.state)) found.may

                  over_first : Overwrites o.step (call_of one.first.asks) x.reply x.next
                  over_first = alike_over o.step (call_of c.asks) (call_of one.first.asks) x.reply x.next
                      (record { does = alike.done_by; done_by = alike.does }) over

                  hidden_as : ((m : ℕ) × (o.overwrites one.first ≡ Some m)) ⊎
                      ((o.overwrites one.first ≡ None) × (reads_only one.first ≡ true)) →
                      OneOf Looked (IsHiddenWith o.step e (of_other one.ahead (call_of one.first.asks) x) p)
                  hidden_as (inl (m, also)) = hidden_from one.ahead one.first m one.is_first also one.among
                      (hides_or one.first m one.is_first also over_first (one.outcome m also))
                      (of_other one.ahead (call_of one.first.asks) x) refl over_first
                  hidden_as (inr (not, reads)) = absurd (true_or_false reads changes)

          source_read : (x : Effect S) → IsSource o.step e p x →
              OneOf Looked (IsHiddenWith o.step e x p) ⊎ GivesPlace o.step e Looked p x
          source_read x source = by (kind_of o lawful it.begun it.kind) source.from
            where
              free : IsFreeIn x.lane
              free = (old.is.reads.free x.lane).0 source.free

              it : IsFreeCall o (open_at table x.lane) (bit_at old.is.numbers.in_effect x.lane)
              it = old.is.reads.kinds x.lane free

              its : call_of it.begun.asks ≡ x.call
              its = one_call (free_waits x.lane it.begun it.is_open free) source.asks

              over : Overwrites o.step (call_of it.begun.asks) x.reply x.next
              over = subst (λ (c : Call). Overwrites o.step c x.reply x.next) (sym its) source.overwrites

              by : ((n : ℕ) × (o.overwrites it.begun ≡ Some n)) ⊎
                  ((o.overwrites it.begun ≡ None) × (reads_only it.begun ≡ true)) →
                  (x.lane ≡ lane) ⊎ (o.step x.next source.call reply x.next × OverwritesNever o.step source.call) →
                  OneOf Looked (IsHiddenWith o.step e x p) ⊎ GivesPlace o.step e Looked p x
              by (inr (not, reads)) from = absurd ((lawful.reading it.begun reads).never x.reply x.next over)
              by (inl (n, some)) (inl at) = absurd (apart_from x.lane it.begun n it.is_open some (sym at))
              by (inl (n, some)) (inr (step, never)) = source_other x it.begun n it.is_open free some over its
                  (subst (λ (c : Call). o.step x.next c reply x.next)
                  (one_call source.reads (free_waits lane begun is_open awaited_free)) step) source

        source_of : (x : Effect S) → IsFreeIn lane → IsSource o.step e p x →
            OneOf Looked (IsHiddenWith o.step e x p) ⊎ GivesPlace o.step e Looked p x
        source_of x free source = by (o.overwrites begun) refl
            ((starts.each old.is.numbers old.is.among).hidden begun is_open free)
          where
            by : (found : Option ℕ) → o.overwrites begun ≡ found → IsHiddenFor o table lane old.is.numbers first found →
                OneOf Looked (IsHiddenWith o.step e x p) ⊎ GivesPlace o.step e Looked p x
            by None none tried = source_read none free tried x source
            by (Some n) some hides = inl (source_itself x n some free source hides)

        fixed_looked : OneOf Looked (returning.IsFixed lane p)
        fixed_looked = record {
          position = fixed_as p takes.fixed;
          there = record {
            is = record {
              numbers = takes.fixed;
              among = includes takes.fixed takes.among;
              reads = fixed_reads o table lane old.is.reads takes.is;
            };
            reached = fixed_reached o table lane old.is.reads takes.is OldOnes old;
            not_free = takes.is.clears.here;
          };
          is = fixed_is o table lane old.is.reads takes.is;
        }
          where
            takes : IsTakenUp o table lane old.is.numbers first
            takes = starts.each old.is.numbers old.is.among

        asks_some : IsFreeIn lane → AsksSomeCall o.step (p.lanes lane)
        asks_some free = record {
          call = call_of begun.asks;
          asks = free_waits lane begun is_open free;
          kind = by (kind_of o lawful begun (free_call lane begun is_open free));
        }
          where
            by : ((n : ℕ) × (o.overwrites begun ≡ Some n)) ⊎
                ((o.overwrites begun ≡ None) × (reads_only begun ≡ true)) →
                ((r : Reply) × (t : S) × Overwrites o.step (call_of begun.asks) r t) ⊎
                OverwritesNever o.step (call_of begun.asks)
            by (inl (n, some)) = let is = overwriting_to o lawful begun n some in
                inl (is.reply, is.next, is.overwrites)
            by (inr (none, reads)) = inr (lawful.reading begun reads).never

      -- the call returns where it is in effect
      return_at : (p : run.Position S) (there : Looked p) (d : Position) → IsReturnedFrom lane there.is.numbers d →
          p.lanes lane ≡ Gets reply → IsReturn e p (moved p lane Idle p.state d.free)
      return_at p there d returned gets = record {
        gets = gets;
        not_free = unfree p there;
        state = refl;
        sets = sets_of p.lanes lane Idle;
        free = record {
          not_it = not_set d.free lane (subst (λ (n : ℕ). bit_at n lane ≡ 0) (sym returned.free) there.not_free);
          others = λ v apart. same_bits (is_set d.free v) (p.free v)
              (λ is. (there.is.reads.free v).1 (subst (λ (n : ℕ). bit_at n v ≡ 1) returned.free
              ((set_bit d.free v).0 is)))
              (λ is. (set_bit d.free v).1
              (subst (λ (n : ℕ). bit_at n v ≡ 1) (sym returned.free) ((there.is.reads.free v).0 is)));
        };
      }

      new_at : (p : run.Position S) (there : Looked p) (d : Position) → Contains done d →
          IsReturnedFrom lane there.is.numbers d → p.lanes lane ≡ Gets reply → New (moved p lane Idle p.state d.free)
      new_at p there d among returned gets = record {
        is = record {
          numbers = d;
          among = among;
          reads = read_returned o table lane there.is.reads there.not_free returned;
        };
        from = record { position = p; there = there; is = return_at p there d returned gets };
      }

      left : AreLeft o.step e Looked New
      left = record {
        is_open = λ p there. open_phase p there (phase_at o table there.is.reads lane begun is_open);
        come = λ q new. new.from;
        stay = λ p there gets. stay p there gets (each there.is.numbers there.is.among);
      }
        where
          open_phase : (p : run.Position S) (there : Looked p) →
              HasPhase (Some begun) (bit_at there.is.numbers.in_effect lane) (p.lanes lane) →
              IsOpen reply (p.lanes lane)
          open_phase p there (inl is) = inl (call_of begun.asks, is.asks)
          open_phase p there (inr is) = inr (is.gets ∙ ap Gets (told_reply is.reply is.may))

          stay : (p : run.Position S) (there : Looked p) → p.lanes lane ≡ Gets reply →
              IsLookedAt o table lane there.is.numbers done seen → OneOf New (ReturnsAs o.step e p)
          stay p there gets (inl to) =
              let new = new_at p there to.position to.among to.returned gets in record {
                position = moved p lane Idle p.state to.position.free;
                there = new;
                is = record {
                  then = moved p lane Idle p.state to.position.free;
                  return = return_at p there to.position to.returned gets;
                  kept = kept_itself o.step e.then_fits (moved p lane Idle p.state to.position.free);
                };
              }
          stay p there gets (inr is) =
              let taken = taken_at o table there.is.reads lane begun is_open reply gets in
              let free = is.free in absurd (omega (arith, taken, free))

      returns_by : ReturnsBy o.step e OldOnes Looked New
      returns_by = record {
        reached = λ p there. there.reached;
        taken = record {
          each = λ p old. fixed_looked p old;
          asks = λ p old free. asks_some p old ((old.is.reads.free lane).0 free);
          hidden = λ p x old free source. source_of p old x ((old.is.reads.free lane).0 free) source;
        };
        followed = record {
          frees = frees;
          apart = λ p there. picks_first (cases_eq lane lane) false (free_if o (open_at table lane) (p.lanes lane))
              refl;
          free = λ p there v free. free_frees p there v free;
          effects = effects;
        };
        left = left;
      }

      pub goes_on : StandFor o.step o.start past (ComesAsTold (open_at table) last) (OfSome o.step OldOnes) →
          StandFor o.step o.start (past ++ event.Returns lane reply ∷ []) (ComesAsTold (open_at later) place)
          (OfSome o.step New)
      goes_on stand = stand_on o.step o.start past (event.Returns lane reply) (ComesAsTold (open_at table) last)
          (ComesAsTold (open_at later) place) (OfSome o.step OldOnes) (OfSome o.step New) stand
          (go_on_by_return o.step e OldOnes Looked New all_fit fits_then returns_by)

      -- what is kept after the return
      pub kept_after : All (IsPossible o past table) start →
          ((x : Position) → Contains seen x → IsComeTo o table lane first x) →
          ((x : Position) → Contains done x → ReturnsFromOne lane seen x) →
          StandFor o.step o.start past (ComesAsTold (open_at table) last) (OfSome o.step OldOnes) →
          AreKept o (past ++ event.Returns lane reply ∷ []) later place done
      kept_after possible come only stand = record {
        lanes = length-set table lane None ∙ full;
        possible = all_from (IsPossible o (past ++ event.Returns lane reply ∷ []) later) done (λ d among. at d (only
            d among)
            among);
        stand = stand_kept o (past ++ event.Returns lane reply ∷ []) later done New (ComesAsTold (open_at later) place)
            (goes_on stand) (λ q new. new.is);
      }
        where
          at : (d : Position) → ReturnsFromOne lane seen d → Contains done d →
              IsPossible o (past ++ event.Returns lane reply ∷ []) later d
          at d one among = record {
            position = moved from.position lane Idle from.position.state d.free;
            reads = read_returned o table lane from.reads from.not_free one.returned;
            may_be = new_may_be o (past ++ event.Returns lane reply ∷ []) later done New
                (ComesAsTold (open_at later) place)
                (goes_on stand) (λ q is. is.is) (moved from.position lane Idle from.position.state d.free) new;
          }
            where
              from : ReadsReached o lawful table past start lane one.from
              from = reads_come o lawful table past start lane possible first starts one.from (come one.from one.among)

              gets : InEffect begun (bit_at one.from.in_effect lane) (from.position.lanes lane)
              gets = gets_at o table from.reads lane begun is_open one.returned.taken

              there : Looked from.position
              there = record {
                is = record { numbers = one.from; among = one.among; reads = from.reads };
                reached = from.reached;
                not_free = from.not_free;
              }

              new : New (moved from.position lane Idle from.position.state d.free)
              new = new_at from.position there d among one.returned (gets.gets ∙ ap Gets
                  (told_reply gets.reply gets.may))
