-- Positions that others cover are not needed.
use Rattle.std.proofs.Common.{ℕ, zero, suc, ◌≡◌, ◌≢◌, ◌⊎◌, ◌+◌, ◌-◌, ◌<◌, ◌≤◌, Bool, false, true, List, length, Option}
use Rattle.std.proofs.Common.{bit_and, bit_or, get_or, Some, None, refl, sym, ◌∙◌, ap, subst, inl, inr, arith}
use Rattle.std.specs.Int.{bit_at}
use Rattle.std.specs.List.{Contains, remove}
use Rattle.std.proofs.lemmas.Bool.{cases_eq, cases_lt}
use Rattle.std.proofs.lemmas.Nat.Bits.{bit_at-lt, bit_at-zero, bit_at_and, bit_at_or}
use Rattle.std.proofs.lemmas.List.Edits.{get_or-remove_above, get_or-remove_below, length-remove}
use Rattle.std.proofs.lemmas.List.Elements.{All-contains, Contains-get_or}
use Rattle.stamp_core.specs.declared.call.Call.{Call}
use Rattle.stamp_core.specs.declared.reply.Reply.{Reply}
use Rattle.stamp_core.specs.declared.reply.Reply.TheVariants.{Done}
use Rattle.stamp_runs.specs.Run.{EndsNever, Lanes, Phase, Sets}
use Rattle.stamp_runs.specs.Run.Phase.{Asks, Gets, Idle}
use Rattle.stamp_runs.specs.Position.{Hidden, Overwrites, OverwritesNever}
use Rattle.stamp_runs.specs.Position as run
use Rattle.stamp_runs.specs.Position.Hidden.{no_more, overwrites}
use Rattle.stamp_runs.specs.Returning.{IsKeptAs, IsReached, IsToldReader, OneOf}
use Rattle.stamp_runs.specs.Returning.IsReached.{from_old}
use Rattle.stamp_runs.specs.declared.event.Event.{Event}
use Rattle.stamp_runs.proofs.Hiding.{hidden_on}
use Rattle.stamp_runs.proofs.Lanes.{asks_or_gets, one_call, set_of, sets_alike, sets_itself, sets_of, true_or_false}
use Rattle.stamp_runs.proofs.Stepping.{stand_as_kept}
use Rattle.stamp_sets.specs.declared.covering.Kinds.{Kinds}
use Rattle.stamp_sets.specs.declared.ending.Ending.{Ending}
use Rattle.stamp_sets.specs.declared.ending.Ending.TheVariants.{Never, Returns, Withdraws}
use Rattle.stamp_sets.specs.declared.open_call.OpenCall.{OpenCall}
use Rattle.stamp_sets.specs.declared.position.Position.{Position}
use Rattle.stamp_sets.specs.Judged.{Judged}
use Rattle.stamp_sets.specs.Kept.{AreKept, HasPhase, IsFreeCall, IsInEffect, IsKept, IsPossible, Reads}
use Rattle.stamp_sets.specs.SmallCall.{call_of, reply_of}
use Rattle.stamp_sets.specs.Told.{ComesAsTold, EndsSo, MayGet, open_at}
use Rattle.stamp_sets.specs.Unchanging.{reads_only}
use Rattle.stamp_sets.specs.inner.Covering.{AreKinds, AreOpenAs, CoversIn, IsCoveredAt, IsCoveredBy, IsOpenAs}
use Rattle.stamp_sets.specs.inner.Covering.{IsThinned}
use Rattle.stamp_sets.specs.inner.Covering.CoversIn.{has_read, is_free, is_same, never_ends}
use Rattle.stamp_sets.specs.inner.Effect.{IsOverwriting, IsUnchanging}
use Rattle.stamp_sets.specs.inner.Start.{Includes}
use Rattle.stamp_sets.proofs.Lawful.{IsLawful, overwriting_to}
use Rattle.stamp_sets.proofs.Layering.{all_from}
use Rattle.stamp_sets.proofs.Reading.{asks_at, bit_unset, gets_at, phase_at}
use Rattle.stamp_sets.proofs.Tables.{one_open, open_at_within}

-- two replies that one call may get are one, but where it never ends
one_answer : (ends : Ending) (a b : Reply) → MayGet ends a → MayGet ends b → (a ≡ b) ⊎ (ends ≡ Never)
one_answer (Returns told place) a b may also = inl (sym may ∙ also)
one_answer Withdraws a b may also = absurd may
one_answer Never a b may also = inr refl

module _ {S : Type 0} (o : Judged S) (table : List (Option OpenCall)) where
  -- what a lane is about before and after: the same; its call reads, and is in effect after; it never ends, and is in
  -- effect before; it overwrites, is free after, and in effect before
  data IsCoveredIn (v : ℕ) (before after : Phase) (free : Bool) : Type 0 where
    stays : before ≡ after → IsCoveredIn v before after free
    reads_it : (begun : OpenCall) → open_at table v ≡ Some begun → (still : IsUnchanging o begun) →
        before ≡ Asks (call_of begun.asks) → after ≡ Gets (reply_of still.told) → IsCoveredIn v before after free
    ends_never : (begun : OpenCall) (reply : Reply) → open_at table v ≡ Some begun → begun.ends ≡ Never →
        before ≡ Gets reply → IsCoveredIn v before after free
    is_hidden : (begun : OpenCall) (reply : Reply) (t : S) → open_at table v ≡ Some begun → free ≡ true →
        after ≡ Asks (call_of begun.asks) → Overwrites o.step (call_of begun.asks) reply t → before ≡ Gets reply →
        IsCoveredIn v before after free

  module _ {v : ℕ} {before after : Phase} {free : Bool} where
    abbrev is_reader : IsCoveredIn v before after free → Bool
    is_reader (reads_it begun is still asks gets) = true
    is_reader _ = false

    abbrev told_of : IsCoveredIn v before after free → Reply
    told_of (reads_it begun is still asks gets) = reply_of still.told
    told_of _ = Done

    abbrev is_endless : IsCoveredIn v before after free → Bool
    is_endless (ends_never begun reply is ends gets) = true
    is_endless _ = false

    -- readers are in effect; and calls that never end are as after
    abbrev settled : IsCoveredIn v before after free → Phase
    settled (reads_it begun is still asks gets) = after
    settled _ = before

    abbrev undone : IsCoveredIn v before after free → Phase
    undone (stays same) = before
    undone (is_hidden begun reply t is freed asks over gets) = before
    undone _ = after

    settled_reads : (at : IsCoveredIn v before after free) → is_reader at ≡ true → settled at ≡ Gets (told_of at)
    settled_reads (reads_it begun opens still asks gets) is = gets
    settled_reads _ is = absurd (true_or_false is refl)

    settled_others : (at : IsCoveredIn v before after free) → is_reader at ≡ false → settled at ≡ before
    settled_others (reads_it begun opens still asks gets) not = absurd (true_or_false refl not)
    settled_others _ not = refl

    reader_never : (at : IsCoveredIn v before after free) → is_reader at ≡ true → (call : Call) → before ≡ Asks call →
        OverwritesNever o.step call
    reader_never (reads_it begun opens still asks_it gets) is call asks =
        subst (λ (c : Call). OverwritesNever o.step c) (one_call asks_it asks) still.never
    reader_never _ is call asks = absurd (true_or_false is refl)

    settled_endless : (at : IsCoveredIn v before after free) → is_endless at ≡ true →
        (reply : Reply) × (settled at ≡ Gets reply)
    settled_endless (ends_never begun reply opens ends gets) is = (reply, gets)
    settled_endless _ is = absurd (true_or_false is refl)

    undone_others : (at : IsCoveredIn v before after free) → is_endless at ≡ false → undone at ≡ settled at
    undone_others (ends_never begun reply opens ends gets) not = absurd (true_or_false refl not)
    undone_others _ not = refl

    -- what asks and is in effect after was read
    reader_if : (at : IsCoveredIn v before after free) (call : Call) (reply : Reply) → before ≡ Asks call →
        after ≡ Gets reply → is_reader at ≡ true
    reader_if (stays same) call reply asks gets = absurd (asks_or_gets (sym same ∙ asks) gets)
    reader_if (reads_it begun opens still asks_it gets_it) call reply asks gets = refl
    reader_if (ends_never begun other opens ends it) call reply asks gets = absurd (asks_or_gets asks it)
    reader_if (is_hidden begun other t opens freed asked over it) call reply asks gets = absurd (asks_or_gets asks it)

    module _ (fits : List Event → Type 0) (ends : (future : List Event) → fits future → (b : OpenCall) →
        open_at table v ≡ Some b → EndsSo v b.ends future) where
      reader_told : (at : IsCoveredIn v before after free) → is_reader at ≡ true →
          IsToldReader o.step fits v (told_of at) before
      reader_told (reads_it begun opens still asks gets) is = record {
        call = call_of begun.asks;
        asks = asks;
        still = still.unchanging;
        ends = λ future fit. subst (λ (e : Ending). EndsSo v e future) still.ends (ends future fit begun opens);
      }
      reader_told _ is = absurd (true_or_false is refl)

      endless_told : (at : IsCoveredIn v before after free) → is_endless at ≡ true → (future : List Event) →
          fits future → EndsNever v future
      endless_told (ends_never begun reply opens never gets) is future fit =
          subst (λ (e : Ending). EndsSo v e future) never (ends future fit begun opens)
      endless_told _ is future fit = absurd (true_or_false is refl)

    -- one lane after another is hidden
    hidden_one : (at : IsCoveredIn v before after free) (frees : ℕ → Bool) (lanes : Lanes) → frees v ≡ free →
        lanes v ≡ after → Hidden o.step frees None lanes (set_of lanes v (undone at))
    hidden_one at frees lanes same here = by at
      where
        itself : (phase : Phase) → after ≡ phase → Hidden o.step frees None lanes (set_of lanes v phase)
        itself phase is = subst (λ (l : Lanes). Hidden o.step frees None lanes l)
            (sets_alike lanes lanes (set_of lanes v phase) v phase (sets_itself lanes v phase (here ∙ is))
            (sets_of lanes v phase)) no_more

        by : (at : IsCoveredIn v before after free) → Hidden o.step frees None lanes (set_of lanes v (undone at))
        by (stays is) = itself before (sym is)
        by (reads_it begun opens still asks gets) = itself after refl
        by (ends_never begun reply opens ends gets) = itself after refl
        by (is_hidden begun reply t opens freed asks over gets) = overwrites v (call_of begun.asks) reply t
            (same ∙ freed) (here ∙ asks) over
            (subst (λ (phase : Phase). Sets lanes (set_of lanes v before) v phase) gets (sets_of lanes v before))
            no_more

    -- beyond the table nothing is hidden
    beyond : (at : IsCoveredIn v before after free) → length table ≤ v → undone at ≡ after
    beyond (stays is) far = is
    beyond (reads_it begun opens still asks gets) far = refl
    beyond (ends_never begun reply opens ends gets) far = refl
    beyond (is_hidden begun reply t opens freed asks over gets) far =
        let near = open_at_within table v begun opens in absurd (omega (arith, near, far))

-- the first position covers the other one, and so do they as they read
module _ {S : Type 0} (o : Judged S) (lawful : IsLawful o) (table : List (Option OpenCall)) (y x : Position)
    (covered : IsCoveredBy o table y x) (q p : run.Position S) (reads_y : Reads o table y q)
    (reads_x : Reads o table x p) where
  abbrev At : ℕ → Type 0
  At v = IsCoveredIn o table v (p.lanes v) (q.lanes v) (q.free v)

  module _ (v : ℕ) (begun : OpenCall) (is_open : open_at table v ≡ Some begun) where
    both_get : (m n : ℕ) → IsInEffect begun m (p.lanes v) → IsInEffect begun n (q.lanes v) → At v
    both_get m n first second = by (one_answer begun.ends first.reply second.reply first.may second.may)
      where
        by : (first.reply ≡ second.reply) ⊎ (begun.ends ≡ Never) → At v
        by (inl one) = stays (first.gets ∙ ap Gets one ∙ sym second.gets)
        by (inr never) = ends_never begun first.reply is_open never first.gets

    same_in : (m n : ℕ) → m ≡ n → HasPhase (Some begun) m (p.lanes v) → HasPhase (Some begun) n (q.lanes v) → At v
    same_in m n bits (inl asks) (inl also) = stays (asks.asks ∙ sym also.asks)
    same_in m n bits (inl asks) (inr gets) = let none = asks.free in let one = gets.taken in
        absurd (omega (arith, bits, none, one))
    same_in m n bits (inr gets) (inl asks) = let none = asks.free in let one = gets.taken in
        absurd (omega (arith, bits, none, one))
    same_in m n bits (inr gets) (inr also) = both_get m n gets also

    free_in : (number m : ℕ) → o.overwrites begun ≡ Some number → q.free v ≡ true →
        q.lanes v ≡ Asks (call_of begun.asks) → HasPhase (Some begun) m (p.lanes v) → At v
    free_in number m some freed asks (inl also) = stays (also.asks ∙ sym asks)
    free_in number m some freed asks (inr gets) = by
        (one_answer begun.ends over.reply gets.reply over.may gets.may)
      where
        over : IsOverwriting o begun number
        over = overwriting_to o lawful begun number some

        by : (over.reply ≡ gets.reply) ⊎ (begun.ends ≡ Never) → At v
        by (inl one) = is_hidden begun over.reply over.next is_open freed asks over.overwrites
            (gets.gets ∙ ap Gets (sym one))
        by (inr never) = ends_never begun gets.reply is_open never gets.gets

    read_in : (m n : ℕ) → reads_only begun ≡ true → HasPhase (Some begun) m (p.lanes v) →
        IsInEffect begun n (q.lanes v) → At v
    read_in m n reads (inl asks) gets = reads_it begun is_open still asks.asks (gets.gets ∙ ap Gets (sym told))
      where
        still : IsUnchanging o begun
        still = lawful.reading begun reads

        told : reply_of still.told ≡ gets.reply
        told = subst (λ (e : Ending). MayGet e gets.reply) still.ends gets.may
    read_in m n reads (inr also) gets = both_get m n also gets

    at_open : At v
    at_open = by (covered.each v begun is_open)
      where
        by : CoversIn o begun v y x → At v
        by (is_same bits more) = same_in (bit_at x.in_effect v) (bit_at y.in_effect v) bits
            (phase_at o table reads_x v begun is_open) (phase_at o table reads_y v begun is_open)
        by (is_free number some freed) = free_in number (bit_at x.in_effect v) some ((reads_y.free v).1 freed) (asks_at
            o table reads_y v begun is_open (reads_y.kinds v freed).waits) (phase_at o table reads_x v begun is_open)
        by (has_read reads taken) = read_in (bit_at x.in_effect v) (bit_at y.in_effect v) reads
            (phase_at o table reads_x v begun is_open) (gets_at o table reads_y v begun is_open taken)
        by (never_ends never taken) = let gets = gets_at o table reads_x v begun is_open taken in
            ends_never begun gets.reply is_open never gets.gets

  at : (v : ℕ) → At v
  at v = by (open_at table v) refl
    where
      idle : (n : ℕ) (phase : Phase) → open_at table v ≡ None → HasPhase (open_at table v) n phase → phase ≡ Idle
      idle n phase none has = subst (λ (slot : Option OpenCall). HasPhase slot n phase) none has

      by : (slot : Option OpenCall) → open_at table v ≡ slot → At v
      by None none = stays (idle (bit_at x.in_effect v) (p.lanes v) none (reads_x.lanes v) ∙
          sym (idle (bit_at y.in_effect v) (q.lanes v) none (reads_y.lanes v)))
      by (Some begun) is = at_open v begun is

  abbrev readers : ℕ → Bool
  readers v = is_reader o table (at v)

  abbrev endless : ℕ → Bool
  endless v = is_endless o table (at v)

  fewer : (v : ℕ) → readers v ≡ false → p.free v ≡ true → q.free v ≡ true
  fewer v not free = by (covered.each v it.begun it.is_open)
    where
      bit : bit_at x.free v ≡ 1
      bit = (reads_x.free v).0 free

      it : IsFreeCall o (open_at table v) (bit_at x.in_effect v)
      it = reads_x.kinds v bit

      by : CoversIn o it.begun v y x → q.free v ≡ true
      by (is_same bits more) = (reads_y.free v).1 (more bit)
      by (is_free number some freed) = (reads_y.free v).1 freed
      by (has_read reads taken) = let gets = gets_at o table reads_y v it.begun it.is_open taken in
          absurd (true_or_false (reader_if o table (at v) (call_of it.begun.asks)
          gets.reply (asks_at o table reads_x v it.begun it.is_open it.waits) gets.gets) not)
      by (never_ends never taken) = let waits = it.waits in absurd (omega (arith, waits, taken))

  abbrev between : run.Position S
  between = record {
    state = p.state;
    lanes = λ v. settled o table (at v);
    free = q.free;
  }

  abbrev after : Lanes
  after v = undone o table (at v)

  abbrev then : run.Position S
  then = record { state = p.state; lanes = after; free = q.free }

  -- the lanes below are as after, the others as in the position that covers
  abbrev filled : ℕ → Lanes
  filled zero = q.lanes
  filled (suc n) = set_of (filled n) n (after n)

  filled_below : (n v : ℕ) → v < n → filled n v ≡ after v
  filled_below zero v low = absurd (omega (arith, low))
  filled_below (suc n) v low = by (cases_eq v n) (λ apart. filled_below n v (omega (arith, low, apart)))
    where
      by : (v ≡ n) ⊎ (v ≢ n) → (v ≢ n → filled n v ≡ after v) → filled (suc n) v ≡ after v
      by (inl is) rest = subst (λ (u : ℕ). filled (suc n) u ≡ after u) (sym is)
          (sets_of (filled n) n (after n)).here
      by (inr apart) rest = (sets_of (filled n) n (after n)).others v apart ∙ rest apart

  filled_above : (n v : ℕ) → n ≤ v → filled n v ≡ q.lanes v
  filled_above zero v far = refl
  filled_above (suc n) v far = (sets_of (filled n) n (after n)).others v (λ e. absurd (omega (arith, far, e))) ∙
      filled_above n v (omega (arith, far))

  hidden_below : (n : ℕ) → Hidden o.step q.free None q.lanes (filled n)
  hidden_below zero = no_more
  hidden_below (suc n) = hidden_on o.step (hidden_below n) (hidden_one o table (at n) q.free (filled n) refl
      (filled_above n n (omega arith)))

  all_hidden : Hidden o.step q.free None q.lanes after
  all_hidden = subst (λ (l : Lanes). Hidden o.step q.free None q.lanes l)
      (λ i v. each v (cases_lt v (length table)) i) (hidden_below (length table))
    where
      each : (v : ℕ) → (v < length table) ⊎ (length table ≤ v) → filled (length table) v ≡ after v
      each v (inl low) = filled_below (length table) v low
      each v (inr far) = filled_above (length table) v far ∙ sym (beyond o table (at v) far)

  -- so the one is kept as the other
  pub kept_covered : (fits : List Event → Type 0) → ((future : List Event) → fits future → (v : ℕ) (b : OpenCall) →
      open_at table v ≡ Some b → EndsSo v b.ends future) → p.state ≡ q.state → IsKeptAs o.step fits p q
  kept_covered fits ends same = record {
    between = between;
    then = then;
    settled = record {
      readers = readers;
      told = λ v. told_of o table (at v);
      state = refl;
      shown = record {
        read = λ v is. settled_reads o table (at v) is;
        others = λ v not. settled_others o table (at v) not;
      };
      free = fewer;
      each = λ v is. reader_told o table fits (λ future fit b opens. ends future fit v b opens) (at v) is;
      apart = λ v is call asks. reader_never o table (at v) is call asks;
    };
    undone = record {
      endless = endless;
      state = refl;
      asking = record {
        in_effect = λ v is. settled_endless o table (at v) is;
        others = λ v not. undone_others o table (at v) not;
      };
      free = λ v not free. free;
      never = λ v is future fit. endless_told o table fits
          (λ later fits_later b opens. ends later fits_later v b opens) (at v) is future fit;
    };
    covers = λ s lanes stands. record {
      same = sym same ∙ stands.same;
      hidden = hidden_on o.step all_hidden stands.hidden;
    };
  }

-- a position covers itself
pub covered_by_itself : {S : Type 0} (o : Judged S) (table : List (Option OpenCall)) (x : Position) →
    IsCoveredBy o table x x
covered_by_itself o table x = record { state = refl; each = λ v begun opens. is_same refl (λ free. free) }

-- one of these positions covers it
pub record HasCovering {S : Type 0} (o : Judged S) (table : List (Option OpenCall)) (new : List Position)
    (x : Position) : Type 0 where
  pub position : Position
  pub among : Contains new position
  pub covers : IsCoveredBy o table position x

-- what is left where the positions that were dropped are covered; each number tells one state
module _ {S : Type 0} (o : Judged S) (lawful : IsLawful o)
    (one : (n : ℕ) (s t : S) → o.holds n s → o.holds n t → s ≡ t) (table : List (Option OpenCall))
    (old new : List Position) (only : Includes new old)
    (each : (x : Position) → Contains old x → HasCovering o table new x) where
  module _ (past : List Event) (last : ℕ) (are : AreKept o past table last old) where
    abbrev Old : run.Position S → Type 0
    Old q = IsKept o past table old q

    abbrev New : run.Position S → Type 0
    New q = IsKept o past table new q

    possible_at : (x : Position) → Contains old x → IsPossible o past table x
    possible_at x among = All-contains (IsPossible o past table) old x are.possible among

    reached : (q : run.Position S) → New q → IsReached o.step Old q
    reached q is = from_old q q (record {
      is = record { numbers = is.is.numbers; among = only is.is.numbers is.is.among; reads = is.is.reads };
      may_be = is.may_be;
    }) refl no_more (λ v free. free)

    keep : (p : run.Position S) → Old p → OneOf New (IsKeptAs o.step (ComesAsTold (open_at table) last) p)
    keep p is = record {
      position = possible.position;
      there = record {
        is = record { numbers = by.position; among = by.among; reads = possible.reads };
        may_be = possible.may_be;
      };
      is = kept_covered o lawful table by.position is.is.numbers by.covers possible.position p possible.reads
          is.is.reads (ComesAsTold (open_at table) last) (λ future fit v b opens. fit.ends v b opens)
          (one by.position.state p.state possible.position.state
          (subst (λ (n : ℕ). o.holds n p.state) by.covers.state is.is.reads.state) possible.reads.state);
    }
      where
        by : HasCovering o table new is.is.numbers
        by = each is.is.numbers is.is.among

        possible : IsPossible o past table by.position
        possible = possible_at by.position (only by.position by.among)

    pub kept_thinned : AreKept o past table last new
    kept_thinned = record {
      lanes = are.lanes;
      possible = all_from (IsPossible o past table) new (λ x among. possible_at x (only x among));
      stand = stand_as_kept o.step o.start past (ComesAsTold (open_at table) last) Old New are.stand reached keep;
    }

-- the lanes of one position and of another, by tests
module _ {S : Type 0} (o : Judged S) (table : List (Option OpenCall)) (kinds : Kinds) (y x : Position) where
  pub covered_by_tests : x.state ≡ y.state →
      ((v : ℕ) → bit_at (bit_and x.in_effect kinds.busy) v ≡ 1 → bit_at (bit_or (bit_or y.in_effect
      (bit_and y.free kinds.overwriting)) kinds.endless) v ≡ 1) →
      ((v : ℕ) → bit_at (bit_and y.in_effect kinds.busy) v ≡ 1 →
      bit_at (bit_or x.in_effect kinds.reading) v ≡ 1) →
      ((v : ℕ) → bit_at (bit_and x.free kinds.busy) v ≡ 1 →
      bit_at (bit_or y.free (bit_and y.in_effect kinds.reading)) v ≡ 1) →
      AreKinds o table kinds → IsCoveredBy o table y x
  covered_by_tests same first second third are = record { state = same; each = λ v begun is. at v begun is }
    where
      busy : (v : ℕ) (begun : OpenCall) → open_at table v ≡ Some begun → bit_at kinds.busy v ≡ 1
      busy v begun is = are.busy.each v begun is

      both : (a b v : ℕ) → bit_at a v ≡ 1 → bit_at b v ≡ 1 → bit_at (bit_and a b) v ≡ 1
      both a b v one other = bit_at_and a b v ∙ (omega (arith, one, other))

      parts : (a b v : ℕ) → bit_at (bit_and a b) v ≡ 1 → (bit_at a v ≡ 1) × (bit_at b v ≡ 1)
      parts a b v is = let low = bit_at-lt a v in let low_b = bit_at-lt b v in let least = bit_at_and a b v in (
        omega (arith, is, least, low, low_b),
        omega (arith, is, least, low, low_b),
      )

      either : (a b v : ℕ) → bit_at (bit_or a b) v ≡ 1 → (bit_at a v ≡ 1) ⊎ (bit_at b v ≡ 1)
      either a b v is = by (cases_eq (bit_at a v) 1)
        where
          by : (bit_at a v ≡ 1) ⊎ (bit_at a v ≢ 1) → (bit_at a v ≡ 1) ⊎ (bit_at b v ≡ 1)
          by (inl one) = inl one
          by (inr not) = let low = bit_at-lt a v in let low_b = bit_at-lt b v in let most = bit_at_or a b v in
              inr (omega (arith, is, most, low, low_b, not))

      kind_at : (v : ℕ) (begun : OpenCall) (Kind : OpenCall → Type 0) → open_at table v ≡ Some begun →
          IsOpenAs table Kind v → Kind begun
      kind_at v begun Kind is opens = subst (λ (c : OpenCall). Kind c)
          (one_open table v opens.begun begun opens.is_open is) opens.kind

      hidden_or : (v : ℕ) (begun : OpenCall) → open_at table v ≡ Some begun → bit_at x.in_effect v ≡ 1 →
          bit_at y.in_effect v ≡ 0 → CoversIn o begun v y x
      hidden_or v begun is taken waits = by (either (bit_or y.in_effect (bit_and y.free kinds.overwriting))
          kinds.endless v (first v (both x.in_effect kinds.busy v taken (busy v begun is))))
        where
          or_hidden : (bit_at y.in_effect v ≡ 1) ⊎ (bit_at (bit_and y.free kinds.overwriting) v ≡ 1) →
              CoversIn o begun v y x
          or_hidden (inl also) = absurd (omega (arith, also, waits))
          or_hidden (inr free) = let here = parts y.free kinds.overwriting v free in
              let some = kind_at v begun (λ c. (number : ℕ) × (o.overwrites c ≡ Some number)) is
              (are.overwriting v here.1) in is_free some.0 some.1 here.0

          by : (bit_at (bit_or y.in_effect (bit_and y.free kinds.overwriting)) v ≡ 1) ⊎ (bit_at kinds.endless v ≡ 1) →
              CoversIn o begun v y x
          by (inr never) = never_ends (kind_at v begun (λ c. c.ends ≡ Never) is (are.endless v never)) taken
          by (inl there) = or_hidden (either y.in_effect (bit_and y.free kinds.overwriting) v there)

      read_it : (v : ℕ) (begun : OpenCall) → open_at table v ≡ Some begun → bit_at kinds.reading v ≡ 1 →
          bit_at y.in_effect v ≡ 1 → CoversIn o begun v y x
      read_it v begun is reads taken =
          has_read (kind_at v begun (λ c. reads_only c ≡ true) is (are.reading v reads)) taken

      read_only : (v : ℕ) (begun : OpenCall) → open_at table v ≡ Some begun → bit_at x.in_effect v ≡ 0 →
          bit_at y.in_effect v ≡ 1 → CoversIn o begun v y x
      read_only v begun is waits taken = by (either x.in_effect kinds.reading v
          (second v (both y.in_effect kinds.busy v taken (busy v begun is))))
        where
          by : (bit_at x.in_effect v ≡ 1) ⊎ (bit_at kinds.reading v ≡ 1) → CoversIn o begun v y x
          by (inl also) = absurd (omega (arith, also, waits))
          by (inr reads) = read_it v begun is reads taken

      freer : (v : ℕ) (begun : OpenCall) → open_at table v ≡ Some begun → bit_at x.in_effect v ≡ bit_at y.in_effect v →
          bit_at x.free v ≡ 1 → CoversIn o begun v y x
      freer v begun is bits free = by (either y.free (bit_and y.in_effect kinds.reading) v
          (third v (both x.free kinds.busy v free (busy v begun is))))
        where
          by : (bit_at y.free v ≡ 1) ⊎ (bit_at (bit_and y.in_effect kinds.reading) v ≡ 1) → CoversIn o begun v y x
          by (inl also) = is_same bits (λ was. also)
          by (inr read) = let here = parts y.in_effect kinds.reading v read in read_it v begun is here.1 here.0

      at : (v : ℕ) (begun : OpenCall) → open_at table v ≡ Some begun → CoversIn o begun v y x
      at v begun is = by (cases_eq (bit_at x.in_effect v) 1) (cases_eq (bit_at y.in_effect v) 1)
          (cases_eq (bit_at x.free v) 1)
        where
          by : (bit_at x.in_effect v ≡ 1) ⊎ (bit_at x.in_effect v ≢ 1) →
              (bit_at y.in_effect v ≡ 1) ⊎ (bit_at y.in_effect v ≢ 1) →
              (bit_at x.free v ≡ 1) ⊎ (bit_at x.free v ≢ 1) → CoversIn o begun v y x
          by (inl one) (inr not) any = hidden_or v begun is one (bit_unset y.in_effect v not)
          by (inr not) (inl one) any = read_only v begun is (bit_unset x.in_effect v not) one
          by (inl one) (inl also) (inl free) = freer v begun is (one ∙ sym also) free
          by (inl one) (inl also) (inr unfree) = is_same (one ∙ sym also) (λ free. absurd (unfree free))
          by (inr not) (inr nor) (inl free) = freer v begun is
              (bit_unset x.in_effect v not ∙ sym (bit_unset y.in_effect v nor)) free
          by (inr not) (inr nor) (inr unfree) = is_same
              (bit_unset x.in_effect v not ∙ sym (bit_unset y.in_effect v nor)) (λ free. absurd (unfree free))

-- one lane more has a call of a kind
pub open_more : (table : List (Option OpenCall)) (Kind : OpenCall → Type 0) (old new lane : ℕ) (is : Bool)
    (begun : OpenCall) → open_at table lane ≡ Some begun → (is ≡ true → Kind begun) → ((other : ℕ) →
    bit_at new other ≡ 1 → (bit_at old other ≡ 1) ⊎ ((other ≡ lane) × (is ≡ true))) → AreOpenAs table Kind old →
    AreOpenAs table Kind new
open_more table Kind old new lane is begun opens so adds are other one = by (adds other one)
  where
    by : (bit_at old other ≡ 1) ⊎ ((other ≡ lane) × (is ≡ true)) → IsOpenAs table Kind other
    by (inl was) = are other was
    by (inr (same, holds)) = record {
      begun = begun;
      is_open = subst (λ (v : ℕ). open_at table v ≡ Some begun) (sym same) opens;
      kind = so holds;
    }

pub none_open_as : (table : List (Option OpenCall)) (Kind : OpenCall → Type 0) → AreOpenAs table Kind 0
none_open_as table Kind lane is = let none = bit_at-zero lane in absurd (omega (arith, is, none))

-- the elements of a list but one
get_in_remove : (xs : List Position) (at k : ℕ) (d : Position) → at < length xs → k < length xs → k ≢ at →
    Contains (remove xs at) (get_or xs k d)
get_in_remove xs at k d less within apart = by (cases_lt k at)
  where
    by : (k < at) ⊎ (at ≤ k) → Contains (remove xs at) (get_or xs k d)
    by (inl low) = subst (λ (y : Position). Contains (remove xs at) y) (get_or-remove_below xs at d k low less)
        (Contains-get_or (remove xs at) k d (let long = length-remove xs at less in omega (arith, long, low, less)))
    by (inr high) = subst (λ (y : Position). Contains (remove xs at) y)
        (get_or-remove_above xs at d (k - 1) (omega (arith, high, apart)) less ∙
        ap (λ (i : ℕ). get_or xs i d) (omega (arith, high, apart)))
        (Contains-get_or (remove xs at) (k - 1) d
        (let long = length-remove xs at less in omega (arith, long, high, apart, within)))

contains_from_remove : (xs : List Position) (at : ℕ) (x : Position) → at < length xs → Contains (remove xs at) x →
    Contains xs x
contains_from_remove xs at x less (k, within, is) = by (cases_lt k at)
  where
    long : length (remove xs at) + 1 ≡ length xs
    long = length-remove xs at less

    by : (k < at) ⊎ (at ≤ k) → Contains xs x
    by (inl low) = (k, omega (arith, low, less), sym (get_or-remove_below xs at x k low less) ∙ is)
    by (inr high) = (
      k + 1,
      omega (arith, within, long),
      sym (get_or-remove_above xs at x k high less) ∙ is,
    )

-- positions are dropped one by one
module _ {S : Type 0} (o : Judged S) (table : List (Option OpenCall)) where
  module _ (lawful : IsLawful o) (one : (n : ℕ) (s t : S) → o.holds n s → o.holds n t → s ≡ t) where
    pub one_dropped : (old xs : List Position) (at : ℕ) (d : Position) → at < length xs → IsThinned o table old xs →
        IsCoveredAt o table at xs → IsThinned o table old (remove xs at)
    one_dropped old xs at d less so_far covered = record {
      kept = λ past last are. kept_thinned o lawful one table xs (remove xs at) only each past last
          (so_far.kept past last are);
      only = λ x among. so_far.only x (only x among);
      fewer = let long = length-remove xs at less in let was = so_far.fewer in omega (arith, long, was);
      some = λ more. let long = length-remove xs at less in let near = covered.within in let far = covered.apart in
          omega (arith, long, less, near, far);
    }
      where
        only : Includes (remove xs at) xs
        only x among = contains_from_remove xs at x less among

        itself : (x : Position) → Contains (remove xs at) x → HasCovering o table (remove xs at) x
        itself x among = record { position = x; among = among; covers = covered_by_itself o table x }

        each : (x : Position) → Contains xs x → HasCovering o table (remove xs at) x
        each x (k, within, is) = by (cases_eq k at)
          where
            by : (k ≡ at) ⊎ (k ≢ at) → HasCovering o table (remove xs at) x
            by (inr apart) = itself x (subst (λ (y : Position). Contains (remove xs at) y) is
                (get_in_remove xs at k x less within apart))
            by (inl same) = record {
              position = get_or xs covered.place x;
              among = get_in_remove xs at covered.place x less covered.within covered.apart;
              covers = subst (λ (y : Position). IsCoveredBy o table (get_or xs covered.place x) y)
                  (ap (λ (i : ℕ). get_or xs i x) (sym same) ∙ is) (covered.covers x);
            }
