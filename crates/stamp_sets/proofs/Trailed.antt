-- Positions that are traced, once an event has come.
use Rattle.std.proofs.Common.{ℕ, ◌≡◌, ◌≢◌, ◌⊎◌, ◌+◌, ◌<◌, List, [], ◌∷◌, ◌++◌, length, Option}
use Rattle.std.proofs.Common.{Some, None}
use Rattle.std.proofs.Common.{refl, sym, ◌∙◌, ap, subst, inl, inr, arith}
use Rattle.std.specs.Prelude.{slice_set}
use Rattle.std.specs.Int.{bit_at}
use Rattle.std.proofs.lemmas.Bool.{cases_eq}
use Rattle.std.proofs.lemmas.List.{length-append, length-set}
use Rattle.std.proofs.lemmas.Nat.Bits.{same_from_bits}
use Rattle.stamp_core.specs.declared.reply.Reply.{Reply}
use Rattle.stamp_runs.specs.Position as run
use Rattle.stamp_runs.specs.Run.Phase.{Asks, Gets, Idle}
use Rattle.stamp_runs.specs.Run.{Sets}
use Rattle.stamp_runs.specs.Trace.{IsTrace, taken_at as taken_when}
use Rattle.stamp_runs.specs.Trace.IsTrace.{with_effect, with_event}
use Rattle.stamp_runs.specs.Trace.Move.{Takes as taking}
use Rattle.stamp_runs.specs.declared.event.Event.{Event}
use Rattle.stamp_runs.specs.declared.event.Event.TheVariants as event
use Rattle.stamp_runs.proofs.Lanes.{asks_or_gets, sets_of}
use Rattle.stamp_runs.proofs.Traces.{trace_fewer}
use Rattle.stamp_sets.specs.declared.ending.Ending.{Ending}
use Rattle.stamp_sets.specs.declared.ending.Ending.TheVariants.{Returns, Withdraws}
use Rattle.stamp_sets.specs.declared.open_call.OpenCall.{OpenCall}
use Rattle.stamp_sets.specs.declared.position.Position.{Position}
use Rattle.stamp_sets.specs.declared.small_call.SmallReply.{SmallReply}
use Rattle.stamp_sets.specs.declared.trail.Entry.{Entry}
use Rattle.stamp_sets.specs.declared.trail.Entry.TheVariants as entry
use Rattle.stamp_sets.specs.Judged.{Judged}
use Rattle.stamp_sets.specs.Kept.{HasPhase, IsInEffect, Reads}
use Rattle.stamp_sets.specs.SmallCall.{call_of, reply_of}
use Rattle.stamp_sets.specs.Told.{MayGet, open_at}
use Rattle.stamp_sets.specs.Tracing.{IsReturnedFrom}
use Rattle.stamp_sets.specs.inner.Effect.{Settles}
use Rattle.stamp_sets.specs.inner.Effect.Settles.{as_it_is, one_more}
use Rattle.stamp_sets.specs.inner.Step.{BeginsIn}
use Rattle.stamp_sets.specs.Tracing.{IsTracedBy, Says, events_in}
use Rattle.stamp_sets.proofs.Lawful.{IsLawful}
use Rattle.stamp_sets.proofs.Reading.{bit_unset, gets_at, moved, not_set, set_bit, taken_at}
use Rattle.stamp_sets.proofs.Reading.{unfree_at}
use Rattle.stamp_sets.proofs.Settled.{SettledTo, settled_to}
use Rattle.stamp_sets.proofs.Returned.{read_returned, taken_unfree}
use Rattle.stamp_sets.proofs.Stepping.{asks_in_each, idle_unfree, reads_begun, reads_ended, withdrawn_unfree}
use Rattle.stamp_sets.proofs.Tables.{idle_apart, open_at_set_here, open_at_set_other}
use Rattle.stamp_sets.proofs.Tables.{open_at_within}
use Rattle.stamp_sets.proofs.Turns.{WasSeen, seen_at}

one_event_more : (past : List Event) (n : ℕ) (e : Event) → n ≡ length past → n + 1 ≡ length (past ++ e ∷ [])
one_event_more past n e same = let long = length-append past (e ∷ []) in omega (arith, long, same)

module _ {S : Type 0} (o : Judged S) (past : List Event) (table : List (Option OpenCall)) (lane : ℕ)
    (trail : List Entry) (begun : OpenCall) (is_open : open_at table lane ≡ Some begun) where
  -- lanes without a call, once this one has none
  idle_then : (x y : Position) → ((v : ℕ) → v ≢ lane → bit_at y.in_effect v ≡ bit_at x.in_effect v) →
      bit_at y.in_effect lane ≡ 0 → ((v : ℕ) → open_at table v ≡ None → bit_at x.in_effect v ≡ 0) → (v : ℕ) →
      open_at (slice_set table lane None) v ≡ None → bit_at y.in_effect v ≡ 0
  idle_then x y others here idle v none = by (cases_eq v lane)
    where
      by : (v ≡ lane) ⊎ (v ≢ lane) → bit_at y.in_effect v ≡ 0
      by (inl same) = subst (λ (w : ℕ). bit_at y.in_effect w ≡ 0) (sym same) here
      by (inr apart) = others v apart ∙ idle v (sym (open_at_set_other table lane v None apart) ∙ none)

  -- its call returns, which is in effect
  pub return_traced : (reply : Reply) (told : SmallReply) (place : ℕ) (x y : Position) →
      begun.ends ≡ Returns told place → reply_of told ≡ reply → IsReturnedFrom lane x y →
      IsTracedBy o past table trail x →
      IsTracedBy o (past ++ event.Returns lane reply ∷ []) (slice_set table lane None) (entry.Returns lane ∷ trail) y
  return_traced reply told place x y ends same returned is = record {
    full = length-set table lane None ∙ is.full;
    events = one_event_more past (events_in trail) (event.Returns lane reply) is.events;
    position = after;
    reads = read_returned o table lane is.reads unset returned;
    moves = is.moves;
    trace = with_event is.position after (event.Returns lane reply) is.trace refl (
      taken.gets ∙ ap Gets (sym (subst (λ (e : Ending). MayGet e taken.reply) ends taken.may) ∙ same),
      sets_of is.position.lanes lane Idle,
    ) (not_set y.free lane (subst (λ (n : ℕ). bit_at n lane ≡ 0) (sym returned.free) unset))
        (λ v free. (is.reads.free v).1 (was v ((set_bit y.free v).0 free)));
    says = (within, x, returned, is.says);
    idle = idle_then x y returned.clears.others returned.clears.here is.idle;
  }
    where
      after : run.Position S
      after = moved is.position lane Idle is.position.state y.free

      within : lane < 64
      within = let low = open_at_within table lane begun is_open in let full = is.full in omega (arith, low, full)

      taken : IsInEffect begun (bit_at x.in_effect lane) (is.position.lanes lane)
      taken = gets_at o table is.reads lane begun is_open returned.taken

      was : (v : ℕ) → bit_at y.free v ≡ 1 → bit_at x.free v ≡ 1
      was v free = subst (λ (n : ℕ). bit_at n v ≡ 1) returned.free free

      unset : bit_at x.free lane ≡ 0
      unset = taken_unfree o table lane x is.position is.reads returned.taken

  -- it is withdrawn
  pub withdrawal_traced : (lawful : IsLawful o) (x : Position) → begun.ends ≡ Withdraws →
      IsTracedBy o past table trail x →
      IsTracedBy o (past ++ event.Withdraws lane ∷ []) (slice_set table lane None) (entry.Withdraws ∷ trail) x
  withdrawal_traced lawful x ends is = record {
    full = length-set table lane None ∙ is.full;
    events = one_event_more past (events_in trail) (event.Withdraws lane) is.events;
    position = after;
    reads = reads_ended o lawful past table 0 lane begun [] is_open ends is.position x is.reads;
    moves = is.moves;
    trace = with_event is.position after (event.Withdraws lane) is.trace refl (
      call_of begun.asks,
      asks_in_each o lawful past table 0 lane begun [] is_open ends is.position x is.reads,
      sets_of is.position.lanes lane Idle,
    ) (not_set x.free lane (bit_unset x.free lane (λ free. withdrawn_unfree o lawful past table 0 lane begun [] is_open
        ends is.position x is.reads lane free refl))) (λ v free. (is.reads.free v).1 ((set_bit x.free v).0 free));
    says = is.says;
    idle = idle_then x x (λ v apart. refl) waits is.idle;
  }
    where
      after : run.Position S
      after = moved is.position lane Idle is.position.state x.free

      waits : bit_at x.in_effect lane ≡ 0
      waits = bit_unset x.in_effect lane (λ set. let taken = gets_at o table is.reads lane begun is_open set in
          subst (λ (e : Ending). MayGet e taken.reply) ends taken.may)

-- what settles in one lane is the same in the others
record SettledBeside (lane : ℕ) (p q : Position) : Type 0 where
  state : q.state ≡ p.state
  others : (v : ℕ) → v ≢ lane → bit_at q.in_effect v ≡ bit_at p.in_effect v
  free : bit_at p.free lane ≡ 0 → (v : ℕ) → bit_at q.free v ≡ bit_at p.free v

settled_beside : {S : Type 0} (o : Judged S) (table : List (Option OpenCall)) (lane : ℕ) (p q : Position) →
    Settles o table (λ l. l ≡ lane) p q → SettledBeside lane p q
settled_beside o table lane p q as_it_is = record {
  state = refl;
  others = λ v apart. refl;
  free = λ none v. refl;
}
settled_beside o table lane p q (one_more x y rest last) = let was = settled_beside o table lane p x rest in record {
  state = last.same ∙ was.state;
  others = λ v apart. last.takes.sets.others v (λ at. apart (at ∙ last.among)) ∙ was.others v apart;
  free = λ none v. by was none v (cases_eq v last.lane);
}
  where
    by : SettledBeside lane p x → bit_at p.free lane ≡ 0 → (v : ℕ) → (v ≡ last.lane) ⊎ (v ≢ last.lane) →
        bit_at q.free v ≡ bit_at p.free v
    by was none v (inr apart) = last.clears.others v apart ∙ was.free none v
    by was none v (inl same) = subst (λ (w : ℕ). bit_at q.free w ≡ bit_at p.free w) (sym same)
        (last.clears.here ∙ sym (subst (λ (w : ℕ). bit_at p.free w ≡ 0) (sym last.among) none))

-- a call begins, and takes effect at once or not
module _ {S : Type 0} (o : Judged S) (past : List Event) (table : List (Option OpenCall)) (lane : ℕ)
    (trail : List Entry) (begun : OpenCall) (below : lane < 64) (none : open_at table lane ≡ None) (x y : Position)
    (begins : BeginsIn o begun lane x y) (is : IsTracedBy o past table trail x) where
  abbrev later : List (Option OpenCall)
  later = slice_set table lane (Some begun)

  abbrev itself : Event
  itself = event.Begins lane (call_of begun.asks)

  abbrev After : Type 0
  After = IsTracedBy o (past ++ itself ∷ []) later (entry.Begins lane ∷ trail) y

  here : open_at later lane ≡ Some begun
  here = let full = is.full in open_at_set_here table lane (Some begun) (omega (arith, below, full))

  abbrev first : run.Position S
  first = moved is.position lane (Asks (call_of begun.asks)) is.position.state begins.plain.free

  was_free : (v : ℕ) → bit_at begins.plain.free v ≡ 1 → bit_at x.free v ≡ 1
  was_free v free = subst (λ (n : ℕ). bit_at n v ≡ 1) begins.free free

  first_reads : Reads o later begins.plain first
  first_reads = reads_begun o table lane begun none is.reads here begins

  settles : Settles o later (λ l. l ≡ lane) begins.plain y
  settles = begins.settles.settles later here

  to : SettledTo o later (λ l. l ≡ lane) y first
  to = settled_to o later (λ l. l ≡ lane) begins.plain y first settles first_reads

  beside : SettledBeside lane begins.plain y
  beside = settled_beside o later lane begins.plain y settles

  first_trace : IsTrace o.step o.start (past ++ itself ∷ []) is.moves first
  first_trace = with_event is.position first itself is.trace refl (
    subst (λ (slot : Option OpenCall). HasPhase slot (bit_at x.in_effect lane) (is.position.lanes lane)) none
        (is.reads.lanes lane),
    sets_of is.position.lanes lane (Asks (call_of begun.asks)),
  ) (not_set begins.plain.free lane (bit_unset begins.plain.free lane
      (λ free. idle_unfree o table lane begun none is.reads lane (was_free lane free) refl)))
      (λ v free. (is.reads.free v).1 (was_free v ((set_bit begins.plain.free v).0 free)))

  others_bits : (v : ℕ) → v ≢ lane → bit_at y.in_effect v ≡ bit_at x.in_effect v
  others_bits v apart = beside.others v apart ∙ begins.clears.others v apart

  same_free : y.free ≡ x.free
  same_free = same_from_bits y.free x.free (λ v. beside.free (bit_unset begins.plain.free lane (λ free. idle_unfree o
      table lane begun none is.reads lane (was_free lane free) refl)) v ∙ ap (λ (n : ℕ). bit_at n v) begins.free)

  idle_later : (v : ℕ) → open_at later v ≡ None → bit_at y.in_effect v ≡ 0
  idle_later v idle = others_bits v apart ∙
      is.idle v (sym (open_at_set_other table lane v (Some begun) apart) ∙ idle)
    where
      apart : v ≢ lane
      apart at = idle_apart later v lane begun idle here (sym at)

  seen : (v : ℕ) → (to.then.lanes v ≡ first.lanes v) ⊎
      WasSeen o.step (λ l. l ≡ lane) first.state v (first.lanes v) (to.then.lanes v)
  seen = seen_at o.step (λ l. l ≡ lane) first.state first.lanes to.then.lanes to.sees

  -- it is in effect
  taken_traced : bit_at y.in_effect lane ≡ 1 → After
  taken_traced taken = by (seen lane)
    where
      sets : (reply : Reply) → to.then.lanes lane ≡ Gets reply → Sets first.lanes to.then.lanes lane (Gets reply)
      sets reply gets = record { here = gets; others = λ v apart. other v apart (seen v) }
        where
          other : (v : ℕ) → v ≢ lane → (to.then.lanes v ≡ first.lanes v) ⊎
              WasSeen o.step (λ l. l ≡ lane) first.state v (first.lanes v) (to.then.lanes v) →
              to.then.lanes v ≡ first.lanes v
          other v apart (inl same) = same
          other v apart (inr was) = absurd (apart was.among)

      by : (to.then.lanes lane ≡ first.lanes lane) ⊎
          WasSeen o.step (λ l. l ≡ lane) first.state lane (first.lanes lane) (to.then.lanes lane) → After
      by (inl same) = absurd (asks_or_gets (same ∙ (sets_of is.position.lanes lane (Asks (call_of begun.asks))).here)
          (gets_at o later to.reads lane begun here taken).gets)
      by (inr was) = record {
        full = length-set table lane (Some begun) ∙ is.full;
        events = one_event_more past (events_in trail) itself is.events;
        position = to.then;
        reads = to.reads;
        moves = taking (taken_when (length (past ++ itself ∷ [])) (lane, was.reply)) ∷ is.moves;
        trace = with_effect first to.then lane was.call was.reply first_trace was.asks
            (subst (λ (s : S). o.step first.state was.call was.reply s) to.state was.step) (sets was.reply was.gets)
            (unfree_at o later y to.then lane to.reads
            (λ free. let waits = (to.reads.kinds lane free).waits in omega (arith, waits, taken))) to.fewer;
        says = (
          below,
          inr (
            x,
            is.moves,
            was.reply,
            record {
              taken = taken;
              state = sym (beside.state ∙ begins.state);
              clears = record { here = is.idle lane none; others = λ v apart. sym (others_bits v apart) };
              free = sym same_free;
            },
            ap (λ (n : ℕ). taking (taken_when n (lane, was.reply)) ∷ is.moves)
                (sym (one_event_more past (events_in trail) itself is.events)),
            is.says,
          ),
        );
        idle = idle_later;
      }

  -- it is not
  waiting_traced : bit_at y.in_effect lane ≢ 1 → After
  waiting_traced waits = record {
    full = length-set table lane (Some begun) ∙ is.full;
    events = one_event_more past (events_in trail) itself is.events;
    position = to.then;
    reads = to.reads;
    moves = is.moves;
    trace = trace_fewer o.step o.start first to.then first_trace to.state (λ i v. sym (by v (seen v)) i) to.fewer;
    says = (below, inl (waits, subst (λ (z : Position). Says trail z is.moves) (sym same) is.says));
    idle = idle_later;
  }
    where
      by : (v : ℕ) → (to.then.lanes v ≡ first.lanes v) ⊎
          WasSeen o.step (λ l. l ≡ lane) first.state v (first.lanes v) (to.then.lanes v) →
          to.then.lanes v ≡ first.lanes v
      by v (inl still) = still
      by v (inr was) = absurd (waits (taken_at o later to.reads lane begun here was.reply
          (subst (λ (w : ℕ). to.then.lanes w ≡ Gets was.reply) was.among was.gets)))

      bits : (v : ℕ) → (v ≡ lane) ⊎ (v ≢ lane) → bit_at y.in_effect v ≡ bit_at x.in_effect v
      bits v (inl at) = subst (λ (w : ℕ). bit_at y.in_effect w ≡ bit_at x.in_effect w) (sym at)
          (bit_unset y.in_effect lane waits ∙ sym (is.idle lane none))
      bits v (inr apart) = others_bits v apart

      numbers : y.in_effect ≡ x.in_effect
      numbers = same_from_bits y.in_effect x.in_effect (λ v. bits v (cases_eq v lane))

      same : y ≡ x
      same = λ i. record {
        state = (beside.state ∙ begins.state) i;
        in_effect = numbers i;
        free = same_free i;
      }

  pub begun_traced : After
  begun_traced = by (cases_eq (bit_at y.in_effect lane) 1)
    where
      by : (bit_at y.in_effect lane ≡ 1) ⊎ (bit_at y.in_effect lane ≢ 1) → After
      by (inl taken) = taken_traced taken
      by (inr waits) = waiting_traced waits
