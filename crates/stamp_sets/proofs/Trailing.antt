-- Trails that go on: what is added is traced.
use Rattle.std.proofs.Common.{ℕ, ◌≡◌, ◌≢◌, ◌⊎◌, Bool, true, List, [], ◌∷◌, ◌++◌, length, Option, Some, None, refl, sym}
use Rattle.std.proofs.Common.{◌∙◌, ap, subst, inl, inr}
use Rattle.std.specs.Prelude.{map, reverse, take}
use Rattle.std.specs.Int.{bit_at}
use Rattle.std.specs.List.{Contains}
use Rattle.std.proofs.lemmas.Bool.{cases_eq}
use Rattle.std.proofs.lemmas.List.{reverse-append}
use Rattle.std.proofs.lemmas.List.Elements.{All-weaker, Contains-push_cases}
use Rattle.stamp_core.specs.declared.reply.Reply.{Reply}
use Rattle.stamp_core.specs.declared.reply.Reply.TheVariants.{Done}
use Rattle.stamp_runs.specs.Object.{Object}
use Rattle.stamp_runs.specs.declared.event.Event.{Event}
use Rattle.stamp_runs.specs.Run.Phase.{Asks, Gets}
use Rattle.stamp_runs.specs.Position as run
use Rattle.stamp_runs.specs.Trace.{IsTrace, Move}
use Rattle.stamp_runs.specs.Trace.{taken_at as taken_when}
use Rattle.stamp_runs.specs.Trace.Move.{Takes as taking, Frees as freeing, Hides as hiding}
use Rattle.stamp_runs.specs.Trace.IsTrace.{with_effect, with_overwriting}
use Rattle.stamp_runs.proofs.Lanes.{sets_of}
use Rattle.stamp_runs.proofs.Traces.{taken_in_turn, trace_fewer, trace_hidden, trace_readers}
use Rattle.stamp_sets.specs.declared.open_call.OpenCall.{OpenCall}
use Rattle.stamp_sets.specs.declared.position.Position.{Position}
use Rattle.stamp_sets.specs.declared.trail.Entry.{Entry}
use Rattle.stamp_sets.specs.declared.trail.Entry.TheVariants.{Comes}
use Rattle.stamp_sets.specs.declared.trail.Link.{Link}
use Rattle.stamp_sets.specs.declared.trail.Trail.{Trail}
use Rattle.stamp_sets.specs.declared.trail.Way.{Way}
use Rattle.stamp_sets.specs.declared.trail.Way.TheVariants.{Fixes, Hides}
use Rattle.stamp_sets.specs.Judged.{Judged}
use Rattle.stamp_sets.specs.SmallCall.{call_of}
use Rattle.stamp_sets.specs.inner.Effect.{AreFree, IsAfterEffect, IsOverwriting, TakesEffectTo}
use Rattle.stamp_sets.specs.inner.Start.{HidesOne, IsFixed}
use Rattle.stamp_sets.specs.Tracing.{IsTracedBy, events_in, moves_by}
use Rattle.stamp_sets.specs.inner.Trail.{AddsBy, AreNoted, HasNoted, IsTracedIn}
use Rattle.stamp_sets.specs.Tracing.{read_at, readers_of}
use Rattle.stamp_sets.specs.inner.Trail.{ReturnsTraced, way_of}
use Rattle.stamp_sets.specs.Tracing.{IsReturnedFrom}
use Rattle.stamp_sets.specs.inner.Layer.{AreReturned, LooksThrough, ReturnsFromOne}
use Rattle.stamp_sets.specs.Told.{open_at}
use Rattle.stamp_sets.proofs.Lawful.{IsLawful, over_as, overwriting_to}
use Rattle.stamp_sets.proofs.Layering.{none_in_nil, returned_one}
use Rattle.stamp_sets.proofs.Reading.{asks_at, cleared, come_free, moved, not_set, reads_taken, set_bit}
use Rattle.stamp_sets.proofs.Returned.{fixed_as, fixed_free, fixed_reads}
use Rattle.stamp_sets.proofs.Settled.{SettledTo, settled_to}
use Rattle.stamp_sets.proofs.Tables.{one_open}
use Rattle.stamp_sets.proofs.Turns.{AreRead, are_read, idle_settled, lanes_answered}
use Rattle.stamp_sets.proofs.Unseen.{asks as asked_before, hidden, hidden_reads, over as over_source, to as shown_to}
use Rattle.stamp_sets.proofs.Unseen.{was_free}

same_turns : {S : Type 0} (O : Object S) (start : S) (point : ℕ) (readers : List (ℕ × Reply)) (moves : List Move) →
    taken_in_turn O start point readers moves ≡ read_at point readers moves
same_turns O start point [] moves = refl
same_turns O start point (x ∷ readers) moves = same_turns O start point readers (taking (taken_when point x) ∷ moves)

same_or_apart : (a b : Position) → (a ≡ b) ⊎ (a ≢ b)
same_or_apart a b = by (cases_eq a.state b.state) (cases_eq a.in_effect b.in_effect) (cases_eq a.free b.free)
  where
    by : (a.state ≡ b.state) ⊎ (a.state ≢ b.state) → (a.in_effect ≡ b.in_effect) ⊎ (a.in_effect ≢ b.in_effect) →
        (a.free ≡ b.free) ⊎ (a.free ≢ b.free) → (a ≡ b) ⊎ (a ≢ b)
    by (inl p) (inl q) (inl r) = inl (λ i. record { state = p i; in_effect = q i; free = r i })
    by (inr apart) q r = inr (λ same. apart (ap (λ (x : Position). x.state) same))
    by (inl p) (inr apart) r = inr (λ same. apart (ap (λ (x : Position). x.in_effect) same))
    by (inl p) (inl q) (inr apart) = inr (λ same. apart (ap (λ (x : Position). x.free) same))

module _ {S : Type 0} (o : Judged S) (past : List Event) (table : List (Option OpenCall)) (trail : List Entry) where
  abbrev Traced : Position → Type 0
  Traced x = IsTracedBy o past table trail x

  abbrev TracedThen : Link → Position → Type 0
  TracedThen link x = IsTracedBy o past table (Comes link ∷ trail) x

  other_traced : (link : Link) (x : Position) → x ≢ link.to → Traced x → TracedThen link x
  other_traced link x apart is = record {
    full = is.full;
    events = is.events;
    position = is.position;
    reads = is.reads;
    moves = is.moves;
    trace = is.trace;
    says = inl (apart, is.says);
    idle = is.idle;
  }

  pub still_traced : (link : Link) → TracedThen link link.to → (x : Position) → Traced x → TracedThen link x
  still_traced link there x is = by (same_or_apart x link.to)
    where
      by : (x ≡ link.to) ⊎ (x ≢ link.to) → TracedThen link x
      by (inl same) = subst (λ (y : Position). TracedThen link y) (sym same) there
      by (inr apart) = other_traced link x apart is

  pub fix_traced : (lane : ℕ) (x y : Position) → IsFixed lane x y → Traced x →
      TracedThen (record { way = Fixes; lane = lane; from = x; to = y }) y
  fix_traced lane x y fixed is = record {
    full = is.full;
    events = is.events;
    position = fixed_as is.position y;
    reads = fixed_reads o table lane is.reads fixed;
    moves = is.moves;
    trace = trace_fewer o.step o.start is.position (fixed_as is.position y) is.trace refl refl (λ v free.
        (is.reads.free v).1 (fixed_free o table lane is.reads fixed v ((set_bit y.free v).0 free)));
    says = inr (
      refl,
      is.moves,
      record {
        reply = Done;
        readers = map (λ (v : ℕ). (v, Done)) (readers_of link);
        lanes = lanes_answered link (λ v. Done) (readers_of link);
        are = refl;
      },
      is.says,
    );
    idle = λ v none. subst (λ (n : ℕ). bit_at n v ≡ 0) (sym fixed.in_effect) (is.idle v none);
  }
    where
      link : Link
      link = record { way = Fixes; lane = lane; from = x; to = y }

  module _ (lawful : IsLawful o) where
    pub hide_traced : (source lane : ℕ) (x y : Position) → HidesOne o table source lane x y → Traced x →
        TracedThen (record { way = Hides; lane = source; from = x; to = y }) y
    hide_traced source lane x y hides is = record {
      full = is.full;
      events = is.events;
      position = there;
      reads = hidden_reads o lawful table is.reads hides.is_open hides.overwrites hides.free hides.hidden;
      moves = hiding ((source, overs.reply) ∷ read.readers) ∷ is.moves;
      trace = trace_hidden o.step o.start is.position there source (call_of hides.begun.asks) overs.reply overs.next
          read.readers is.trace refl ((is.reads.free source).1 hides.free) (asked_before o lawful table is.reads
          hides.is_open hides.overwrites hides.free hides.hidden) overs.overwrites (All-weaker (λ (r : ℕ × Reply).
          bit_at hides.hidden.there.free r.0 ≡ 1) (λ (r : ℕ × Reply). is.position.free r.0 ≡ true) (λ r at. free_before
          r.0 at) read.readers read.among) read.in_turn (λ v free. free_before v ((set_bit hides.hidden.there.free v).0
          (to.fewer v free)));
      says = inr (
        refl,
        is.moves,
        record { reply = overs.reply; readers = read.readers; lanes = read.lanes; are = refl },
        is.says,
      );
      idle = λ v none. subst (λ (n : ℕ). bit_at n v ≡ 0) (sym hides.hidden.in_effect)
          (idle_settled o table (λ u. bit_at hides.hidden.there.free u ≡ 1) x hides.hidden.there hides.hidden.then
          source
          hides.begun hides.is_open hides.hidden.takes hides.hidden.settled.settles is.idle v none);
    }
      where
        overs : IsOverwriting o hides.begun hides.number
        overs = over_source o lawful table is.reads hides.is_open hides.overwrites hides.free hides.hidden

        to : SettledTo o table (λ v. bit_at hides.hidden.there.free v ≡ 1) hides.hidden.then
            (moved is.position source (Gets overs.reply) overs.next hides.hidden.there.free)
        to = shown_to o lawful table is.reads hides.is_open hides.overwrites hides.free hides.hidden

        there : run.Position S
        there = hidden o lawful table is.reads hides.is_open hides.overwrites hides.free hides.hidden

        free_before : (v : ℕ) → bit_at hides.hidden.there.free v ≡ 1 → is.position.free v ≡ true
        free_before v free = (is.reads.free v).1 (was_free o lawful table is.reads hides.is_open hides.overwrites
            hides.free hides.hidden v free).1

        read : AreRead o table is.full (λ v. bit_at hides.hidden.there.free v ≡ 1) Hides x y hides.hidden.there
            hides.hidden.then source is.position is.reads overs.reply overs.next hides.hidden.there.free
            hides.hidden.takes hides.hidden.settled.settles hides.hidden.in_effect to
        read = are_read o table is.full (λ v. bit_at hides.hidden.there.free v ≡ 1) Hides x y hides.hidden.there
            hides.hidden.then source is.position is.reads overs.reply overs.next hides.hidden.there.free
            hides.hidden.takes hides.hidden.settled.settles hides.hidden.in_effect to

    pub effect_traced : (lane awaited : ℕ) (x y : Position) (found : Option ℕ) →
        (after : IsAfterEffect o table awaited x lane y) → o.overwrites after.takes.begun ≡ found → Traced x →
        TracedThen (record { way = way_of found; lane = lane; from = x; to = y }) y
    effect_traced lane awaited x y found after overwriting is = by found overwriting
        (subst (λ (f : Option ℕ). AreFree o table awaited x lane f after.between.free) overwriting after.frees)
      where
        effect : TakesEffectTo o after.takes.begun is.position.state after.between.state
        effect = after.takes.effect.some is.position.state is.reads.state

        first : run.Position S
        first = moved is.position lane (Gets effect.reply) effect.next after.between.free

        to : SettledTo o table (λ l. Unit {0}) y first
        to = settled_to o table (λ l. Unit {0}) after.between y first after.settles
            (reads_taken o table after.takes is.reads effect.may effect.step
            (come_free o table after.takes is.reads effect.may effect.step lawful awaited after.frees).kinds)

        asks : is.position.lanes lane ≡ Asks (call_of after.takes.begun.asks)
        asks = asks_at o table is.reads lane after.takes.begun after.takes.is_open after.takes.free

        own : Option ℕ → Move
        own None = taking (taken_when (length past) (lane, effect.reply))
        own (Some number) = freeing (taken_when (length past) (lane, effect.reply))

        traced : (f : Option ℕ) → o.overwrites after.takes.begun ≡ f →
            AreFree o table awaited x lane f after.between.free → IsTrace o.step o.start past (own f ∷ is.moves) first
        traced None none clears = with_effect is.position first lane (call_of after.takes.begun.asks) effect.reply
            is.trace asks effect.step (sets_of is.position.lanes lane (Gets effect.reply))
            (not_set after.between.free lane clears.here)
            (λ v free. (is.reads.free v).1 (cleared x.free after.between.free lane v clears
            ((set_bit after.between.free v).0 free)).1)
        traced (Some number) some others = with_overwriting is.position first lane (call_of after.takes.begun.asks)
            effect.reply is.trace asks (let over = overwriting_to o lawful after.takes.begun number some in
            over_as o.step (call_of after.takes.begun.asks) over.reply effect.reply is.position.state over.next
            effect.next over.overwrites effect.step) (sets_of is.position.lanes lane (Gets effect.reply))
            (not_set after.between.free lane others.clears.here)

        read : (f : Option ℕ) → AreRead o table is.full (λ l. Unit {0}) (way_of f) x y after.between y lane is.position
            is.reads effect.reply effect.next after.between.free after.takes.sets after.settles refl to
        read f = are_read o table is.full (λ l. Unit {0}) (way_of f) x y after.between y lane is.position
            is.reads effect.reply effect.next after.between.free after.takes.sets after.settles refl to

        said : (f : Option ℕ) (readers : List (ℕ × Reply)) → read_at (length past) readers (own f ∷ is.moves) ≡
            moves_by (way_of f) (events_in trail) lane effect.reply readers is.moves
        said None readers = ap (λ (n : ℕ). moves_by (way_of None) n lane effect.reply readers is.moves) (sym is.events)
        said (Some number) readers = ap
            (λ (n : ℕ). moves_by (way_of (Some number)) n lane effect.reply readers is.moves) (sym is.events)

        by : (f : Option ℕ) → o.overwrites after.takes.begun ≡ f →
            AreFree o table awaited x lane f after.between.free →
            TracedThen (record { way = way_of f; lane = lane; from = x; to = y }) y
        by f over free = record {
          full = is.full;
          events = is.events;
          position = to.then;
          reads = to.reads;
          moves = read_at (length past) (read f).readers (own f ∷ is.moves);
          trace = subst (λ (moves : List Move). IsTrace o.step o.start past moves to.then)
              (same_turns o.step o.start (length past) (read f).readers (own f ∷ is.moves))
              (trace_readers o.step o.start first to.then (read f).readers (traced f over free) to.state
              (read f).in_turn (read f).unfree to.fewer);
          says = inr (
            refl,
            is.moves,
            record {
              reply = effect.reply;
              readers = (read f).readers;
              lanes = (read f).lanes;
              are = said f (read f).readers;
            },
            is.says,
          );
          idle = idle_settled o table (λ l. Unit {0}) x after.between y lane after.takes.begun after.takes.is_open
              after.takes.sets after.settles is.idle;
        }

-- the newest entry of a trail that is on
pub newest : (old new : Trail) (entry : Entry) (before : List Entry) → HasNoted old new entry → old.is_on ≡ true →
    entry ∷ (reverse old.entries.items ++ before) ≡ reverse new.entries.items ++ before
newest old new entry before noted on = sym (ap (λ (es : List Entry). reverse es ++ before) (noted.added on) ∙
    ap (λ (es : List Entry). es ++ before) (reverse-append old.entries.items (entry ∷ [])))

-- what is noted of positions one after the other
module _ {S : Type 0} (o : Judged S) (table : List (Option OpenCall)) where
  pub noted_none : (From : Position → Type 0) (trail : Trail) (xs : List Position) →
      AreNoted o table From trail trail xs xs
  noted_none From trail xs = record {
    on = refl;
    stay = λ past before on from x is. is;
    each = λ past before on from x among. inl among;
  }

  pub noted_then : (From : Position → Type 0) (a b c : Trail) (xs ys zs : List Position) →
      AreNoted o table From a b xs ys → AreNoted o table From b c ys zs → AreNoted o table From a c xs zs
  noted_then From a b c xs ys zs first more = record {
    on = more.on ∙ first.on;
    stay = λ past before on from x is. more.stay past before (first.on ∙ on)
        (λ p is_from. first.stay past before on from p (from p
        is_from))
        x (first.stay past before on from x is);
    each = λ past before on from x among. by past before on from x (more.each past before (first.on ∙ on)
        (λ p is_from. first.stay past before on from p (from p is_from)) x among);
  }
    where
      by : (past : List Event) (before : List Entry) → a.is_on ≡ true →
          ((p : Position) → From p → IsTracedIn o past table before a p) → (x : Position) →
          Contains ys x ⊎ IsTracedIn o past table before c x → Contains xs x ⊎ IsTracedIn o past table before c x
      by past before on from x (inr is) = inr is
      by past before on from x (inl among) = after past before on from x (first.each past before on from x among)
        where
          after : (past : List Event) (before : List Entry) → a.is_on ≡ true →
              ((p : Position) → From p → IsTracedIn o past table before a p) → (x : Position) →
              Contains xs x ⊎ IsTracedIn o past table before b x → Contains xs x ⊎ IsTracedIn o past table before
              c x
          after past before on from x (inl was) = inl was
          after past before on from x (inr is) = inr (more.stay past before (first.on ∙ on)
              (λ p is_from. first.stay past before on from p (from p is_from)) x is)

  pub noted_among : (From More : Position → Type 0) (a b : Trail) (xs ys : List Position) →
      ((p : Position) → From p → More p) → AreNoted o table From a b xs ys → AreNoted o table More a b xs ys
  noted_among From More a b xs ys fewer noted = record {
    on = noted.on;
    stay = λ past before on from. noted.stay past before on (λ p is. from p (fewer p is));
    each = λ past before on from. noted.each past before on (λ p is. from p (fewer p is));
  }

  pub noted_by : (link : Link) (From : Position → Type 0) (a b : Trail) (xs ys : List Position) →
      AddsBy link xs ys a b → From link.from →
      ((past : List Event) (trail : List Entry) → IsTracedBy o past table trail link.from →
      IsTracedBy o past table (Comes link ∷ trail) link.to) → AreNoted o table From a b xs ys
  noted_by link From a b xs ys (inl (same, still)) is_from traced =
      subst (λ (zs : List Position). AreNoted o table From a b xs zs) (sym same)
      (subst (λ (t : Trail). AreNoted o table From a t xs xs) (sym still) (noted_none From a xs))
  noted_by link From a b xs ys (inr (pushed, noted)) is_from traced = record {
    on = noted.on;
    stay = stays;
    each = λ past before on from x among. by past before on from x (Contains-push_cases xs link.to x
        (subst (λ (zs : List Position). Contains zs x) pushed among));
  }
    where
      then_traced : (past : List Event) (before : List Entry) (on : a.is_on ≡ true) →
          ((p : Position) → From p → IsTracedIn o past table before a p) →
          IsTracedBy o past table (Comes link ∷ (reverse a.entries.items ++ before)) link.to
      then_traced past before on from = traced past (reverse a.entries.items ++ before) (from link.from is_from)

      stays : (past : List Event) (before : List Entry) → a.is_on ≡ true →
          ((p : Position) → From p → IsTracedIn o past table before a p) → (x : Position) →
          IsTracedIn o past table before a x → IsTracedIn o past table before b x
      stays past before on from x is = subst (λ (es : List Entry). IsTracedBy o past table es x)
          (newest a b (Comes link) before noted on) (still_traced o past table (reverse a.entries.items ++ before) link
          (then_traced past before on from) x is)

      by : (past : List Event) (before : List Entry) → a.is_on ≡ true →
          ((p : Position) → From p → IsTracedIn o past table before a p) → (x : Position) →
          Contains xs x ⊎ (link.to ≡ x) → Contains xs x ⊎ IsTracedIn o past table before b x
      by past before on from x (inl among) = inl among
      by past before on from x (inr same) = inr (subst (λ (y : Position). IsTracedIn o past table before b y) same
          (subst (λ (es : List Entry). IsTracedBy o past table es link.to)
          (newest a b (Comes link) before noted on) (then_traced past before on from)))

  -- a position is added as it is; or fixed; or where a call was hidden, or took effect
  -- a position is added fixed; or where a call was hidden, or took effect
  pub fix_noted : (lane : ℕ) (p q : Position) → IsFixed lane p q → (a b : Trail) (xs ys : List Position) →
      ys ≡ xs ++ q ∷ [] → HasNoted a b (Comes (record { way = Fixes; lane = lane; from = p; to = q })) →
      AreNoted o table (λ (x : Position). x ≡ p) a b xs ys
  fix_noted lane p q fixed a b xs ys pushed noted =
      noted_by (record { way = Fixes; lane = lane; from = p; to = q }) (λ (x : Position). x ≡ p) a b xs ys
      (inr (pushed, noted)) refl (λ past trail is. fix_traced o past table trail lane p q fixed is)

  module _ (lawful : IsLawful o) where
    pub hide_noted : (source lane : ℕ) (p q : Position) → HidesOne o table source lane p q → (a b : Trail)
        (xs ys : List Position) → AddsBy (record { way = Hides; lane = source; from = p; to = q }) xs ys a b →
        AreNoted o table (λ (x : Position). x ≡ p) a b xs ys
    hide_noted source lane p q hides a b xs ys adds =
        noted_by (record { way = Hides; lane = source; from = p; to = q }) (λ (x : Position). x ≡ p) a b xs ys adds
        refl
        (λ past trail is. hide_traced o past table trail lawful source lane p q hides is)

    pub effect_noted : (lane awaited : ℕ) (p q : Position) (begun : OpenCall) (way : Way) →
        open_at table lane ≡ Some begun → way ≡ way_of (o.overwrites begun) →
        IsAfterEffect o table awaited p lane q → (a b : Trail) (xs ys : List Position) →
        AddsBy (record { way = way; lane = lane; from = p; to = q }) xs ys a b →
        AreNoted o table (λ (x : Position). x ≡ p) a b xs ys
    effect_noted lane awaited p q begun way is_open way_is after a b xs ys adds =
        noted_by (record { way = way; lane = lane; from = p; to = q }) (λ (x : Position). x ≡ p) a b xs ys adds refl
        (λ past trail is. subst (λ (w : Way). IsTracedBy o past table (Comes (record {
          way = w;
          lane = lane;
          from = p;
          to = q;
        }) ∷ trail) q) (sym way_is) (effect_traced o past table trail lawful lane awaited p q (o.overwrites begun)
        after
        (ap o.overwrites (one_open table lane after.takes.begun begun after.takes.is_open is_open)) is))

  -- the layer that is next is traced, and so is what those that are done return from
  pub record IsTrailing (lane : ℕ) (start : List Position) (old now : Trail) (done layer : List Position) : Type 0
    where
      pub returns : ReturnsTraced o table lane old now start done
      pub next : (past : List Event) (before : List Entry) → old.is_on ≡ true →
          ((p : Position) → Contains start p → IsTracedIn o past table before old p) → (x : Position) →
          Contains layer x →
          IsTracedIn o past table before now x

  pub trailing_first : (lane : ℕ) (start : List Position) (old now : Trail) (none done layer : List Position) →
      none ≡ [] → done ≡ [] → AreNoted o table (Contains start) old now none layer →
      IsTrailing lane start old now done layer
  trailing_first lane start old now none done layer empty nothing noted = record {
    returns = record {
      on = noted.on;
      each = λ past before on from x among. absurd (none_in_nil x
          (subst (λ (zs : List Position). Contains zs x) nothing among));
    };
    next = λ past before on from x among. by past before x (noted.each past before on from x among);
  }
    where
      by : (past : List Event) (before : List Entry) (x : Position) →
          Contains none x ⊎ IsTracedIn o past table before now x →
          IsTracedIn o past table before now x
      by past before x (inl among) = absurd (none_in_nil x (subst (λ (zs : List Position). Contains zs x) empty among))
      by past before x (inr is) = is

  pub trailing_next : (lane : ℕ) (start : List Position) (old now later : Trail)
      (done layer slice done_then none next : List Position) (most : ℕ) (all : Bool) → slice ≡ layer → none ≡ [] →
      AreNoted o table (Contains slice) now later none next →
      LooksThrough o table lane slice done done_then none next most all → all ≡ true →
      IsTrailing lane start old now done layer → IsTrailing lane start old later done_then next
  trailing_next lane start old now later done layer slice done_then none next most all same empty noted looks whole
      trailing = record {
        returns = record {
          on = noted.on ∙ trailing.returns.on;
          each = λ past before on from x among. back past before on from x (looks.looks.done_only x among);
        };
        next = λ past before on from x among. by past before x (noted.each past before (trailing.returns.on ∙ on)
            (read past before on from) x
            among);
      }
    where
      read : (past : List Event) (before : List Entry) → old.is_on ≡ true →
          ((p : Position) → Contains start p → IsTracedIn o past table before old p) → (p : Position) →
          Contains slice p →
          IsTracedIn o past table before now p
      read past before on from p among = trailing.next past before on from p
          (subst (λ (zs : List Position). Contains zs p) same among)

      by : (past : List Event) (before : List Entry) (x : Position) →
          Contains none x ⊎ IsTracedIn o past table before later x →
          IsTracedIn o past table before later x
      by past before x (inl among) = absurd (none_in_nil x (subst (λ (zs : List Position). Contains zs x) empty among))
      by past before x (inr is) = is

      back : (past : List Event) (before : List Entry) → old.is_on ≡ true →
          ((p : Position) → Contains start p → IsTracedIn o past table before old p) → (x : Position) →
          Contains done x ⊎ ReturnsFromOne lane (take looks.seen slice) x →
          (y : Position) × IsReturnedFrom lane y x × IsTracedIn o past table before later y
      back past before on from x (inl among) = let was = trailing.returns.each past before on from x among in (
        was.0,
        was.1,
        noted.stay past before (trailing.returns.on ∙ on) (read past before on from) was.0 was.2,
      )
      back past before on from x (inr one) = (
        one.from,
        one.returned,
        noted.stay past before (trailing.returns.on ∙ on) (read past before on from) one.from
            (read past before on from one.from
            (subst (λ (zs : List Position). Contains zs one.from) (looks.whole whole) one.among)),
      )

  -- where the call is in effect in each position
  pub returned_each : (lane : ℕ) (trail : Trail) (xs ys : List Position) → AreReturned lane xs ys →
      ReturnsTraced o table lane trail trail xs ys
  returned_each lane trail xs ys are = record {
    on = refl;
    each = λ past before on from x among. let one = returned_one o table lane xs ys are x among in
        (one.from, one.returned, from one.from one.among);
  }
