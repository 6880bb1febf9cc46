-- Calls that took effect unseen: a free one that overwrites, and with it those that read what it left.
use Rattle.std.proofs.Common.{ℕ, ◌≡◌, ◌≢◌, ◌⊎◌, ◌↔◌, Bool, false, true, List, Option, Some, None, refl, sym}
use Rattle.std.proofs.Common.{◌∙◌, subst, inl, inr}
use Rattle.std.specs.Int.{bit_at}
use Rattle.std.proofs.lemmas.Bool.{cases_eq}
use Rattle.stamp_core.specs.declared.call.Call.{Call}
use Rattle.stamp_core.specs.declared.reply.Reply.{Reply}
use Rattle.stamp_runs.specs.Object.{Object}
use Rattle.stamp_runs.specs.Run.{Lanes, Phase}
use Rattle.stamp_runs.specs.Run.Phase.{Asks, Gets}
use Rattle.stamp_runs.specs.Watching as watched
use Rattle.stamp_runs.specs.Position.{Hidden, Overwrites, ReadsOrOverwrites}
use Rattle.stamp_runs.specs.Position as run
use Rattle.stamp_runs.specs.Position.Hidden.{no_more, overwrites, sees}
use Rattle.stamp_runs.specs.Returning.{Comes, Effect, IsHiddenWith, IsReached, IsToldReader, Return}
use Rattle.stamp_runs.specs.Returning.IsReached.{from_old}
use Rattle.stamp_runs.specs.declared.event.Event.{Event}
use Rattle.stamp_runs.proofs.Lanes.{one_call, pick, picks_first, picks_second, sets_of, true_or_false}
use Rattle.stamp_sets.specs.declared.ending.Ending.{Ending}
use Rattle.stamp_sets.specs.declared.ending.Ending.TheVariants.{Never, Returns}
use Rattle.stamp_sets.specs.declared.open_call.OpenCall.{OpenCall}
use Rattle.stamp_sets.specs.declared.position.Position.{Position}
use Rattle.stamp_sets.specs.Judged.{Judged}
use Rattle.stamp_sets.specs.Kept.{HasPhase, IsFreeCall, IsInEffect as InEffect, Reads}
use Rattle.stamp_sets.specs.Told.{EndsSo, MayGet, open_at}
use Rattle.stamp_sets.specs.inner.Effect.{IsEffect, IsOverwriting, IsUnchanging}
use Rattle.stamp_sets.specs.inner.Start.{IsHidden}
use Rattle.stamp_sets.specs.SmallCall.{call_of}
use Rattle.stamp_sets.specs.Unchanging.{reads_only}
use Rattle.stamp_sets.proofs.Lawful.{IsLawful, kind_of, overwriting_to}
use Rattle.stamp_sets.proofs.Reading.{asks_at, beside_itself, cleared, gets_at, kinds_beside, moved, reads_set}
use Rattle.stamp_sets.proofs.Reading.{set_bit}
use Rattle.stamp_sets.proofs.Settled.{Sees, SettledTo, gets_still, is_reader, other_stays, reader_apart, reader_if}
use Rattle.stamp_sets.proofs.Settled.{reader_reads, reader_told, settled_to, told_of}
use Rattle.stamp_sets.proofs.Settled.Sees.{sees_more, sees_none}

-- what was seen is hidden
hidden_seen : {S : Type 0} (O : Object S) (free : ℕ → Bool) (Lane : ℕ → Type 0) (t : S) (a b c : Lanes) →
    ((v : ℕ) → Lane v → free v ≡ true) → Sees O Lane t a b → Hidden O free (Some t) b c → Hidden O free (Some t) a c
hidden_seen O free Lane t a b c each sees_none rest = rest
hidden_seen O free Lane t a b c each (sees_more x y lane call reply before among asks step sets) rest =
    hidden_seen O free Lane t a x c each before (sees lane call reply (each lane among) asks step sets rest)

-- a call that reads is told to return
pub reader_returns : {S : Type 0} (o : Judged S) (begun : OpenCall) → IsUnchanging o begun → begun.ends ≡ Never → ⊥
reader_returns o begun is never = by begun.ends (Returns is.told is.place) is.ends never
  where
    by : (a b : Ending) → a ≡ b → a ≡ Never → ⊥
    by a b same none = cc

module _ {S : Type 0} (o : Judged S) (lawful : IsLawful o) (table : List (Option OpenCall)) {x y : Position}
    {p : run.Position S} (reads : Reads o table x p) {source number : ℕ} {begun : OpenCall}
    (is_open : open_at table source ≡ Some begun) (leaves : o.overwrites begun ≡ Some number)
    (free : bit_at x.free source ≡ 1) (hides : IsHidden o table source number x y) where
  abbrev pub over : IsOverwriting o begun number
  over = overwriting_to o lawful begun number leaves

  abbrev pub Free : ℕ → Type 0
  Free v = bit_at hides.there.free v ≡ 1

  pub was_free : (v : ℕ) → Free v → (v ≢ source) × (bit_at x.free v ≡ 1)
  was_free v is = cleared x.free hides.there.free source v hides.clears is

  waits : (v : ℕ) → bit_at x.free v ≡ 1 → bit_at x.in_effect v ≡ 0
  waits v is = (reads.kinds v is).waits

  pub asks : p.lanes source ≡ Asks (call_of begun.asks)
  asks = asks_at o table reads source begun is_open (waits source free)

  -- as if it had taken effect in sight
  abbrev pub shown : run.Position S
  shown = moved p source (Gets over.reply) over.next hides.there.free

  shown_reads : Reads o table hides.there shown
  shown_reads = reads_set o table table x hides.there p source (Gets over.reply) over.next reads
      (beside_itself o table source) hides.takes.others
      (subst (λ (slot : Option OpenCall). HasPhase slot (bit_at hides.there.in_effect source) (Gets over.reply))
      (sym is_open) (inr (record { taken = hides.takes.here; reply = over.reply; may = over.may; gets = refl })))
      (subst (λ (n : ℕ). o.holds n over.next) (sym hides.at) over.holds)
      (λ u is. kinds_beside o table table x hides.there p source reads (beside_itself o table source)
      hides.takes.others u (was_free u is))

  pub to : SettledTo o table Free hides.then shown
  to = settled_to o table Free hides.there hides.then shown hides.settled.settles shown_reads

  abbrev pub hidden : run.Position S
  hidden = record { state = p.state; lanes = to.then.lanes; free = to.then.free }

  pub hidden_reads : Reads o table y hidden
  hidden_reads = record {
    state = subst (λ (n : ℕ). o.holds n p.state) (sym hides.state) reads.state;
    lanes = λ v. subst (λ (n : ℕ). HasPhase (open_at table v) (bit_at n v) (to.then.lanes v))
        (sym hides.in_effect) (to.reads.lanes v);
    free = λ v. subst (λ (n : ℕ). (to.then.free v ≡ true) ↔ (bit_at n v ≡ 1)) (sym hides.free) (to.reads.free v);
    kinds = λ v is. subst (λ (n : ℕ). IsFreeCall o (open_at table v) (bit_at n v)) (sym hides.in_effect)
        (to.reads.kinds v (subst (λ (n : ℕ). bit_at n v ≡ 1) hides.free is));
  }

  is_hidden : Hidden o.step p.free None p.lanes to.then.lanes
  is_hidden = overwrites source (call_of begun.asks) over.reply over.next ((reads.free source).1 free) asks
      over.overwrites (sets_of p.lanes source (Gets over.reply))
      (hidden_seen o.step p.free Free over.next shown.lanes to.then.lanes to.then.lanes
      (λ v is. (reads.free v).1 (was_free v is).1) to.sees no_more)

  pub hidden_reached : (Old : run.Position S → Type 0) → Old p → IsReached o.step Old hidden
  hidden_reached Old old = from_old p hidden old refl is_hidden
      (λ v is. (reads.free v).1 (was_free v ((set_bit hides.there.free v).0 (to.fewer v is))).1)

  gets : to.then.lanes source ≡ Gets over.reply
  gets = gets_still o table (to.lanes source) over.reply (sets_of p.lanes source (Gets over.reply)).here

  -- what another free call becomes that reads
  pub reader_answered : (v : ℕ) (b : OpenCall) (reply : Reply) → v ≢ source → bit_at x.free v ≡ 1 →
      open_at table v ≡ Some b → reads_only b ≡ true → MayGet b.ends reply →
      o.step over.next (call_of b.asks) reply over.next → bit_at hides.then.in_effect v ≡ 1
  reader_answered v b reply apart is opens read may step = by (hides.settled.whole v b
      (hides.clears.others v apart ∙ is) opens read)
    where
      by : (bit_at hides.then.in_effect v ≡ 1) ⊎ IsEffect o hides.there.state b None →
          bit_at hides.then.in_effect v ≡ 1
      by (inl taken) = taken
      by (inr none) = absurd (reader_returns o b (lawful.reading b read) (none over.next over.next reply
          (subst (λ (n : ℕ). o.holds n over.next) (sym hides.at) over.holds) may step).0)

  abbrev readers : ℕ → Bool
  readers = λ v. pick (cases_eq v source) false (is_reader o table (to.lanes v))

  abbrev told : ℕ → Reply
  told = λ v. told_of o table (to.lanes v)

  read_apart : (v : ℕ) → readers v ≡ true → v ≢ source
  read_apart v is same = true_or_false is (picks_first (cases_eq v source) false (is_reader o table (to.lanes v)) same)

  read_is : (v : ℕ) → v ≢ source → readers v ≡ is_reader o table (to.lanes v)
  read_is v apart = picks_second (cases_eq v source) false (is_reader o table (to.lanes v)) apart

  before_is : (v : ℕ) → v ≢ source → shown.lanes v ≡ p.lanes v
  before_is v apart = (sets_of p.lanes source (Gets over.reply)).others v apart

  module _ (e : Return) (may_as : (v : ℕ) (b : OpenCall) (reply : Reply) → open_at table v ≡ Some b →
      watched.MayGet (e.told v) reply → MayGet b.ends reply)
      (ends : (future : List Event) → Comes e future → (v : ℕ) (b : OpenCall) → open_at table v ≡ Some b →
      EndsSo v b.ends future) where
    free_kinds : (v : ℕ) (call : Call) → p.free v ≡ true → p.lanes v ≡ Asks call → v ≢ source →
        ReadsOrOverwrites o.step e.told over.next readers v call
    free_kinds v call is asks_it apart = record {
      which = which (kind_of o lawful it.begun it.kind);
      apart = λ read. reader_apart o table (to.lanes v)
          (sym (read_is v apart) ∙ read) call (before_is v apart ∙ asks_it);
    }
      where
        bit : bit_at x.free v ≡ 1
        bit = (reads.free v).0 is

        it : IsFreeCall o (open_at table v) (bit_at x.in_effect v)
        it = reads.kinds v bit

        its : call_of it.begun.asks ≡ call
        its = one_call (asks_at o table reads v it.begun it.is_open it.waits) asks_it

        which : ((n : ℕ) × (o.overwrites it.begun ≡ Some n)) ⊎
            ((o.overwrites it.begun ≡ None) × (reads_only it.begun ≡ true)) →
            ((reply : Reply) × (u : S) × Overwrites o.step call reply u) ⊎
            ((reply : Reply) → o.step over.next call reply over.next → watched.MayGet (e.told v) reply →
            readers v ≡ true)
        which (inl some) = let is = overwriting_to o lawful it.begun some.0 some.1 in
            inl (is.reply, is.next, subst (λ (c : Call). Overwrites o.step c is.reply is.next) its is.overwrites)
        which (inr none) = inr (λ reply step may. read_is v apart ∙ reader_if o table (to.lanes v) call (answer reply
            step may).reply (before_is v apart ∙ asks_it) (answer reply step may).gets)
          where
            answer : (reply : Reply) → o.step over.next call reply over.next → watched.MayGet (e.told v) reply →
                InEffect it.begun (bit_at hides.then.in_effect v) (to.then.lanes v)
            answer reply step may = gets_at o table to.reads v it.begun it.is_open
                (reader_answered v it.begun reply apart bit it.is_open none.1 (may_as v it.begun reply it.is_open may)
                (subst (λ (c : Call). o.step over.next c reply over.next) (sym its) step))

    is_hidden_as : (call : Call) → IsHiddenWith o.step e
        (record { lane = source; call = call; reply = over.reply; next = over.next }) p hidden
    is_hidden_as call = record {
      readers = readers;
      told = told;
      after = record {
        state = refl;
        shows = record {
          here = gets;
          readers_get = λ v apart is. reader_reads o table (to.lanes v) (sym (read_is v apart) ∙ is);
          others = λ v apart not. other_stays o table (to.lanes v) (sym (read_is v apart) ∙ not) ∙ before_is v apart;
        };
        free = λ v apart not is. to.stay v (other_stays o table (to.lanes v) (sym (read_is v apart) ∙ not)) ((set_bit
            hides.there.free v).1 (hides.clears.others v apart ∙ (reads.free v).0 is));
        overwrites = λ c asks_it. subst (λ (d : Call). Overwrites o.step d over.reply over.next)
            (one_call asks asks_it) over.overwrites;
        each = λ v c is asks_it apart. free_kinds v c is asks_it apart;
      };
      apart = picks_first (cases_eq source source) false (is_reader o table (to.lanes source)) refl;
      each = λ v is. subst (λ (phase : Phase). IsToldReader o.step (Comes e) v (told v) phase) (before_is v (read_apart
          v is)) (reader_told o table (Comes e) ends (to.lanes v) (sym (read_is v (read_apart v is)) ∙ is));
    }

    pub hidden_with : (z : Effect S) → source ≡ z.lane → over.reply ≡ z.reply → over.next ≡ z.next →
        IsHiddenWith o.step e z p hidden
    hidden_with z lanes replies states = subst
        (λ (l : ℕ). IsHiddenWith o.step e (record { lane = l; call = z.call; reply = z.reply; next = z.next }) p hidden)
        lanes (subst (λ (r : Reply). IsHiddenWith o.step e
        (record { lane = source; call = z.call; reply = r; next = z.next }) p hidden) replies
        (subst (λ (t : S). IsHiddenWith o.step e
        (record { lane = source; call = z.call; reply = over.reply; next = t }) p hidden) states
        (is_hidden_as z.call)))
