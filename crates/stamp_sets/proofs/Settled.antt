-- Calls that change nothing are in effect at once, and calls that never end need not be.
use Rattle.std.proofs.Common.{ℕ, ◌≡◌, ◌≢◌, ◌⊎◌, Bool, false, true, List, Option, Some, refl, sym, ◌∙◌, ap, subst}
use Rattle.std.proofs.Common.{inl, inr}
use Rattle.std.proofs.lemmas.Bool.{cases_eq}
use Rattle.stamp_core.specs.declared.call.Call.{Call}
use Rattle.stamp_core.specs.declared.reply.Reply.{Reply}
use Rattle.stamp_core.specs.declared.reply.Reply.TheVariants.{Done}
use Rattle.stamp_runs.specs.Object.{Object}
use Rattle.stamp_runs.specs.Run.{EndsNever, Lanes, Phase, Sets}
use Rattle.stamp_runs.specs.Run.Phase.{Asks, Gets}
use Rattle.stamp_runs.specs.Position.{OverwritesNever}
use Rattle.stamp_runs.specs.Position as run
use Rattle.stamp_runs.specs.Returning.{IsKeptAs, IsSettled, IsToldReader}
use Rattle.stamp_runs.specs.declared.event.Event.{Event}
use Rattle.stamp_runs.proofs.Lanes.{asks_or_gets, one_call, pick, picks_first, picks_second}
use Rattle.stamp_runs.proofs.Lanes.{sets_of, true_or_false}
use Rattle.stamp_sets.specs.declared.ending.Ending.{Ending}
use Rattle.stamp_sets.specs.declared.open_call.OpenCall.{OpenCall}
use Rattle.stamp_sets.specs.declared.position.Position.{Position}
use Rattle.stamp_runs.proofs.Keeping.{settled_itself}
use Rattle.stamp_sets.specs.Judged.{Judged}
use Rattle.stamp_sets.specs.Kept.{Reads}
use Rattle.stamp_sets.specs.Told.{EndsSo, MayGet, open_at}
use Rattle.stamp_sets.specs.inner.Effect.{IsUnchanging, Settles, TakesAtOnce, TakesEffectTo}
use Rattle.stamp_sets.specs.inner.Effect.Settles.{as_it_is, one_more}
use Rattle.stamp_sets.specs.SmallCall.{call_of, reply_of}
use Rattle.stamp_sets.proofs.Reading.{ComesTo, asks_at, cleared, comes_changed, kinds_cleared, moved, reads_taken}
use Rattle.stamp_sets.proofs.Reading.{set_bit}
use Rattle.stamp_sets.proofs.Reading.ComesTo.{stays}

module _ {S : Type 0} (o : Judged S) (fits : List Event → Type 0) where
  -- a call that changes nothing and never ends may ask again
  pub kept_asking : (p q : run.Position S) (lane : ℕ) (reply : Reply) → p.state ≡ q.state →
      Sets q.lanes p.lanes lane (Gets reply) → ((v : ℕ) → v ≢ lane → p.free v ≡ true → q.free v ≡ true) →
      ((future : List Event) → fits future → EndsNever lane future) → IsKeptAs o.step fits p q
  kept_asking p q lane reply same sets fewer never = record {
    between = p;
    then = q;
    settled = settled_itself o.step fits p;
    undone = record {
      endless = only;
      state = same;
      asking = record {
        in_effect = λ v is. (reply, subst (λ (w : ℕ). p.lanes w ≡ Gets reply) (sym (is_it v is)) sets.here);
        others = λ v not. sym (sets.others v (other v not));
      };
      free = λ v not free. fewer v (other v not) free;
      never = λ v is future fit. subst (λ (w : ℕ). EndsNever w future) (sym (is_it v is)) (never future fit);
    };
    covers = λ s lanes stands. stands;
  }
    where
      only : ℕ → Bool
      only = λ v. pick (cases_eq v lane) true false

      other : (v : ℕ) → only v ≡ false → v ≢ lane
      other v not e = true_or_false (picks_first (cases_eq v lane) true false e) not

      is_it : (v : ℕ) → only v ≡ true → v ≡ lane
      is_it v is = by (cases_eq v lane)
        where
          by : (v ≡ lane) ⊎ (v ≢ lane) → v ≡ lane
          by (inl same) = same
          by (inr apart) = absurd (true_or_false is (picks_second (cases_eq v lane) true false apart))

-- calls of these lanes take effect, and leave this state as it is
pub data Sees {S : Type 0} (O : Object S) (Lane : ℕ → Type 0) (t : S) (a : Lanes) : Lanes → Type 0 where
  sees_none : Sees O Lane t a a
  sees_more : (b c : Lanes) (lane : ℕ) (call : Call) (reply : Reply) → Sees O Lane t a b → Lane lane →
      b lane ≡ Asks call → O t call reply t → Sets b c lane (Gets reply) → Sees O Lane t a c

module _ {S : Type 0} (o : Judged S) (table : List (Option OpenCall)) where
  -- the lane's call changes nothing, and took effect
  pub record IsReaderAt (v : ℕ) (before after : Phase) : Type 0 where
    pub begun : OpenCall
    pub is_open : open_at table v ≡ Some begun
    pub unchanging : IsUnchanging o begun
    pub asks : before ≡ Asks (call_of begun.asks)
    pub gets : after ≡ Gets (reply_of unchanging.told)

  abbrev pub IsSettledAt : ℕ → Phase → Phase → Type 0
  IsSettledAt v before after = (after ≡ before) ⊎ IsReaderAt v before after

  -- what the first position settles to
  pub record SettledTo (Lane : ℕ → Type 0) (q : Position) (first : run.Position S) : Type 0 where
    pub then : run.Position S
    pub reads : Reads o table q then
    pub state : first.state ≡ then.state
    pub fewer : (v : ℕ) → then.free v ≡ true → first.free v ≡ true
    pub stay : (v : ℕ) → then.lanes v ≡ first.lanes v → first.free v ≡ true → then.free v ≡ true
    pub lanes : (v : ℕ) → IsSettledAt v (first.lanes v) (then.lanes v)
    pub comes : ComesTo o.step first then
    pub sees : Sees o.step Lane first.state first.lanes then.lanes

  one_settles : (Lane : ℕ → Type 0) (x y : Position) (first : run.Position S) → (last : TakesAtOnce o table Lane x y) →
      SettledTo Lane x first → SettledTo Lane y first
  one_settles Lane x y first last before = record {
    then = after;
    reads = reads_taken o table last.takes before.reads effect.may effect.step (kinds_cleared o table last.takes
        before.reads effect.may effect.step last.clears);
    state = before.state ∙ sym still;
    fewer = λ v is. before.fewer v ((before.reads.free v).1
        (cleared x.free y.free last.lane v last.clears ((set_bit y.free v).0 is)).1);
    stay = λ v same is. stays_free v same is (cases_eq v last.lane);
    lanes = λ v. at v (cases_eq v last.lane);
    comes = comes_changed o table last.takes before.reads effect.may effect.step last.clears first before.comes;
    sees = sees_more before.then.lanes after.lanes last.lane (call_of last.takes.begun.asks) effect.reply before.sees
        last.among asks (subst (λ (t : S). o.step t (call_of last.takes.begun.asks) effect.reply t) (sym before.state)
        (subst (λ (t : S). o.step before.then.state (call_of last.takes.begun.asks) effect.reply t) still effect.step))
        (sets_of before.then.lanes last.lane (Gets effect.reply));
  }
    where
      effect : TakesEffectTo o last.takes.begun before.then.state y.state
      effect = last.takes.effect.some before.then.state before.reads.state

      after : run.Position S
      after = moved before.then last.lane (Gets effect.reply) effect.next y.free

      its : reply_of last.unchanging.told ≡ effect.reply
      its = subst (λ (e : Ending). MayGet e effect.reply) last.unchanging.ends effect.may

      step : o.step before.then.state (call_of last.takes.begun.asks) (reply_of last.unchanging.told) effect.next
      step = subst (λ (r : Reply). o.step before.then.state (call_of last.takes.begun.asks) r effect.next) (sym its)
          effect.step

      still : effect.next ≡ before.then.state
      still = last.unchanging.unchanging before.then.state effect.next step

      asks : before.then.lanes last.lane ≡ Asks (call_of last.takes.begun.asks)
      asks = asks_at o table before.reads last.lane last.takes.begun last.takes.is_open last.takes.free

      asked_first : IsSettledAt last.lane (first.lanes last.lane) (before.then.lanes last.lane) →
          first.lanes last.lane ≡ Asks (call_of last.takes.begun.asks)
      asked_first (inr reader) = absurd (asks_or_gets asks reader.gets)
      asked_first (inl same) = sym same ∙ asks

      here : IsSettledAt last.lane (first.lanes last.lane) (after.lanes last.lane)
      here = inr (record {
        begun = last.takes.begun;
        is_open = last.takes.is_open;
        unchanging = last.unchanging;
        asks = asked_first (before.lanes last.lane);
        gets = (sets_of before.then.lanes last.lane (Gets effect.reply)).here ∙ ap Gets (sym its);
      })

      at : (v : ℕ) → (v ≡ last.lane) ⊎ (v ≢ last.lane) → IsSettledAt v (first.lanes v) (after.lanes v)
      at v (inl same) = subst (λ (w : ℕ). IsSettledAt w (first.lanes w) (after.lanes w)) (sym same) here
      at v (inr apart) = subst (λ (phase : Phase). IsSettledAt v (first.lanes v) phase)
          (sym ((sets_of before.then.lanes last.lane (Gets effect.reply)).others v apart)) (before.lanes v)

      stays_free : (v : ℕ) → after.lanes v ≡ first.lanes v → first.free v ≡ true →
          (v ≡ last.lane) ⊎ (v ≢ last.lane) → after.free v ≡ true
      stays_free v same is (inl at_it) = absurd (asks_or_gets (asked_first (before.lanes last.lane))
          (sym (subst (λ (w : ℕ). after.lanes w ≡ first.lanes w) at_it same) ∙
          (sets_of before.then.lanes last.lane (Gets effect.reply)).here))
      stays_free v same is (inr apart) = (set_bit y.free v).1 (last.clears.others v apart ∙
          (before.reads.free v).0 (before.stay v
          (sym ((sets_of before.then.lanes last.lane (Gets effect.reply)).others v apart) ∙ same) is))

  pub settled_to : (Lane : ℕ → Type 0) (p q : Position) (first : run.Position S) → Settles o table Lane p q →
      Reads o table p first → SettledTo Lane q first
  settled_to Lane p q first as_it_is reads = record {
    then = first;
    reads = reads;
    state = refl;
    fewer = λ v is. is;
    stay = λ v same is. is;
    lanes = λ v. inl refl;
    comes = stays;
    sees = sees_none;
  }
  settled_to Lane p q first (one_more x y rest last) reads =
      one_settles Lane x y first last (settled_to Lane p x first rest reads)

  abbrev pub is_reader : {v : ℕ} {before after : Phase} → IsSettledAt v before after → Bool
  is_reader (inl same) = false
  is_reader (inr reader) = true

  abbrev pub told_of : {v : ℕ} {before after : Phase} → IsSettledAt v before after → Reply
  told_of (inl same) = Done
  told_of (inr reader) = reply_of reader.unchanging.told

  pub reader_reads : {v : ℕ} {before after : Phase} (at : IsSettledAt v before after) →
      is_reader at ≡ true → after ≡ Gets (told_of at)
  reader_reads (inl same) is = absurd (true_or_false is refl)
  reader_reads (inr reader) is = reader.gets

  pub other_stays : {v : ℕ} {before after : Phase} (at : IsSettledAt v before after) →
      is_reader at ≡ false → after ≡ before
  other_stays (inl same) not = same
  other_stays (inr reader) not = absurd (true_or_false refl not)

  -- what is in effect only after it took effect
  pub reader_if : {v : ℕ} {before after : Phase} (at : IsSettledAt v before after) (call : Call) (reply : Reply) →
      before ≡ Asks call → after ≡ Gets reply → is_reader at ≡ true
  reader_if (inl same) call reply asks gets = absurd (asks_or_gets (same ∙ asks) gets)
  reader_if (inr reader) call reply asks gets = refl

  pub gets_still : {v : ℕ} {before after : Phase} (at : IsSettledAt v before after) (reply : Reply) →
      before ≡ Gets reply → after ≡ Gets reply
  gets_still (inl same) reply gets = same ∙ gets
  gets_still (inr reader) reply gets = absurd (asks_or_gets reader.asks gets)

  pub reader_apart : {v : ℕ} {before after : Phase} (at : IsSettledAt v before after) →
      is_reader at ≡ true → (call : Call) → before ≡ Asks call → OverwritesNever o.step call
  reader_apart (inl same) is call asks = absurd (true_or_false is refl)
  reader_apart (inr reader) is call asks = subst (λ (c : Call). OverwritesNever o.step c)
      (one_call reader.asks asks) reader.unchanging.never

  module _ (fits : List Event → Type 0) (ends : (future : List Event) → fits future → (v : ℕ) (b : OpenCall) →
      open_at table v ≡ Some b → EndsSo v b.ends future) where
    pub reader_told : {v : ℕ} {before after : Phase} (at : IsSettledAt v before after) →
        is_reader at ≡ true → IsToldReader o.step fits v (told_of at) before
    reader_told (inl same) is = absurd (true_or_false is refl)
    reader_told {v} (inr reader) is = record {
      call = call_of reader.begun.asks;
      asks = reader.asks;
      still = reader.unchanging.unchanging;
      ends = λ future fit. subst (λ (e : Ending). EndsSo v e future) reader.unchanging.ends
          (ends future fit v reader.begun reader.is_open);
    }

    pub is_settled : (Lane : ℕ → Type 0) (q : Position) (first : run.Position S) (to : SettledTo Lane q first) →
        IsSettled o.step fits first to.then
    is_settled Lane q first to = record {
      readers = λ v. is_reader (to.lanes v);
      told = λ v. told_of (to.lanes v);
      state = to.state;
      shown = record {
        read = λ v is. reader_reads (to.lanes v) is;
        others = λ v not. other_stays (to.lanes v) not;
      };
      free = λ v not free. to.stay v (other_stays (to.lanes v) not) free;
      each = λ v is. reader_told (to.lanes v) is;
      apart = λ v is. reader_apart (to.lanes v) is;
    }
