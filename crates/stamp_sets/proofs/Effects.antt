-- How calls take effect in positions.
use Rattle.std.proofs.Common.{ℕ, ◌≡◌, ◌≢◌, ◌⊎◌, List, Option, Some, None, refl, sym, ◌∙◌, true, false}
use Rattle.std.proofs.Common.{subst, inl, inr, arith}
use Rattle.std.specs.Int.{bit_at}
use Rattle.std.specs.Prelude.{Bool, IsTrue, not}
use Rattle.std.specs.Option.{is_some}
use Rattle.std.proofs.lemmas.Bool.{cases_eq, false≢true}
use Rattle.std.proofs.lemmas.Nat.Bits.{bit_at-zero}
use Rattle.stamp_core.specs.declared.reply.Reply.{Reply}
use Rattle.stamp_sets.specs.declared.ending.Ending.{Ending}
use Rattle.stamp_sets.specs.declared.open_call.OpenCall.{OpenCall}
use Rattle.stamp_sets.specs.declared.position.Position.{Position}
use Rattle.stamp_sets.specs.Judged.{Judged}
use Rattle.stamp_sets.specs.inner.State.{IsState}
use Rattle.stamp_sets.specs.Told.{HasEachOpen, MayGet, open_at}
use Rattle.stamp_sets.specs.inner.Effect.{AreSettled, IsAfterEffect, IsEffect, IsUnchanging, Leaves, Settles}
use Rattle.stamp_sets.specs.inner.Effect.{SettlesOne}
use Rattle.stamp_sets.specs.inner.Effect.{IsPassedOver, IsUnseen, TakesEffectTo}
use Rattle.stamp_sets.specs.inner.Effect.Settles.{as_it_is, one_more}
use Rattle.stamp_sets.specs.Lanes.{SetsBit}
use Rattle.stamp_sets.specs.SmallCall.{call_of}
use Rattle.stamp_sets.specs.Unchanging.{reads_only}
use Rattle.stamp_sets.proofs.Reading.{cleared, unset_cleared}
use Rattle.stamp_sets.proofs.Tables.{idle_apart, one_open}

module _ {S : Type 0} (o : Judged S) (begun : OpenCall) where
  pub takes_at_once : (table : List (Option OpenCall)) (p q : Position) (lane : ℕ) (found : Option ℕ) →
      open_at table lane ≡ Some begun → q.state ≡ p.state → bit_at p.in_effect lane ≡ 0 →
      SetsBit p.in_effect q.in_effect lane 1 → SetsBit p.free q.free lane 0 → IsUnchanging o begun →
      is_some found ≡ true → IsEffect o p.state begun found → Settles o table (λ l. l ≡ lane) p q
  takes_at_once table p q lane None is_open same free sets clears is some effect = absurd (false≢true some)
  takes_at_once table p q lane (Some then) is_open same free sets clears is some effect =
      one_more p q as_it_is (record {
        lane = lane;
        among = refl;
        takes = record {
          begun = begun;
          is_open = is_open;
          free = free;
          effect = record {
            some = λ s holds. there s holds (effect.some s holds);
            each = λ s next reply holds may step. subst (λ (n : ℕ). o.holds n next) (sym same)
                (subst (λ (v : S). o.holds p.state v) (sym (still s next reply may step)) holds);
          };
          sets = sets;
        };
        unchanging = is;
        same = same;
        clears = clears;
      })
    where
      still : (s next : S) (reply : Reply) → MayGet begun.ends reply → o.step s (call_of begun.asks) reply next →
          next ≡ s
      still s next reply may step = is.unchanging s next
          (subst (λ (r : Reply). o.step s (call_of begun.asks) r next)
          (sym (subst (λ (e : Ending). MayGet e reply) is.ends may)) step)

      there : (s : S) → o.holds p.state s → TakesEffectTo o begun s then → TakesEffectTo o begun s q.state
      there s holds to = record {
        reply = to.reply;
        next = to.next;
        may = to.may;
        step = to.step;
        holds = subst (λ (n : ℕ). o.holds n to.next) (sym same)
            (subst (λ (v : S). o.holds p.state v) (sym (still s to.next to.reply to.may to.step)) holds);
      }

  pub none_found : (number : ℕ) (found : Option ℕ) → is_some found ≡ false → IsEffect o number begun found →
      IsEffect o number begun None
  none_found number None none effect = effect
  none_found number (Some then) none effect = absurd (false≢true (sym none))

pub not_true : (b : Bool) → IsTrue b → not b ≡ false
not_true true is = refl
not_true false is = absurd (false≢true is)

pub some_number : (found : Option ℕ) → is_some found ≡ true → (number : ℕ) × (found ≡ Some number)
some_number None some = absurd (false≢true some)
some_number (Some number) some = (number, refl)

module _ {S : Type 0} (o : Judged S) where
  pub settles_on : (table : List (Option OpenCall)) (Lane : ℕ → Type 0) (p q r : Position) →
      Settles o table Lane p q → Settles o table Lane q r → Settles o table Lane p r
  settles_on table Lane p q r first as_it_is = first
  settles_on table Lane p q r first (one_more x y rest last) =
      one_more x y (settles_on table Lane p q x first rest) last

  -- among more lanes
  pub settles_among : (table : List (Option OpenCall)) (Lane More : ℕ → Type 0) (p q : Position) →
      ((l : ℕ) → Lane l → More l) → Settles o table Lane p q → Settles o table More p q
  settles_among table Lane More p q each as_it_is = as_it_is
  settles_among table Lane More p q each (one_more x y rest last) =
      one_more x y (settles_among table Lane More p x each rest) (record {
        lane = last.lane;
        among = each last.lane last.among;
        takes = last.takes;
        unchanging = last.unchanging;
        same = last.same;
        clears = last.clears;
      })

  -- what is in effect stays so, and the number of the state stays
  pub taken_settled : (table : List (Option OpenCall)) (Lane : ℕ → Type 0) (p q : Position) (u : ℕ) →
      Settles o table Lane p q → bit_at p.in_effect u ≡ 1 → bit_at q.in_effect u ≡ 1
  taken_settled table Lane p q u as_it_is taken = taken
  taken_settled table Lane p q u (one_more x y rest last) taken =
      by (cases_eq u last.lane) (taken_settled table Lane p x u rest taken)
    where
      by : (u ≡ last.lane) ⊎ (u ≢ last.lane) → bit_at x.in_effect u ≡ 1 → bit_at q.in_effect u ≡ 1
      by (inl same) before = subst (λ (v : ℕ). bit_at q.in_effect v ≡ 1) (sym same) last.takes.sets.here
      by (inr apart) before = last.takes.sets.others u apart ∙ before

  -- and what is not free
  pub unfree_settled : (table : List (Option OpenCall)) (Lane : ℕ → Type 0) (p q : Position) (u : ℕ) →
      Settles o table Lane p q → bit_at p.free u ≡ 0 → bit_at q.free u ≡ 0
  unfree_settled table Lane p q u as_it_is unset = unset
  unfree_settled table Lane p q u (one_more x y rest last) unset =
      unset_cleared x.free q.free last.lane u last.clears (unfree_settled table Lane p x u rest unset)

  pub same_settled : (table : List (Option OpenCall)) (Lane : ℕ → Type 0) (p q : Position) →
      Settles o table Lane p q → q.state ≡ p.state
  same_settled table Lane p q as_it_is = refl
  same_settled table Lane p q (one_more x y rest last) = last.same ∙ same_settled table Lane p x rest

  -- a number that is left in a state tells a state
  pub state_left : (number then : ℕ) (begun : OpenCall) → IsState o number → Leaves o number begun then → IsState o then
  state_left number then begun is leaves = let to = leaves.some is.state is.holds in
      record { state = to.next; holds = to.holds }

  pub state_settled : (table : List (Option OpenCall)) (Lane : ℕ → Type 0) (p q : Position) → IsState o p.state →
      Settles o table Lane p q → IsState o q.state
  state_settled table Lane p q is settles =
      subst (λ (n : ℕ). IsState o n) (sym (same_settled table Lane p q settles)) is

  pub state_after : (table : List (Option OpenCall)) (awaited : ℕ) (p q : Position) (lane : ℕ) → IsState o p.state →
      IsAfterEffect o table awaited p lane q → IsState o q.state
  state_after table awaited p q lane is after = state_settled table (λ l. Unit {0}) after.between q
      (state_left p.state after.between.state after.takes.begun is after.takes.effect) after.settles

-- the calls of these lanes but for those that are left were tried
pub record SettledSoFar {S : Type 0} (o : Judged S) (table : List (Option OpenCall)) (lanes rest : ℕ)
    (p q : Position) : Type 0 where
  pub left : (l : ℕ) → bit_at rest l ≡ 1 → bit_at lanes l ≡ 1
  pub settles : Settles o table (λ l. bit_at lanes l ≡ 1) p q
  pub whole : (l : ℕ) (begun : OpenCall) → bit_at lanes l ≡ 1 → bit_at rest l ≢ 1 → open_at table l ≡ Some begun →
      reads_only begun ≡ true → (bit_at q.in_effect l ≡ 1) ⊎ IsEffect o p.state begun None

module _ {S : Type 0} (o : Judged S) (table : List (Option OpenCall)) (lanes : ℕ) (p : Position) where
  pub so_far_settled_none : SettledSoFar o table lanes lanes p p
  so_far_settled_none = record {
    left = λ l is. is;
    settles = as_it_is;
    whole = λ l begun is not. absurd (not is);
  }

  pub so_far_settled_all : (rest : ℕ) (q : Position) → rest ≡ 0 → SettledSoFar o table lanes rest p q →
      AreSettled o table lanes p q
  so_far_settled_all rest q none so_far = record {
    settles = so_far.settles;
    whole = λ l begun is opens reads. so_far.whole l begun is (λ set. unset l
        (subst (λ (n : ℕ). bit_at n l ≡ 1) none set)) opens reads;
  }
    where
      unset : (l : ℕ) → bit_at 0 l ≢ 1
      unset l set = let zero_bit = bit_at-zero l in omega (arith, set, zero_bit)

  -- one lane more
  module _ (rest later k : ℕ) (q r : Position) (among : bit_at rest k ≡ 1) (clears : SetsBit rest later k 0)
      (so_far : SettledSoFar o table lanes rest p q) where
    pub so_far_settled_more : (Settles o table (λ l. bit_at lanes l ≡ 1) q r) →
        ((begun : OpenCall) → open_at table k ≡ Some begun → reads_only begun ≡ true →
        (bit_at r.in_effect k ≡ 1) ⊎ IsEffect o q.state begun None) → SettledSoFar o table lanes later p r
    so_far_settled_more settles here = record {
      left = λ l is. so_far.left l (cleared rest later k l clears is).1;
      settles = settles_on o table (λ l. bit_at lanes l ≡ 1) p q r so_far.settles settles;
      whole = λ l begun is not opens reads. by l begun is not opens reads (cases_eq l k);
    }
      where
        before : (l : ℕ) → (b : OpenCall) → (bit_at q.in_effect l ≡ 1) ⊎ IsEffect o p.state b None →
            (bit_at r.in_effect l ≡ 1) ⊎ IsEffect o p.state b None
        before l b (inl taken) = inl (taken_settled o table (λ u. bit_at lanes u ≡ 1) q r l settles taken)
        before l b (inr none) = inr none

        first : (b : OpenCall) → (bit_at r.in_effect k ≡ 1) ⊎ IsEffect o q.state b None →
            (bit_at r.in_effect k ≡ 1) ⊎ IsEffect o p.state b None
        first b (inl taken) = inl taken
        first b (inr none) = inr (subst (λ (n : ℕ). IsEffect o n b None)
            (same_settled o table (λ l. bit_at lanes l ≡ 1) p q so_far.settles) none)

        by : (l : ℕ) (begun : OpenCall) → bit_at lanes l ≡ 1 → bit_at later l ≢ 1 → open_at table l ≡ Some begun →
            reads_only begun ≡ true → (l ≡ k) ⊎ (l ≢ k) → (bit_at r.in_effect l ≡ 1) ⊎ IsEffect o p.state begun None
        by l begun is not opens reads (inl same) = subst
            (λ (u : ℕ). (bit_at r.in_effect u ≡ 1) ⊎ IsEffect o p.state begun None) (sym same)
            (first begun (here begun (subst (λ (u : ℕ). open_at table u ≡ Some begun) same opens) reads))
        by l begun is not opens reads (inr apart) = before l begun (so_far.whole l begun is
            (λ set. not (clears.others l apart ∙ set)) opens reads)

    pub so_far_settled_one : (begun : OpenCall) → open_at table k ≡ Some begun → SettlesOne o begun k q r →
        SettledSoFar o table lanes later p r
    so_far_settled_one begun is_open one = so_far_settled_more
        (settles_among o table (λ l. l ≡ k) (λ l. bit_at lanes l ≡ 1) q r
        (λ l same. subst (λ (u : ℕ). bit_at lanes u ≡ 1) (sym same) (so_far.left k among)) (one.settles table is_open))
        (λ b opens reads. subst (λ (c : OpenCall). (bit_at r.in_effect k ≡ 1) ⊎ IsEffect o q.state c None)
        (one_open table k begun b is_open opens)
        (one.whole (subst (λ (c : OpenCall). reads_only c ≡ true) (sym (one_open table k begun b is_open opens))
        reads)))

    pub so_far_settled_idle : open_at table k ≡ None → r ≡ q → SettledSoFar o table lanes later p r
    so_far_settled_idle idle same = subst (λ (x : Position). SettledSoFar o table lanes later p x) (sym same) (record {
      left = λ l is. so_far.left l (cleared rest later k l clears is).1;
      settles = so_far.settles;
      whole = λ l begun is not opens reads. so_far.whole l begun is
          (λ set. not (clears.others l (idle_apart table k l begun idle opens) ∙ set)) opens reads;
    })

-- each call that is not in effect is passed over, of those that were looked at
pub record UnseenSoFar {S : Type 0} (o : Judged S) (table : List (Option OpenCall))
    (awaited in_effect number rest : ℕ) : Type 0 where
  pub each : (l : ℕ) (begun : OpenCall) → open_at table l ≡ Some begun → bit_at in_effect l ≡ 0 →
      bit_at rest l ≢ 1 → IsPassedOver o awaited l begun number

module _ {S : Type 0} (o : Judged S) (table : List (Option OpenCall)) (awaited in_effect number : ℕ) where
  pub unseen_none : (busy : ℕ) → HasEachOpen table busy → UnseenSoFar o table awaited in_effect number busy
  unseen_none busy has = record { each = λ l begun is waits not. absurd (not (has.each l begun is)) }

  pub unseen_more : (rest later k : ℕ) → SetsBit rest later k 0 →
      ((begun : OpenCall) → open_at table k ≡ Some begun → bit_at in_effect k ≡ 0 →
      IsPassedOver o awaited k begun number) → UnseenSoFar o table awaited in_effect number rest →
      UnseenSoFar o table awaited in_effect number later
  unseen_more rest later k clears here so_far = record {
    each = λ l begun is waits not. by l begun is waits not
        (cases_eq l k);
  }
    where
      by : (l : ℕ) (begun : OpenCall) → open_at table l ≡ Some begun → bit_at in_effect l ≡ 0 →
          bit_at later l ≢ 1 → (l ≡ k) ⊎ (l ≢ k) → IsPassedOver o awaited l begun number
      by l begun is waits not (inl same) = subst (λ (u : ℕ). IsPassedOver o awaited u begun number) (sym same)
          (here begun (subst (λ (u : ℕ). open_at table u ≡ Some begun) same is)
          (subst (λ (u : ℕ). bit_at in_effect u ≡ 0) same waits))
      by l begun is waits not (inr apart) =
          so_far.each l begun is waits (λ set. not (clears.others l apart ∙ set))

  pub unseen_all : (rest : ℕ) → rest ≡ 0 → UnseenSoFar o table awaited in_effect number rest →
      IsUnseen o table awaited in_effect number
  unseen_all rest none so_far = record { each = λ l begun is waits. so_far.each l begun is waits (unset l) }
    where
      unset : (l : ℕ) → bit_at rest l ≢ 1
      unset l set = let zero_bit = bit_at-zero l in
          let one : bit_at 0 l ≡ 1 = subst (λ (n : ℕ). bit_at n l ≡ 1) none set in omega (arith, one, zero_bit)
