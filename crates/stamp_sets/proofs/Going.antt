-- Calls that go before others.
use Rattle.std.proofs.Common.{ℕ, zero, suc, ◌≡◌, ◌≢◌, ◌⊎◌, ◌<◌, false, List, Option, Some, refl, sym, ◌∙◌, ap}
use Rattle.std.proofs.Common.{subst, inl, inr, arith}
use Rattle.stamp_core.specs.declared.reply.Reply.{Reply}
use Rattle.stamp_runs.specs.Run.{AreAlike, EndsBy, GoesFirst}
use Rattle.stamp_runs.specs.Run.GoesFirst.{goes_endless, goes_sooner}
use Rattle.stamp_runs.specs.declared.event.Event.{Event}
use Rattle.stamp_runs.specs.declared.event.Event.TheVariants as event
use Rattle.stamp_sets.specs.declared.small_call.SmallReply.{SmallReply}
use Rattle.stamp_sets.specs.declared.small_call.SmallCall.{SmallCall}
use Rattle.stamp_sets.specs.declared.ending.Ending.{Ending}
use Rattle.stamp_sets.specs.declared.ending.Ending.TheVariants.{Never, Returns, Withdraws}
use Rattle.stamp_sets.specs.declared.open_call.OpenCall.{OpenCall}
use Rattle.stamp_sets.specs.Judged.{Judged}
use Rattle.stamp_sets.specs.Told.{ComesAsTold, EndsSo, MayGet, open_at}
use Rattle.stamp_sets.specs.inner.Effect.{GoesBefore, IsAhead}
use Rattle.stamp_sets.specs.SmallCall.{call_of, reply_of}
use Rattle.stamp_sets.specs.Unchanging.{reads_only}
use Rattle.stamp_sets.proofs.Tables.{one_open}
use Rattle.stamp_sets.proofs.Telling.{one_ending}

one_told : (a b : Ending) (told reply : SmallReply) (place at : ℕ) → a ≡ b → a ≡ Returns told place →
    b ≡ Returns reply at → told ≡ reply
one_told a b told reply place at same first second = cc

not_both : (a b : Ending) (told : SmallReply) (place : ℕ) → a ≡ b → a ≡ Returns told place → b ≡ Never → ⊥
not_both a b told place same first second = cc

-- a number that is lower for a call that goes before another
abbrev pub rank_of : ℕ → Ending → ℕ
rank_of lane (Returns told place) = place
rank_of lane Withdraws = 0
rank_of lane Never = lane

module _ {S : Type 0} (o : Judged S) where
  ahead_on : (first mid last : OpenCall) → IsAhead o first mid → IsAhead o mid last → IsAhead o first last
  ahead_on first mid last one two = record {
    reply = one.reply;
    answer = two.answer;
    place = one.place;
    later = two.later;
    first_is = one.first_is;
    other_is = two.other_is;
    sooner = let at : one.later ≡ two.place = one_ending mid.ends mid.ends one.answer two.reply one.later two.place refl
        one.other_is two.first_is in let low = one.sooner in let high = two.sooner in omega (arith, at, low, high);
    same = one.same ∙ one_told mid.ends mid.ends one.answer two.reply one.later two.place refl one.other_is
        two.first_is ∙
        two.same;
    alike = record {
      does = λ s t r step. two.alike.does s t r (one.alike.does s t r step);
      done_by = λ s t r step. one.alike.done_by s t r (two.alike.done_by s t r step);
    };
  }

  before_on : (a b c : ℕ) (first mid last : OpenCall) → GoesBefore o a b first mid → GoesBefore o b c mid last →
      GoesBefore o a c first last
  before_on a b c first mid last (inl one) (inl two) = inl (ahead_on first mid last one two)
  before_on a b c first mid last (inl one) (inr two) = absurd (not_both mid.ends mid.ends one.answer one.later refl
      one.other_is two.0.first_is)
  before_on a b c first mid last (inr one) (inl two) = absurd (not_both mid.ends mid.ends two.reply two.place refl
      two.first_is one.0.other_is)
  before_on a b c first mid last (inr one) (inr two) = inr (
    record { first_is = one.0.first_is; other_is = two.0.other_is; call = one.0.call ∙ two.0.call },
    (let low : a < b = one.1 in let high : b < c = two.1 in omega (arith, low, high)),
  )

  before_lower : (a b : ℕ) (first other : OpenCall) → GoesBefore o a b first other →
      rank_of a first.ends < rank_of b other.ends
  before_lower a b first other (inl ahead) =
      let low : rank_of a first.ends ≡ ahead.place = ap (rank_of a) ahead.first_is in
      let high : rank_of b other.ends ≡ ahead.later = ap (rank_of b) ahead.other_is in
      let less = ahead.sooner in omega (arith, low, high, less)
  before_lower a b first other (inr lower) =
      let low : rank_of a first.ends ≡ a = ap (rank_of a) lower.0.first_is in
      let high : rank_of b other.ends ≡ b = ap (rank_of b) lower.0.other_is in
      let less : a < b = lower.1 in omega (arith, low, high, less)

  pub before_alike : (a b : ℕ) (first other : OpenCall) → GoesBefore o a b first other →
      AreAlike o.step (call_of first.asks) (call_of other.asks)
  before_alike a b first other (inl ahead) = ahead.alike
  before_alike a b first other (inr lower) = subst (λ (c : SmallCall). AreAlike o.step (call_of first.asks) (call_of c))
      lower.0.call (record { does = λ s t r step. step; done_by = λ s t r step. step })

  pub before_may : (a b : ℕ) (first other : OpenCall) (reply : Reply) → GoesBefore o a b first other →
      MayGet other.ends reply → MayGet first.ends reply
  before_may a b first other reply (inl ahead) may = subst (λ (e : Ending). MayGet e reply)
      (sym ahead.first_is)
      (ap reply_of ahead.same ∙ subst (λ (e : Ending). MayGet e reply) ahead.other_is may)
  before_may a b first other reply (inr lower) may = subst (λ (e : Ending). MayGet e reply)
      (sym lower.0.first_is) tt

  module _ (table : List (Option OpenCall)) where
    pub before_apart : (a b : ℕ) (first other : OpenCall) → open_at table a ≡ Some first →
        open_at table b ≡ Some other → GoesBefore o a b first other → a ≢ b
    before_apart a b first other is also before same =
        let alike : first ≡ other = one_open table b first other
        (subst (λ (u : ℕ). open_at table u ≡ Some first) same is) also in
        let low = before_lower a b first other before in
        let level : rank_of a first.ends ≡ rank_of b other.ends =
        ap (λ (u : ℕ). rank_of u first.ends) same ∙ ap (λ (c : OpenCall). rank_of b c.ends) alike in
        omega (arith, low, level)

    pub before_first : (a b last : ℕ) (first other : OpenCall) (reply : Reply) (future : List Event) →
        open_at table a ≡ Some first → open_at table b ≡ Some other → ComesAsTold (open_at table) last future →
        MayGet other.ends reply → GoesBefore o a b first other → GoesFirst a b reply future
    before_first a b last first other reply future is also told may (inl ahead) = goes_sooner
        (subst (λ (r : Reply). EndsBy a (event.Returns a r) future)
        (ap reply_of ahead.same ∙ subst (λ (e : Ending). MayGet e reply) ahead.other_is may)
        (subst (λ (e : Ending). EndsSo a e future) ahead.first_is (told.ends a first is)))
        (told.sooner a b first other is also (record {
          reply = ahead.reply;
          answer = ahead.answer;
          place = ahead.place;
          later = ahead.later;
          first_is = ahead.first_is;
          other_is = ahead.other_is;
          sooner = ahead.sooner;
        }))
    before_first a b last first other reply future is also told may (inr lower) = goes_endless
        (subst (λ (e : Ending). EndsSo a e future) lower.0.first_is (told.ends a first is))
        (subst (λ (e : Ending). EndsSo b e future) lower.0.other_is (told.ends b other also))

    -- a call gives way to one of some lanes that goes before it
    pub record GivesTo (Among Left : ℕ → Type 0) (u : ℕ) (begun : OpenCall) : Type 0 where
      pub first_lane : ℕ
      pub first : OpenCall
      pub is_first : open_at table first_lane ≡ Some first
      pub among : Among first_lane
      pub left : Left u
      pub changes : reads_only first ≡ false
      pub goes : GoesBefore o first_lane u first begun

    -- of the calls that go before the one of a lane the first came out so
    pub record ComesFirst (Among Left : ℕ → Type 0) (Outcome : ℕ → OpenCall → Type 0) (u : ℕ) (begun : OpenCall) :
        Type 0
      where
        pub ahead : ℕ
        pub first : OpenCall
        pub is_first : open_at table ahead ≡ Some first
        pub among : Among ahead
        pub outcome : Outcome ahead first
        pub goes : ((ahead ≡ u) × (first ≡ begun)) ⊎
            (GoesBefore o ahead u first begun × (reads_only first ≡ false) × Left u)

    module _ (Among Left : ℕ → Type 0) (Outcome : ℕ → OpenCall → Type 0) (whole : (u : ℕ) (begun : OpenCall) →
        open_at table u ≡ Some begun → Among u → Outcome u begun ⊎ GivesTo Among Left u begun) where
      pub first_of : (n u : ℕ) (begun : OpenCall) → open_at table u ≡ Some begun → Among u →
          rank_of u begun.ends < n → ComesFirst Among Left Outcome u begun
      first_of zero u begun is among low = absurd (omega (arith, low))
      first_of (suc n) u begun is among low = by (whole u begun is among)
          (λ (way : GivesTo Among Left u begun) below. first_of n way.first_lane way.first way.is_first way.among below)
        where
          on : (way : GivesTo Among Left u begun) → (one : ComesFirst Among Left Outcome way.first_lane way.first) →
              ((one.ahead ≡ way.first_lane) × (one.first ≡ way.first)) ⊎
              (GoesBefore o one.ahead way.first_lane one.first way.first × (reads_only one.first ≡ false) ×
              Left way.first_lane) → GoesBefore o one.ahead u one.first begun × (reads_only one.first ≡ false) × Left u
          on way one (inl same) = (
            subst (λ (w : ℕ). GoesBefore o w u one.first begun) (sym same.0)
                (subst (λ (c : OpenCall). GoesBefore o way.first_lane u c begun) (sym same.1) way.goes),
            subst (λ (c : OpenCall). reads_only c ≡ false) (sym same.1) way.changes,
            way.left,
          )
          on way one (inr before) = (
            before_on one.ahead way.first_lane u one.first way.first begun before.0 way.goes,
            before.1,
            way.left,
          )

          by : Outcome u begun ⊎ GivesTo Among Left u begun →
              ((way : GivesTo Among Left u begun) → rank_of way.first_lane way.first.ends < n →
              ComesFirst Among Left Outcome way.first_lane way.first) → ComesFirst Among Left Outcome u begun
          by (inl outcome) later = record {
            ahead = u;
            first = begun;
            is_first = is;
            among = among;
            outcome = outcome;
            goes = inl (refl, refl);
          }
          by (inr way) later =
              let one = later way (let under = before_lower way.first_lane u way.first begun way.goes in
              omega (arith, under, low)) in record {
                ahead = one.ahead;
                first = one.first;
                is_first = one.is_first;
                among = one.among;
                outcome = one.outcome;
                goes = inr (on way one one.goes);
              }
