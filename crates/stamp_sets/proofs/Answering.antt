-- What is kept once a call has begun, was withdrawn or returned, and what it means that nothing is.
use Rattle.std.proofs.Common.{ℕ, ◌≡◌, ◌≢◌, ◌⊎◌, ◌<◌, ◌≤◌, List, [], ◌∷◌, ◌++◌, Bool, true, false, Option, Some, None}
use Rattle.std.proofs.Common.{refl, sym, subst, inl, inr, arith, append-nil}
use Rattle.std.specs.Prelude.{slice_set}
use Rattle.std.specs.List.{All, Contains}
use Rattle.std.specs.Int.{bit_at}
use Rattle.std.proofs.lemmas.List.Elements.{All-contains, All-head, All-weaker}
use Rattle.stamp_core.specs.declared.reply.Reply.{Reply}
use Rattle.stamp_runs.specs.Run.{AreExplainedFrom}
use Rattle.stamp_runs.specs.Watching.{OneSurvives}
use Rattle.stamp_runs.specs.Position.{OfSome}
use Rattle.stamp_runs.specs.Position.Hidden.{no_more}
use Rattle.stamp_runs.specs.declared.event.Event.{Event}
use Rattle.stamp_runs.specs.declared.event.Event.TheVariants as event
use Rattle.stamp_runs.proofs.Sets.{leads_survive}
use Rattle.stamp_sets.specs.declared.ending.Ending.TheVariants.{Returns, Withdraws}
use Rattle.stamp_sets.specs.declared.open_call.OpenCall.{OpenCall}
use Rattle.stamp_sets.specs.declared.position.Position.{Position}
use Rattle.stamp_sets.specs.declared.small_call.SmallReply.{SmallReply}
use Rattle.stamp_sets.specs.declared.half.Half.{Half}
use Rattle.stamp_sets.specs.declared.object.Object.{Object}
use Rattle.stamp_sets.specs.Half.{HasMore, KeepsRun}
use Rattle.stamp_sets.specs.Judged.{Judged, judged}
use Rattle.stamp_sets.specs.SmallCall.{call_of, reply_of}
use Rattle.stamp_sets.specs.inner.State.{IsState}
use Rattle.stamp_sets.specs.Kept.{AreKept, IsKept, IsPossible}
use Rattle.stamp_sets.specs.Told.{IsTold, open_at}
use Rattle.stamp_sets.specs.inner.Layer.{AreReturned, IsAfterReturn, IsComeTo, IsLookedAt, ReturnsThrough}
use Rattle.stamp_sets.specs.inner.Layer.{TooManyFollow}
use Rattle.stamp_sets.specs.inner.Start.{IsFixed, StartsWith}
use Rattle.stamp_sets.specs.inner.Step.{AreBegun}
use Rattle.stamp_sets.proofs.Lawful.{IsLawful}
use Rattle.stamp_sets.proofs.Overwriting.{judged_lawful}
use Rattle.stamp_sets.proofs.Layering.{all_from, none_in_nil, taken_each, under_way_returned}
use Rattle.stamp_sets.proofs.Returned.{kept_after, reached_may_be, reads_come, taken_unfree}
use Rattle.stamp_sets.proofs.Stepping.{kept_begun, kept_withdrawn}

module _ {S : Type 0} (o : Judged S) where
  pub some_explained : (past : List Event) (table : List (Option OpenCall)) (kept : List Position) → kept ≢ [] →
      All (IsPossible o past table) kept → AreExplainedFrom o.step o.start past
  some_explained past table [] some are = absurd (some refl)
  some_explained past table (p ∷ ps) some are = by (All-head (IsPossible o past table) p ps are)
    where
      by : IsPossible o past table p → AreExplainedFrom o.step o.start past
      by is = leads_survive o.step (is.may_be is.position.state is.position.lanes
          (record { same = refl; hidden = no_more }))

  -- the numbers that are kept tell states
  pub kept_states : (past : List Event) (table : List (Option OpenCall)) (last : ℕ) (kept : List Position) →
      AreKept o past table last kept → All (λ (p : Position). IsState o p.state) kept
  kept_states past table last kept are = All-weaker (IsPossible o past table) (λ (p : Position). IsState o p.state)
      (λ p is. record { state = is.position.state; holds = is.reads.state }) kept are.possible

  pub none_left : (past : List Event) (table : List (Option OpenCall)) (kept : List Position) (future : List Event) →
      kept ≡ [] → OneSurvives o.step future (OfSome o.step (IsKept o past table kept)) → ⊥
  none_left past table kept future none one = none_in_nil one.among.among.is.numbers
      (subst (λ (xs : List Position). Contains xs one.among.among.is.numbers) none one.among.among.is.among)

  module _ (lawful : IsLawful o) (past : List Event) (table : List (Option OpenCall)) (last : ℕ) where
    pub more_possible : (lane : ℕ) (start first many : List Position) → AreKept o past table last start →
        StartsWith o table lane start first → ((x : Position) → Contains many x → IsComeTo o table lane first x) →
        All (IsPossible o past table) many
    more_possible lane start first many are starts come =
        all_from (IsPossible o past table) many (λ x among. at x among)
      where
        at : (x : Position) → Contains many x → IsPossible o past table x
        at x among = let one = reads_come o lawful table past start lane are.possible first starts x (come x among) in
            record {
              position = one.position;
              reads = one.reads;
              may_be = reached_may_be o lawful table past start lane one.position one.reached;
            }

    -- where the call is in effect in each position they are the first layer
    starts_taken : (lane : ℕ) (kept : List Position) → AreKept o past table last kept →
        ((x : Position) → Contains kept x → bit_at x.in_effect lane ≡ 1) → StartsWith o table lane kept kept
    starts_taken lane kept are taken = record {
      each = λ x among. record {
        fixed = x;
        among = among;
        is = fixed x among;
        hidden = λ b is_open free. let none = unset x among in absurd (omega (arith, free, none));
      };
      only = λ x among. record { from = x; among = among; taken = inl (fixed x among) };
    }
      where
        unset : (x : Position) → Contains kept x → bit_at x.free lane ≡ 0
        unset x among = let is = All-contains (IsPossible o past table) kept x are.possible among in
            taken_unfree o table lane x is.position is.reads (taken x among)

        fixed : (x : Position) → Contains kept x → IsFixed lane x x
        fixed x among = record {
          state = refl;
          in_effect = refl;
          clears = record { here = unset x among; others = λ other apart. refl };
        }

    through : (lane : ℕ) (kept done : List Position) → AreKept o past table last kept →
        AreReturned lane kept done ⊎ ReturnsThrough o table lane kept done → ReturnsThrough o table lane kept done
    through lane kept done are (inl each) = record {
      first = kept;
      starts = starts_taken lane kept are (λ x among. taken_each o table lane kept done each x among);
      under = under_way_returned o table lane kept done each;
    }
    through lane kept done are (inr by) = by

    pub kept_returned : (lane : ℕ) (begun : OpenCall) (told : SmallReply) (place : ℕ) (reply : Reply)
        (kept done : List Position) → open_at table lane ≡ Some begun → begun.ends ≡ Returns told place →
        reply_of told ≡ reply → last ≤ place →
        AreReturned lane kept done ⊎ ReturnsThrough o table lane kept done → AreKept o past table last kept →
        AreKept o (past ++ event.Returns lane reply ∷ []) (slice_set table lane None) place done
    kept_returned lane begun told place reply kept done is_open ends same due returned are =
        kept_after o lawful table past last lane begun told place reply is_open ends same due are.lanes kept by.first
        by.under.seen done by.starts
        (λ x is. subst (λ (xs : List Position). Contains xs x) (append-nil by.under.seen) (by.under.starts x is))
        (λ x is. subst (λ (xs : List Position). IsLookedAt o table lane x done xs) (append-nil by.under.seen)
        (by.under.each x is)) are.possible
        (λ x is. by.under.come x (subst (λ (xs : List Position). Contains xs x) (sym (append-nil by.under.seen)) is))
        by.under.done_only are.stand
      where
        by : ReturnsThrough o table lane kept done
        by = through lane kept done are returned

-- the same by what the code reads
pub begun_read : {S : Type 0} (o : Judged S) (past : List Event) (last lane : ℕ) (begun : OpenCall)
    (table later : List (Option OpenCall)) (kept new : List Position) → lane < 64 → open_at table lane ≡ None →
    later ≡ slice_set table lane (Some begun) → AreBegun o begun lane kept new → AreKept o past table last kept →
    AreKept o (past ++ event.Begins lane (call_of begun.asks) ∷ []) later last new
begun_read o past last lane begun table later kept new below idle put begins are =
    subst (λ (t : List (Option OpenCall)). AreKept o (past ++ event.Begins lane (call_of begun.asks) ∷ []) t last new)
    (sym put) (kept_begun o past table last lane begun kept new are.lanes below idle begins are)

module _ (object : Object) (past : List Event) (last lane : ℕ) (table later : List (Option OpenCall))
    (kept : List Position) (are : AreKept (judged object) past table last kept) where
  pub withdrawn_read : IsTold (open_at table) lane Withdraws → later ≡ slice_set table lane None →
      AreKept (judged object) (past ++ event.Withdraws lane ∷ []) later last kept
  withdrawn_read told put =
      subst (λ (t : List (Option OpenCall)). AreKept (judged object) (past ++ event.Withdraws lane ∷ []) t last kept)
      (sym put) (kept_withdrawn (judged object) (judged_lawful object) past table last lane told.begun kept told.is_open
      told.ends are)

  pub returned_read : (slice : List (Option OpenCall)) (done : List Position) (reply : SmallReply) (place most : ℕ) →
      slice ≡ table → IsTold (open_at table) lane (Returns reply place) → last ≤ place →
      later ≡ slice_set table lane None → (all : Bool) → all ≡ true →
      IsAfterReturn (judged object) slice lane most kept done all →
      AreKept (judged object) (past ++ event.Returns lane (reply_of reply) ∷ []) later place done
  returned_read slice done reply place most read told due put all is after =
      subst (λ (t : List (Option OpenCall)).
      AreKept (judged object) (past ++ event.Returns lane (reply_of reply) ∷ []) t place done) (sym put)
      (kept_returned (judged object) (judged_lawful object) past table last lane told.begun reply place (reply_of reply)
      kept done told.is_open told.ends refl due
      (subst (λ (t : List (Option OpenCall)). IsAfterReturn (judged object) t lane most kept done true) read
      (subst (λ (b : Bool). IsAfterReturn (judged object) slice lane most kept done b) is after)) are)

pub too_many_read : (half : Half) (past : List Event) (last lane most : ℕ) (slice : List (Option OpenCall))
    (done : List Position) (all : Bool) → slice ≡ half.table.items → all ≡ false →
    IsAfterReturn (judged half.object) slice lane most half.positions.items done all → KeepsRun past last half →
    HasMore past most half
too_many_read half past last lane most slice done all read is after keeps =
    by (subst (λ (t : List (Option OpenCall)). TooManyFollow (judged half.object) t lane most half.positions.items) read
    (subst (λ (b : Bool). IsAfterReturn (judged half.object) slice lane most half.positions.items done b) is after))
  where
    by : TooManyFollow (judged half.object) half.table.items lane most half.positions.items → HasMore past most half
    by too_many = record {
      many = too_many.more.many;
      more = too_many.more.more;
      different = too_many.more.different;
      possible = more_possible (judged half.object) (judged_lawful half.object) past half.table.items last lane
          half.positions.items too_many.first too_many.more.many keeps.kept too_many.starts too_many.more.come;
    }
