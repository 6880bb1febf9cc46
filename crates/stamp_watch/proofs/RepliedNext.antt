-- Which replies the open call of a lane may be given next.
use Rattle.std.proofs.Common.{◌≡◌, ◌⊎◌, suc, ◌+◌, ◌≤◌, ℕ, List, [], ◌∷◌, ◌++◌, Option, Some, None, length, sym, ◌∙◌}
use Rattle.std.proofs.Common.{ap, subst, inl, inr, arith, append_assoc, append-nil}
use Rattle.std.specs.Prelude.{map, take, MatchOption, ⊤}
use Rattle.std.specs.List.{Contains}
use Rattle.std.proofs.lemmas.List.{length-append}
use Rattle.std.proofs.Math.Seq.{take-append_seam}
use Rattle.stamp_core.specs.LockEvent.{write_count}
use Rattle.stamp_core.specs.Limits.{AreInRange, Bounds}
use Rattle.stamp_core.specs.declared.call.Call.TheVariants.{Get, Put}
use Rattle.stamp_core.specs.declared.reply.Reply.{Reply}
use Rattle.stamp_core.specs.declared.reply.Reply.TheVariants.{Content, Stamp}
use Rattle.stamp_core.proofs.WellFormedPush.{obeys_now}
use Rattle.stamp_runs.specs.BothRun.{AreExplained, Both, start}
use Rattle.stamp_runs.specs.Own.{none_open, open_after}
use Rattle.stamp_runs.specs.Run.{Leads, all_idle}
use Rattle.stamp_runs.specs.Run.Leads.{by_event}
use Rattle.stamp_runs.specs.declared.event.Event.{Event}
use Rattle.stamp_runs.specs.declared.event.Event.TheVariants.{Begins, Returns}
use Rattle.stamp_runs.proofs.Lanes.{idle_or_gets, leads_on}
use Rattle.stamp_runs.proofs.OwnEvents.{none_idle, open_along}
use Rattle.stamp_sets.specs.SmallCall.{call_of, reply_of}
use Rattle.stamp_sets.specs.declared.small_call.SmallReply.{SmallReply}
use Rattle.stamp_watch.specs.Possible.{plain_replies}
use Rattle.stamp_watch.specs.declared.candidates.BegunCall.{BegunCall}
use Rattle.stamp_watch.specs.declared.candidates.Issued.{Issued}
use Rattle.stamp_watch.specs.inner.Candidates.{AreTelling, IsBetween, IsNewestTold, IsOpenAt}
use Rattle.stamp_watch.specs.inner.Candidates.{IsLeftSince, IsReadable, IsReturnedPut, MayBeGiven, MayBeLeft}
use Rattle.stamp_watch.specs.inner.Candidates.{ReturnsAt, stamps_given}
use Rattle.stamp_watch.proofs.BeginningLate.{versions_stay}
use Rattle.stamp_watch.proofs.Giving.{StepGives, step_gives}
use Rattle.stamp_watch.proofs.LastTold.{no_newer}
use Rattle.stamp_watch.proofs.LeftSince.{left_at_all, left_since_put, since_on}
use Rattle.stamp_watch.proofs.TakingEffect.{ComesTo, TakesEffect, comes_to, takes_effect_between}
use Rattle.stamp_watch.proofs.ToldAlong.{Stands, stands_so}
use Rattle.stamp_watch.proofs.Ways.{InTwo, cut}

module _ (limits : Bounds) (range : AreInRange limits) where
  module _ (events : List Event) (lane : ℕ) (reply : Reply)
      (explained : AreExplained limits (events ++ Returns lane reply ∷ [])) where
    -- the moment before the return
    two : InTwo (Both limits) events (Returns lane reply ∷ []) start all_idle explained.state explained.last
    two = cut events (Returns lane reply ∷ []) explained.way

    last : ComesTo (Both limits) (Returns lane reply) [] two.state two.lanes explained.state explained.last
    last = comes_to (Both limits) (Returns lane reply) [] two.behind

    way : Leads (Both limits) events start all_idle last.state last.lanes
    way = subst (λ (xs : List Event). Leads (Both limits) xs start all_idle last.state last.lanes)
        (append-nil events) (leads_on two.before last.first)

    pub is_open : open_after events lane ≡ None → ⊥
    is_open none = idle_or_gets ((open_along none_open (λ v. none_idle) way lane).0 none) last.happens.0

    module _ (begun : BegunCall) (is : IsOpenAt events lane begun) where
      -- the moments at which the call begins, and takes effect
      first : InTwo (Both limits) is.there.before (Begins lane (call_of begun.call) ∷ is.there.behind) start all_idle
          last.state last.lanes
      first = cut is.there.before (Begins lane (call_of begun.call) ∷ is.there.behind)
          (subst (λ (xs : List Event). Leads (Both limits) xs start all_idle last.state last.lanes)
          is.there.events_are way)

      began : ComesTo (Both limits) (Begins lane (call_of begun.call)) is.there.behind first.state first.lanes
          last.state last.lanes
      began = comes_to (Both limits) (Begins lane (call_of begun.call)) is.there.behind first.behind

      effect : TakesEffect (Both limits) is.there.behind began.state began.after last.state last.lanes lane
          (call_of begun.call) reply
      effect = takes_effect_between (Both limits) lane (call_of begun.call) reply is.there.spared
          began.happens.1.here last.happens.0 began.later

      abbrev past : List Event
      past = is.there.before ++ Begins lane (call_of begun.call) ∷ effect.before

      way_there : Leads (Both limits) past start all_idle effect.state effect.asking
      way_there = leads_on first.before
          (leads_on began.first (by_event (Begins lane (call_of begun.call)) began.happens effect.first))

      stands : Stands limits past effect.state effect.asking
      stands = stands_so limits range way_there

      gives : StepGives limits effect.state effect.next (call_of begun.call) reply
      gives = step_gives limits range effect.state effect.next (call_of begun.call) reply stands.well_formed
          effect.step

      before_is : take begun.place events ≡ is.there.before
      before_is = ap (λ (n : ℕ). take n events) is.place_is ∙
          ap (take (length is.there.before)) is.there.events_are ∙
          take-append_seam is.there.before (Begins lane (call_of begun.call) ∷ is.there.behind)

      least : (told : ℕ) → IsNewestTold limits is.there.before told → told ≤ write_count effect.state.0
      least told newest = by newest.told
        where
          later : write_count first.state.0 ≤ write_count effect.state.0
          later = let a : write_count first.state.0 ≤ write_count began.state.0 = versions_stay began.first in
              let b : write_count began.state.0 ≤ write_count effect.state.0 = versions_stay effect.first in
              omega (arith, a, b)

          by : (told ≡ 0) ⊎ AreTelling limits told is.there.before → told ≤ write_count effect.state.0
          by (inl none) = omega (arith, none)
          by (inr telling) = let old : told ≤ write_count first.state.0 =
              (stands_so limits range first.before).told told telling in omega (arith, old, later)

      between : IsBetween limits events begun.place (write_count effect.state.0) (write_count effect.next.0)
      between = record {
        least = λ told newest. least told (subst (λ (xs : List Event). IsNewestTold limits xs told) before_is newest);
        most = λ told lanes newest writing. let more : write_count effect.next.0 ≤ write_count last.state.0 =
            versions_stay effect.later in
            let most : write_count last.state.0 ≤ told + length lanes =
            no_newer limits events last.state last.lanes (stands_so limits range way) told newest lanes writing in
            omega (arith, more, most);
        within = (obeys_now limits effect.next.0 gives.well_formed).within.versions;
      }

      pub plain_among : (rs : List SmallReply) → plain_replies limits (call_of begun.call) ≡ Some rs →
          Contains (map reply_of rs) reply
      plain_among rs plain = subst (λ (o : Option (List SmallReply)).
          MatchOption o ⊤ (λ xs. Contains (map reply_of xs) reply)) plain gives.plain

      -- a stamp that is given where the lock has a version that it may have had
      pub record GivenStamp : Type 0 where
        pub old : ℕ
        pub version : ℕ
        pub there : IsBetween limits events begun.place old version
        pub stamp : ℕ
        pub is_stamp : reply ≡ Stamp stamp
        pub may : MayBeGiven limits (call_of begun.call) old version stamp

      pub given_stamp : (kind : Issued) → stamps_given (call_of begun.call) ≡ Some kind → GivenStamp
      given_stamp kind given = by (subst (λ (o : Option Issued).
          MatchOption o ⊤ (λ k. (s : ℕ) × (reply ≡ Stamp s))) given gives.stamp)
        where
          by : (s : ℕ) × (reply ≡ Stamp s) → GivenStamp
          by one = record {
            old = write_count effect.state.0;
            version = write_count effect.next.0;
            there = between;
            stamp = one.0;
            is_stamp = one.1;
            may = gives.given one.0 one.1;
          }

      whole : past ++ effect.behind ≡ events
      whole = append_assoc is.there.before (Begins lane (call_of begun.call) ∷ effect.before) effect.behind ∙
          ap (λ (xs : List Event). is.there.before ++ Begins lane (call_of begun.call) ∷ xs) (sym effect.parts) ∙
          sym is.there.events_are

      -- where a put had returned before the call began
      since_put : (place : ℕ) → ReturnsAt is.there.before place → IsLeftSince past place effect.state.1
      since_put place at = subst (λ (k : ℕ). IsLeftSince past k effect.state.1) (sym at.place_is)
          (subst (λ (xs : List Event). IsLeftSince xs (length at.before) effect.state.1) (sym past_is)
          (left_since_put limits range at.before put.between (put.rest ++ Begins lane (call_of begun.call) ∷
          effect.before) put.lane put.words put.reply effect.state effect.asking put.spared
          (subst (λ (xs : List Event). Leads (Both limits) xs start all_idle effect.state effect.asking) past_is
          way_there)))
        where
          put : IsReturnedPut at.event at.behind
          put = at.is

          past_is : past ≡ at.before ++ Begins put.lane (Put put.words) ∷ (put.between ++
              Returns put.lane put.reply ∷ (put.rest ++ Begins lane (call_of begun.call) ∷ effect.before))
          past_is = ap (λ (xs : List Event). xs ++ Begins lane (call_of begun.call) ∷ effect.before)
              (at.events_are ∙ ap (λ (e : Event). at.before ++ e ∷ at.behind) put.begins ∙
              ap (λ (xs : List Event). at.before ++ Begins put.lane (Put put.words) ∷ xs) put.behind_is) ∙
              append_assoc at.before (Begins put.lane (Put put.words) ∷ (put.between ++
              Returns put.lane put.reply ∷ put.rest)) (Begins lane (call_of begun.call) ∷ effect.before) ∙
              ap (λ (xs : List Event). at.before ++ Begins put.lane (Put put.words) ∷ xs)
              (append_assoc put.between (Returns put.lane put.reply ∷ put.rest)
              (Begins lane (call_of begun.call) ∷ effect.before))

      at_first : MayBeLeft None past effect.state.1 → MayBeLeft None (past ++ effect.behind) effect.state.1
      at_first (inl same) = inl same
      at_first (inr left) = inr (since_on past effect.behind 0 effect.state.1 (omega arith) left)

      readable : IsReadable events begun.place effect.state.1
      readable None known = subst (λ (xs : List Event). MayBeLeft None xs effect.state.1) whole
          (at_first (left_at_all limits range way_there))
      readable (Some place) known = subst (λ (xs : List Event). IsLeftSince xs place effect.state.1) whole
          (since_on past effect.behind place effect.state.1 within (since_put place at))
        where
          at : ReturnsAt is.there.before place
          at = subst (λ (xs : List Event). ReturnsAt xs place) before_is known

          within : place ≤ length past
          within = let one : length is.there.before ≡ length at.before + suc (length at.behind) =
              ap length at.events_are ∙ length-append at.before (at.event ∷ at.behind) in
              let all : length past ≡ length is.there.before + suc (length effect.before) =
              length-append is.there.before (Begins lane (call_of begun.call) ∷ effect.before) in
              let same = at.place_is in omega (arith, one, all, same)

      -- a content that is read
      pub record ReadContent : Type 0 where
        pub content : List ℕ
        pub is_content : reply ≡ Content content
        pub readable : IsReadable events begun.place content

      pub read_content : call_of begun.call ≡ Get → ReadContent
      read_content get = record {
        content = effect.state.1;
        is_content = gives.gets get;
        readable = readable;
      }
