-- The run up to the return of a call, at which replies are tried.
use Rattle.std.proofs.Common.{ℕ, ◌≡◌, ◌<◌, ◌≤◌, Bool, true, false, List}
use Rattle.std.proofs.Common.{length, Some}
use Rattle.std.proofs.Common.{get_or, refl, sym, ◌∙◌, ap, subst, inl, inr, arith}
use Rattle.std.specs.Prelude.{slice_get, take}
use Rattle.std.specs.List.{All}
use Rattle.std.proofs.lemmas.List.{length-take-le}
use Rattle.std.proofs.lemmas.List.Elements.{All-take}
use Rattle.std.proofs.lemmas.Option.{get_or_from_slice_get, slice_get_within}
use Rattle.stamp_core.specs.declared.reply.Reply.{Reply}
use Rattle.stamp_explain.specs.declared.observed.Observation.{Observation}
use Rattle.stamp_explain.specs.Observed.{ObservedHistory, IsObserved, IsReturnAt}
use Rattle.stamp_explain.specs.Possible.{IsPossible}
use Rattle.stamp_explain.proofs.Lists.{at_index}
use Rattle.stamp_runs.specs.declared.event.Event.{Event}
use Rattle.stamp_watch.specs.AsEvents.{AreMomentsOf, IsEventAt, IsMomentOf, beginning_of, return_of}
use Rattle.stamp_watch.specs.Form.{is_busy_after}
use Rattle.stamp_watch.specs.Names.{AreContents}
use Rattle.stamp_watch.specs.declared.moments.Moment.{Moment}
use Rattle.stamp_watch.specs.declared.trial.Trial.{Trial}
use Rattle.stamp_watch.specs.inner.Trial.{AreNumbered, HasForeign, HasPlaceOf, IsPlaceOf}
use Rattle.stamp_watch.specs.inner.Trial.{IsTrial, IsTrialAt, MayReturn}
use Rattle.stamp_watch.specs.inner.Trial.{words_beside}
use Rattle.stamp_watch.proofs.NeverPossible.{none_behind_foreign}
use Rattle.stamp_watch.proofs.Ranking.{place_in}
use Rattle.stamp_watch.proofs.Trying.{begins_within, free_before, may_return, run_long}

-- the lane of the call, as it is read
pub lane_read : (h : ObservedHistory) (i : ℕ) (at : IsReturnAt h.entries i) (entries : List Observation)
    (d : Observation) → entries ≡ h.entries → (get_or entries i d).thread ≡ at.entry.thread
lane_read h i at entries d same = ap (λ (es : List Observation). (get_or es i d).thread) same ∙
    ap (λ (e : Observation). e.thread) (get_or_from_slice_get h.entries i at.entry d at.is_entry)

-- there are so many moments before one
pub up_to_place : (moments : List Moment) (i : ℕ) (is_return : Bool) (k : ℕ) → IsPlaceOf moments i is_return k →
    length (take k moments) ≡ k
up_to_place moments i is_return k place = length-take-le k moments
    (let less = slice_get_within moments k place.moment place.there in omega (arith, less))

module _ (h : ObservedHistory) (i : ℕ) (at : IsReturnAt h.entries i) (moments : List Moment)
    (are : AreMomentsOf h.entries moments)
  where
    -- the call of the entry begins and returns
    pub has_beginning : HasPlaceOf moments i false
    has_beginning =
        let found = place_in moments (beginning_of i at.entry) (are.begun i at.entry at.is_entry) in
        (found.0, record { moment = beginning_of i at.entry; there = found.1; its_entry = refl; its_kind = refl })

    pub has_return : HasPlaceOf moments i true
    has_return =
        let found = place_in moments (return_of i at.return) (are.returned i at) in
        (found.0, record { moment = return_of i at.return; there = found.1; its_entry = refl; its_kind = refl })

    moment_at : (k : ℕ) (m : Moment) → slice_get moments k ≡ Some m → IsMomentOf h.entries m
    moment_at k m there = subst (IsMomentOf h.entries) (get_or_from_slice_get moments k m m there)
        (are.each k m (slice_get_within moments k m there))

    pub beginning_there : (k : ℕ) → IsPlaceOf moments i false k → slice_get moments k ≡ Some (beginning_of i at.entry)
    beginning_there k place = place.there ∙ ap Some (by (moment_at k place.moment place.there).1)
      where
        by : IsEventAt h.entries place.moment (moment_at k place.moment place.there).0 →
            place.moment ≡ beginning_of i at.entry
        by (inl begins) = cc
        by (inr returns) = cc

    pub return_there : (k : ℕ) → IsPlaceOf moments i true k → slice_get moments k ≡ Some (return_of i at.return)
    return_there k place = place.there ∙ ap Some (by (moment_at k place.moment place.there).1)
      where
        by : IsEventAt h.entries place.moment (moment_at k place.moment place.there).0 →
            place.moment ≡ return_of i at.return
        by (inl begins) = cc
        by (inr returns) = cc

    pub moments_before : (k : ℕ) → All (IsMomentOf h.entries) (take k moments)
    moments_before k = All-take (IsMomentOf h.entries) k moments are.each

    pub low_thread : IsObserved h → at.entry.thread < 64
    low_thread observed =
        at_index (λ (e : Observation). e.thread < 64) h.entries i at.entry observed.threads at.is_entry

    module _ (observed : IsObserved h) (begins place : ℕ) (first : IsPlaceOf moments i false begins)
        (last : IsPlaceOf moments i true place)
      where
        -- no reply is possible behind one that the record can't hold
        pub none_here : HasForeign h (take place moments) → (reply : Reply) → ¬ IsPossible h i reply
        none_here foreign reply =
            none_behind_foreign h observed i at reply moments are place (return_there place last) foreign

        module _ (contents : List (List ℕ)) (run : List Event)
            (numbered : AreNumbered h (take place moments) contents run)
          where
            pub returns_behind : MayReturn run at.entry.thread
            returns_behind =
                may_return h observed moments are i place at (return_there place last) contents run numbered

            pub begins_in : begins ≤ length run
            begins_in =
                let less = begins_within h observed moments are i place at (return_there place last) contents run
                numbered begins (beginning_there begins first) in
                let long = run_long h observed moments are i place at (return_there place last) contents run
                numbered in
                omega (arith, less, long)

            pub free_there : is_busy_after (take begins run) at.entry.thread ≡ false
            free_there = free_before h observed moments are i place at (return_there place last) contents run numbered
                begins (beginning_there begins first)

            pub tried_here : (most : ℕ) (trial : Trial) → AreContents (words_beside h.width) contents →
                IsTrial h.limits trial → trial.events.items ≡ run → trial.lane ≡ at.entry.thread →
                trial.most ≡ most → IsTrialAt h i most contents trial
            tried_here most trial wide is same lane its_most = record {
              observed = observed;
              at = at;
              moments = moments;
              moments_are = are;
              place = place;
              there = return_there place last;
              contents_are = wide;
              numbered = subst (AreNumbered h (take place moments) contents) (sym same) numbered;
              trial_is = is;
              its_lane = lane;
              its_most = its_most;
            }
