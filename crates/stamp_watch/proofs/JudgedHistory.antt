-- What is found of a history, by the verdict of its run by numbers.
use Rattle.std.proofs.Common.{◌≡◌, ◌⊎◌, ℕ, zero, suc, ◌+◌, ◌<◌, ◌≤◌, List, length, refl, sym}
use Rattle.std.proofs.Common.{◌∙◌, ap, subst, inl, inr, arith, get_or, Option, Some, None}
use Rattle.std.specs.Prelude.{◌-◌, ◌↔◌, map, option_map, slice_get, take}
use Rattle.std.proofs.lemmas.Bool.{cases_lt, false≢true}
use Rattle.std.proofs.lemmas.List.{length-map, take-map, take_all}
use Rattle.std.proofs.lemmas.Option.{none-some, same_Some, slice_get-get_or, slice_get-map, slice_get_within}
use Rattle.std.proofs.lemmas.Slice.Zip.{AllZip-long}
use Rattle.stamp_explain.specs.Cut.{IsStuck, cut_after, cut_before}
use Rattle.stamp_explain.specs.Explained.{IsExplained}
use Rattle.stamp_explain.specs.Observed.{IsObserved, ObservedHistory}
use Rattle.stamp_runs.specs.declared.event.Event.{Event}
use Rattle.stamp_runs.specs.declared.event.Event.TheVariants.{Begins, Returns, Withdraws}
use Rattle.stamp_runs.specs.BothRun.{AreExplained, AreStuckAt, Both}
use Rattle.stamp_runs.specs.Names.{Names, event_by}
use Rattle.stamp_runs.specs.Run.{AreExplainedFrom, AreStuckFrom}
use Rattle.stamp_runs.specs.Run.Leads.{leads_nowhere}
use Rattle.stamp_watch.specs.declared.moments.Moment.{Moment}
use Rattle.stamp_watch.specs.declared.verdict.Verdict.TheVariants.{Explained, Stuck, StuckWithin, Undecided, Broken}
use Rattle.stamp_watch.specs.declared.verdict.Why.{Why}
use Rattle.stamp_watch.specs.declared.verdict.Why.TheVariants.{TooMany, TooFar}
use Rattle.stamp_watch.specs.AsEvents.{AreEventsOf, AreMomentsOf, AreNamesFor, IsEventAt, IsReturnOf}
use Rattle.stamp_watch.specs.AsEvents.{return_of, state_at_first}
use Rattle.stamp_watch.specs.History.{IsRunOf, IsStuckBetween, IsUndecided, NoneReturns, ReturnsAt}
use Rattle.stamp_watch.specs.Verdict.{AreOfLanes, IsVerdict}
use Rattle.stamp_watch.specs.inner.History.{IsReturnPlace, IsToldRun}
use Rattle.stamp_watch.specs.inner.Judging.{AreTaken, GivesUpAmong, IsReturn, ReturnsHere}
use Rattle.stamp_watch.specs.inner.Trial.{IsForeign}
use Rattle.stamp_watch.proofs.AsEvents.{cut_as_events, explained_by_numbers, explained_on, named_as_events}
use Rattle.stamp_watch.proofs.AsEvents.{returned_as_events, stuck_as_events, stuck_at_returns, told_test}
use Rattle.stamp_watch.proofs.ByNumber.{in_take}
use Rattle.stamp_watch.proofs.Foreign.{cut_replies_known}
use Rattle.stamp_watch.proofs.Ranking.{zip_at, zip_there}
use Rattle.stamp_watch.proofs.Renamed.{each_reply}
use Rattle.stamp_watch.proofs.TellingRuns.{told_taken}
use Rattle.stamp_watch.proofs.Trying.{all_events, name_for, names_are}

-- the history is stuck at the entry that returns at the moment of this place
pub record IsStuckThere (h : ObservedHistory) (moments : List Moment) (place : ℕ) : Type 0 where
  pub entry : ℕ
  pub there : ReturnsAt h moments place entry
  pub stuck : IsStuck h entry

-- whether it is stuck there is undecided
pub record IsUndecidedThere (h : ObservedHistory) (moments : List Moment) (most place : ℕ) : Type 0 where
  pub entry : ℕ
  pub there : ReturnsAt h moments place entry
  pub undecided : IsUndecided h most entry

-- it is stuck there, or between there and another return
pub record IsStuckBetweenThere (h : ObservedHistory) (moments : List Moment) (most first last : ℕ) : Type 0 where
  pub entry : ℕ
  pub other : ℕ
  pub there : ReturnsAt h moments first entry
  pub then : ReturnsAt h moments last other
  pub between : IsStuckBetween h most entry other

pub within_moments : {h : ObservedHistory} (moments : List Moment) (place i : ℕ) → ReturnsAt h moments place i →
    place < length moments
within_moments moments place i there = slice_get_within moments place (return_of i there.at.return) there.here

return_named : (name : Names) (e : Event) → IsReturn (event_by name e) → IsReturn e
return_named name (Begins lane call) is = is
return_named name (Returns lane reply) is = is
return_named name (Withdraws lane) is = is

module _ (h : ObservedHistory) (observed : IsObserved h) (moments : List Moment) (are : AreMomentsOf h.entries moments)
    (told : List Event) (run_is : IsToldRun h moments told)
  where
    abbrev name : Names
    name = name_for h.width run_is.contents

    names : AreNamesFor h name
    names = names_are h run_is.contents run_is.are

    abbrev events : List Event
    events = (all_events h.entries moments are.each).0

    of : AreEventsOf h moments events
    of = record { are = are; events_are = (all_events h.entries moments are.each).1 }

    abbrev pub run : List Event
    run = map (event_by name) events

    pub taken : AreTaken run told
    taken = told_taken h observed moments told run_is events of

    pub told_whole : AreOfLanes told
    told_whole = subst AreOfLanes (sym taken.same) taken.form.whole

    pub is_run : IsRunOf h moments run
    is_run = record { events = events; are = of; name = name; names = names; run_is = refl }

    same_long : length events ≡ length moments
    same_long = AllZip-long (IsEventAt h.entries) moments events of.events_are

    pub run_long : length run ≡ length moments
    run_long = length-map events (event_by name) ∙ same_long

    -- up to a moment
    explained_up_to : (k : ℕ) → AreExplainedFrom (Both h.limits) (state_at_first h) (take k events) ↔
        AreExplained h.limits (take k run)
    explained_up_to k = subst (λ (es : List Event).
        AreExplainedFrom (Both h.limits) (state_at_first h) (take k events) ↔ AreExplained h.limits es)
        (sym (take-map (event_by name) k events))
        (named_as_events h name (take k events) names)

    returns_at : (k : ℕ) → IsReturnOf h.entries (slice_get moments k) → (i : ℕ) × ReturnsAt h moments k i
    returns_at k is = (is.index, record { at = is.at; here = is.moment })

    before_return : (k i : ℕ) (there : ReturnsAt h moments k i) → AreExplained h.limits (take k run) →
        IsExplained (cut_before there.at.return i h)
    before_return k i there explained =
        (cut_as_events h moments events k (return_of i there.at.return) observed of there.here).1
        ((explained_up_to k).1 explained)

    pub judged_explained : (most : ℕ) → IsVerdict h.limits run most None Explained → IsExplained h
    judged_explained most is = (explained_by_numbers h moments events name observed of names).1 is.1

    stuck_there : (k : ℕ) → AreStuckAt h.limits run k → IsStuckThere h moments k
    stuck_there k stuck = by (returns_at k (stuck_at_returns h moments events k observed of in_words))
      where
        in_words : AreStuckFrom (Both h.limits) (state_at_first h) events k
        in_words = record {
          explained = (explained_up_to k).1 stuck.explained;
          stuck = λ on. stuck.stuck ((explained_up_to (k + 1)).0 on);
        }

        by : (i : ℕ) × ReturnsAt h moments k i → IsStuckThere h moments k
        by its = record {
          entry = its.0;
          there = its.1;
          stuck = (stuck_as_events h moments events its.0 k its.1.at observed of its.1.here).1 in_words;
        }

    pub judged_stuck : (most k : ℕ) → IsVerdict h.limits run most None (Stuck k) → IsStuckThere h moments k
    judged_stuck most k is = stuck_there k is.1

    -- it breaks off at a return with a foreign content
    foreign_there : (k : ℕ) (e : Event) (m : Moment) → slice_get moments k ≡ Some m → IsEventAt h.entries m e →
        IsForeign h.width e → AreExplained h.limits (take k run) → IsStuckThere h moments k
    foreign_there k e m at_k (inl begins) foreign explained =
        absurd (subst (IsForeign h.width) begins.event_is foreign)
    foreign_there k e m at_k (inr returns) foreign explained = record {
      entry = m.entry;
      there = there;
      stuck = record {
        at = returns.at;
        explained = before_return k m.entry there explained;
        stuck = λ after. subst (IsForeign h.width) returns.event_is foreign (each_reply (λ words its. its.wide)
            returns.at.return.reply (cut_replies_known h returns.at.return.last (m.entry + 1) observed.suit after
            m.entry returns.at (told_test returns.at.return.last returns.at.return.last m.entry (m.entry + 1)
            (inr (refl, omega arith)))));
      };
    }
      where
        there : ReturnsAt h moments k m.entry
        there = record { at = returns.at; here = at_k ∙ ap (λ (x : Moment). Some x) returns.moment }

    pub judged_broken : (most k : ℕ) → IsVerdict h.limits run most None (Broken k) → GivesUpAmong told (Broken k) →
        IsStuckThere h moments k
    judged_broken most k is last = by (slice_get events k) refl
      where
        none_left : length run ≤ k → ⊥
        none_left all = is.0.broken (subst (λ (es : List Event). AreOfLanes es)
            (take_all k run all ∙ sym (take_all (k + 1) run (omega (arith, all)))) is.0.whole)

        by : (o : Option Event) → slice_get events k ≡ o → IsStuckThere h moments k
        by None at = absurd (none_left (by_cases (cases_lt k (length run))))
          where
            by_cases : (k < length run) ⊎ (length run ≤ k) → length run ≤ k
            by_cases (inl less) = absurd (none-some (get_or events k (Withdraws 0)) (sym at ∙
                slice_get-get_or events k (Withdraws 0)
                (omega (arith, less, run_long, same_long))))
            by_cases (inr all) = all
        by (Some e) at =
            let found = zip_at (IsEventAt h.entries) k moments events e of.events_are at in
            foreign_there k e found.0 found.1.0 found.1.1
            (run_is.so_far.foreign found.0 e (sym (ap (slice_get moments) last) ∙ found.1.0) found.1.1) is.1

    -- it is given up at a return
    return_there : (k : ℕ) → ReturnsHere told k → (i : ℕ) × ReturnsAt h moments k i
    return_there k here = by (slice_get events k) refl
      where
        in_run : slice_get run k ≡ Some here.event
        in_run = (in_take (length told) k run here.event
            (subst (λ (es : List Event). slice_get es k ≡ Some here.event) taken.same here.here)).1

        named : (o : Option Event) → slice_get events k ≡ o →
            option_map (event_by name) o ≡ Some here.event
        named o at = sym (slice_get-map (event_by name) events k ∙ ap (option_map (event_by name)) at) ∙
            in_run

        at_moment : (e : Event) (m : Moment) → IsReturn e → slice_get moments k ≡ Some m → IsEventAt h.entries m e →
            (i : ℕ) × ReturnsAt h moments k i
        at_moment e m is at_k (inl begins) = absurd (subst IsReturn begins.event_is is)
        at_moment e m is at_k (inr returns) =
            (m.entry, record { at = returns.at; here = at_k ∙ ap (λ (x : Moment). Some x) returns.moment })

        by : (o : Option Event) → slice_get events k ≡ o → (i : ℕ) × ReturnsAt h moments k i
        by None at = absurd (none-some here.event (named None at))
        by (Some e) at =
            let found = zip_at (IsEventAt h.entries) k moments events e of.events_are at in
            at_moment e found.0 (return_named name e (subst IsReturn (sym (same_Some (event_by name e)
            here.event (named (Some e) at))) here.is)) found.1.0 found.1.1

    pub judged_undecided : (most k : ℕ) (why : Why) → IsVerdict h.limits run most None (Undecided k why) →
        GivesUpAmong told (Undecided k why) → IsUndecidedThere h moments most k
    judged_undecided most k TooFar is among = absurd is.2
    judged_undecided most k TooMany is among = by (return_there k among)
      where
        by : (i : ℕ) × ReturnsAt h moments k i → IsUndecidedThere h moments most k
        by its = record {
          entry = its.0;
          there = its.1;
          undecided = record {
            moments = moments;
            run = run;
            is_run = is_run;
            place = k;
            there = its.1;
            explained = before_return k its.0 its.1 is.1;
            too_many = is.2;
          };
        }

    -- a history that is explained stays so up to the next return
    goes_on : (from many : ℕ) → NoneReturns moments from (from + many) →
        AreExplainedFrom (Both h.limits) (state_at_first h) (take from events) →
        AreExplainedFrom (Both h.limits) (state_at_first h) (take (from + many) events)
    goes_on from zero none explained =
        let same : from ≡ from + 0 = omega arith in
        subst (λ (n : ℕ). AreExplainedFrom (Both h.limits) (state_at_first h) (take n events)) same explained
    goes_on from (suc many) none explained =
        let next : suc (from + many) ≡ from + suc many = omega arith in
        subst (λ (n : ℕ). AreExplainedFrom (Both h.limits) (state_at_first h) (take n events)) next
        (explained_on h moments events (from + many) observed of
        (λ m at. none (from + many) m (omega arith) (omega arith) at)
        (goes_on from many (λ k m low less at. none k m low (omega (arith, less)) at) explained))

    explained_to : (from to : ℕ) → from ≤ to → NoneReturns moments from to → AreExplained h.limits (take from run) →
        AreExplained h.limits (take to run)
    explained_to from to less none explained =
        let apart : to ≡ from + (to - from) = omega (arith, less) in
        (explained_up_to to).0 (subst (λ (n : ℕ). AreExplainedFrom (Both h.limits) (state_at_first h) (take n events))
        (sym apart) (goes_on from (to - from) (subst (NoneReturns moments from) apart none)
        ((explained_up_to from).1 explained)))

    nothing_explained : AreExplained h.limits (take 0 run)
    nothing_explained = record { state = _; last = _; way = leads_nowhere }

    return_at_place : (place : ℕ) → IsReturnPlace moments place → (i : ℕ) × ReturnsAt h moments place i
    return_at_place place is = by (zip_there (IsEventAt h.entries) place moments events is.moment of.events_are is.here)
      where
        by : (e : Event) × ((slice_get events place ≡ Some e) × IsEventAt h.entries is.moment e) →
            (i : ℕ) × ReturnsAt h moments place i
        by (e, (at, inl begins)) =
            absurd (false≢true (sym (ap (λ (m : Moment). m.is_return) begins.moment) ∙ is.returns))
        by (e, (at, inr returns)) = (
          is.moment.entry,
          record { at = returns.at; here = is.here ∙ ap (λ (m : Moment). Some m) returns.moment },
        )

    module _ (most k m : ℕ) (is : IsVerdict h.limits run most None (StuckWithin k m)) where
      ordered : k < m
      ordered = let after : k < is.cut = is.after in let within : is.cut < m = is.within in omega (arith, after, within)

      pub within_run : m ≤ length moments
      within_run = let there : m ≤ length run = is.there in omega (arith, there, run_long)

      pub first_is_there : ¬ NoneReturns moments k (length moments)
      first_is_there none = is.stuck (explained_to k m (omega (arith, ordered))
          (λ j n low less at. none j n low (omega (arith, less, within_run)) at) is.explained)

      pub last_is_there : ¬ NoneReturns moments 0 m
      last_is_there none = is.stuck (explained_to 0 m (omega arith) none nothing_explained)

      not_once_returned : (last i : ℕ) (there : ReturnsAt h moments last i) → last < m →
          NoneReturns moments (last + 1) m → ¬ IsExplained (cut_after there.at.return i h)
      not_once_returned last i there less behind explained = is.stuck (explained_to (last + 1) m (omega (arith, less))
          behind ((explained_up_to (last + 1)).0
          ((returned_as_events h observed moments events of i last there.at.return there.here).0 explained)))

      -- between the two places is one return alone
      pub judged_alone : (first last : ℕ) → first ≡ last → IsReturnPlace moments first → k ≤ first →
          NoneReturns moments k first → last < m → NoneReturns moments (last + 1) m → IsStuckThere h moments first
      judged_alone first last same at_first low none less behind = record {
        entry = i.0;
        there = i.1;
        stuck = record {
          at = i.1.at;
          explained = before_return first i.0 i.1 (explained_to k first low none is.explained);
          stuck = not_once_returned first i.0 i.1 (omega (arith, less, same))
              (subst (λ (n : ℕ). NoneReturns moments (n + 1) m) (sym same) behind);
        };
      }
        where
          i : (i : ℕ) × ReturnsAt h moments first i
          i = return_at_place first at_first

      pub judged_within : (first last : ℕ) → IsReturnPlace moments first → k ≤ first → NoneReturns moments k first →
          IsReturnPlace moments last → last < m → NoneReturns moments (last + 1) m →
          IsStuckBetweenThere h moments most first last
      judged_within first last at_first low none at_last less behind = record {
        entry = i.0;
        other = j.0;
        there = i.1;
        then = j.1;
        between = record {
          moments = moments;
          run = run;
          is_run = is_run;
          place = first;
          there = i.1;
          last = last;
          then = j.1;
          explained = before_return first i.0 i.1 (explained_to k first low none is.explained);
          stuck = not_once_returned last j.0 j.1 less behind;
          from = k;
          from_there = low;
          none_before = none;
          to = m;
          to_then = less;
          none_behind = behind;
          within = is;
        };
      }
        where
          i : (i : ℕ) × ReturnsAt h moments first i
          i = return_at_place first at_first

          j : (j : ℕ) × ReturnsAt h moments last j
          j = return_at_place last at_last
