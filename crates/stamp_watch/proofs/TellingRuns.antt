-- The run of a history by numbers, up to a return with a content of another width than the record's.
use Rattle.std.proofs.Common.{◌≡◌, ◌≢◌, ℕ, suc, ◌+◌, ◌<◌, ◌==◌, Bool, true, false, List, ◌∷◌, length}
use Rattle.std.proofs.Common.{get_or, Some, refl, sym, ◌∙◌, ap, subst, arith, ne_eqb}
use Rattle.std.specs.Prelude.{if◌then◌else◌, map, option_map, slice_get, take}
use Rattle.std.specs.List.{Contains}
use Rattle.std.proofs.lemmas.Bool.{false≢true}
use Rattle.std.proofs.lemmas.List.{length-map, length-take, take-map}
use Rattle.std.proofs.lemmas.List.Elements.{All-contains, Contains-push}
use Rattle.std.proofs.lemmas.Option.{slice_get-get_or, slice_get-map}
use Rattle.stamp_core.specs.declared.reply.Reply.{Reply}
use Rattle.stamp_core.specs.declared.reply.Reply.TheVariants as reply
use Rattle.stamp_explain.specs.Observed.{IsObserved, ObservedHistory}
use Rattle.stamp_runs.specs.declared.event.Event.{Event}
use Rattle.stamp_runs.specs.declared.event.Event.TheVariants.{Returns, Withdraws}
use Rattle.stamp_runs.specs.Names.{EachOfReply, Names, event_by, reply_by}
use Rattle.stamp_runs.specs.OneWord.{has_one_word, is_small_reply}
use Rattle.stamp_watch.specs.declared.moments.Moment.{Moment}
use Rattle.stamp_watch.specs.AsEvents.{AreEventsOf, IsEventAt}
use Rattle.stamp_watch.specs.Names.{AreContents, IsWide, name_in}
use Rattle.stamp_watch.specs.Verdict.{AreOfLanes, IsOfLane}
use Rattle.stamp_watch.specs.inner.History.{IsToldRun}
use Rattle.stamp_watch.specs.inner.Judging.{AreTaken}
use Rattle.stamp_watch.specs.inner.Trial.{AreNumbered, IsForeign, words_beside}
use Rattle.stamp_watch.proofs.Reading.{up_to}
use Rattle.stamp_watch.proofs.Named.{not_one_word}
use Rattle.stamp_watch.proofs.Ranking.{zip_at}
use Rattle.stamp_watch.proofs.Trying.{first_events, is_zero, name_for, numbered_lanes, told_events}

-- a foreign content has no name of one word
module _ (width : ℕ) (contents : List (List ℕ)) (are : AreContents (words_beside width) contents) where
  foreign_name : (words : List ℕ) → length words ≢ width → has_one_word (name_for width contents words) ≡ false
  foreign_name words apart = by (width == 0) refl
    where
      by : (b : Bool) → (width == 0) ≡ b → has_one_word (name_for width contents words) ≡ false
      by true none = ap (λ (b : Bool). has_one_word (if b then 0 ∷ words else name_in contents words)) none ∙
          ne_eqb (length (0 ∷ words)) 1 (λ same. apart (let long : suc (length words) ≡ 1 = same in
          let zero = is_zero width none in omega (arith, long, zero)))
      by false some = ap (λ (b : Bool). has_one_word (if b then 0 ∷ words else name_in contents words)) some ∙
          not_one_word width contents words
          (subst (λ (n : ℕ). AreContents n contents) (ap (λ (b : Bool). if b then 1 else width) some) are) apart

  foreign_reply : (r : Reply) → ¬ EachOfReply (IsWide width) r →
      is_small_reply (reply_by (name_for width contents) r) ≡ false
  foreign_reply (reply.Content words) foreign = foreign_name words foreign
  foreign_reply _ foreign = absurd (foreign tt)

  not_of_lane : (e : Event) → IsForeign width e → ¬ IsOfLane (event_by (name_for width contents) e)
  not_of_lane (Returns lane r) foreign is = false≢true (sym (foreign_reply r foreign) ∙ is.1)
  not_of_lane _ foreign is = foreign

module _ (h : ObservedHistory) (observed : IsObserved h) (moments : List Moment) (told : List Event)
    (run_is : IsToldRun h moments told) (events : List Event) (of : AreEventsOf h moments events)
  where
    abbrev k : ℕ
    k = length told

    abbrev name : Names
    name = name_for h.width run_is.contents

    abbrev run : List Event
    run = map (event_by name) events

    abbrev numbered : AreNumbered h (take (length told) moments) run_is.contents told
    numbered = run_is.so_far.numbered

    is_first : told ≡ take k run
    is_first = numbered.run_is ∙ told_events h.width run_is.contents numbered.events numbered.told ∙
        ap (map (event_by name)) (sym (first_events h.entries k moments events numbered.events of.events_are
        numbered.are)) ∙ sym (take-map (event_by name) k events)

    none_more : k < length run → ¬ AreOfLanes (take (k + 1) run)
    none_more less longer = not_of_lane h.width run_is.contents run_is.are e
        (run_is.so_far.foreign found.0 e found.1.0 found.1.1)
        (All-contains IsOfLane (take (k + 1) run) (event_by name e) longer.lanes
        (subst (λ (es : List Event). Contains es (event_by name e)) (sym (up_to run k (event_by name e) in_run))
        (Contains-push (take k run) (event_by name e))))
      where
        e : Event
        e = get_or events k (Withdraws 0)

        at : slice_get events k ≡ Some e
        at = slice_get-get_or events k (Withdraws 0)
            (let long = length-map events (event_by name) in omega (arith, less, long))

        in_run : slice_get run k ≡ Some (event_by name e)
        in_run = slice_get-map (event_by name) events k ∙ ap (option_map (event_by name)) at

        found : (m : Moment) × ((slice_get moments k ≡ Some m) × IsEventAt h.entries m e)
        found = zip_at (IsEventAt h.entries) k moments events e of.events_are at

    -- all that is in form is told
    pub told_taken : AreTaken run told
    told_taken = record {
      form = record {
        within = let long = ap length is_first ∙ length-take k run in omega (arith, long);
        whole = subst AreOfLanes is_first (numbered_lanes h moments k run_is.contents told numbered observed events of);
        broken = none_more;
      };
      same = is_first;
    }
