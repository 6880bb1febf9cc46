-- The events of a history that are numbered one by one.
use Rattle.std.proofs.Common.{ℕ, ◌≡◌, ◌+◌, ◌<◌, ◌≤◌, ◌==◌, true, false, List, [], ◌∷◌, ◌++◌, length, Some}
use Rattle.std.proofs.Common.{sym, ◌∙◌, ap, subst, inl, inr, arith, append_assoc, get_or}
use Rattle.std.specs.Prelude.{◌&&◌, IsTrue, map, nat_lt, slice_get, take}
use Rattle.std.specs.List.{All, AllZip}
use Rattle.indexmap.proofs.SetLemmas.{AllZip-push}
use Rattle.std.proofs.lemmas.Bool.{and_parts}
use Rattle.std.proofs.lemmas.Bool.Decides.{nat_tests}
use Rattle.std.proofs.lemmas.List.{map_push, take_all}
use Rattle.std.proofs.lemmas.Option.{same_Some, slice_get-get_or, slice_get_within}
use Rattle.std.proofs.lemmas.List.Elements.{All-push}
use Rattle.stamp_core.specs.Call.{call_suits}
use Rattle.stamp_core.specs.declared.call.Call.{Call}
use Rattle.stamp_core.specs.declared.call.Call.TheVariants as call
use Rattle.stamp_explain.specs.declared.observed.Observation.{Observation}
use Rattle.stamp_explain.specs.Observed.{ObservedHistory, IsObserved}
use Rattle.stamp_explain.proofs.Lists.{contains_at}
use Rattle.stamp_explain.proofs.Lists.{at_index}
use Rattle.stamp_runs.specs.Names.{EachOfCall, EachOfEvent, event_by}
use Rattle.stamp_runs.specs.Run.{lane_of}
use Rattle.stamp_runs.specs.declared.event.Event.{Event}
use Rattle.stamp_watch.specs.AsEvents.{IsEventAt, IsMomentOf, return_of}
use Rattle.stamp_watch.specs.Names.{AreContents, IsEventBy, IsGrown, IsWide, name_in}
use Rattle.stamp_watch.specs.Names.{width_of}
use Rattle.stamp_watch.specs.ReplyLaws.{IsContentOf}
use Rattle.stamp_watch.specs.declared.moments.Moment.{Moment}
use Rattle.stamp_watch.specs.inner.Trial.{AreNumbered, AreNumberedSoFar, HasForeign, IsForeign, IsTold}
use Rattle.stamp_watch.specs.inner.Trial.{TellsKnown, words_beside}
use Rattle.stamp_watch.proofs.Reading.{up_to}
use Rattle.stamp_watch.proofs.Renamed.{each_event}
use Rattle.stamp_watch.proofs.Trying.{content_wide, told_event}
use Rattle.stamp_watch.proofs.Trying.{low_lane, numbered_long, numbered_still, one_event}

-- what is grown twice is grown
pub grown_twice : {old mid new : List (List ℕ)} → IsGrown old mid → IsGrown mid new → IsGrown old new
grown_twice {old} {mid} {new} one other = record {
  more = one.more ++ other.more;
  are = other.are ∙ ap (λ (cs : List (List ℕ)). cs ++ other.more) one.are ∙ append_assoc old one.more other.more;
}

-- the contents of a call that suits a record are contents of it
content_of : (width : ℕ) (words : List ℕ) → nat_lt 0 width ≡ true → (length words == width) ≡ true →
    IsContentOf width words
content_of width words some long = record { some = grind (arith, nat_tests); wide = grind (arith, nat_tests) }

call_known : (width : ℕ) (asked : Call) → IsTrue (call_suits width asked) → EachOfCall (IsContentOf width) asked
call_known width (call.Put words) suits =
    let both = and_parts (nat_lt 0 width) (length words == width) suits in content_of width words both.0 both.1
call_known width (call.PutIf expected words) suits =
    let both = and_parts (nat_lt 0 width && (length expected == width)) (length words == width) suits in
    let first = and_parts (nat_lt 0 width) (length expected == width) both.0 in
    (content_of width expected first.0 first.1, content_of width words first.0 both.1)
call_known width _ suits = tt

module _ (h : ObservedHistory) (observed : IsObserved h) (m : Moment) (event : Event)
    (is : IsEventAt h.entries m event)
  where
    -- an event whose reply is of the record has contents of the record alone
    pub event_known : TellsKnown h.width event → EachOfEvent (IsContentOf h.width) event
    event_known known = by is
      where
        by : IsEventAt h.entries m event → EachOfEvent (IsContentOf h.width) event
        by (inl begins) = subst (EachOfEvent (IsContentOf h.width)) (sym begins.event_is)
            (call_known h.width begins.entry.call (at_index (λ (e : Observation). IsTrue (call_suits h.width e.call))
            h.entries m.entry begins.entry observed.suit begins.is_entry))
        by (inr returns) = subst (EachOfEvent (IsContentOf h.width)) (sym returns.event_is)
            (subst (TellsKnown h.width) returns.event_is known)

    -- so its contents have numbers
    pub may_be_numbered : (contents : List (List ℕ)) → AreContents (words_beside h.width) contents →
        TellsKnown h.width event → (lane_of event < 256) × EachOfEvent (IsWide (width_of contents)) event
    may_be_numbered contents are known = (
      (let low : lane_of event < 64 = low_lane h.entries observed.threads m event is in omega (arith, low)),
      each_event (content_wide h.width contents are) event (event_known known),
    )

    -- a return that tells another content
    pub foreign_here : (moments : List Moment) (j : ℕ) → slice_get moments j ≡ Some m →
        IsForeign h.width event → HasForeign h moments
    foreign_here moments j at foreign = by is
      where
        by : IsEventAt h.entries m event → HasForeign h moments
        by (inl begins) = absurd (subst (IsForeign h.width) begins.event_is foreign)
        by (inr returns) = record {
          index = m.entry;
          at = returns.at;
          there = contains_at moments j (return_of m.entry returns.at.return) (at ∙ ap Some returns.moment);
          foreign = subst (IsForeign h.width) returns.event_is foreign;
        }

    -- the events are numbered up to it
    pub up_to_foreign : (moments : List Moment) (j : ℕ) (contents : List (List ℕ)) (run : List Event) →
        slice_get moments j ≡ Some m → IsForeign h.width event → AreNumbered h (take j moments) contents run →
        AreNumberedSoFar h moments contents run
    up_to_foreign moments j contents run at foreign numbered = record {
      numbered = subst (λ (n : ℕ). AreNumbered h (take n moments) contents run) (sym long) numbered;
      foreign = λ n e there its. subst (IsForeign h.width) (one_event h.entries m event e is
          (subst (λ (x : Moment). IsEventAt h.entries x e) (same_Some n m (sym there ∙
          ap (slice_get moments) long ∙ at)) its)) foreign;
    }
      where
        long : length run ≡ j
        long = numbered_long h moments j contents run numbered
            (let less = slice_get_within moments j m at in omega (arith, less))

    -- one event more
    pub numbered_more : {old new : List (List ℕ)} (moments : List Moment) (j : ℕ) (run : List Event) (small : Event) →
        IsGrown old new → slice_get moments j ≡ Some m → TellsKnown h.width event → IsEventBy new event small →
        AreNumbered h (take j moments) old run → AreNumbered h (take (j + 1) moments) new (run ++ small ∷ [])
    numbered_more {old} {new} moments j run small grown at known its before = record {
      events = past.events ++ event ∷ [];
      are = subst (λ (ms : List Moment). AllZip (IsEventAt h.entries) ms (past.events ++ event ∷ []))
          (sym (up_to moments j m at))
          (AllZip-push (IsEventAt h.entries) (take j moments) past.events m event past.are is);
      told = All-push (EachOfEvent (IsTold h.width new)) past.events event past.told
          (told_event h.width new event (event_known known) its.named);
      run_is = ap (λ (es : List Event). es ++ small ∷ []) past.run_is ∙
          ap (λ (e : Event). map (event_by (name_in new)) past.events ++ e ∷ []) its.small_is ∙
          sym (map_push (event_by (name_in new)) past.events event);
    }
      where
        past : AreNumbered h (take j moments) new run
        past = numbered_still grown h (take j moments) run before

module _ (h : ObservedHistory) (moments : List Moment) (contents : List (List ℕ)) (run : List Event) where
  -- where all are numbered none is foreign
  pub up_to_end : (j : ℕ) → length moments ≤ j → j ≤ length moments → AreNumbered h (take j moments) contents run →
      AreNumberedSoFar h moments contents run
  up_to_end j high within numbered = record {
    numbered = subst (λ (n : ℕ). AreNumbered h (take n moments) contents run) (sym long) numbered;
    foreign = λ m e there its. absurd (let less = slice_get_within moments (length run) m there in
        omega (arith, less, long, high));
  }
    where
      long : length run ≡ j
      long = numbered_long h moments j contents run numbered within

  pub numbered_whole : AreNumberedSoFar h moments contents run → length moments ≤ length run →
      AreNumbered h moments contents run
  numbered_whole so_far all = subst (λ (ms : List Moment). AreNumbered h ms contents run)
      (take_all (length run) moments all) so_far.numbered

  pub cut_short : IsObserved h → All (IsMomentOf h.entries) moments → AreNumberedSoFar h moments contents run →
      length run < length moments → HasForeign h moments
  cut_short observed each so_far less = foreign_here h observed m is.0 is.1 moments (length run) there
      (so_far.foreign m is.0 there is.1)
    where
      m : Moment
      m = get_or moments (length run) (record { entry = 0; position = 0; is_return = false })

      there : slice_get moments (length run) ≡ Some m
      there = slice_get-get_or moments (length run) _ less

      is : IsMomentOf h.entries m
      is = each (length run) _ less
