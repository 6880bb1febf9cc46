-- Replies that are tried at a return of an observed history.
use Rattle.std.proofs.Common.{ℕ, ◌≡◌, ◌<◌, ◌≤◌, ◌==◌, suc, zero, Bool}
use Rattle.std.proofs.Common.{true, false, List, [], ◌∷◌, ◌++◌}
use Rattle.std.proofs.Common.{length, Some, refl, sym, ◌∙◌, ap, subst, inl, inr, arith}
use Rattle.std.specs.Prelude.{◌↔◌, is_some, map, slice_get, take, if◌then◌else◌}
use Rattle.std.specs.List.{All, AllZip}
use Rattle.std.proofs.lemmas.Bool.{false≢true}
use Rattle.std.proofs.lemmas.Bool.Decides.{nat_tests}
use Rattle.std.proofs.lemmas.List.{length-map, length-take-le, take-map, take-take}
use Rattle.std.proofs.lemmas.List.Elements.{All-cons, All-head, All-nil, All-tail, All-weaker}
use Rattle.std.proofs.lemmas.Option.{slice_get_within}
use Rattle.std.proofs.lemmas.Slice.Zip.{AllZip-long}
use Rattle.stamp_core.specs.Content.{zeros}
use Rattle.stamp_core.specs.declared.reply.Reply.{Reply}
use Rattle.stamp_explain.specs.declared.observed.Observation.{Observation}
use Rattle.stamp_explain.specs.Observed.{ObservedHistory, IsObserved, IsReturnAt}
use Rattle.stamp_explain.specs.Possible.{IsPossible}
use Rattle.stamp_explain.proofs.Lists.{at_index}
use Rattle.stamp_runs.specs.BothRun.{AreExplained}
use Rattle.stamp_runs.specs.Names.{EachOfEvent, EachOfReply, Names, event_by, reply_by}
use Rattle.stamp_runs.specs.Own.{AreInFormFrom, none_open}
use Rattle.stamp_runs.specs.Run.{lane_of}
use Rattle.stamp_runs.specs.declared.event.Event.{Event}
use Rattle.stamp_runs.specs.declared.event.Event.TheVariants.{Begins, Returns}
use Rattle.stamp_sets.specs.SmallCall.{reply_of}
use Rattle.stamp_sets.specs.declared.small_call.SmallReply.{SmallReply}
use Rattle.stamp_watch.specs.AsEvents.{AreEventsOf, AreMomentsOf, AreNamesFor, IsEventAt, IsMomentOf, beginning_of}
use Rattle.stamp_watch.specs.AsEvents.{return_of}
use Rattle.stamp_watch.specs.Form.{is_busy_after}
use Rattle.stamp_watch.specs.Names.{IsNamed, IsWide, width_of}
use Rattle.stamp_watch.specs.Names.{AreContents, IsGrown, StaysWide, name_in}
use Rattle.stamp_watch.specs.Replies.{IsUndecidedAtReply}
use Rattle.stamp_watch.specs.ReplyLaws.{IsContentOf}
use Rattle.stamp_watch.specs.Verdict.{AreOfLanes, IsTooManyAt}
use Rattle.stamp_watch.specs.declared.moments.Moment.{Moment}
use Rattle.stamp_watch.specs.declared.trial.Trial.{Trial}
use Rattle.stamp_watch.specs.inner.Trial.{AreNumbered, IsReplyIn, IsTold, IsTrialAt}
use Rattle.stamp_watch.specs.inner.Trial.{MayReturn, words_beside}
use Rattle.stamp_watch.proofs.Form.{form_up_to, may_come_at}
use Rattle.stamp_watch.proofs.Named.{width_is}
use Rattle.stamp_watch.proofs.Named.{named_still, names_differ, stays, zeros_named}
use Rattle.stamp_watch.proofs.OtherReply.{changed, possible_named, returns_there, run_of_other, run_up_to_return}
use Rattle.stamp_watch.proofs.Ranking.{begins_first, in_form, zip_there}
use Rattle.stamp_watch.proofs.Renamed.{HasShortName, busy_by, each_event, each_reply, of_lanes_by, same_events}
use Rattle.stamp_watch.proofs.Renamed.{same_reply}

-- the names of contents; without a record there are none, and any will do
abbrev pub name_for : ℕ → List (List ℕ) → Names
name_for width contents words = if width == 0 then 0 ∷ words else name_in contents words

tail_same : {a b : List ℕ} → 0 ∷ a ≡ 0 ∷ b → a ≡ b
tail_same same = cc

pub is_zero : (n : ℕ) → (n == 0) ≡ true → n ≡ 0
is_zero n is = grind (arith, nat_tests)

pub not_zero : (n : ℕ) → 1 ≤ n → (n == 0) ≡ false
not_zero n some = grind (arith, nat_tests)

pub names_are : (h : ObservedHistory) (contents : List (List ℕ)) → AreContents (words_beside h.width) contents →
    AreNamesFor h (name_for h.width contents)
names_are h contents are = by (h.width == 0) refl
  where
    by : (b : Bool) → (h.width == 0) ≡ b → AreNamesFor h (name_for h.width contents)
    by true none = record {
      different = λ a c same. tail_same (sym (is a) ∙ same ∙ is c);
      first = is (zeros h.width) ∙ ap (λ (n : ℕ). 0 ∷ zeros n) (is_zero h.width none);
    }
      where
        is : (words : List ℕ) → name_for h.width contents words ≡ 0 ∷ words
        is words = ap (λ (b : Bool). if b then 0 ∷ words else name_in contents words) none
    by false some = record {
      different = λ a c same. names_differ contents a c (sym (is a) ∙ same ∙ is c);
      first = is (zeros h.width) ∙ zeros_named h.width contents
          (subst (λ (n : ℕ). AreContents n contents) (ap (λ (b : Bool). if b then 1 else h.width) some) are);
    }
      where
        is : (words : List ℕ) → name_for h.width contents words ≡ name_in contents words
        is words = ap (λ (b : Bool). if b then 0 ∷ words else name_in contents words) some

module _ (width : ℕ) (contents : List (List ℕ)) where
  told_name : (words : List ℕ) → IsTold width contents words → name_in contents words ≡ name_for width contents words
  told_name words told = sym (ap (λ (b : Bool). if b then 0 ∷ words else name_in contents words)
      (not_zero width told.some))

  short_name : (words : List ℕ) → IsTold width contents words → HasShortName (name_in contents) words
  short_name words told = ap (λ (name : List ℕ). length name == 1) told.named.1

  pub told_events : (events : List Event) → All (EachOfEvent (IsTold width contents)) events →
      map (event_by (name_in contents)) events ≡ map (event_by (name_for width contents)) events
  told_events events told = same_events (name_in contents) (name_for width contents) events
      (All-weaker (EachOfEvent (IsTold width contents)) (EachOfEvent (λ (words : List ℕ). name_in contents words ≡
      name_for width contents words)) (λ e. each_event told_name e) events told)

  told_reply : (told : Reply) → EachOfReply (IsTold width contents) told →
      reply_by (name_in contents) told ≡ reply_by (name_for width contents) told
  told_reply told is = same_reply (name_in contents) (name_for width contents) told (each_reply told_name told is)

-- a content of the record is as wide as those with names; and it is told where it has one
pub content_wide : (width : ℕ) (contents : List (List ℕ)) → AreContents (words_beside width) contents →
    (words : List ℕ) → IsContentOf width words → IsWide (width_of contents) words
content_wide width contents are words content = content.wide ∙ sym (width_is (words_beside width) contents are ∙
    ap (λ (b : Bool). if b then 1 else width) (not_zero width content.some))

pub told_event : (width : ℕ) (contents : List (List ℕ)) (e : Event) → EachOfEvent (IsContentOf width) e →
    EachOfEvent (IsNamed contents) e → EachOfEvent (IsTold width contents) e
told_event zero contents e none named =
    each_event (λ words content. absurd (let some : 1 ≤ 0 = content.some in omega (arith, some))) e none
told_event (suc n) contents e some named =
    each_event (λ words its. record { some = omega arith; named = its }) e named

-- events at all moments, as far as they are not known
module _ (entries : List Observation) where
  pub all_events : (moments : List Moment) → All (IsMomentOf entries) moments →
      (events : List Event) × AllZip (IsEventAt entries) moments events
  all_events [] each = ([], tt)
  all_events (m ∷ moments) each =
      let here = All-head (IsMomentOf entries) m moments each in
      let rest = all_events moments (All-tail (IsMomentOf entries) m moments each) in
      (here.0 ∷ rest.0, (here.1, rest.1))

  events_go_on : (k : ℕ) (moments : List Moment) (past : List Event) → All (IsMomentOf entries) moments →
      AllZip (IsEventAt entries) (take k moments) past →
      (events : List Event) × (AllZip (IsEventAt entries) moments events × (take k events ≡ past))
  events_go_on zero moments [] each zip = let all = all_events moments each in (all.0, (all.1, refl))
  events_go_on zero moments (e ∷ past) each zip = absurd zip
  events_go_on (suc k) [] [] each zip = ([], (tt, refl))
  events_go_on (suc k) [] (e ∷ past) each zip = absurd zip
  events_go_on (suc k) (m ∷ moments) [] each zip = absurd zip
  events_go_on (suc k) (m ∷ moments) (e ∷ past) each zip =
      let rest = events_go_on k moments past (All-tail (IsMomentOf entries) m moments each) zip.1 in
      (e ∷ rest.0, ((zip.0, rest.1.0), ap (λ (es : List Event). e ∷ es) rest.1.1))

  pub low_lane : All (λ (e : Observation). e.thread < 64) entries → (m : Moment) (event : Event) →
      IsEventAt entries m event → lane_of event < 64
  low_lane low m event (inl begins) = subst (λ (e : Event). lane_of e < 64) (sym begins.event_is)
      (at_index (λ (e : Observation). e.thread < 64) entries m.entry begins.entry low begins.is_entry)
  low_lane low m event (inr returns) = subst (λ (e : Event). lane_of e < 64) (sym returns.event_is)
      (at_index (λ (e : Observation). e.thread < 64) entries m.entry returns.at.entry low returns.at.is_entry)

  low_lanes : All (λ (e : Observation). e.thread < 64) entries → (moments : List Moment) (events : List Event) →
      AllZip (IsEventAt entries) moments events → All (λ (e : Event). lane_of e < 64) events
  low_lanes low [] [] zip = All-nil (λ (e : Event). lane_of e < 64)
  low_lanes low [] (e ∷ events) zip = absurd zip
  low_lanes low (m ∷ moments) [] zip = absurd zip
  low_lanes low (m ∷ moments) (e ∷ events) zip = All-cons (λ (e : Event). lane_of e < 64) e events
      (low_lane low m e zip.0) (low_lanes low moments events zip.1)

-- one event is at a moment
pub one_event : (entries : List Observation) (m : Moment) (a b : Event) → IsEventAt entries m a →
    IsEventAt entries m b → a ≡ b
one_event entries m a b (inl x) (inl y) = cc
one_event entries m a b (inl x) (inr y) = absurd (false≢true (sym (ap (λ (n : Moment). n.is_return) x.moment) ∙
    ap (λ (n : Moment). n.is_return) y.moment))
one_event entries m a b (inr x) (inl y) = absurd (false≢true (sym (ap (λ (n : Moment). n.is_return) y.moment) ∙
    ap (λ (n : Moment). n.is_return) x.moment))
one_event entries m a b (inr x) (inr y) = cc

-- the events at the first moments
pub first_events : (entries : List Observation) (k : ℕ) (moments : List Moment) (events past : List Event) →
    AllZip (IsEventAt entries) moments events → AllZip (IsEventAt entries) (take k moments) past →
    take k events ≡ past
first_events entries zero moments events [] all first = refl
first_events entries zero moments events (e ∷ past) all first = absurd first
first_events entries (suc k) [] [] [] all first = refl
first_events entries (suc k) [] [] (e ∷ past) all first = absurd first
first_events entries (suc k) [] (a ∷ events) past all first = absurd all
first_events entries (suc k) (m ∷ moments) [] past all first = absurd all
first_events entries (suc k) (m ∷ moments) (a ∷ events) [] all first = absurd first
first_events entries (suc k) (m ∷ moments) (a ∷ events) (e ∷ past) all first =
    ap (λ (x : Event). x ∷ take k events) (one_event entries m a e all.0 first.0) ∙
    ap (λ (es : List Event). e ∷ es) (first_events entries k moments events past all.1 first.1)

module _ (h : ObservedHistory) (moments : List Moment) (k : ℕ) (contents : List (List ℕ)) (run : List Event)
    (numbered : AreNumbered h (take k moments) contents run)
  where
    pub numbered_long : k ≤ length moments → length run ≡ k
    numbered_long within = ap length numbered.run_is ∙
        length-map numbered.events (event_by (name_in contents)) ∙
        AllZip-long (IsEventAt h.entries) (take k moments) numbered.events numbered.are ∙
        length-take-le k moments within

    -- they are in form
    pub numbered_lanes : IsObserved h → (events : List Event) → AreEventsOf h moments events → AreOfLanes run
    numbered_lanes observed events of = subst AreOfLanes (sym numbered.run_is) (of_lanes_by (name_in contents)
        numbered.events (subst (λ (es : List Event). AreInFormFrom none_open es)
        (first_events h.entries k moments events numbered.events of.events_are numbered.are)
        (form_up_to k none_open events (in_form h observed moments events of)))
        (low_lanes h.entries observed.threads (take k moments) numbered.events numbered.are)
        (All-weaker (EachOfEvent (IsTold h.width contents)) (EachOfEvent (HasShortName (name_in contents)))
        (λ e. each_event (short_name h.width contents) e) numbered.events numbered.told))

-- the run up to the return of a call
module _ (h : ObservedHistory) (observed : IsObserved h) (moments : List Moment) (are : AreMomentsOf h.entries moments)
    (i k : ℕ) (at : IsReturnAt h.entries i) (there : slice_get moments k ≡ Some (return_of i at.return))
    (contents : List (List ℕ)) (run : List Event) (numbered : AreNumbered h (take k moments) contents run)
  where
    abbrev going_on : (events : List Event) × (AllZip (IsEventAt h.entries) moments events ×
        (take k events ≡ numbered.events))
    going_on = events_go_on h.entries k moments numbered.events are.each numbered.are

    abbrev whole : List Event
    whole = going_on.0

    of : AreEventsOf h moments whole
    of = record { are = are; events_are = going_on.1.0 }

    abbrev lane : ℕ
    lane = at.entry.thread

    run_is : run ≡ map (event_by (name_in contents)) (take k whole)
    run_is = numbered.run_is ∙ ap (map (event_by (name_in contents))) (sym going_on.1.1)

    busy_is : (j : ℕ) → j ≤ k → is_busy_after (take j run) lane ≡ is_busy_after (take j whole) lane
    busy_is j less = ap (λ (es : List Event). is_busy_after es lane) (ap (take j) run_is ∙
        take-map (event_by (name_in contents)) j (take k whole) ∙
        ap (map (event_by (name_in contents))) (take-take j k whole less)) ∙
        busy_by (name_in contents) (take j whole) lane

    pub may_return : MayReturn run at.entry.thread
    may_return = record {
      whole = numbered_lanes h moments k contents run numbered observed whole of;
      taken = ap (λ (es : List Event). is_busy_after es lane) run_is ∙
          busy_by (name_in contents) (take k whole) lane ∙
          may_come_at k none_open whole (Returns lane at.return.reply) (in_form h observed moments whole of) returned;
      low = at_index (λ (e : Observation). e.thread < 64) h.entries i at.entry observed.threads at.is_entry;
    }
      where
        returned : slice_get whole k ≡ Some (Returns lane at.return.reply)
        returned =
            let found = zip_there (IsEventAt h.entries) k moments whole (return_of i at.return) of.events_are there in
            found.1.0 ∙ ap Some (one_event h.entries (return_of i at.return) found.0 (Returns lane at.return.reply)
            found.1.1 (inr (record { at = at; moment = refl; event_is = refl })))

    pub begins_within : (b : ℕ) → slice_get moments b ≡ Some (beginning_of i at.entry) → b < k
    begins_within b begun =
        begins_first h observed moments whole of i b k at.entry at.return at.is_entry at.returned begun there

    pub free_before : (b : ℕ) → slice_get moments b ≡ Some (beginning_of i at.entry) →
        is_busy_after (take b run) at.entry.thread ≡ false
    free_before b begun = busy_is b (let less = begins_within b begun in omega (arith, less)) ∙
        ap is_some (may_come_at b none_open whole (Begins lane at.entry.call) (in_form h observed moments whole of)
        begins)
      where
        begins : slice_get whole b ≡ Some (Begins lane at.entry.call)
        begins =
            let found = zip_there (IsEventAt h.entries) b moments whole (beginning_of i at.entry) of.events_are begun in
            found.1.0 ∙ ap Some (one_event h.entries (beginning_of i at.entry) found.0 (Begins lane at.entry.call)
            found.1.1 (inl (record { entry = at.entry; is_entry = at.is_entry; moment = refl; event_is = refl })))

    pub run_long : length run ≡ k
    run_long = numbered_long h moments k contents run numbered
        (let less = slice_get_within moments k (return_of i at.return) there in omega (arith, less))

    abbrev name : Names
    name = name_for h.width contents

    are_names : AreContents (words_beside h.width) contents → AreNamesFor h name
    are_names = names_are h contents

    -- a reply that is possible explains the run, by its name
    pub explained_by_name : AreContents (words_beside h.width) contents → (reply : Reply) → IsPossible h i reply →
        AreExplained h.limits (run ++ Returns at.entry.thread (reply_by (name_for h.width contents) reply) ∷ [])
    explained_by_name wide reply possible = subst (λ (es : List Event). AreExplained h.limits
        (es ++ Returns lane (reply_by name reply) ∷ [])) (sym (numbered.run_is ∙
        told_events h.width contents numbered.events numbered.told ∙ ap (map (event_by name)) (sym going_on.1.1)))
        ((possible_named h i at reply observed moments whole of k there name (are_names wide)).0 possible)

    -- a reply that has a number
    module _ (wide : AreContents (words_beside h.width) contents) (reply : Reply) (small : SmallReply)
        (is : IsReplyIn h contents reply small)
      where
        tried_is : run ++ Returns lane (reply_of small) ∷ [] ≡
            map (event_by name) (take k whole) ++ Returns lane (reply_by name reply) ∷ []
        tried_is = ap (λ (es : List Event). es ++ Returns lane (reply_of small) ∷ []) (numbered.run_is ∙
            told_events h.width contents numbered.events numbered.told ∙
            ap (map (event_by name)) (sym going_on.1.1)) ∙
            ap (λ (r : Reply). map (event_by name) (take k whole) ++ Returns lane r ∷ [])
            (is.small_is ∙ told_reply h.width contents reply is.told)

        pub possible_there : IsPossible h i reply ↔ AreExplained h.limits (run ++ Returns lane (reply_of small) ∷ [])
        possible_there = (
          (λ possible. subst (AreExplained h.limits) (sym tried_is) (named.0 possible)),
          (λ explained. named.1 (subst (AreExplained h.limits) tried_is explained)),
        )
          where
            named : IsPossible h i reply ↔ AreExplained h.limits
                (map (event_by name) (take k whole) ++ Returns lane (reply_by name reply) ∷ [])
            named = possible_named h i at reply observed moments whole of k there name (are_names wide)

        pub undecided_there : (most place : ℕ) →
            IsTooManyAt h.limits (run ++ Returns lane (reply_of small) ∷ []) most place →
            IsUndecidedAtReply h i most reply
        undecided_there most place many = record {
          at = at;
          moments = moments;
          run = map (event_by name) (changed h i at reply observed moments whole of k there);
          is_run = run_of_other h i at reply observed moments whole of k there name (are_names wide);
          last = k;
          then = returns_there h i at reply observed moments whole of k there name (are_names wide);
          place = place;
          too_many = subst (λ (es : List Event). IsTooManyAt h.limits es most place)
              (tried_is ∙ sym (run_up_to_return h i at reply observed moments whole of k there name (are_names wide)))
              many;
        }

-- more names leave all that is told as it is
module _ {old new : List (List ℕ)} (grown : IsGrown old new) where
  told_still : (width : ℕ) (words : List ℕ) → IsTold width old words → IsTold width new words
  told_still width words told = record { some = told.some; named = named_still grown words told.named }

  pub numbered_still : (h : ObservedHistory) (moments : List Moment) (run : List Event) →
      AreNumbered h moments old run → AreNumbered h moments new run
  numbered_still h moments run are = record {
    events = are.events;
    are = are.are;
    told = All-weaker (EachOfEvent (IsTold h.width old)) (EachOfEvent (IsTold h.width new))
        (λ e. each_event (told_still h.width) e) are.events are.told;
    run_is = are.run_is ∙ same_events (name_in old) (name_in new) are.events
        (All-weaker (EachOfEvent (IsTold h.width old)) (EachOfEvent (λ (words : List ℕ). name_in old words ≡
        name_in new words)) (λ e. each_event (λ words told. sym (stays grown words told.named)) e) are.events
        are.told);
  }

  pub trial_still : (h : ObservedHistory) (i most : ℕ) (trial : Trial) → StaysWide old new →
      IsTrialAt h i most old trial → IsTrialAt h i most new trial
  trial_still h i most trial wide is = record {
    observed = is.observed;
    at = is.at;
    moments = is.moments;
    moments_are = is.moments_are;
    place = is.place;
    there = is.there;
    contents_are = wide (words_beside h.width) is.contents_are;
    numbered = numbered_still h (take is.place is.moments) trial.events.items is.numbered;
    trial_is = is.trial_is;
    its_lane = is.its_lane;
    its_most = is.its_most;
  }
