-- An observed history with another reply of a call, and the run of its events.
use Rattle.std.proofs.Common.{ℕ, ◌≡◌, ◌≢◌, ◌⊎◌, ◌+◌, ◌<◌, suc, zero, List}
use Rattle.std.proofs.Common.{[], ◌∷◌, ◌++◌, length, Some}
use Rattle.std.proofs.Common.{refl, sym, ◌∙◌, ap, subst, inl, inr, arith, add-one}
use Rattle.std.specs.Prelude.{◌↔◌, drop, map, slice_get, slice_set, take}
use Rattle.std.specs.List.{AllZip, Contains}
use Rattle.std.proofs.lemmas.Bool.{cases_eq}
use Rattle.std.proofs.lemmas.List.{get_or-set_other, get_or-set_same, length-set, map-append, take-map}
use Rattle.std.proofs.lemmas.List.Elements.{All-weaker}
use Rattle.std.proofs.lemmas.Option.{get_or_from_slice_get, none-some, same_Some, slice_get-get_or, slice_get_within}
use Rattle.stamp_core.specs.Content.{zeros}
use Rattle.stamp_core.specs.declared.reply.Reply.{Reply}
use Rattle.stamp_explain.specs.declared.observed.Observation.{Observation}
use Rattle.stamp_explain.specs.declared.observed.Returned.{Returned}
use Rattle.stamp_explain.specs.Cut.{cut, cut_after}
use Rattle.stamp_explain.specs.Explained.{IsExplained}
use Rattle.stamp_explain.specs.Observed.{ObservedHistory, IsObserved, IsReturnAt}
use Rattle.stamp_explain.specs.Possible.{IsPossible, returned_with, with_reply}
use Rattle.stamp_explain.proofs.Replying.{replied_is_observed}
use Rattle.stamp_runs.specs.BothRun.{AreExplained, Both, State}
use Rattle.stamp_runs.specs.Names.{Names, event_by, reply_by}
use Rattle.stamp_runs.specs.Run.{AreExplainedFrom}
use Rattle.stamp_runs.specs.declared.event.Event.{Event}
use Rattle.stamp_runs.specs.declared.event.Event.TheVariants.{Begins, Returns}
use Rattle.stamp_runs.proofs.Naming.{names_dont_matter}
use Rattle.stamp_watch.specs.declared.moments.Moment.{Moment}
use Rattle.stamp_watch.specs.AsEvents.{AreEventsOf, AreMomentsOf, AreNamesFor, IsEventAt, IsMomentOf, beginning_of}
use Rattle.stamp_watch.specs.AsEvents.{return_of, state_at_first}
use Rattle.stamp_watch.specs.History.{IsRunOf, ReturnsAt}
use Rattle.stamp_watch.specs.ReplyLaws.{PossibleByNumbers}
use Rattle.stamp_watch.proofs.AsEvents.{first_named, returned_as_events}
use Rattle.stamp_watch.proofs.Ranking.{one_number, zip_there}

-- a list with another element at a place
abbrev pub with_at : {X : Type 0} → ℕ → X → List X → List X
with_at k y ys = take k ys ++ y ∷ drop (suc k) ys

pub take_with : {X : Type 0} (k : ℕ) (y w : X) (ys : List X) → slice_get ys k ≡ Some w →
    take (k + 1) (with_at k y ys) ≡ take k ys ++ y ∷ []
take_with k y w ys at = ap (λ (n : ℕ). take n (with_at k y ys)) (add-one k) ∙ by k ys at
  where
    by : (n : ℕ) (zs : List _) → slice_get zs n ≡ Some w → take (suc n) (with_at n y zs) ≡ take n zs ++ y ∷ []
    by zero [] there = absurd (none-some w there)
    by (suc n) [] there = absurd (none-some w there)
    by zero (z ∷ zs) there = refl
    by (suc n) (z ∷ zs) there = ap (λ (l : List _). z ∷ l) (by n zs there)

module _ {X Y : Type 0} (R Q : X → Y → Type 0) where
  zip_all : (xs : List X) (ys : List Y) → AllZip R xs ys →
      ((j : ℕ) (x : X) (y : Y) → slice_get xs j ≡ Some x → R x y → Q x y) → AllZip Q xs ys
  zip_all [] [] zip goes = tt
  zip_all [] (y ∷ ys) zip goes = absurd zip
  zip_all (x ∷ xs) [] zip goes = absurd zip
  zip_all (x ∷ xs) (y ∷ ys) zip goes =
      (goes 0 x y refl zip.0, zip_all xs ys zip.1 (λ j v w at. goes (suc j) v w at))

  zip_with : (k : ℕ) (xs : List X) (ys : List Y) (x : X) (y : Y) → AllZip R xs ys → slice_get xs k ≡ Some x →
      ((j : ℕ) (v : X) (w : Y) → j ≢ k → slice_get xs j ≡ Some v → R v w → Q v w) → Q x y →
      AllZip Q xs (with_at k y ys)
  zip_with zero [] ys x y zip at others here = absurd (none-some x at)
  zip_with (suc k) [] ys x y zip at others here = absurd (none-some x at)
  zip_with k (v ∷ xs) [] x y zip at others here = absurd zip
  zip_with zero (v ∷ xs) (w ∷ ys) x y zip at others here = (
    subst (λ (z : X). Q z y) (sym (same_Some v x at)) here,
    zip_all xs ys zip.1 (λ j a b there. others (suc j) a b (λ same. absurd (omega (arith, same))) there),
  )
  zip_with (suc k) (v ∷ xs) (w ∷ ys) x y zip at others here = (
    others 0 v w (λ same. absurd (omega (arith, same))) refl zip.0,
    zip_with k xs ys x y zip.1 at
        (λ j a b apart there. others (suc j) a b (λ same. apart (omega (arith, same))) there) here,
  )

module _ (h : ObservedHistory) (i : ℕ) (at : IsReturnAt h.entries i) (reply : Reply) where
  abbrev told : Returned
  told = record at.return { reply = reply }

  abbrev its : Observation
  its = returned_with at.entry at.return reply

  abbrev other : ObservedHistory
  other = with_reply i at.entry at.return reply h

  pub other_observed : IsObserved h → IsObserved other
  other_observed = replied_is_observed i at.entry at.return reply at.is_entry at.returned

  within : i < length h.entries
  within = slice_get_within h.entries i at.entry at.is_entry

  as_long : length (slice_set h.entries i its) ≡ length h.entries
  as_long = length-set h.entries i its

  pub its_entry : slice_get other.entries i ≡ Some its
  its_entry = slice_get-get_or other.entries i its (omega (arith, within, as_long)) ∙
      ap Some (get_or-set_same h.entries i its its within)

  pub other_entry : (j : ℕ) (e : Observation) → j ≢ i → slice_get h.entries j ≡ Some e →
      slice_get other.entries j ≡ Some e
  other_entry j e apart is = slice_get-get_or other.entries j e
      (let less = slice_get_within h.entries j e is in omega (arith, less, as_long)) ∙
      ap Some (get_or-set_other h.entries i j its e apart ∙ get_or_from_slice_get h.entries j e e is)

  entry_back : (j : ℕ) (e : Observation) → j ≢ i → slice_get other.entries j ≡ Some e →
      slice_get h.entries j ≡ Some e
  entry_back j e apart is = slice_get-get_or h.entries j e
      (let less = slice_get_within other.entries j e is in omega (arith, less, as_long)) ∙
      ap Some (sym (get_or-set_other h.entries i j its e apart) ∙ get_or_from_slice_get other.entries j e e is)

  -- the call returns there with the other reply, and at other moments nothing is changed
  event_here : IsEventAt other.entries (return_of i at.return) (Returns at.entry.thread reply)
  event_here = inr (record {
    at = record { entry = its; return = told; is_entry = its_entry; returned = refl };
    moment = refl;
    event_is = refl;
  })

  event_elsewhere : (m : Moment) (e : Event) → IsEventAt h.entries m e →
      (m ≡ return_of i at.return) ⊎ IsEventAt other.entries m e
  event_elsewhere m e (inl begins) = inr (by (cases_eq m.entry i))
    where
      by : (m.entry ≡ i) ⊎ (m.entry ≢ i) → IsEventAt other.entries m e
      by (inl same) = inl (record {
        entry = its;
        is_entry = ap (slice_get other.entries) same ∙ its_entry;
        moment = begins.moment ∙ ap (beginning_of m.entry) entry;
        event_is = begins.event_is ∙ ap (λ (o : Observation). Begins o.thread o.call) entry;
      })
        where
          entry : begins.entry ≡ at.entry
          entry = cc
      by (inr apart) = inl (record {
        entry = begins.entry;
        is_entry = other_entry m.entry begins.entry apart begins.is_entry;
        moment = begins.moment;
        event_is = begins.event_is;
      })
  event_elsewhere m e (inr returns) = by (cases_eq m.entry i)
    where
      by : (m.entry ≡ i) ⊎ (m.entry ≢ i) → (m ≡ return_of i at.return) ⊎ IsEventAt other.entries m e
      by (inl same) = inl cc
      by (inr apart) = inr (inr (record {
        at = record {
          entry = returns.at.entry;
          return = returns.at.return;
          is_entry = other_entry m.entry returns.at.entry apart returns.at.is_entry;
          returned = returns.at.returned;
        };
        moment = returns.moment;
        event_is = returns.event_is;
      }))

  event_still : (m : Moment) (e : Event) → m ≢ return_of i at.return → IsEventAt h.entries m e →
      IsEventAt other.entries m e
  event_still m e apart is = by (event_elsewhere m e is)
    where
      by : (m ≡ return_of i at.return) ⊎ IsEventAt other.entries m e → IsEventAt other.entries m e
      by (inl same) = absurd (apart same)
      by (inr still) = still

  moment_still : (m : Moment) → IsMomentOf h.entries m → IsMomentOf other.entries m
  moment_still m is = by (event_elsewhere m is.0 is.1)
    where
      by : (m ≡ return_of i at.return) ⊎ IsEventAt other.entries m is.0 → IsMomentOf other.entries m
      by (inl same) = (
        Returns at.entry.thread reply,
        subst (λ (n : Moment). IsEventAt other.entries n (Returns at.entry.thread reply)) (sym same) event_here,
      )
      by (inr still) = (is.0, still)

  -- its moments are the same
  pub same_moments : (moments : List Moment) → AreMomentsOf h.entries moments → AreMomentsOf other.entries moments
  same_moments moments are = record {
    each = All-weaker (IsMomentOf h.entries) (IsMomentOf other.entries) moment_still moments are.each;
    begun = begun;
    returned = returned;
    in_order = are.in_order;
  }
    where
      begun : (j : ℕ) (e : Observation) → slice_get other.entries j ≡ Some e → Contains moments (beginning_of j e)
      begun j e is = by (cases_eq j i)
        where
          by : (j ≡ i) ⊎ (j ≢ i) → Contains moments (beginning_of j e)
          by (inl same) = subst (λ (o : Observation). Contains moments (beginning_of j o))
              (same_Some its e (sym its_entry ∙ ap (slice_get other.entries) (sym same) ∙ is))
              (are.begun j at.entry (ap (slice_get h.entries) same ∙ at.is_entry))
          by (inr apart) = are.begun j e (entry_back j e apart is)

      returned : (j : ℕ) (back : IsReturnAt other.entries j) → Contains moments (return_of j back.return)
      returned j back = by (cases_eq j i)
        where
          by : (j ≡ i) ⊎ (j ≢ i) → Contains moments (return_of j back.return)
          by (inl same) = subst (λ (q : Returned). Contains moments (return_of j q)) same_return
              (subst (λ (n : ℕ). Contains moments (return_of n at.return)) (sym same) (are.returned i at))
            where
              same_return : told ≡ back.return
              same_return = let there = its_entry in cc
          by (inr apart) = are.returned j (record {
            entry = back.entry;
            return = back.return;
            is_entry = entry_back j back.entry apart back.is_entry;
            returned = back.returned;
          })

  -- a reply is possible where the cut is explained with it
  pub possible_as_cut : IsPossible h i reply ↔ IsExplained (cut at.return.last (i + 1) other)
  possible_as_cut = (
    (λ possible.
        let entry : possible.at.entry ≡ at.entry = cc in
        let back : possible.at.return ≡ at.return = cc in
        subst (λ (q : Returned). IsExplained (cut_after q i (with_reply i at.entry q reply h))) back
        (subst (λ (o : Observation). IsExplained (cut_after possible.at.return i
        (with_reply i o possible.at.return reply h))) entry possible.explained)),
    (λ explained. record { at = at; explained = explained }),
  )

  module _ (observed : IsObserved h) (moments : List Moment) (events : List Event) (of : AreEventsOf h moments events)
      (k : ℕ) (there : slice_get moments k ≡ Some (return_of i at.return))
    where
      abbrev pub changed : List Event
      changed = with_at k (Returns at.entry.thread reply) events

      -- its events are those, with the other return
      pub other_events : AreEventsOf other moments changed
      other_events = record {
        are = same_moments moments of.are;
        events_are = zip_with (IsEventAt h.entries) (IsEventAt other.entries) k moments events
            (return_of i at.return) (Returns at.entry.thread reply) of.events_are there
            (λ j m e apart here is. event_still m e (λ same. apart (one_number h observed moments events of j k
            (return_of i at.return) (here ∙ ap Some same) there)) is) event_here;
      }

      pub up_to_return : take (k + 1) changed ≡ take k events ++ Returns at.entry.thread reply ∷ []
      up_to_return = let found = zip_there (IsEventAt h.entries) k moments events (return_of i at.return)
          of.events_are there in
          take_with k (Returns at.entry.thread reply) found.0 events found.1.0

      possible_as_events : IsPossible h i reply ↔ AreExplainedFrom (Both h.limits) (state_at_first h)
          (take k events ++ Returns at.entry.thread reply ∷ [])
      possible_as_events = (
        (λ possible. subst (AreExplainedFrom (Both h.limits) (state_at_first h)) up_to_return
            (as_run.0 (possible_as_cut.0 possible))),
        (λ way. possible_as_cut.1 (as_run.1 (subst (AreExplainedFrom (Both h.limits) (state_at_first h))
            (sym up_to_return) way))),
      )
        where
          as_run : IsExplained (cut_after told i other) ↔
              AreExplainedFrom (Both h.limits) (state_at_first h) (take (k + 1) changed)
          as_run = returned_as_events other (other_observed observed) moments changed other_events i k told there

      module _ (name : Names) (are : AreNamesFor h name) where
        pub by_name : map (event_by name) (take k events ++ Returns at.entry.thread reply ∷ []) ≡
            map (event_by name) (take k events) ++ Returns at.entry.thread (reply_by name reply) ∷ []
        by_name = map-append (event_by name) (take k events) (Returns at.entry.thread reply ∷ [])

        pub possible_named : IsPossible h i reply ↔ AreExplained h.limits
            (map (event_by name) (take k events) ++ Returns at.entry.thread (reply_by name reply) ∷ [])
        possible_named = (
          (λ possible. subst (AreExplained h.limits) by_name
              (subst (λ (s : State). AreExplainedFrom (Both h.limits) s (map (event_by name) tried))
              (first_named h name are) (named.0 (possible_as_events.0 possible)))),
          (λ way. possible_as_events.1 (named.1 (subst (λ (s : State). AreExplainedFrom (Both h.limits) s
              (map (event_by name) tried)) (sym (first_named h name are))
              (subst (AreExplained h.limits) (sym by_name) way)))),
        )
          where
            tried : List Event
            tried = take k events ++ Returns at.entry.thread reply ∷ []

            named : AreExplainedFrom (Both h.limits) ([], zeros h.width) tried ↔
                AreExplainedFrom (Both h.limits) ([], name (zeros h.width)) (map (event_by name) tried)
            named = names_dont_matter h.limits name (zeros h.width) tried are.different

        -- the whole run of the history with the other reply
        pub run_of_other : IsRunOf other moments (map (event_by name) changed)
        run_of_other = record {
          events = changed;
          are = other_events;
          name = name;
          names = record { different = are.different; first = are.first };
          run_is = refl;
        }

        pub run_up_to_return : take (k + 1) (map (event_by name) changed) ≡
            map (event_by name) (take k events) ++ Returns at.entry.thread (reply_by name reply) ∷ []
        run_up_to_return = take-map (event_by name) (k + 1) changed ∙ ap (map (event_by name)) up_to_return ∙ by_name

        pub returns_there : ReturnsAt other moments k i
        returns_there = record {
          at = record { entry = its; return = told; is_entry = its_entry; returned = refl };
          here = there;
        }

pub possible_by_numbers : PossibleByNumbers
possible_by_numbers h moments events name i k at reply observed of are there =
    possible_named h i at reply observed moments events of k there name are
