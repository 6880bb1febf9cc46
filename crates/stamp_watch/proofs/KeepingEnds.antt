-- A course keeps what tells of the event at which its run is stuck.
use Rattle.std.proofs.Common.{◌≡◌, ◌≢◌, ◌⊎◌, ◌+◌, ◌-◌, ◌<◌, ◌≤◌, ℕ, Bool, true, List, [], ◌∷◌, ◌++◌, length}
use Rattle.std.proofs.Common.{Option, Some, None, get_or, refl, sym, ◌∙◌, ap, subst, inl, inr, arith, append_assoc}
use Rattle.std.proofs.Common.{eq-eqb, ne_eqb}
use Rattle.std.specs.Prelude.{drop, take, slice_get, option_and_then, option_map, if◌then◌else◌, is_some, IsSome}
use Rattle.std.specs.List.{fold}
use Rattle.std.proofs.lemmas.Bool.{cases_eq, le-leb}
use Rattle.std.proofs.lemmas.List.{length-append, length-take-le}
use Rattle.std.proofs.lemmas.List.Sums.{fold-append}
use Rattle.std.proofs.lemmas.Option.{none-some, slice_get_cases}
use Rattle.std.proofs.Math.Seq.{take-append_seam}
use Rattle.stamp_core.specs.Limits.{Bounds}
use Rattle.stamp_core.specs.declared.call.Call.{Call}
use Rattle.stamp_core.specs.declared.reply.Reply.{Reply}
use Rattle.stamp_runs.specs.declared.event.Event.{Event}
use Rattle.stamp_runs.specs.declared.event.Event.TheVariants.{Begins, Returns, Withdraws}
use Rattle.stamp_runs.specs.Own.{MayCome, none_open, open_after, open_then}
use Rattle.stamp_runs.specs.BothRun.{AreExplained, AreStuckAt, Both, start}
use Rattle.stamp_runs.specs.Run.{lane_of}
use Rattle.stamp_watch.specs.AsObserved.Ending.{StaysOpen}
use Rattle.stamp_watch.specs.AsObserved.{ending_of}
use Rattle.stamp_watch.specs.Course.{IsCourse, IsStanding, KeepsEnd, KeepsEndOf}
use Rattle.stamp_watch.specs.declared.course.Course.{Course}
use Rattle.stamp_watch.specs.declared.verdict.Verdict.{Verdict}
use Rattle.stamp_watch.specs.declared.verdict.Verdict.TheVariants as verdict
use Rattle.stamp_watch.specs.EndedCall.{begun_in, begun_then, end_in, ended, ended_at, ended_by, ended_from}
use Rattle.stamp_watch.specs.Form.{is_busy_after}
use Rattle.stamp_watch.specs.Judging.{IsFound}
use Rattle.stamp_watch.specs.Verdict.{AreOfLanes}
use Rattle.stamp_watch.specs.inner.Course.{broken_off}
use Rattle.stamp_watch.specs.inner.Judging.{IsStuckAmong}
use Rattle.stamp_runs.proofs.Owning.{Calls}
use Rattle.stamp_watch.proofs.Form.{begins_next, open_other, past_end}
use Rattle.stamp_watch.proofs.EndedAt.{taken_by_end}
use Rattle.stamp_watch.proofs.Forming.{next_comes}
use Rattle.stamp_watch.proofs.Numbered.{ending_spares}
use Rattle.stamp_watch.proofs.Reading.{around}
use Rattle.stamp_watch.proofs.Running.{found_now, standing_up_to}

-- where some call has begun in the lane, one was the last
stays_begun : (lane : ℕ) (call : Call) (events : List Event) → fold (begun_then lane) (Some call) events ≢ None
stays_begun lane call [] none = none-some call (sym none)
stays_begun lane call (Begins u c ∷ events) none = by (cases_eq u lane) (λ x. stays_begun lane x events)
  where
    by : (u ≡ lane) ⊎ (u ≢ lane) → ((x : Call) → fold (begun_then lane) (Some x) events ≢ None) → ⊥
    by (inl same) later = later c (ap (λ (b : Bool). fold (begun_then lane) (if b then Some c else Some call) events)
        (sym (eq-eqb u lane same)) ∙ none)
    by (inr apart) later = later call (ap (λ (b : Bool). fold (begun_then lane) (if b then Some c else Some call)
        events)
        (sym (ne_eqb u lane apart)) ∙ none)
stays_begun lane call (_ ∷ events) none = stays_begun lane call events none

-- a call that is open behind events, none of which begins one in its lane, was open before, and stays so along them
none_begun : (lane : ℕ) (calls : Calls) (n : ℕ) (events : List Event) → IsSome (fold open_then calls events lane) →
    fold (begun_then lane) None events ≡ None → IsSome (calls lane) × (ending_of lane n events ≡ StaysOpen)
none_begun lane calls n [] open_still none = (open_still, refl)
none_begun lane calls n (Begins u c ∷ events) open_still none = by (cases_eq u lane)
    (none_begun lane (open_then calls (Begins u c)) (n + 1) events open_still)
  where
    by : (u ≡ lane) ⊎ (u ≢ lane) → (fold (begun_then lane) None events ≡ None →
        IsSome (open_then calls (Begins u c) lane) × (ending_of lane (n + 1) events ≡ StaysOpen)) →
        IsSome (calls lane) × (ending_of lane n (Begins u c ∷ events) ≡ StaysOpen)
    by (inl same) later = absurd (stays_begun lane c events
        (ap (λ (b : Bool). fold (begun_then lane) (if b then Some c else None) events) (sym (eq-eqb u lane same)) ∙
        none))
    by (inr apart) later = let past = later (ap (λ (b : Bool). fold (begun_then lane) (if b then Some c else None)
        events)
        (sym (ne_eqb u lane apart)) ∙ none) in
        (sym (ap is_some (open_other lane calls (Begins u c) apart)) ∙ past.0, past.1)
none_begun lane calls n (event ∷ events) open_still none =
    let past = none_begun lane (open_then calls event) (n + 1) events open_still none in
    let before = past_end (lane_of event) lane (calls lane) past.0 in
    (before.0, ending_spares lane n event events before.1 ∙ past.1)

module _ (limits : Bounds) (run : List Event) (course : Course) (is : IsCourse limits run course) (k : ℕ)
    (behind : course.first + course.seen ≤ k) (within : k < course.first + length course.events.items)
    (stuck : AreStuckAt limits run k) where
  abbrev events : List Event
  events = course.events.items

  abbrev at : ℕ
  at = k - course.first

  abbrev front : List Event
  front = is.on.past ++ take at events

  -- behind those events this one comes
  module _ (e : Event) (there : slice_get events at ≡ Some e)
      (here : events ≡ take at events ++ e ∷ drop (at + 1) events)
    where
      abbrev rest : List Event
      rest = drop (at + 1) events

      run_is : run ≡ front ++ e ∷ rest
      run_is = is.on.run_is ∙ ap (λ (xs : List Event). is.on.past ++ xs) here ∙
          sym (append_assoc is.on.past (take at events) (e ∷ rest))

      long : length front ≡ k
      long = let first : course.first ≡ length is.on.past = is.on.place in
          let cut : length (take at events) ≡ at = length-take-le at events (omega (arith, behind, within)) in
          let sum : length (is.on.past ++ take at events) ≡ length is.on.past + length (take at events) =
          length-append is.on.past (take at events) in omega (arith, first, cut, sum, behind)

      before : take k run ≡ front
      before = ap (λ (n : ℕ). take n run) (sym long) ∙ ap (take (length front)) run_is ∙
          take-append_seam front (e ∷ rest)

      with_it : take (k + 1) run ≡ front ++ e ∷ []
      with_it = ap (λ (n : ℕ). take n run) (let sum : length (front ++ e ∷ []) ≡ length front + 1 =
          length-append front (e ∷ []) in omega (arith, sum, long)) ∙
          ap (take (length (front ++ e ∷ []))) (run_is ∙ sym (append_assoc front (e ∷ []) rest)) ∙
          take-append_seam (front ++ e ∷ []) rest

      comes : MayCome (open_after front) e
      comes = next_comes front e rest (subst AreOfLanes (ap (λ (xs : List Event). is.on.past ++ xs) here ∙
          sym (append_assoc is.on.past (take at events) (e ∷ rest))) is.on.whole)

  ended_by_end : (lane : ℕ) (reply : Option Reply) (earlier : List Event) →
      ended_by (end_in lane reply) earlier ≡ option_map (ended lane reply) (begun_in lane earlier)
  ended_by_end lane None earlier = refl
  ended_by_end lane (Some reply) earlier = refl

  by_end : (lane : ℕ) (reply : Option Reply) → slice_get events at ≡ Some (end_in lane reply) →
      events ≡ take at events ++ end_in lane reply ∷ drop (at + 1) events → (o : Option Call) →
      begun_in lane (take at events) ≡ o → KeepsEnd course k
  by_end lane reply there here None none = absurd (standing.ended.ends lane past.0 past.1)
    where
      standing : IsStanding limits course.first is.on.past (take at events) course.base
      standing = standing_up_to limits course.first course.seen at is.on.past events course.base is.on.whole
          (omega (arith, behind)) is.on.from_base

      open_still : IsSome (fold open_then (open_after is.on.past) (take at events) lane)
      open_still = sym (ap (λ (calls : Calls). is_some (calls lane))
          (fold-append open_then none_open is.on.past (take at events))) ∙
          taken_by_end (open_after front) lane reply (comes (end_in lane reply) there here)

      past : (is_busy_after is.on.past lane ≡ true) × (ending_of lane course.first (take at events) ≡ StaysOpen)
      past = none_begun lane (open_after is.on.past) course.first (take at events) open_still none
  by_end lane reply there here (Some call) some = record {
    behind = behind;
    call = ended lane reply call;
    ends = ap (λ (b : Bool). if b then ended_at events at else None) (le-leb course.first k (omega (arith, behind))) ∙
        ap (option_and_then (λ (e : Event). ended_by e (take at events))) there ∙
        ended_by_end lane reply (take at events) ∙ ap (option_map (ended lane reply)) some;
  }

  by_event : (e : Event) → slice_get events at ≡ Some e → events ≡ take at events ++ e ∷ drop (at + 1) events →
      KeepsEnd course k
  by_event (Begins lane call) there here = absurd (stuck.stuck (subst (AreExplained limits)
      (sym (with_it (Begins lane call) there here)) (begins_next (Both limits) start lane call front
      (ap is_some (comes (Begins lane call) there here))
      (subst (AreExplained limits) (before (Begins lane call) there here) stuck.explained))))
  by_event (Returns lane reply) there here =
      by_end lane (Some reply) there here (begun_in lane (take at events)) refl
  by_event (Withdraws lane) there here = by_end lane None there here (begun_in lane (take at events)) refl

  -- so does a course that is stuck at an event behind those that were seen
  pub keeps_end : KeepsEnd course k
  keeps_end = by (slice_get_cases events at).1
    where
      by : ((e : Event) × (at < length events) × (slice_get events at ≡ Some e) × (get_or events at e ≡ e)) ⊎
          ((length events ≤ at) × (slice_get events at ≡ None)) → KeepsEnd course k
      by (inl found) = by_event found.0 found.2 (sym (around events at found.0 found.1 (sym found.3)))
      by (inr past) = absurd (omega (arith, within, behind, past.0))

-- and among more events
pub among_more : (from later to : ℕ) (v : Verdict) → from ≤ later → IsStuckAmong later to v → IsStuckAmong from to v
among_more from later to (verdict.Stuck k) less is = let at : later ≤ k = is.0 in (omega (arith, less, at), is.1)
among_more from later to (verdict.Undecided k why) less is = is
among_more from later to (verdict.Broken k) less is = is
among_more from later to _ less is = tt

-- so it keeps what tells of what is found behind those that were seen
pub keeps_found : (limits : Bounds) (run : List Event) (course : Course) (most : ℕ) (ahead : Option ℕ) (v : Verdict) →
    IsCourse limits run course → IsFound limits run most ahead v →
    IsStuckAmong (course.first + course.seen) (course.first + length course.events.items) v → KeepsEndOf course v
keeps_found limits run course most ahead (verdict.Stuck k) is found among =
    keeps_end limits run course is k among.0 among.1 (found_now limits run most ahead (verdict.Stuck k) found).1
keeps_found limits run course most ahead _ is found among = tt

-- and so does a course with the same events
pub keeps_same : (old new : Course) → new.first ≡ old.first → new.seen ≡ old.seen →
    new.events.items ≡ old.events.items → (v : Verdict) → KeepsEndOf old v → KeepsEndOf new v
keeps_same old new first seen events (verdict.Stuck k) is = record {
  behind = let behind : old.first + old.seen ≤ k = is.behind in omega (arith, behind, first, seen);
  call = is.call;
  ends = ap (λ (n : ℕ). ended_from n new.events.items k) first ∙
      ap (λ (xs : List Event). ended_from old.first xs k) events ∙ is.ends;
}
keeps_same old new first seen events _ is = tt

-- what is found where a run breaks off is told of as before
pub keeps_broken : (course : Course) (v : Verdict) (place : ℕ) → KeepsEndOf course v →
    KeepsEndOf course (broken_off v place)
keeps_broken course (verdict.Stuck k) place is = is
keeps_broken course _ place is = tt
