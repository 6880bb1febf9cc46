-- The calls that end at events of a run, of which a judge keeps some.
use Rattle.std.proofs.Common.{◌≡◌, ◌≢◌, ◌⊎◌, ◌+◌, ◌-◌, ◌<◌, ◌≤◌, ℕ, suc, Bool, true, false, List, [], ◌∷◌, ◌++◌}
use Rattle.std.proofs.Common.{length, Option, Some, None, refl, sym, ◌∙◌, ap, subst, inl, inr, arith, append_assoc}
use Rattle.std.proofs.Common.{eq-eqb, ne_eqb}
use Rattle.std.specs.Prelude.{⊤, IfSome, MatchOption, drop, take, slice_get, nat_le, option_and_then, option_map}
use Rattle.std.specs.Prelude.{if◌then◌else◌, is_some, IsSome}
use Rattle.std.specs.List.{fold}
use Rattle.std.proofs.lemmas.Bool.{cases_eq, false≢true, leb-true}
use Rattle.std.proofs.lemmas.List.{drop-append-le, drop-take, length-append, length-drop, length-take-le, length_push}
use Rattle.std.proofs.lemmas.List.{take-append-drop}
use Rattle.std.proofs.lemmas.List.Elements.{All-cons, All-nil}
use Rattle.std.proofs.lemmas.List.Sums.{fold-append}
use Rattle.std.proofs.lemmas.Option.{IfSome_then, get_or_from_slice_get, none-some, same_Some, slice_get_within}
use Rattle.std.proofs.Math.Seq.{drop-append_seam, take-append-add}
use Rattle.stamp_core.specs.Limits.{Bounds}
use Rattle.stamp_core.specs.declared.call.Call.{Call}
use Rattle.stamp_core.specs.declared.reply.Reply.{Reply}
use Rattle.stamp_runs.specs.Own.{MayCome, none_open, open_after, open_then}
use Rattle.stamp_runs.specs.Run.{lane_of}
use Rattle.stamp_runs.specs.declared.event.Event.{Event}
use Rattle.stamp_runs.specs.declared.event.Event.TheVariants.{Begins, Returns, Withdraws}
use Rattle.stamp_watch.specs.Ahead.{IsSpared}
use Rattle.stamp_watch.specs.declared.course.Course.{Course}
use Rattle.stamp_watch.specs.declared.delay.Delay.{Delay}
use Rattle.stamp_watch.specs.declared.ended_call.EndedCall.{EndedCall}
use Rattle.stamp_watch.specs.EndedCall.{IsEndedAt, begun_in, begun_then, end_in, ended, ended_at, ended_by, ended_from}
use Rattle.stamp_watch.specs.Possible.{IsKept}
use Rattle.stamp_watch.specs.PossibleLate.{AreSameUntil, KeepsDelayed}
use Rattle.stamp_watch.specs.Verdict.{AreOfLanes}
use Rattle.stamp_runs.proofs.Owning.{Calls, in_lane}
use Rattle.stamp_watch.proofs.Form.{open_other}
use Rattle.stamp_watch.proofs.Forming.{next_comes}
use Rattle.stamp_watch.proofs.Reading.{around}

-- the call begins by the last event of its lane
record BeginsLast (lane : ℕ) (call : Call) (events : List Event) : Type 0 where
  before : List Event
  between : List Event
  events_are : events ≡ before ++ Begins lane call ∷ between
  spared : IsSpared between lane

-- or it began before these events, none of which is of its lane
abbrev HasBegunLast : ℕ → Call → Calls → Option Call → List Event → Type 0
HasBegunLast lane call calls last events =
    (IsSpared events lane × (last ≡ Some call) × IsSome (calls lane)) ⊎ BeginsLast lane call events

one_more : (lane : ℕ) (call : Call) (calls : Calls) (last : Option Call) (e : Event) (events : List Event) →
    HasBegunLast lane call (open_then calls e) (begun_then lane last e) events →
    HasBegunLast lane call calls last (e ∷ events)
one_more lane call calls last e events (inr is) = inr (record {
  before = e ∷ is.before;
  between = is.between;
  events_are = ap (λ (xs : List Event). e ∷ xs) is.events_are;
  spared = is.spared;
})
one_more lane call calls last e events (inl is) = by e (cases_eq (lane_of e) lane) is.1 is.2
  where
    behind : (d : Event) → lane_of d ≢ lane → IsSpared (d ∷ events) lane
    behind d apart = All-cons (λ (x : Event). lane_of x ≢ lane) d events apart is.0

    by : (d : Event) → (lane_of d ≡ lane) ⊎ (lane_of d ≢ lane) → begun_then lane last d ≡ Some call →
        IsSome (open_then calls d lane) → HasBegunLast lane call calls last (d ∷ events)
    by (Begins u c) (inl same) some taken = inr (record {
      before = [];
      between = events;
      events_are = ap (λ (n : ℕ). Begins n c ∷ events) same ∙ ap (λ (x : Call). Begins lane x ∷ events)
          (same_Some c call (sym (ap (λ (b : Bool). if b then Some c else last) (eq-eqb u lane same)) ∙ some));
      spared = is.0;
    })
    by (Begins u c) (inr apart) some taken = inl (
      behind (Begins u c) apart,
      sym (ap (λ (b : Bool). if b then Some c else last) (ne_eqb u lane apart)) ∙ some,
      sym (ap is_some (open_other lane calls (Begins u c) apart)) ∙ taken,
    )
    by (Returns u r) (inl same) some taken =
        absurd (false≢true (sym (ap is_some (in_lane None (calls lane) same)) ∙ taken))
    by (Returns u r) (inr apart) some taken =
        inl (behind (Returns u r) apart, some, sym (ap is_some (open_other lane calls (Returns u r) apart)) ∙ taken)
    by (Withdraws u) (inl same) some taken =
        absurd (false≢true (sym (ap is_some (in_lane None (calls lane) same)) ∙ taken))
    by (Withdraws u) (inr apart) some taken =
        inl (behind (Withdraws u) apart, some, sym (ap is_some (open_other lane calls (Withdraws u) apart)) ∙ taken)

-- where a lane has an open call its last call is that
begun_last : (lane : ℕ) (call : Call) (calls : Calls) (last : Option Call) (events : List Event) →
    IsSome (fold open_then calls events lane) → fold (begun_then lane) last events ≡ Some call →
    HasBegunLast lane call calls last events
begun_last lane call calls last [] taken some = inl (All-nil (λ (e : Event). lane_of e ≢ lane), some, taken)
begun_last lane call calls last (e ∷ events) taken some = one_more lane call calls last e events
    (begun_last lane call (open_then calls e) (begun_then lane last e) events taken some)

begins_last : (lane : ℕ) (call : Call) (calls : Calls) (events : List Event) →
    IsSome (fold open_then calls events lane) → begun_in lane events ≡ Some call → BeginsLast lane call events
begins_last lane call calls events taken some = by (begun_last lane call calls None events taken some)
  where
    by : HasBegunLast lane call calls None events → BeginsLast lane call events
    by (inl none) = absurd (none-some call none.1)
    by (inr is) = is

pub taken_by_end : (calls : Calls) (lane : ℕ) (reply : Option Reply) → MayCome calls (end_in lane reply) →
    IsSome (calls lane)
taken_by_end calls lane None may = may
taken_by_end calls lane (Some reply) may = may

lane_of_end : (lane : ℕ) (reply : Option Reply) → lane_of (end_in lane reply) ≡ lane
lane_of_end lane None = refl
lane_of_end lane (Some reply) = refl

module _ (past items : List Event) (whole : AreOfLanes (past ++ items)) (at : ℕ) where
  -- an event that ends a call
  module _ (lane : ℕ) (reply : Option Reply) (call : Call) (there : slice_get items at ≡ Some (end_in lane reply))
      (some : begun_in lane (take at items) ≡ Some call) where
    within : at < length items
    within = slice_get_within items at (end_in lane reply) there

    rest : List Event
    rest = drop (at + 1) items

    parts : take at items ++ end_in lane reply ∷ drop (at + 1) items ≡ items
    parts = around items at (end_in lane reply) within
        (sym (get_or_from_slice_get items at (end_in lane reply) (end_in lane reply) there))

    taken : IsSome (open_after (past ++ take at items) lane)
    taken = taken_by_end (open_after (past ++ take at items)) lane reply
        (next_comes (past ++ take at items) (end_in lane reply) (drop (at + 1) items)
        (subst AreOfLanes (ap (λ (xs : List Event). past ++ xs) (sym parts) ∙
        sym (append_assoc past (take at items) (end_in lane reply ∷ drop (at + 1) items))) whole))

    last : BeginsLast lane call (take at items)
    last = begins_last lane call (open_after past) (take at items)
        (sym (ap (λ (calls : Calls). is_some (calls lane)) (fold-append open_then none_open past (take at items))) ∙
        taken) some

    ended_event : IsEndedAt (past ++ items) (length past + at) (ended lane reply call)
    unfolding last
    ended_event = record {
      began = length (past ++ last.before);
      between = last.between;
      number = let long : length (past ++ last.before) ≡ length past + length last.before =
          length-append past last.before in
          let cut : length (take at items) ≡ at = length-take-le at items (omega (arith, within)) in
          let here : length (take at items) ≡ length (last.before ++ Begins lane call ∷ last.between) =
          ap (λ (xs : List Event). length xs) last.events_are in
          let sum : length (last.before ++ Begins lane call ∷ last.between) ≡
          length last.before + suc (length last.between) =
          length-append last.before (Begins lane call ∷ last.between) in
          omega (arith, long, cut, here, sum);
      ends = record {
        rest = drop (at + 1) items;
        there = ap (drop (length (past ++ last.before))) (ap (λ (xs : List Event). past ++ xs) (sym parts ∙
            ap (λ (xs : List Event). xs ++ end_in lane reply ∷ drop (at + 1) items) last.events_are ∙
            append_assoc last.before (Begins lane call ∷ last.between)
            (end_in lane reply ∷ drop (at + 1) items)) ∙
            sym (append_assoc past last.before (Begins lane call ∷ (last.between ++ end_in lane reply ∷
            drop (at + 1) items)))) ∙
            drop-append_seam (past ++ last.before) (Begins lane call ∷ (last.between ++ end_in lane reply ∷
            drop (at + 1) items));
        spared = last.spared;
        same = lane_of_end lane reply;
      };
    }

  by_end : (lane : ℕ) (reply : Option Reply) → slice_get items at ≡ Some (end_in lane reply) → (o : Option Call) →
      begun_in lane (take at items) ≡ o → IfSome (option_map (ended lane reply) o)
      (λ (call : EndedCall). IsEndedAt (past ++ items) (length past + at) call)
  by_end lane reply there None none = tt
  by_end lane reply there (Some call) some = ended_event lane reply call there some

  by_event : (o : Option Event) → slice_get items at ≡ o →
      IfSome (option_and_then (λ (e : Event). ended_by e (take at items)) o)
      (λ (call : EndedCall). IsEndedAt (past ++ items) (length past + at) call)
  by_event None none = tt
  by_event (Some (Begins lane call)) there = tt
  by_event (Some (Returns lane reply)) there =
      by_end lane (Some reply) there (begun_in lane (take at items)) refl
  by_event (Some (Withdraws lane)) there = by_end lane None there (begun_in lane (take at items)) refl

  kept_event : IfSome (ended_at items at)
      (λ (call : EndedCall). IsEndedAt (past ++ items) (length past + at) call)
  kept_event = by_event (slice_get items at) refl

-- so it is when more comes
pub ended_more : (xs ys : List Event) (k : ℕ) (call : EndedCall) → IsEndedAt xs k call → IsEndedAt (xs ++ ys) k call
ended_more xs ys k call is = record {
  began = is.began;
  between = is.between;
  number = is.number;
  ends = record {
    rest = is.ends.rest ++ ys;
    there = drop-append-le is.began xs ys (let long : length (drop is.began xs) ≡ length xs - is.began =
        length-drop is.began xs in
        let some : length (drop is.began xs) ≡
        suc (length (is.between ++ end_in call.lane call.reply ∷ is.ends.rest)) =
        ap (λ (zs : List Event). length zs) is.ends.there in omega (arith, long, some)) ∙
        ap (λ (zs : List Event). zs ++ ys) is.ends.there ∙
        ap (λ (zs : List Event). Begins call.lane call.call ∷ zs)
        (append_assoc is.between (end_in call.lane call.reply ∷ is.ends.rest) ys);
    spared = is.ends.spared;
    same = is.ends.same;
  };
}

-- and among the events up to a place behind it
ended_up_to : (xs : List Event) (n k : ℕ) (call : EndedCall) → k < n → IsEndedAt xs k call →
    IsEndedAt (take n xs) k call
ended_up_to xs n k call less is = record {
  began = is.began;
  between = is.between;
  number = is.number;
  ends = record {
    rest = take (n - (k + 1)) is.ends.rest;
    there = ap (λ (m : ℕ). drop is.began (take m xs)) (omega (arith, less, number)) ∙
        drop-take is.began (n - is.began) xs ∙ ap (take (n - is.began)) (is.ends.there ∙ ap (λ (zs : List Event).
        begun ∷ zs) (sym (append_assoc is.between (end ∷ []) is.ends.rest))) ∙
        ap (λ (m : ℕ). take m ((begun ∷ (is.between ++ end ∷ [])) ++ is.ends.rest))
        (let long : length (is.between ++ end ∷ []) ≡ length is.between + 1 = length_push is.between end in
        let all : length (begun ∷ (is.between ++ end ∷ [])) ≡ suc (length (is.between ++ end ∷ [])) = refl in
        omega (arith, less, number, long, all)) ∙
        take-append-add (begun ∷ (is.between ++ end ∷ [])) is.ends.rest (n - (k + 1)) ∙
        ap (λ (zs : List Event). begun ∷ zs)
        (append_assoc is.between (end ∷ []) (take (n - (k + 1)) is.ends.rest));
    spared = is.ends.spared;
    same = is.ends.same;
  };
}
  where
    begun : Event
    begun = Begins call.lane call.call

    end : Event
    end = end_in call.lane call.reply

    number : k ≡ is.began + 1 + length is.between
    number = is.number

-- what a judge tells of an event that it keeps holds of the run
pub kept_ended : (limits : Bounds) (run : List Event) (course : Course) (number : ℕ) → IsKept limits run course →
    IfSome (ended_from course.first course.events.items number)
    (λ (call : EndedCall). IsEndedAt run number call)
kept_ended limits run course number is = by (nat_le course.first number) refl
  where
    by : (b : Bool) → nat_le course.first number ≡ b →
        MatchOption (if b then ended_at course.events.items (number - course.first) else None) ⊤
        (λ (call : EndedCall). IsEndedAt run number call)
    by false below = tt
    by true behind = IfSome_then (ended_at course.events.items (number - course.first))
        (kept_event is.past course.events.items is.whole (number - course.first))
        (λ call ended. subst (λ (n : ℕ). IsEndedAt run n call) here
        (subst (λ (xs : List Event). IsEndedAt xs (length is.past + (number - course.first)) call)
        (append_assoc is.past course.events.items is.more ∙ sym is.run_is)
        (ended_more (is.past ++ course.events.items) is.more (length is.past + (number - course.first)) call ended)))
      where
        here : length is.past + (number - course.first) ≡ number
        here = let place : course.first ≡ length is.past = is.place in
            let within : course.first ≤ number = leb-true course.first number behind in omega (arith, place, within)

same_ended : (run given : List Event) (first : Option ℕ) (k : ℕ) (call : EndedCall) → AreSameUntil run given first →
    MatchOption first ⊤ (λ (n : ℕ). k < n) → IsEndedAt given k call → IsEndedAt run k call
same_ended run given None k call is before at =
    subst (λ (xs : List Event). IsEndedAt xs k call) (sym is.1) (ended_more given is.0 k call at)
same_ended run given (Some n) k call is before at = subst (λ (xs : List Event). IsEndedAt xs k call)
    (take-append-drop n run) (ended_more (take n run) (drop n run) k call
    (subst (λ (xs : List Event). IsEndedAt xs k call) is.2 (ended_up_to given n k call before at)))

-- and so it does where no call before the event was put aside
pub later_ended : (limits : Bounds) (run : List Event) (delay : Delay) (number : ℕ) → KeepsDelayed limits run delay →
    MatchOption delay.first_late ⊤ (λ (first : ℕ). number < first) →
    IfSome (ended_from delay.judge.course.first delay.judge.course.events.items number)
    (λ (call : EndedCall). IsEndedAt run number call)
later_ended limits run delay number is before =
    IfSome_then (ended_from delay.judge.course.first delay.judge.course.events.items number)
    (kept_ended limits is.given delay.judge.course number is.keeps)
    (λ call ended. same_ended run is.given delay.first_late number call is.same before ended)
