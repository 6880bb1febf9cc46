-- Other replies that are tried.
use Rattle.std.proofs.Common.{ℕ, ◌≡◌, ◌+◌, ◌-◌, ◌<◌, ◌≤◌, true, List, [], ◌∷◌, ◌++◌, length, Some, refl}
use Rattle.std.proofs.Common.{sym}
use Rattle.std.proofs.Common.{◌∙◌, ap, subst, arith, append_assoc, get_or}
use Rattle.std.specs.Prelude.{drop, nat_lt, slice_get, take}
use Rattle.std.proofs.lemmas.List.{get_or_append_left, get_or-append-add, length-append}
use Rattle.std.proofs.lemmas.List.{take-append-le}
use Rattle.std.proofs.lemmas.List.{take-append-drop}
use Rattle.std.proofs.lemmas.List.Elements.{All-push}
use Rattle.std.proofs.lemmas.Option.{get_or_from_slice_get, slice_get-get_or, slice_get_read, slice_get_within}
use Rattle.std.proofs.lemmas.Bool.Decides.{nat_tests}
use Rattle.std.proofs.Math.Seq.{take-add, take-append_seam}
use Rattle.stamp_core.specs.Limits.{Bounds}
use Rattle.stamp_core.specs.declared.reply.Reply.{Reply}
use Rattle.stamp_runs.specs.declared.event.Event.{Event}
use Rattle.stamp_runs.specs.declared.event.Event.TheVariants.{Returns}
use Rattle.stamp_runs.specs.BothRun.{AreExplained}
use Rattle.stamp_runs.specs.OneWord.{is_small_reply}
use Rattle.stamp_runs.specs.Own.{none_open}
use Rattle.stamp_sets.specs.SmallCall.{reply_of}
use Rattle.stamp_sets.specs.declared.small_call.SmallReply.{SmallReply}
use Rattle.stamp_watch.specs.declared.course.Course.{Course}
use Rattle.stamp_watch.specs.declared.online.Judge.{Judge}
use Rattle.stamp_watch.specs.Possible.{AreTooManyFor, IsKept, IsPossibleReply, KeepsBase}
use Rattle.stamp_watch.specs.Verdict.{AreOfLanes, AreTooMany, IsOfLane}
use Rattle.stamp_watch.specs.inner.Possible.{IsReturnFor, IsReturnHere}
use Rattle.stamp_watch.specs.Judging.{IsJudging}
use Rattle.stamp_watch.proofs.Reading.{up_to}
use Rattle.stamp_watch.proofs.Form.{form_goes_on}
use Rattle.stamp_watch.proofs.Forming.{next_comes, next_of_lane, of_lanes_up_to}
use Rattle.stamp_watch.proofs.Judged.{cut_behind}
use Rattle.stamp_watch.proofs.Running.{standing_more}
use Rattle.stamp_watch.proofs.Small.{small_reply_is}

returns_same : (lane other : ℕ) (reply answer : Reply) → Returns lane reply ≡ Returns other answer → lane ≡ other
returns_same lane other reply answer same = cc

-- the event that is read there
pub read_there : (events slice : List Event) (at : ℕ) (e : Event) → slice ≡ events → nat_lt at (length slice) ≡ true →
    e ≡ get_or slice at e → slice_get events at ≡ Some e
read_there events slice at e same less read = subst (λ (xs : List Event). slice_get xs at ≡ Some e) same
    (slice_get-get_or slice at e (grind (arith, nat_tests)) ∙ ap Some (sym read))

pub some_same : {A : Type 0} {x y : A} → Some x ≡ Some y → x ≡ y
some_same same = cc

-- a return may have another reply
other_reply : (past : List Event) (lane : ℕ) (own reply : Reply) → is_small_reply reply ≡ true →
    AreOfLanes (past ++ Returns lane own ∷ []) → AreOfLanes (past ++ Returns lane reply ∷ [])
other_reply past lane own reply small whole = record {
  form = form_goes_on none_open past (Returns lane reply) before.form
      (next_comes past (Returns lane own) [] whole);
  lanes = All-push IsOfLane past (Returns lane reply) before.lanes
      ((next_of_lane past (Returns lane own) [] whole).0, small);
}
  where
    before : AreOfLanes past
    before = subst AreOfLanes (take-append_seam past (Returns lane own ∷ []))
        (of_lanes_up_to (length past) (past ++ Returns lane own ∷ []) whole)

module _ (limits : Bounds) (run : List Event) (course : Course) (is : IsKept limits run course) (at : ℕ) where
  abbrev events : List Event
  events = course.events.items

  -- the run up to the event
  pub run_up_to : at < length events → take (course.first + at) run ≡ is.past ++ take at events
  run_up_to less = ap (take (course.first + at)) is.run_is ∙
      cut_behind course.first at is.past (events ++ is.more) is.place ∙
      ap (λ (xs : List Event). is.past ++ xs) (take-append-le at events is.more (omega (arith, less)))

  pub run_there : (e : Event) → slice_get events at ≡ Some e → slice_get run (course.first + at) ≡ Some e
  run_there e there = slice_get_read run (length run) (course.first + at) e refl (omega (arith, whole_long, less))
      (sym (ap (λ (xs : List Event). get_or xs (course.first + at) e) is.run_is ∙
      ap (λ (n : ℕ). get_or (is.past ++ (events ++ is.more)) (n + at) e) is.place ∙
      get_or-append-add is.past (events ++ is.more) at e ∙
      get_or_append_left events is.more e at less ∙ get_or_from_slice_get events at e e there))
    where
      less : at < length events
      less = slice_get_within events at e there

      whole_long : length run ≡ course.first + length events + length is.more
      whole_long = let all = ap length is.run_is ∙ length-append is.past (events ++ is.more) in
          let rest = length-append events is.more in
          let place : course.first ≡ length is.past = is.place in omega (arith, all, rest, place)

  module _ (e : Event) (for : IsReturnFor events at e) (seen : course.seen ≤ at) where
    abbrev trial : List Event
    trial = take at events ++ e ∷ []

    less : at < length events
    less = slice_get_within events at (Returns for.lane for.own) for.there

    abbrev behind : List Event
    behind = take (at - course.seen) (drop course.seen events)

    parts : trial ≡ take course.seen events ++ (behind ++ e ∷ [])
    parts = ap (λ (xs : List Event). xs ++ e ∷ []) (ap (λ (n : ℕ). take n events) there ∙
        take-add course.seen (at - course.seen) events) ∙
        append_assoc (take course.seen events) behind (e ∷ [])
      where
        there : at ≡ course.seen + (at - course.seen)
        there = omega (arith, seen)

    of_lanes : AreOfLanes (is.past ++ trial)
    of_lanes = subst AreOfLanes (append_assoc is.past (take at events) (e ∷ []))
        (subst (λ (x : Event). AreOfLanes ((is.past ++ take at events) ++ x ∷ [])) (sym for.is)
        (other_reply (is.past ++ take at events) for.lane for.own for.reply for.small
        (subst AreOfLanes (sym (append_assoc is.past (take at events) (Returns for.lane for.own ∷ []))) own)))
      where
        own : AreOfLanes (is.past ++ (take at events ++ Returns for.lane for.own ∷ []))
        own = subst (λ (xs : List Event). AreOfLanes (is.past ++ xs))
            (up_to events at (Returns for.lane for.own) for.there)
            (subst AreOfLanes (cut_behind (length is.past) (at + 1) is.past events refl)
            (of_lanes_up_to (length is.past + (at + 1)) (is.past ++ events) is.whole))

    pub judging_with : IsJudging limits course.first is.past trial course.base
    judging_with = subst (λ (xs : List Event). IsJudging limits course.first is.past xs course.base) (sym parts)
        (standing_more limits course.first is.past (take course.seen events) (behind ++ e ∷ []) course.base
        (subst (λ (xs : List Event). AreOfLanes (is.past ++ xs)) parts of_lanes) is.from_base).judging

-- what was found of the run up to a return, with another reply
module _ (limits : Bounds) (run : List Event) (judge : Judge) (is : KeepsBase limits run judge) (number at lane : ℕ)
    (here : IsReturnHere judge number at lane) (reply : SmallReply) where
  less_here : at < length judge.course.events.items
  less_here = slice_get_within judge.course.events.items at (Returns lane here.own) here.there

  there_in_run : slice_get run number ≡ Some (Returns lane here.own)
  there_in_run = ap (λ (n : ℕ). slice_get run n) here.number_is ∙
      run_there limits run judge.course is at (Returns lane here.own) here.there

  up_to_here : take number run ++ Returns lane (reply_of reply) ∷ [] ≡
      is.past ++ (take at judge.course.events.items ++ Returns lane (reply_of reply) ∷ [])
  up_to_here = ap (λ (n : ℕ). take n run ++ Returns lane (reply_of reply) ∷ []) here.number_is ∙
      ap (λ (xs : List Event). xs ++ Returns lane (reply_of reply) ∷ []) (run_up_to limits run judge.course is at
      less_here) ∙ append_assoc is.past (take at judge.course.events.items) (Returns lane (reply_of reply) ∷ [])

  pub return_for : IsReturnFor judge.course.events.items at (Returns lane (reply_of reply))
  return_for = record {
    lane = lane;
    own = here.own;
    reply = reply_of reply;
    there = here.there;
    is = refl;
    small = small_reply_is reply;
  }

  pub possible_here : AreExplained limits (is.past ++ (take at judge.course.events.items ++
      Returns lane (reply_of reply) ∷ [])) → IsPossibleReply limits run number (reply_of reply)
  possible_here explained = record {
    lane = lane;
    own = here.own;
    there = there_in_run;
    explained = subst (AreExplained limits) (sym up_to_here) explained;
  }

  same_lane : (other : ℕ) (own : Reply) → slice_get run number ≡ Some (Returns other own) → other ≡ lane
  same_lane other own there = returns_same other lane own here.own (some_same (sym there ∙ there_in_run))

  pub not_possible_here : (¬ AreExplained limits (is.past ++ (take at judge.course.events.items ++
      Returns lane (reply_of reply) ∷ []))) → ¬ IsPossibleReply limits run number (reply_of reply)
  not_possible_here none possible = none (subst (AreExplained limits) up_to_here
      (subst (λ (l : ℕ). AreExplained limits (take number run ++ Returns l (reply_of reply) ∷ []))
      (same_lane possible.lane possible.own possible.there) possible.explained))

  abbrev tried : List Event
  tried = take at judge.course.events.items ++ Returns lane (reply_of reply) ∷ []

  pub too_many_here : (k : ℕ) → AreTooMany limits (judge.course.first + k)
      (is.past ++ take k (take at judge.course.events.items ++ Returns lane (reply_of reply) ∷ []))
      (drop k (take at judge.course.events.items ++ Returns lane (reply_of reply) ∷ [])) judge.most →
      AreTooManyFor limits run number judge.most reply
  too_many_here k many = record {
    lane = lane;
    own = here.own;
    there = there_in_run;
    place = judge.course.first + k;
    past = is.past ++ take k tried;
    future = drop k tried;
    parts = append_assoc is.past (take k tried) (drop k tried) ∙
        ap (λ (xs : List Event). is.past ++ xs) (take-append-drop k tried) ∙ sym up_to_here;
    too_many = many;
  }
