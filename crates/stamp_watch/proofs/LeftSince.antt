-- Which contents the record may hold, by the calls that leave them.
use Rattle.std.proofs.Common.{◌≡◌, ◌≢◌, ◌⊎◌, ◌+◌, ◌-◌, ◌≤◌, ◌<◌, ℕ, suc, List, [], ◌∷◌, ◌++◌, length, refl, sym}
use Rattle.std.proofs.Common.{◌∙◌, ap, subst, inl, inr, arith, append_assoc, append-nil, None, get_or}
use Rattle.std.specs.Prelude.{drop, take}
use Rattle.std.proofs.lemmas.List.{length-append, length-take-le, take-append-le}
use Rattle.std.proofs.lemmas.List.Elements.{All-take}
use Rattle.std.proofs.Math.Seq.{drop-append_seam, get_or-append_seam}
use Rattle.stamp_core.specs.Limits.{AreInRange, Bounds}
use Rattle.stamp_core.specs.declared.call.Call.{Call}
use Rattle.stamp_core.specs.declared.call.Call.TheVariants.{Put}
use Rattle.stamp_core.specs.declared.reply.Reply.{Reply}
use Rattle.stamp_runs.specs.BothRun.{Both, State, start}
use Rattle.stamp_runs.specs.Run.{Lanes, Leads, all_idle, lane_of}
use Rattle.stamp_runs.specs.Run.Leads.{by_effect, by_event, leads_nowhere}
use Rattle.stamp_runs.specs.declared.event.Event.{Event}
use Rattle.stamp_runs.specs.declared.event.Event.TheVariants.{Begins, Returns}
use Rattle.stamp_runs.proofs.Lanes.{leads_on}
use Rattle.stamp_watch.specs.Ahead.{IsSpared}
use Rattle.stamp_watch.specs.inner.Candidates.{IsLeftSince, IsOpen, IsReturnedPut, Leaves, MayBeLeft, ReturnsAt}
use Rattle.stamp_watch.specs.inner.Delay.{IsFirstOfLaneAt}
use Rattle.stamp_watch.proofs.Giving.{step_gives}
use Rattle.stamp_watch.proofs.Reading.{around}
use Rattle.stamp_watch.proofs.TakingEffect.{ComesTo, TakesEffect, comes_to, takes_effect_between}
use Rattle.stamp_watch.proofs.ToldAlong.{Stands, stands_effect, stands_event, stands_first, stands_so}
use Rattle.stamp_watch.proofs.Ways.{InTwo, cut}

-- it is so when more events come
pub since_on : (past more : List Event) (from : ℕ) (content : List ℕ) → from ≤ length past →
    IsLeftSince past from content → IsLeftSince (past ++ more) from content
since_on past more from content within is = record {
  before = is.before;
  event = is.event;
  behind = is.behind ++ more;
  events_are = ap (λ (xs : List Event). xs ++ more) is.events_are ∙
      append_assoc is.before (is.event ∷ is.behind) more;
  leaves = is.leaves;
  still = subst (λ (xs : List Event). IsSpared xs (lane_of is.event))
      (sym (take-append-le (from - (length is.before + 1)) is.behind more few)) is.still;
}
  where
    few : from - (length is.before + 1) ≤ length is.behind
    few = let long : length (is.before ++ is.event ∷ is.behind) ≡ length is.before + suc (length is.behind) =
        length-append is.before (is.event ∷ is.behind) in
        let same : length past ≡ length (is.before ++ is.event ∷ is.behind) = ap length is.events_are in
        omega (arith, long, same, within)

-- and where a call leaves it that is open
since_by : (past : List Event) (from lane : ℕ) (call : Call) (content : List ℕ) → IsOpen past lane call →
    Leaves call content → IsLeftSince past from content
since_by past from lane call content is leaves = record {
  before = is.before;
  event = Begins lane call;
  behind = is.behind;
  events_are = is.events_are;
  leaves = record { lane = lane; call = call; begins = refl; leaves = leaves };
  still = All-take (λ (e : Event). lane_of e ≢ lane) (from - (length is.before + 1)) is.behind is.spared;
}

-- a place stays one of the events
within_more : (past more : List Event) (from : ℕ) → from ≤ length past → from ≤ length (past ++ more)
within_more past more from within =
    let long : length (past ++ more) ≡ length past + length more = length-append past more in
    omega (arith, long, within)

module _ (limits : Bounds) (range : AreInRange limits) where
  since_along : {events : List Event} {s t : State} {a b : Lanes} (past : List Event) (from : ℕ) →
      from ≤ length past → Stands limits past s a → IsLeftSince past from s.1 → Leads (Both limits) events s a t b →
      IsLeftSince (past ++ events) from t.1
  since_along {t = t} past from within stands left leads_nowhere =
      subst (λ (xs : List Event). IsLeftSince xs from t.1) (sym (append-nil past)) left
  since_along {s = s} {a = a} past from within stands left
      (by_effect {next = next} {after = after} lane call reply asks step sets way) = since_along past from within
      (stands_effect limits range past s next a after lane call reply stands asks step sets)
      (by (step_gives limits range s next call reply stands.well_formed step).content) way
    where
      by : (next.1 ≡ s.1) ⊎ Leaves call next.1 → IsLeftSince past from next.1
      by (inl same) = subst (IsLeftSince past from) (sym same) left
      by (inr leaves) = since_by past from lane call next.1 (stands.asks lane call asks) leaves
  since_along {s = s} {t} {a} past from within stands left
      (by_event {events = events} {after = after} event happens way) =
      subst (λ (xs : List Event). IsLeftSince xs from t.1) (append_assoc past (event ∷ []) events)
      (since_along (past ++ event ∷ []) from (within_more past (event ∷ []) from within)
      (stands_event limits range past s a after event stands happens)
      (since_on past (event ∷ []) from s.1 within left) way)

  -- from the opening on the content is that at first, or was left by some call
  at_first_along : {events : List Event} {s t : State} {a b : Lanes} (past : List Event) → Stands limits past s a →
      s.1 ≡ 0 ∷ [] → Leads (Both limits) events s a t b → MayBeLeft None (past ++ events) t.1
  at_first_along past stands same leads_nowhere = inl same
  at_first_along {events} {s} {t} {a} past stands same
      (by_effect {next = next} {after = after} lane call reply asks step sets way) =
      by (λ is. at_first_along past after_stands (is ∙ same) way)
      (step_gives limits range s next call reply stands.well_formed step).content
    where
      after_stands : Stands limits past next after
      after_stands = stands_effect limits range past s next a after lane call reply stands asks step sets

      by : (next.1 ≡ s.1 → MayBeLeft None (past ++ events) t.1) → (next.1 ≡ s.1) ⊎ Leaves call next.1 →
          MayBeLeft None (past ++ events) t.1
      by on (inl is) = on is
      by on (inr leaves) = inr (since_along past 0 (omega arith) after_stands
          (since_by past 0 lane call next.1 (stands.asks lane call asks) leaves) way)
  at_first_along {s = s} {t} {a} past stands same (by_event {events = events} {after = after} event happens way) =
      subst (λ (xs : List Event). MayBeLeft None xs t.1) (append_assoc past (event ∷ []) events)
      (at_first_along (past ++ event ∷ []) (stands_event limits range past s a after event stands happens) same way)

  pub left_at_all : {events : List Event} {t : State} {b : Lanes} → Leads (Both limits) events start all_idle t b →
      MayBeLeft None events t.1
  left_at_all way = at_first_along [] (stands_first limits) refl way

  -- behind a put that has returned the content was left by it, or by a call that did not end before it began
  module _ (before between rest : List Event) (lane : ℕ) (words : List ℕ) (reply : Reply) (t : State) (b : Lanes)
      (spared : IsSpared between lane)
      (way : Leads (Both limits) (before ++ Begins lane (Put words) ∷ (between ++ Returns lane reply ∷ rest))
      start all_idle t b) where
    one : InTwo (Both limits) before (Begins lane (Put words) ∷ (between ++ Returns lane reply ∷ rest)) start
        all_idle t b
    one = cut before (Begins lane (Put words) ∷ (between ++ Returns lane reply ∷ rest)) way

    begun : ComesTo (Both limits) (Begins lane (Put words)) (between ++ Returns lane reply ∷ rest) one.state one.lanes
        t b
    begun = comes_to (Both limits) (Begins lane (Put words)) (between ++ Returns lane reply ∷ rest) one.behind

    two : InTwo (Both limits) between (Returns lane reply ∷ rest) begun.state begun.after t b
    two = cut between (Returns lane reply ∷ rest) begun.later

    ended : ComesTo (Both limits) (Returns lane reply) rest two.state two.lanes t b
    ended = comes_to (Both limits) (Returns lane reply) rest two.behind

    effect : TakesEffect (Both limits) between begun.state begun.after ended.state ended.lanes lane (Put words) reply
    effect = takes_effect_between (Both limits) lane (Put words) reply spared begun.happens.1.here ended.happens.0
        (subst (λ (xs : List Event). Leads (Both limits) xs begun.state begun.after ended.state ended.lanes)
        (append-nil between) (leads_on two.before ended.first))

    abbrev past : List Event
    past = before ++ Begins lane (Put words) ∷ effect.before

    stands : Stands limits past effect.state effect.asking
    stands = stands_so limits range (leads_on one.before
        (leads_on begun.first (by_event (Begins lane (Put words)) begun.happens effect.first)))

    whole : past ++ (effect.behind ++ Returns lane reply ∷ rest) ≡
        before ++ Begins lane (Put words) ∷ (between ++ Returns lane reply ∷ rest)
    whole = append_assoc before (Begins lane (Put words) ∷ effect.before)
        (effect.behind ++ Returns lane reply ∷ rest) ∙
        ap (λ (xs : List Event). before ++ Begins lane (Put words) ∷ xs)
        (sym (append_assoc effect.before effect.behind (Returns lane reply ∷ rest)) ∙
        ap (λ (xs : List Event). xs ++ Returns lane reply ∷ rest) (sym effect.parts))

    pub left_since_put : IsLeftSince (before ++ Begins lane (Put words) ∷ (between ++ Returns lane reply ∷ rest))
        (length before) t.1
    left_since_put = subst (λ (xs : List Event). IsLeftSince xs (length before) t.1) whole
        (since_along past (length before) within (stands_effect limits range past effect.state effect.next
        effect.asking effect.answered lane (Put words) reply stands effect.asks effect.step effect.sets)
        (since_by past (length before) lane (Put words) effect.next.1 (stands.asks lane (Put words) effect.asks)
        effect.step.1.leaves)
        (leads_on effect.later (by_event (Returns lane reply) ended.happens ended.later)))
      where
        within : length before ≤ length past
        within = let long : length past ≡ length before + suc (length effect.before) =
            length-append before (Begins lane (Put words) ∷ effect.before) in omega (arith, long)

-- the events around one that leaves a content
module _ (events : List Event) (from : ℕ) (content : List ℕ) (is : IsLeftSince events from content) where
  pub left_within : length is.before < length events
  left_within = let long : length (is.before ++ is.event ∷ is.behind) ≡ length is.before + suc (length is.behind) =
      length-append is.before (is.event ∷ is.behind) in
      let same : length events ≡ length (is.before ++ is.event ∷ is.behind) = ap length is.events_are in
      omega (arith, long, same)

  pub leaves_there : (place : ℕ) (e : Event) → length is.before ≡ place → e ≡ get_or events place e → e ≡ is.event
  leaves_there place e at read = read ∙ ap (λ (n : ℕ). get_or events n e) (sym at) ∙
      ap (λ (xs : List Event). get_or xs (length is.before) e) is.events_are ∙
      get_or-append_seam is.before is.event is.behind e

  pub still_there : (place n : ℕ) → length is.before ≡ place → n ≡ from - (place + 1) →
      IsSpared (take n (drop (place + 1) events)) (lane_of is.event)
  still_there place n at same = subst (λ (xs : List Event). IsSpared xs (lane_of is.event))
      (ap (λ (k : ℕ). take (from - (k + 1)) is.behind) at ∙
      ap (take (from - (place + 1))) (sym behind_is) ∙ ap (λ (k : ℕ). take k (drop (place + 1) events)) (sym same))
      is.still
    where
      one_more : length (is.before ++ is.event ∷ []) ≡ place + 1
      one_more = let long : length (is.before ++ is.event ∷ []) ≡ length is.before + 1 =
          length-append is.before (is.event ∷ []) in omega (arith, long, at)

      behind_is : drop (place + 1) events ≡ is.behind
      behind_is = ap (λ (k : ℕ). drop k events) (sym one_more) ∙
          ap (λ (xs : List Event). drop (length (is.before ++ is.event ∷ [])) xs)
          (is.events_are ∙ sym (append_assoc is.before (is.event ∷ []) is.behind)) ∙
          drop-append_seam (is.before ++ is.event ∷ []) is.behind

-- a put that returns, where the event is read that is the first of its lane
pub returned_put : (event : Event) (behind : List Event) (lane place other : ℕ) (words : List ℕ) (e : Event)
    (reply : Reply) → event ≡ Begins lane (Put words) → IsFirstOfLaneAt behind lane place → e ≡ get_or behind place e →
    e ≡ Returns other reply → IsReturnedPut event behind
returned_put event behind lane place other words e reply begins first read is = record {
  lane = lane;
  words = words;
  reply = reply;
  between = take place behind;
  rest = drop (place + 1) behind;
  begins = begins;
  behind_is = sym (around behind place e first.0.0 read) ∙
      ap (λ (x : Event). take place behind ++ x ∷ drop (place + 1) behind)
      (is ∙ ap (λ (l : ℕ). Returns l reply) same_lane);
  spared = first.1;
}
  where
    same_lane : other ≡ lane
    same_lane = sym (ap lane_of is) ∙ ap lane_of read ∙ first.0.1 e

-- its place is among them
pub returns_within : (events : List Event) (place last : ℕ) → place ≤ length events →
    ReturnsAt (take place events) last → last ≤ length events
returns_within events place last within at =
    let few : length (take place events) ≡ place = length-take-le place events within in
    let long : length (take place events) ≡ length at.before + suc (length at.behind) =
    ap length at.events_are ∙ length-append at.before (at.event ∷ at.behind) in
    let same : last ≡ length at.before = at.place_is in omega (arith, within, few, long, same)
