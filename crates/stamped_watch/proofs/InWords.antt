-- What is found of a run by names, told of the events in words.
use Rattle.std.proofs.Common.{ℕ, ◌≡◌, ◌≢◌, ◌+◌, ◌-◌, ◌<◌, ◌≤◌, ◌==◌, Bool, true, false, List, [], ◌∷◌, ◌++◌}
use Rattle.std.proofs.Common.{length, Option}
use Rattle.std.proofs.Common.{Some, None, refl, sym, ◌∙◌, ap, subst, arith}
use Rattle.std.specs.Prelude.{◌&&◌, cond, drop, IfSome, is_some, map, option_map, if◌then◌else◌}
use Rattle.std.specs.List.{All, Contains, count_by, fold}
use Rattle.std.proofs.Math.Seq.{get_or-append_seam}
use Rattle.std.proofs.lemmas.List.{drop-map, length-append, length-map}
use Rattle.std.proofs.lemmas.List.Elements.{All-cons, All-contains, All-drop, All-head, All-nil, All-tail}
use Rattle.stamp_core.specs.Content.{zeros}
use Rattle.stamp_core.specs.Limits.{Bounds}
use Rattle.stamp_core.specs.declared.call.Call.{Call}
use Rattle.stamp_core.specs.declared.call.Call.TheVariants as call
use Rattle.stamp_core.specs.declared.reply.Reply.{Reply}
use Rattle.stamp_core.specs.declared.reply.Reply.TheVariants as reply
use Rattle.stamp_runs.specs.BothRun.{AreExplained, AreExplainedAt, AreStuckAt, AreStuckIn, Both}
use Rattle.stamp_runs.specs.Names.{EachOfCall, EachOfEvent, EachOfReply, Names, call_by, event_by, reply_by}
use Rattle.stamp_runs.specs.OneWord.{has_one_word, is_small_call, is_small_reply}
use Rattle.stamp_runs.specs.Own.{none_open, open_then}
use Rattle.stamp_runs.specs.Run.{AreExplainedFrom, AreStuckFrom, lane_of}
use Rattle.stamp_runs.specs.declared.event.Event.{Event}
use Rattle.stamp_runs.specs.declared.event.Event.TheVariants.{Begins, Returns, Withdraws}
use Rattle.stamp_runs.proofs.Naming.{names_dont_matter, stuck_by_names}
use Rattle.stamp_watch.specs.declared.ended_call.EndedCall.{EndedCall}
use Rattle.stamp_watch.specs.Ahead.{IsSpared}
use Rattle.stamp_watch.specs.EndedCall.{IsEndedAt, end_in}
use Rattle.stamp_watch.specs.Form.{is_busy_after}
use Rattle.stamp_watch.specs.Names.{IsEventBy, IsNamed, name_in}
use Rattle.stamp_watch.specs.Verdict.{AreOfLanes, IsOfLane}
use Rattle.stamped_watch.specs.declared.header.Header.{Header}
use Rattle.stamped_watch.specs.declared.misplaced.Misplaced.{Misplaced}
use Rattle.stamped_watch.specs.declared.misplaced.Misplaced.TheVariants.{Lane, Open, Idle}
use Rattle.stamped_watch.specs.Finding.{AreExplainedBefore, IsMisplaced, calls_in, is_beginning, is_withdrawal}
use Rattle.stamped_watch.specs.Stream.{IsByNames, IsRunIn, words_of_record}
use Rattle.stamped_watch.specs.StreamJudge.{IsEndBy, IsSmallEvent}

-- explained and stuck in words
module _ (limits : Bounds) (width : Option ℕ) (events run : List Event) (by : IsByNames width events run) where
  pub explained_in_words : AreExplained limits run → AreExplainedAt limits (words_of_record width) events
  explained_in_words explained = (names_dont_matter limits by.names (zeros (words_of_record width)) events
      by.different).1
      (subst (λ (c : List ℕ). AreExplainedFrom (Both limits) ([], c) (map (event_by by.names) events)) (sym by.first)
      (subst (AreExplained limits) by.run_is explained))

  pub stuck_in_words : (k : ℕ) → AreStuckAt limits run k → AreStuckIn limits (words_of_record width) events k
  stuck_in_words k stuck = (stuck_by_names limits by.names (zeros (words_of_record width)) events k by.different).1
      (subst (λ (c : List ℕ). AreStuckFrom (Both limits) ([], c) (map (event_by by.names) events) k) (sym by.first)
      (subst (λ (xs : List Event). AreStuckAt limits xs k) by.run_is stuck))

module _ (names : Names) where
  lane_same : (e : Event) → lane_of (event_by names e) ≡ lane_of e
  lane_same (Begins lane call) = refl
  lane_same (Returns lane reply) = refl
  lane_same (Withdraws lane) = refl

  begins_same : (e : Event) → is_beginning (event_by names e) ≡ is_beginning e
  begins_same (Begins lane call) = refl
  begins_same (Returns lane reply) = refl
  begins_same (Withdraws lane) = refl

  withdraws_same : (e : Event) → is_withdrawal (event_by names e) ≡ is_withdrawal e
  withdraws_same (Begins lane call) = refl
  withdraws_same (Returns lane reply) = refl
  withdraws_same (Withdraws lane) = refl

  below : (e : Event) → IsOfLane (event_by names e) → lane_of e < 64
  below (Begins lane call) is = is.0
  below (Returns lane reply) is = is.0
  below (Withdraws lane) is = is

  all_below : (events : List Event) → All IsOfLane (map (event_by names) events) →
      All (λ (e : Event). lane_of e < 64) events
  all_below [] all = All-nil (λ (e : Event). lane_of e < 64)
  all_below (e ∷ events) all = All-cons (λ (x : Event). lane_of x < 64) e events
      (below e (All-head IsOfLane (event_by names e) (map (event_by names) events) all))
      (all_below events (All-tail IsOfLane (event_by names e) (map (event_by names) events) all))

  count_on : (p : Event → Bool) → ((e : Event) → p (event_by names e) ≡ p e) → (n : ℕ) (events : List Event) →
      fold (λ (a : ℕ) (x : Event). a + cond (p x) 1 0) n (map (event_by names) events) ≡
      fold (λ (a : ℕ) (x : Event). a + cond (p x) 1 0) n events
  count_on p same n [] = refl
  count_on p same n (e ∷ events) =
      ap (λ (b : Bool). fold (λ (a : ℕ) (x : Event). a + cond (p x) 1 0) (n + cond b 1 0) (map (event_by names) events))
      (same e) ∙ count_on p same (n + cond (p e) 1 0) events

  count_same : (p : Event → Bool) → ((e : Event) → p (event_by names e) ≡ p e) → (events : List Event) →
      count_by p (map (event_by names) events) ≡ count_by p events
  count_same p same events = count_on p same 0 events

  if_same : (b : Bool) (x y x' y' : Option Call) → is_some x ≡ is_some x' → is_some y ≡ is_some y' →
      is_some (if b then x else y) ≡ is_some (if b then x' else y')
  if_same true x y x' y' one other = one
  if_same false x y x' y' one other = other

  -- the same lanes are open
  open_one : (e : Event) (calls' calls : ℕ → Option Call) → ((v : ℕ) → is_some (calls' v) ≡ is_some (calls v)) →
      (v : ℕ) → is_some (open_then calls' (event_by names e) v) ≡ is_some (open_then calls e v)
  open_one (Begins lane call) calls' calls same v = if_same (lane == v) _ _ _ _ refl (same v)
  open_one (Returns lane reply) calls' calls same v = if_same (lane == v) _ _ _ _ refl (same v)
  open_one (Withdraws lane) calls' calls same v = if_same (lane == v) _ _ _ _ refl (same v)

  open_all : (events : List Event) (calls' calls : ℕ → Option Call) →
      ((v : ℕ) → is_some (calls' v) ≡ is_some (calls v)) → (v : ℕ) →
      is_some (fold open_then calls' (map (event_by names) events) v) ≡ is_some (fold open_then calls events v)
  open_all [] calls' calls same v = same v
  open_all (e ∷ events) calls' calls same v =
      open_all events (open_then calls' (event_by names e)) (open_then calls e) (open_one e calls' calls same) v

  busy_same : (events : List Event) (v : ℕ) →
      is_busy_after (map (event_by names) events) v ≡ is_busy_after events v
  busy_same events v = open_all events none_open none_open (λ u. refl) v

  misplaced_same : (events : List Event) (e : Event) (why : Misplaced) →
      IsMisplaced (map (event_by names) events) (event_by names e) why → IsMisplaced events e why
  misplaced_same events e Lane is = subst (λ (n : ℕ). 64 ≤ n) (lane_same e) is
  misplaced_same events e Open is = (
    subst (λ (n : ℕ). n < 64) (lane_same e) is.0,
    sym (begins_same e) ∙ is.1,
    sym (busy_same events (lane_of e)) ∙ ap (is_busy_after (map (event_by names) events)) (sym (lane_same e)) ∙ is.2,
  )
  misplaced_same events e Idle is = (
    subst (λ (n : ℕ). n < 64) (lane_same e) is.0,
    sym (begins_same e) ∙ is.1,
    sym (busy_same events (lane_of e)) ∙ ap (is_busy_after (map (event_by names) events)) (sym (lane_same e)) ∙ is.2,
  )

pub misplaced_in_words : (names : Names) (events run : List Event) (e small : Event) (why : Misplaced) →
    run ≡ map (event_by names) events → small ≡ event_by names e → IsMisplaced run small why → IsMisplaced events e why
misplaced_in_words names events run e small why run_is small_is is =
    misplaced_same names events e why (subst (λ (x : Event). IsMisplaced (map (event_by names) events) x why) small_is
    (subst (λ (xs : List Event). IsMisplaced xs small why) run_is is))

module _ (bytes : List ℕ) (header : Header) (run : List Event) (rest : List ℕ) (is : IsRunIn bytes header run rest)
  where
    pub events_many : length run ≡ length is.events
    events_many = ap length is.named.run_is ∙ length-map is.events (event_by is.named.names)

    pub calls_same : calls_in run ≡ calls_in is.events
    calls_same = ap calls_in is.named.run_is ∙
        ap (λ (n : ℕ). n - count_by is_withdrawal (map (event_by is.named.names) is.events))
        (count_same is.named.names is_beginning (begins_same is.named.names) is.events) ∙
        ap (λ (n : ℕ). count_by is_beginning is.events - n)
        (count_same is.named.names is_withdrawal (withdraws_same is.named.names) is.events)

    pub before_in_words : AreOfLanes run → AreExplained header.limits run →
        AreExplainedBefore bytes header is.events rest
    before_in_words whole explained = record {
      stream = is.stream;
      lanes = all_below is.named.names is.events (subst (All IsOfLane) is.named.run_is whole.lanes);
      explained = explained_in_words header.limits header.width is.events run is.named explained;
    }

-- the call that ends, in words
record IsFirstOf (names : Names) (events : List Event) (one : Event) (others : List Event) : Type 0 where
  event : Event
  later : List Event
  parts : events ≡ event ∷ later
  event_is : event_by names event ≡ one
  later_is : map (event_by names) later ≡ others

first_of_map : (names : Names) (events : List Event) (one : Event) (others : List Event) →
    map (event_by names) events ≡ one ∷ others → IsFirstOf names events one others
first_of_map names [] one others same = cc
first_of_map names (e ∷ events) one others same =
    record { event = e; later = events; parts = refl; event_is = cc; later_is = cc }

record IsSplit (names : Names) (events front behind : List Event) : Type 0 where
  first : List Event
  second : List Event
  parts : events ≡ first ++ second
  first_is : map (event_by names) first ≡ front
  second_is : map (event_by names) second ≡ behind

split_map : (names : Names) (events front behind : List Event) → map (event_by names) events ≡ front ++ behind →
    IsSplit names events front behind
split_map names events [] behind same =
    record { first = []; second = events; parts = refl; first_is = refl; second_is = same }
split_map names events (x ∷ front) behind same =
    let head = first_of_map names events x (front ++ behind) same in
    let tail = split_map names head.later front behind head.later_is in record {
      first = head.event ∷ tail.first;
      second = tail.second;
      parts = head.parts ∙ ap (λ (xs : List Event). head.event ∷ xs) tail.parts;
      first_is = ap (λ (y : Event). y ∷ map (event_by names) tail.first) head.event_is ∙
          ap (λ (xs : List Event). x ∷ xs) tail.first_is;
      second_is = tail.second_is;
    }

spared_same : (names : Names) (lane : ℕ) (events : List Event) → IsSpared (map (event_by names) events) lane →
    IsSpared events lane
spared_same names lane [] spared = All-nil (λ (e : Event). lane_of e ≢ lane)
spared_same names lane (e ∷ events) spared = All-cons (λ (x : Event). lane_of x ≢ lane) e events
    (λ same. All-head (λ (x : Event). lane_of x ≢ lane) (event_by names e) (map (event_by names) events) spared
    (lane_same names e ∙ same))
    (spared_same names lane events (All-tail (λ (x : Event). lane_of x ≢ lane) (event_by names e)
    (map (event_by names) events) spared))

-- how a call begins and ends in words
data BeginsSo (names : Names) (event : Event) (lane : ℕ) (call : Call) : Type 0 where
  begins_so : (own : Call) → event ≡ Begins lane own → call_by names own ≡ call → BeginsSo names event lane call

begins_in_words : (names : Names) (event : Event) (lane : ℕ) (call : Call) →
    event_by names event ≡ Begins lane call → BeginsSo names event lane call
begins_in_words names (Begins v own) lane call same =
    let lanes : v ≡ lane = cc in
    let calls : call_by names own ≡ call = cc in
    begins_so own (ap (λ (n : ℕ). Begins n own) lanes) calls
begins_in_words names (Returns v reply) lane call same = cc
begins_in_words names (Withdraws v) lane call same = cc

data EndsSo (names : Names) (event : Event) (lane : ℕ) (reply : Option Reply) : Type 0 where
  ends_so : (own : Option Reply) → event ≡ end_in lane own → option_map (reply_by names) own ≡ reply →
      EndsSo names event lane reply

ends_in_words : (names : Names) (event : Event) (lane : ℕ) (reply : Option Reply) →
    event_by names event ≡ end_in lane reply → EndsSo names event lane reply
ends_in_words names (Returns v own) lane (Some reply) same =
    let lanes : v ≡ lane = cc in
    let replies : reply_by names own ≡ reply = cc in
    ends_so (Some own) (ap (λ (n : ℕ). Returns n own) lanes) (ap Some replies)
ends_in_words names (Withdraws v) lane None same =
    let lanes : v ≡ lane = cc in ends_so None (ap Withdraws lanes) refl
ends_in_words names (Begins v call) lane (Some reply) same = cc
ends_in_words names (Begins v call) lane None same = cc
ends_in_words names (Returns v own) lane None same = cc
ends_in_words names (Withdraws v) lane (Some reply) same = cc

-- the call that ends at an event in words
pub record EndsInWords (contents : List (List ℕ)) (events : List Event) (k : ℕ) (small : EndedCall) : Type 0 where
  pub told : EndedCall
  pub ends : IsEndedAt events k told
  pub by : IsEndBy contents told small

end_lane : (lane : ℕ) (reply : Option Reply) → lane_of (end_in lane reply) ≡ lane
end_lane lane (Some reply) = refl
end_lane lane None = refl

contains_middle : (front : List Event) (e : Event) (behind : List Event) → Contains (front ++ e ∷ behind) e
contains_middle front e behind = (
  length front,
  (let long = length-append front (e ∷ behind) in omega (arith, long)),
  get_or-append_seam front e behind e,
)

-- an event by numbers has one word in each content
module _ (contents : List (List ℕ)) where
  one_word : (words : List ℕ) → IsNamed contents words → has_one_word (name_in contents words) ≡ true
  one_word words named = ap has_one_word named.1

  small_call : (c : Call) → EachOfCall (IsNamed contents) c → is_small_call (call_by (name_in contents) c) ≡ true
  small_call (call.Put words) named = one_word words named
  small_call (call.PutIf expected words) named =
      ap (λ (b : Bool). b && has_one_word (name_in contents words)) (one_word expected named.0) ∙
      one_word words named.1
  small_call call.TryWrite named = refl
  small_call call.TryRead named = refl
  small_call call.WriteLock named = refl
  small_call call.ReadLock named = refl
  small_call call.Optimistic named = refl
  small_call (call.Validate s) named = refl
  small_call (call.UnlockWrite s) named = refl
  small_call (call.UnlockRead s) named = refl
  small_call (call.Unlock s) named = refl
  small_call (call.ToWrite s) named = refl
  small_call (call.ToRead s) named = refl
  small_call (call.ToOptimistic s) named = refl
  small_call call.TryUnlockWrite named = refl
  small_call call.TryUnlockRead named = refl
  small_call call.IsWriteLocked named = refl
  small_call call.IsReadLocked named = refl
  small_call call.ReadCount named = refl
  small_call call.Get named = refl

  small_reply : (r : Reply) → EachOfReply (IsNamed contents) r → is_small_reply (reply_by (name_in contents) r) ≡ true
  small_reply (reply.Content words) named = one_word words named
  small_reply (reply.Stamp s) named = refl
  small_reply reply.Yes named = refl
  small_reply reply.No named = refl
  small_reply reply.Done named = refl
  small_reply reply.Mismatch named = refl
  small_reply (reply.Count n) named = refl

  small_event : (e : Event) → EachOfEvent (IsNamed contents) e → IsSmallEvent (event_by (name_in contents) e)
  small_event (Begins lane c) named = small_call c named
  small_event (Returns lane r) named = small_reply r named
  small_event (Withdraws lane) named = tt

  pub small_by : (e small : Event) → IsEventBy contents e small → IsSmallEvent small
  small_by e small by = subst IsSmallEvent (sym by.small_is) (small_event e by.named)

-- the call that ends, in words: it is one of the events, so its contents have numbers
module _ (contents : List (List ℕ)) (events run : List Event) (named : All (EachOfEvent (IsNamed contents)) events)
    (run_is : run ≡ map (event_by (name_in contents)) events) (k : ℕ) (small : EndedCall)
    (is : IsEndedAt run k small) where
  abbrev names : Names
  names = name_in contents

  from_there : map (event_by names) (drop is.began events) ≡
      Begins small.lane small.call ∷ (is.between ++ end_in small.lane small.reply ∷ is.ends.rest)
  from_there = sym (drop-map (event_by names) is.began events) ∙ ap (drop is.began) (sym run_is) ∙ is.ends.there

  beginning : IsFirstOf names (drop is.began events) (Begins small.lane small.call)
      (is.between ++ end_in small.lane small.reply ∷ is.ends.rest)
  beginning = first_of_map names (drop is.began events) (Begins small.lane small.call)
      (is.between ++ end_in small.lane small.reply ∷ is.ends.rest) from_there

  split : IsSplit names beginning.later is.between (end_in small.lane small.reply ∷ is.ends.rest)
  split = split_map names beginning.later is.between (end_in small.lane small.reply ∷ is.ends.rest) beginning.later_is

  ending : IsFirstOf names split.second (end_in small.lane small.reply) is.ends.rest
  ending = first_of_map names split.second (end_in small.lane small.reply) is.ends.rest split.second_is

  parts : drop is.began events ≡ beginning.event ∷ (split.first ++ ending.event ∷ ending.later)
  parts = beginning.parts ∙ ap (λ (xs : List Event). beginning.event ∷ xs)
      (split.parts ∙ ap (λ (xs : List Event). split.first ++ xs) ending.parts)

  all_there : All (EachOfEvent (IsNamed contents)) (beginning.event ∷ (split.first ++ ending.event ∷ ending.later))
  all_there = subst (All (EachOfEvent (IsNamed contents))) parts
      (All-drop (EachOfEvent (IsNamed contents)) is.began events named)

  end_named : EachOfEvent (IsNamed contents) ending.event
  end_named = All-contains (EachOfEvent (IsNamed contents)) (split.first ++ ending.event ∷ ending.later) ending.event
      (All-tail (EachOfEvent (IsNamed contents)) beginning.event (split.first ++ ending.event ∷ ending.later) all_there)
      (contains_middle split.first ending.event ending.later)

  reply_named : (reply : Option Reply) → EachOfEvent (IsNamed contents) (end_in small.lane reply) →
      IfSome reply (EachOfReply (IsNamed contents))
  reply_named (Some r) each = each
  reply_named None each = tt

  between_many : length split.first ≡ length is.between
  between_many = sym (length-map split.first (event_by names)) ∙ ap length split.first_is

  by : BeginsSo names beginning.event small.lane small.call → EndsSo names ending.event small.lane small.reply →
      EndsInWords contents events k small
  by (begins_so call begins_is call_is) (ends_so reply ends_is reply_is) = record {
    told = record { lane = small.lane; call = call; reply = reply };
    ends = record {
      began = is.began;
      between = split.first;
      number = is.number ∙ ap (λ (n : ℕ). is.began + 1 + n) (sym between_many);
      ends = record {
        rest = ending.later;
        there = parts ∙ ap (λ (x : Event). x ∷ (split.first ++ ending.event ∷ ending.later)) begins_is ∙
            ap (λ (x : Event). Begins small.lane call ∷ (split.first ++ x ∷ ending.later)) ends_is;
        spared = spared_same names small.lane split.first
            (subst (λ (xs : List Event). IsSpared xs small.lane) (sym split.first_is) is.ends.spared);
        same = end_lane small.lane reply;
      };
    };
    by = record {
      lane_is = refl;
      call_is = call_is;
      call_named = subst (EachOfEvent (IsNamed contents)) begins_is (All-head (EachOfEvent (IsNamed contents))
          beginning.event (split.first ++ ending.event ∷ ending.later) all_there);
      reply_is = reply_is;
      reply_named = reply_named reply (subst (EachOfEvent (IsNamed contents)) ends_is end_named);
    };
  }

  pub ended_in_words : EndsInWords contents events k small
  ended_in_words = by
      (begins_in_words names beginning.event small.lane small.call beginning.event_is)
      (ends_in_words names ending.event small.lane small.reply ending.event_is)
