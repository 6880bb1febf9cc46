-- What a configuration holds once calls that began later have overtaken all that was told before.
use Rattle.std.proofs.Common.{◌≡◌, ◌≢◌, ◌⊎◌, ℕ, Bool, true, false, List, [], ◌∷◌, ◌++◌, length, Option, Some, None}
use Rattle.std.proofs.Common.{append_assoc, arith, refl, sym, ◌∙◌, ap, subst, inl, inr}
use Rattle.std.specs.Prelude.{◌&&◌, IsSome, not, if◌then◌else◌}
use Rattle.std.specs.Bool.{MatchBool}
use Rattle.std.specs.List.{All}
use Rattle.std.proofs.Math.Logic.{⊎_elim}
use Rattle.std.proofs.Math.Seq.{take-append_seam, drop-append_seam}
use Rattle.std.proofs.lemmas.Bool.{cases_eq, false≢true, cases_Bool}
use Rattle.std.proofs.lemmas.List.Elements.{All-drop, All-head, All-tail, All-take}
use Rattle.stamp_core.specs.Limits.{Bounds}
use Rattle.stamp_core.specs.Call.{is_lock_call}
use Rattle.stamp_core.specs.Content.{RecordReplies, content_next, same_words}
use Rattle.stamp_core.specs.declared.call.Call.{Call}
use Rattle.stamp_core.specs.declared.call.Call.TheVariants.{Get, Put, PutIf}
use Rattle.stamp_core.specs.declared.reply.Reply.{Reply}
use Rattle.stamp_core.specs.declared.reply.Reply.TheVariants.{Yes, No, Content}
use Rattle.stamp_runs.specs.declared.event.Event.{Event}
use Rattle.stamp_runs.specs.declared.event.Event.TheVariants.{Begins, Returns, Withdraws}
use Rattle.stamp_runs.specs.Object.{LockStep, RecordStep}
use Rattle.stamp_runs.specs.BothRun.{Both, State}
use Rattle.stamp_runs.specs.Names.{EachOfCall, EachOfEvent, EachOfReply, reply_by}
use Rattle.stamp_runs.specs.Own.{none_open, open_after}
use Rattle.stamp_runs.specs.Renaming.{EachHeld, EachOfPhase, EachPossible, HasOneName, IsOvertaken, IsTold}
use Rattle.stamp_runs.specs.Renaming.{HasEnded, OpenHaveEnded, is_not_no, tells_content}
use Rattle.stamp_runs.specs.Run.{EndsBy, Happens, IsEndOf, Lanes, Leads, Phase, Sets, all_idle}
use Rattle.stamp_runs.specs.Run.EndsBy.{ends_next, ends_later}
use Rattle.stamp_runs.specs.Run.Leads.{leads_nowhere, by_effect, by_event}
use Rattle.stamp_runs.specs.Run.Phase.{Idle, Asks, Gets}
use Rattle.stamp_runs.specs.RunLaws.{HeldAreTold, OvertakenAreForgotten, OvertakenStays}
use Rattle.stamp_runs.proofs.Going.{goes_on_in, gotten_is_told}
use Rattle.stamp_runs.proofs.Lanes.{asks_or_gets, idle_or_asks, leads_on, one_call, open_apart, stays_beside}
use Rattle.stamp_runs.proofs.Naming.{first_same, lock_named, rest_same}
use Rattle.stamp_runs.proofs.Objects.{one_content}
use Rattle.stamp_runs.proofs.OwnEvents.{none_idle, open_along}
use Rattle.stamp_runs.proofs.Renaming.{Parted, parted}

pub ends_not : {lane : ℕ} {end : Event} → EndsBy lane end [] → ⊥
ends_not ends = elim ends [ ]

not_longer : (words : List ℕ) → 0 ∷ words ≡ words → ⊥
not_longer words same = let long = ap length same in omega (arith, long)

-- what is so of each of some events and more
all_left : (Q : Event → Type 0) (xs ys : List Event) → All Q (xs ++ ys) → All Q xs
all_left Q xs ys all = subst (All Q) (take-append_seam xs ys) (All-take Q (length xs) (xs ++ ys) all)

all_right : (Q : Event → Type 0) (xs ys : List Event) → All Q (xs ++ ys) → All Q ys
all_right Q xs ys all = subst (All Q) (drop-append_seam xs ys) (All-drop Q (length xs) (xs ++ ys) all)

yes_or_no : (b : Bool) (reply : Reply) → reply ≡ (if b then Yes else No) → (reply ≡ Yes) ⊎ (reply ≡ No)
yes_or_no true reply is = inl is
yes_or_no false reply is = inr is

-- a call that tells the content is none of the lock
pub not_of_lock : (call : Call) (reply : Reply) → tells_content call reply ≡ true → is_lock_call call ≡ false
not_of_lock call reply tells = by (cases_Bool (is_lock_call call))
  where
    by : (is_lock_call call ≡ true) ⊎ (is_lock_call call ≡ false) → is_lock_call call ≡ false
    by (inl is) = absurd (false≢true (subst (λ (b : Bool). (not b && is_not_no reply) ≡ true) is tells))
    by (inr other) = other

module _ (P : List ℕ → Type 0) where
  -- what the lock replies tells no content
  names_none : (reply : Reply) → reply_by (λ (words : List ℕ). 0 ∷ words) reply ≡ reply → EachOfReply P reply
  names_none (Content words) same = absurd (not_longer words (one_content same))
  names_none _ same = tt

  -- what the record replies and then holds it held, or the call told it
  yes_or_no_tells : (b : Bool) → EachOfReply P (if b then Yes else No)
  yes_or_no_tells true = tt
  yes_or_no_tells false = tt

  replied : (content : List ℕ) (call : Call) (reply : Reply) → P content → RecordReplies content call reply →
      EachOfReply P reply
  replied content Get reply held is = subst (EachOfReply P) (sym is) held
  replied content (Put words) reply held is = subst (EachOfReply P) (sym is) tt
  replied content (PutIf expected words) reply held is =
      subst (EachOfReply P) (sym is) (yes_or_no_tells (same_words content expected))
  replied content _ reply held is = absurd is

  left : (content : List ℕ) (call : Call) (reply : Reply) → P content → EachOfCall P call →
      RecordReplies content call reply → P (content_next content call reply)
  left content Get reply held told is = held
  left content (Put words) reply held told is = told
  left content (PutIf expected words) Yes held told is = told.1
  left content (PutIf expected words) _ held told is = held
  left content _ reply held told is = absurd is

  by_answer : (content expected words : List ℕ) (reply : Reply) → tells_content (PutIf expected words) reply ≡ true →
      EachOfCall P (PutIf expected words) → (reply ≡ Yes) ⊎ (reply ≡ No) →
      P (content_next content (PutIf expected words) reply)
  by_answer content expected words reply tells asked (inl first) =
      subst (λ (r : Reply). P (content_next content (PutIf expected words) r)) (sym first) asked.1
  by_answer content expected words reply tells asked (inr other) =
      absurd (false≢true (subst (λ (r : Reply). tells_content (PutIf expected words) r ≡ true) other tells))

  -- what is told of a call that tells the content is what it leaves
  told_left : (content : List ℕ) (call : Call) (reply : Reply) → tells_content call reply ≡ true → EachOfCall P call →
      EachOfReply P reply → RecordReplies content call reply → P (content_next content call reply)
  told_left content Get reply tells asked given is = subst (EachOfReply P) is given
  told_left content (Put words) reply tells asked given is = asked
  told_left content (PutIf expected words) reply tells asked given is =
      by_answer content expected words reply tells asked (yes_or_no (same_words content expected) reply is)
  told_left content _ reply tells asked given is = absurd is

  -- what an open call asks, whatever it gets
  abbrev Asked : Phase → Type 0
  Asked Idle = Unit {0}
  Asked (Asks call) = EachOfCall P call
  Asked (Gets reply) = Unit {0}

  -- the lane is so, or its call ends among these events
  abbrev IsOrEnds : (Phase → Type 0) → Phase → ℕ → List Event → Type 0
  IsOrEnds Q p lane events = Q p ⊎ HasEnded lane events

  module _ (limits : Bounds) where
    abbrev OfRecord : State → Call → Reply → State → Bool → Type 0
    OfRecord s call reply next b = MatchBool b (RecordStep s.1 call reply next.1) (next.1 ≡ s.1)

    abbrev OfLock : State → Call → Reply → State → Bool → Type 0
    OfLock s call reply next b = MatchBool b (LockStep limits s.0 call reply next.0) (next.0 ≡ s.0)

    -- a call that takes effect leaves what the record held or the call tells, and replies it
    effect_leaves : (s next : State) (call : Call) (reply : Reply) → Both limits s call reply next → P s.1 →
        EachOfCall P call → P next.1
    effect_leaves s next call reply step held told = by (cases_Bool (is_lock_call call))
      where
        by : (is_lock_call call ≡ true) ⊎ (is_lock_call call ≡ false) → P next.1
        by (inl is) = subst P (sym (subst (OfRecord s call reply next) (ap not is) step.1)) held
        by (inr is) = let own = subst (OfRecord s call reply next) (ap not is) step.1 in
            subst P (sym own.leaves) (left s.1 call reply held told own.replies)

    effect_replies : (s next : State) (call : Call) (reply : Reply) → Both limits s call reply next → P s.1 →
        EachOfReply P reply
    effect_replies s next call reply step held = by (cases_Bool (is_lock_call call))
      where
        by : (is_lock_call call ≡ true) ⊎ (is_lock_call call ≡ false) → EachOfReply P reply
        by (inl is) = names_none reply (lock_named (λ (words : List ℕ). 0 ∷ words) limits s.0 next.0 call reply
            (subst (OfLock s call reply next) is step.0))
        by (inr is) = let own = subst (OfRecord s call reply next) (ap not is) step.1 in
            replied s.1 call reply held own.replies

    effect_tells : (s next : State) (call : Call) (reply : Reply) → Both limits s call reply next →
        tells_content call reply ≡ true → EachOfCall P call → EachOfReply P reply → P next.1
    effect_tells s next call reply step tells asked given =
        let own = subst (OfRecord s call reply next) (ap not (not_of_lock call reply tells)) step.1 in
        subst P (sym own.leaves) (told_left s.1 call reply tells asked given own.replies)

    -- a lane that is set
    set_keeps : (Q : Phase → Type 0) {l after : Lanes} {u : ℕ} {p : Phase} → Sets l after u p → Q p → (lane : ℕ) →
        Q (l lane) → Q (after lane)
    set_keeps Q {l} {after} {u} {p} sets is lane was = by (cases_eq lane u)
      where
        by : (lane ≡ u) ⊎ (lane ≢ u) → Q (after lane)
        by (inl same) = subst (λ (v : ℕ). Q (after v)) (sym same) (subst Q (sym sets.here) is)
        by (inr apart) = subst Q (sym (sets.others lane apart)) was

    -- an event that tells such contents keeps a lane so, and its end makes it so
    module _ (Q : Phase → Type 0) (idle : Q Idle) (asks : (call : Call) → EachOfCall P call → Q (Asks call)) where
      event_keeps : (event : Event) (l after : Lanes) → Happens event l after → EachOfEvent P event → (lane : ℕ) →
          Q (l lane) → Q (after lane)
      event_keeps (Begins u call) l after happens told = set_keeps Q happens.1 (asks call told)
      event_keeps (Returns u reply) l after happens told = set_keeps Q happens.1 idle
      event_keeps (Withdraws u) l after happens told = set_keeps Q happens.2 idle

      end_sets : (event : Event) (l after : Lanes) → Happens event l after → (lane : ℕ) → IsEndOf lane event →
          Q (after lane)
      end_sets (Begins u call) l after happens lane end = absurd end
      end_sets (Returns u reply) l after happens lane end =
          subst (λ (v : ℕ). Q (after v)) end (subst Q (sym happens.1.here) idle)
      end_sets (Withdraws u) l after happens lane end =
          subst (λ (v : ℕ). Q (after v)) end (subst Q (sym happens.2.here) idle)

      ends_then : (event : Event) {events : List Event} (l after : Lanes) → Happens event l after → (lane : ℕ)
          (end : Event) → IsEndOf lane end → EndsBy lane end (event ∷ events) → IsOrEnds Q (after lane) lane events
      ends_then event l after happens lane end is ends_next = inl (end_sets event l after happens lane is)
      ends_then event l after happens lane end is (ends_later itself other later) = inr (end, is, later)

      event_then : (event : Event) {events : List Event} (l after : Lanes) → Happens event l after →
          EachOfEvent P event → (lane : ℕ) → IsOrEnds Q (l lane) lane (event ∷ events) →
          IsOrEnds Q (after lane) lane events
      event_then event l after happens told lane (inl was) = inl (event_keeps event l after happens told lane was)
      event_then event l after happens told lane (inr ends) =
          ends_then event l after happens lane ends.0 ends.1 ends.2

      effect_then : {events : List Event} {l after : Lanes} {u : ℕ} {reply : Reply} →
          Sets l after u (Gets reply) → Q (Gets reply) → (lane : ℕ) → IsOrEnds Q (l lane) lane events →
          IsOrEnds Q (after lane) lane events
      effect_then sets is lane (inl was) = inl (set_keeps Q sets is lane was)
      effect_then sets is lane (inr ends) = inr ends

      then_is : {p : Phase} {lane : ℕ} → IsOrEnds Q p lane [] → Q p
      then_is (inl is) = is
      then_is (inr ends) = absurd (ends_not ends.2)

      -- after the past each lane is idle or its call is one that ends then
      open_or_ends : {past events : List Event} {content : List ℕ} {s : State} {l : Lanes} →
          Leads (Both limits) past ([], content) all_idle s l → OpenHaveEnded past events → (lane : ℕ) →
          IsOrEnds Q (l lane) lane events
      open_or_ends {past} {events} {l = l} way ended lane = by (open_after past lane) refl
        where
          by : (slot : Option Call) → open_after past lane ≡ slot → IsOrEnds Q (l lane) lane events
          by None none = inl (subst Q (sym ((open_along none_open (λ v. none_idle) way lane).0 none)) idle)
          by (Some call) some = inr (ended lane (subst IsSome (sym some) refl))

    -- calls that begin ask such contents
    asked_along : {events : List Event} {s t : State} {l m : Lanes} → Leads (Both limits) events s l t m →
        All (EachOfEvent P) events →
        ((lane : ℕ) → IsOrEnds Asked (l lane) lane events) → (lane : ℕ) → Asked (m lane)
    asked_along leads_nowhere told asked = λ lane. then_is Asked tt (λ call each. each) (asked lane)
    asked_along (by_effect u call reply asks step sets rest) told asked =
        asked_along rest told (λ lane. effect_then Asked tt (λ c each. each) sets tt lane (asked lane))
    asked_along {l = l} (by_event {events = events} {after = after} event happens rest) told asked =
        asked_along rest (All-tail (EachOfEvent P) event events told)
        (λ lane. event_then Asked tt (λ c each. each) event l after happens
        (All-head (EachOfEvent P) event events told) lane (asked lane))

    abbrev AllAsked : Lanes → Type 0
    AllAsked l = (lane : ℕ) → Asked (l lane)

    asked_effect : {l after : Lanes} {u : ℕ} {reply : Reply} → Sets l after u (Gets reply) → AllAsked l → AllAsked after
    asked_effect sets asked lane = set_keeps Asked sets tt lane (asked lane)

    asked_event : (event : Event) (l after : Lanes) → Happens event l after → EachOfEvent P event → AllAsked l →
        AllAsked after
    asked_event event l after happens told asked lane =
        event_keeps Asked tt (λ call each. each) event l after happens told lane (asked lane)

    asks_so : (l : Lanes) {lane : ℕ} {call : Call} → AllAsked l → l lane ≡ Asks call → EachOfCall P call
    asks_so l {lane} asked asks = subst Asked asks (asked lane)

    -- then a content that is such stays so
    content_along : {events : List Event} {s t : State} {l m : Lanes} → Leads (Both limits) events s l t m →
        All (EachOfEvent P) events → AllAsked l → P s.1 → P t.1
    content_along leads_nowhere told asked held = held
    content_along {l = l} (by_effect {s = s} {next = next} u call reply asks step sets rest) told asked held =
        content_along rest told (asked_effect sets asked)
        (effect_leaves s next call reply step held (asks_so l asked asks))
    content_along {l = l} (by_event {events = events} {after = after} event happens rest) told asked held =
        content_along rest (All-tail (EachOfEvent P) event events told)
        (asked_event event l after happens (All-head (EachOfEvent P) event events told) asked) held

    -- and a call that tells it makes it such
    end_told : {lane : ℕ} {end : Event} {events : List Event} → EndsBy lane end events → All (EachOfEvent P) events →
        EachOfEvent P end
    end_told {end = end} (ends_next {events = events}) told = All-head (EachOfEvent P) end events told
    end_told (ends_later {events = events} event other later) told =
        end_told later (All-tail (EachOfEvent P) event events told)

    module _ (u : ℕ) (call : Call) (reply : Reply) (tells : tells_content call reply ≡ true) where
      effect_told : {events : List Event} (s next : State) {t : State} (l after : Lanes) {m : Lanes} (v : ℕ) (c : Call)
          (r : Reply) → l v ≡ Asks c → Both limits s c r next → Sets l after v (Gets r) →
          Leads (Both limits) events next after t m → All (EachOfEvent P) events → AllAsked l → l u ≡ Asks call →
          EndsBy u (Returns u reply) events → v ≡ u → P t.1
      effect_told s next l after v c r asks step sets rest told asked mine ends same =
          content_along rest told (asked_effect sets asked)
          (effect_tells s next call reply own tells (asks_so l asked mine) (end_told ends told))
        where
          one : c ≡ call
          one = one_call asks (subst (λ (w : ℕ). l w ≡ Asks call) (sym same) mine)

          gets : r ≡ reply
          gets = gotten_is_told (Both limits) u r reply (subst (λ (w : ℕ). after w ≡ Gets r) same sets.here) ends
              (goes_on_in (Both limits) rest).1

          own : Both limits s call reply next
          own = subst (λ (x : Call). Both limits s x reply next) one
              (subst (λ (x : Reply). Both limits s c x next) gets step)

      told_along : {events : List Event} {s t : State} {l m : Lanes} → Leads (Both limits) events s l t m →
          All (EachOfEvent P) events → AllAsked l → l u ≡ Asks call → EndsBy u (Returns u reply) events → P t.1
      told_along leads_nowhere told asked mine ends = absurd (ends_not ends)
      told_along {l = l} (by_effect {s = s} {next = next} {after = after} v c r asks step sets rest) told asked mine
          ends = ⊎_elim (effect_told s next l after v c r asks step sets rest told asked mine ends)
          (λ apart. told_along rest told (asked_effect sets asked) (sets.others u (λ e. apart (sym e)) ∙ mine) ends)
          (cases_eq v u)
      told_along (by_event event happens rest) told asked mine ends_next = absurd (asks_or_gets mine happens.0)
      told_along {l = l} (by_event {events = events} {after = after} event happens rest) told asked mine
          (ends_later itself other ends) = told_along rest (All-tail (EachOfEvent P) event events told)
          (asked_event event l after happens (All-head (EachOfEvent P) event events told) asked)
          (stays_beside l after event u (open_apart l after event u (λ idle. idle_or_asks idle mine) other happens)
          happens ∙ mine) ends

      begins_along : {es later : List Event} {s t : State} {l m : Lanes} → Leads (Both limits) es s l t m →
          es ≡ Begins u call ∷ later → All (EachOfEvent P) es → AllAsked l → EndsBy u (Returns u reply) later → P t.1
      begins_along leads_nowhere same told asked ends = cc
      begins_along (by_effect v c r asks step sets rest) same told asked ends =
          begins_along rest same told (asked_effect sets asked) ends
      begins_along {l = l} (by_event {events = events} {after = after} event happens rest) same told asked ends =
          told_along rest (All-tail (EachOfEvent P) event events told)
          (asked_event event l after happens (All-head (EachOfEvent P) event events told) asked)
          (subst (λ (x : Event). Happens x l after) (first_same same) happens).1.here
          (subst (EndsBy u (Returns u reply)) (sym (rest_same same)) ends)

    told_in : {events : List Event} {s t : State} {l m : Lanes} → IsTold events → Leads (Both limits) events s l t m →
        All (EachOfEvent P) events → AllAsked l → P t.1
    told_in {events} {l = l} is way told asked =
        let parts = parted way is.before (Begins is.lane is.call ∷ is.later) is.there in
        let all = subst (All (EachOfEvent P)) is.there told in
        begins_along is.lane is.call is.reply is.tells parts.rest refl
        (all_right (EachOfEvent P) is.before (Begins is.lane is.call ∷ is.later) all)
        (asked_along parts.first (all_left (EachOfEvent P) is.before (Begins is.lane is.call ∷ is.later) all)
        (λ lane. inl (asked lane))) is.returns

    -- then each lane is so whose call began later
    held_along : {events : List Event} {s t : State} {l m : Lanes} → Leads (Both limits) events s l t m →
        All (EachOfEvent P) events → AllAsked l → P s.1 →
        ((lane : ℕ) → IsOrEnds (EachOfPhase P) (l lane) lane events) → EachHeld P t m
    held_along leads_nowhere told asked held is = record {
      content = held;
      phases = λ lane. then_is (EachOfPhase P) tt (λ call each. each) (is lane);
    }
    held_along {l = l} (by_effect {s = s} {next = next} u call reply asks step sets rest) told asked held is =
        held_along rest told (asked_effect sets asked)
        (effect_leaves s next call reply step held (asks_so l asked asks))
        (λ lane. effect_then (EachOfPhase P) tt (λ c each. each) sets (effect_replies s next call reply step held) lane
        (is lane))
    held_along {l = l} (by_event {events = events} {after = after} event happens rest) told asked held is =
        held_along rest (All-tail (EachOfEvent P) event events told)
        (asked_event event l after happens (All-head (EachOfEvent P) event events told) asked) held
        (λ lane. event_then (EachOfPhase P) tt (λ c each. each) event l after happens
        (All-head (EachOfEvent P) event events told) lane (is lane))

    -- so it is of all that may be held: from the opening on, and where a past is overtaken
    pub each_told_held : (content : List ℕ) (events : List Event) → P content → All (EachOfEvent P) events →
        EachPossible P limits content events
    each_told_held content events held told s lanes way =
        held_along way told (λ lane. tt) held (λ lane. inl tt)

    pub each_since_held : (content : List ℕ) (past since : List Event) → IsOvertaken past since →
        All (EachOfEvent P) since → EachPossible P limits content (past ++ since)
    each_since_held content past since is told s lanes way =
        held_along two.rest (all_right (EachOfEvent P) (is.first ++ is.second) is.third all) asked_then
        (told_in is.told one.rest (all_right (EachOfEvent P) is.first is.second sooner) asked)
        (open_or_ends (EachOfPhase P) tt (λ call each. each)
        (leads_on (leads_on front.first one.first) one.rest) is.then_ended)
      where
        front : Parted (Both limits) past since ([], content) all_idle s lanes
        front = parted way past since refl

        two : Parted (Both limits) (is.first ++ is.second) is.third front.middle front.lanes s lanes
        two = parted front.rest (is.first ++ is.second) is.third is.parts

        one : Parted (Both limits) is.first is.second front.middle front.lanes two.middle two.lanes
        one = parted two.first is.first is.second refl

        all : All (EachOfEvent P) (is.first ++ is.second ++ is.third)
        all = subst (All (EachOfEvent P)) is.parts told

        sooner : All (EachOfEvent P) (is.first ++ is.second)
        sooner = all_left (EachOfEvent P) (is.first ++ is.second) is.third all

        asked : AllAsked one.lanes
        asked = asked_along one.first (all_left (EachOfEvent P) is.first is.second sooner)
            (open_or_ends Asked tt (λ call each. each) front.first is.first_ended)

        asked_then : AllAsked two.lanes
        asked_then = asked_along one.rest (all_right (EachOfEvent P) is.first is.second sooner)
            (λ lane. inl (asked lane))

pub held_are_told : HeldAreTold
held_are_told limits content events name other = each_told_held (HasOneName name other) limits content events

pub overtaken_are_forgotten : OvertakenAreForgotten
overtaken_are_forgotten limits content past since name other =
    each_since_held (HasOneName name other) limits content past since

-- the end of a call among more events
pub ends_more : {lane : ℕ} {end : Event} {events : List Event} (more : List Event) → EndsBy lane end events →
    EndsBy lane end (events ++ more)
ends_more more ends_next = ends_next
ends_more more (ends_later event other later) = ends_later event other (ends_more more later)

pub ended_more : (lane : ℕ) (events more : List Event) → HasEnded lane events → HasEnded lane (events ++ more)
ended_more lane events more ended = (ended.0, ended.1, ends_more more ended.2)

pub overtaken_stays : OvertakenStays
overtaken_stays past since more is = record {
  first = is.first;
  second = is.second;
  third = is.third ++ more;
  parts = ap (λ (xs : List Event). xs ++ more) is.parts ∙ append_assoc (is.first ++ is.second) is.third more;
  first_ended = is.first_ended;
  told = is.told;
  then_ended = λ lane some. ended_more lane is.third more (is.then_ended lane some);
}
