-- A run whose contents go by other names.
use Rattle.std.proofs.Common.{◌≡◌, ◌≢◌, ◌⊎◌, ◌+◌, ◌↔◌, ℕ, Bool, true, false, List, [], ◌∷◌, refl, sym, ◌∙◌, ap, subst}
use Rattle.std.proofs.Common.{inl, inr}
use Rattle.std.specs.Prelude.{Option, Some, None, map, not, take, if◌then◌else◌}
use Rattle.std.specs.Bool.{MatchBool}
use Rattle.std.specs.Cmp.Lexicographic.{same_text, other_text}
use Rattle.std.proofs.lemmas.Bool.{cases_eq, false≢true, cases_Bool}
use Rattle.std.proofs.lemmas.List.{take-map}
use Rattle.stamp_core.specs.LockEvent.{LockEvent, Counts, counts}
use Rattle.stamp_core.specs.Limits.{Bounds}
use Rattle.stamp_core.specs.Call.{is_lock_call}
use Rattle.stamp_core.specs.Content.{RecordReplies, content_next, same_words}
use Rattle.stamp_core.specs.History.{Replies}
use Rattle.stamp_core.specs.Transition.{Transition, row, transition}
use Rattle.stamp_core.specs.declared.call.Call.{Call}
use Rattle.stamp_core.specs.declared.call.Call.TheVariants.{TryWrite}
use Rattle.stamp_core.specs.declared.call.Call.TheVariants.{Get, Put, PutIf}
use Rattle.stamp_core.specs.declared.reply.Reply.{Reply}
use Rattle.stamp_core.specs.declared.reply.Reply.TheVariants.{Yes, No, Done, Content}
use Rattle.stamp_runs.specs.declared.event.Event.{Event}
use Rattle.stamp_runs.specs.declared.event.Event.TheVariants.{Begins, Returns, Withdraws}
use Rattle.stamp_runs.specs.Object.{LockStep, RecordStep}
use Rattle.stamp_runs.specs.Run.{AreExplainedFrom, Happens, Lanes, Leads, Phase, Sets, all_idle}
use Rattle.stamp_runs.specs.Run.Leads.{leads_nowhere, by_effect, by_event}
use Rattle.stamp_runs.specs.Run.Phase.{Idle, Asks, Gets}
use Rattle.stamp_runs.specs.BothRun.{Both, State}
use Rattle.stamp_runs.specs.Names.{AreDifferent, Names, call_by, event_by, reply_by}
use Rattle.stamp_runs.specs.Trace.{LeadsBy, Taken, taken_at}
use Rattle.stamp_runs.specs.Trace.LeadsBy.{led_nowhere, by_taken, by_next}
use Rattle.stamp_runs.proofs.Lanes.{set_of, sets_of}
use Rattle.stamp_runs.proofs.Objects.{one_content}
use Rattle.stamp_runs.proofs.Ordering.{leads_of, order_on}

-- a reply of the lock is no content
data HasName (name : Names) : Option Transition → Type 0 where
  has_none : HasName name None
  has_own : {t : Transition} → reply_by name t.reply ≡ t.reply → HasName name (Some t)

either : (name : Names) (b : Bool) {x y : Option Transition} → HasName name x → HasName name y →
    HasName name (if b then x else y)
either name true is other = is
either name false is other = other

yes_or_no : (name : Names) (b : Bool) → reply_by name (if b then Yes else No) ≡ (if b then Yes else No)
yes_or_no name true = refl
yes_or_no name false = refl

row_named : (name : Names) (l : Bounds) (c : Counts) (call : Call) → HasName name (row l c call)
row_named name l c Get = has_none
row_named name l c _ = search (either, has_own, has_none, yes_or_no)

replies_named : (name : Names) (t : Option Transition) (reply : Reply) → HasName name t → Replies t reply →
    reply_by name reply ≡ reply
replies_named name None reply named none = absurd none
replies_named name (Some t) reply (has_own own) is = subst (λ (r : Reply). reply_by name r ≡ r) is own

pub lock_named : (name : Names) (limits : Bounds) (s next : List LockEvent) (call : Call) (reply : Reply) →
    LockStep limits s call reply next → reply_by name reply ≡ reply
lock_named name limits s next call reply step =
    replies_named name (transition limits s call) reply (row_named name limits (counts s) call) step.replies

-- calls of the lock have no contents
lock_call_named : (name : Names) (call : Call) → is_lock_call (call_by name call) ≡ is_lock_call call
lock_call_named name TryWrite = refl
lock_call_named name _ = refl

lock_call_same : (name : Names) (call : Call) → is_lock_call call ≡ true → call_by name call ≡ call
lock_call_same name Get is = absurd (false≢true is)
lock_call_same name (Put words) is = absurd (false≢true is)
lock_call_same name (PutIf expected words) is = absurd (false≢true is)
lock_call_same name _ is = refl

-- what a call of the record leaves
next_named : (name : Names) (content : List ℕ) (call : Call) (reply : Reply) →
    content_next (name content) (call_by name call) (reply_by name reply) ≡ name (content_next content call reply)
next_named name content (PutIf expected words) Yes = refl
next_named name content _ _ = refl

abbrev pub phase_by : Names → Phase → Phase
phase_by name Idle = Idle
phase_by name (Asks call) = Asks (call_by name call)
phase_by name (Gets reply) = Gets (reply_by name reply)

-- what took effect, with its reply by name
abbrev pub taken_by : Names → Taken → Taken
taken_by name x = taken_at x.point (x.lane, reply_by name x.reply)

-- the lanes of the one by name
abbrev pub AreNamed : Names → Lanes → Lanes → Type 0
AreNamed name a m = (v : ℕ) → m v ≡ phase_by name (a v)

named_then : (name : Names) {a a1 m m1 : Lanes} {p : Phase} (lane : ℕ) → AreNamed name a m → Sets a a1 lane p →
    Sets m m1 lane (phase_by name p) → AreNamed name a1 m1
named_then name {a} {a1} {m} {m1} lane named sets moves v = by (cases_eq v lane)
  where
    by : (v ≡ lane) ⊎ (v ≢ lane) → m1 v ≡ phase_by name (a1 v)
    by (inl same) = subst (λ (w : ℕ). m1 w ≡ phase_by name (a1 w)) (sym same)
        (moves.here ∙ sym (ap (phase_by name) sets.here))
    by (inr apart) = moves.others v apart ∙ named v ∙ sym (ap (phase_by name) (sets.others v apart))

pub first_same : {x y : Event} {xs ys : List Event} → x ∷ xs ≡ y ∷ ys → x ≡ y
first_same same = cc

pub rest_same : {x y : Event} {xs ys : List Event} → x ∷ xs ≡ y ∷ ys → xs ≡ ys
rest_same same = cc

idle_back : (name : Names) (p : Phase) → phase_by name p ≡ Idle → p ≡ Idle
idle_back name Idle is = refl
idle_back name (Asks call) is = cc
idle_back name (Gets reply) is = cc

record AsksBack (name : Names) (p : Phase) (asked : Call) : Type 0 where
  pub call : Call
  pub asks : p ≡ Asks call
  pub same : asked ≡ call_by name call

asks_back : (name : Names) (p : Phase) {asked : Call} → phase_by name p ≡ Asks asked → AsksBack name p asked
asks_back name Idle is = cc
asks_back name (Asks call) is = record { call = call; asks = refl; same = cc }
asks_back name (Gets reply) is = cc

record GetsBack (name : Names) (p : Phase) (given : Reply) : Type 0 where
  pub reply : Reply
  pub gets : p ≡ Gets reply
  pub same : reply_by name reply ≡ given

gets_back : (name : Names) (p : Phase) {given : Reply} → phase_by name p ≡ Gets given → GetsBack name p given
gets_back name Idle is = cc
gets_back name (Asks call) is = cc
gets_back name (Gets reply) is = record { reply = reply; gets = refl; same = cc }

module _ (name : Names) (different : AreDifferent name) where
  -- contents are the same where their names are
  same_named : (a b : List ℕ) → same_words (name a) (name b) ≡ same_words a b
  same_named a b = by (cases_Bool (same_words a b)) (cases_Bool (same_words (name a) (name b)))
    where
      by : (same_words a b ≡ true) ⊎ (same_words a b ≡ false) →
          (same_words (name a) (name b) ≡ true) ⊎ (same_words (name a) (name b) ≡ false) →
          same_words (name a) (name b) ≡ same_words a b
      by (inl is) (inl named) = named ∙ sym is
      by (inr not) (inr named) = named ∙ sym not
      by (inl is) (inr not) = absurd (other_text (name a) (name b) (sym not) (ap name (same_text a b (sym is))))
      by (inr not) (inl named) = absurd (other_text a b (sym not) (different a b (same_text (name a) (name b)
          (sym named))))

  -- a reply has one name
  reply_same : (a b : Reply) → reply_by name a ≡ reply_by name b → a ≡ b
  reply_same (Content x) (Content y) same = ap Content (different x y (one_content same))
  reply_same (Content x) _ same = cc
  reply_same _ (Content y) same = cc
  reply_same _ _ same = same

  -- each step of the one is one of the other
  record_forth : (content next : List ℕ) (call : Call) (reply : Reply) → RecordStep content call reply next →
      RecordStep (name content) (call_by name call) (reply_by name reply) (name next)
  record_forth content next call reply step = record {
    replies = answers call reply step.replies;
    leaves = ap name step.leaves ∙ sym (next_named name content call reply);
  }
    where
      answers : (call : Call) (reply : Reply) → RecordReplies content call reply →
          RecordReplies (name content) (call_by name call) (reply_by name reply)
      answers Get reply is = ap (reply_by name) is
      answers (Put words) reply is = ap (reply_by name) is
      answers (PutIf expected words) reply is = ap (reply_by name) is ∙ yes_or_no name (same_words content expected) ∙
          ap (λ (b : Bool). if b then Yes else No) (sym (same_named content expected))
      answers _ reply is = is

  -- what the call by name is answered is a name of an answer
  record Answer (content : List ℕ) (call : Call) (given : Reply) : Type 0 where
    pub reply : Reply
    pub replies : RecordReplies content call reply
    pub same : given ≡ reply_by name reply

  answered : (content : List ℕ) (call : Call) (given : Reply) → RecordReplies (name content) (call_by name call) given →
      Answer content call given
  answered content Get given is = record { reply = Content content; replies = refl; same = is }
  answered content (Put words) given is = record { reply = Done; replies = refl; same = is }
  answered content (PutIf expected words) given is = record {
    reply = if same_words content expected then Yes else No;
    replies = refl;
    same = is ∙ ap (λ (b : Bool). if b then Yes else No) (same_named content expected) ∙
        sym (yes_or_no name (same_words content expected));
  }
  answered content _ given is = absurd is

  module _ (limits : Bounds) where
    abbrev pub by_name : State → State
    by_name s = (s.0, name s.1)

    abbrev OfLock : State → Call → Reply → State → Bool → Type 0
    OfLock s call reply next b = MatchBool b (LockStep limits s.0 call reply next.0) (next.0 ≡ s.0)

    abbrev OfRecord : State → Call → Reply → State → Bool → Type 0
    OfRecord s call reply next b = MatchBool b (RecordStep s.1 call reply next.1) (next.1 ≡ s.1)

    -- so it is side by side with the lock, which has no contents
    lock_forth : (s next : State) (call : Call) (reply : Reply) → LockStep limits s.0 call reply next.0 →
        is_lock_call call ≡ true → LockStep limits s.0 (call_by name call) (reply_by name reply) next.0
    lock_forth s next call reply step is =
        subst (λ (c : Call). LockStep limits s.0 c (reply_by name reply) next.0) (sym (lock_call_same name call is))
        (subst (λ (r : Reply). LockStep limits s.0 call r next.0)
        (sym (lock_named name limits s.0 next.0 call reply step)) step)

    both_forth : (s next : State) (call : Call) (reply : Reply) → Both limits s call reply next →
        Both limits (by_name s) (call_by name call) (reply_by name reply) (by_name next)
    both_forth s next call reply step = by (cases_Bool (is_lock_call call))
      where
        named : Call
        named = call_by name call

        by : (is_lock_call call ≡ true) ⊎ (is_lock_call call ≡ false) →
            Both limits (by_name s) (call_by name call) (reply_by name reply) (by_name next)
        by (inl is) = (
          subst (OfLock s named (reply_by name reply) next) (sym (lock_call_named name call ∙ is))
              (lock_forth s next call reply (subst (OfLock s call reply next) is step.0) is),
          subst (OfRecord (by_name s) named (reply_by name reply) (by_name next))
              (sym (ap not (lock_call_named name call ∙ is)))
              (ap name (subst (OfRecord s call reply next) (ap not is) step.1)),
        )
        by (inr is) = (
          subst (OfLock s named (reply_by name reply) next) (sym (lock_call_named name call ∙ is))
              (subst (OfLock s call reply next) is step.0),
          subst (OfRecord (by_name s) named (reply_by name reply) (by_name next))
              (sym (ap not (lock_call_named name call ∙ is)))
              (record_forth s.1 next.1 call reply (subst (OfRecord s call reply next) (ap not is) step.1)),
        )

    -- and each step of the other is one of these
    record BackStep (s : State) (call : Call) (given : Reply) (there : State) : Type 0 where
      pub reply : Reply
      pub next : State
      pub step : Both limits s call reply next
      pub same : given ≡ reply_by name reply
      pub there_is : there ≡ by_name next

    both_back : (s there : State) (call : Call) (given : Reply) →
        Both limits (by_name s) (call_by name call) given there → BackStep s call given there
    both_back s there call given step = by (cases_Bool (is_lock_call call))
      where
        by : (is_lock_call call ≡ true) ⊎ (is_lock_call call ≡ false) → BackStep s call given there
        by (inl is) = record {
          reply = given;
          next = (there.0, s.1);
          step = (
            subst (OfLock s call given (there.0, s.1)) (sym is) own,
            subst (OfRecord s call given (there.0, s.1)) (sym (ap not is)) refl,
          );
          same = sym (lock_named name limits s.0 there.0 call given own);
          there_is = ap (λ (c : List ℕ). (there.0, c)) (subst (OfRecord (by_name s) (call_by name call) given there)
              (ap not (lock_call_named name call ∙ is)) step.1);
        }
          where
            own : LockStep limits s.0 call given there.0
            own = subst (λ (c : Call). LockStep limits s.0 c given there.0) (lock_call_same name call is)
                (subst (OfLock (by_name s) (call_by name call) given there) (lock_call_named name call ∙ is) step.0)
        by (inr is) = record {
          reply = answer.reply;
          next = (s.0, content_next s.1 call answer.reply);
          step = (
            subst (OfLock s call answer.reply (s.0, content_next s.1 call answer.reply)) (sym is) refl,
            subst (OfRecord s call answer.reply (s.0, content_next s.1 call answer.reply)) (sym (ap not is))
                (record { replies = answer.replies; leaves = refl }),
          );
          same = answer.same;
          there_is = ap (λ (e : List LockEvent). (e, there.1))
              (subst (OfLock (by_name s) (call_by name call) given there) (lock_call_named name call ∙ is) step.0) ∙
              ap (λ (c : List ℕ). (s.0, c)) (own.leaves ∙
              ap (content_next (name s.1) (call_by name call)) answer.same ∙ next_named name s.1 call answer.reply);
        }
          where
            own : RecordStep (name s.1) (call_by name call) given there.1
            own = subst (OfRecord (by_name s) (call_by name call) given there)
                (ap not (lock_call_named name call ∙ is)) step.1

            answer : Answer s.1 call given
            answer = answered s.1 call given own.replies

    -- a way of the one, by name
    pub record Forth (events : List Event) (s : State) (m : Lanes) (t : State) (b : Lanes) : Type 0 where
      pub last : Lanes
      pub way : Leads (Both limits) (map (event_by name) events) (by_name s) m (by_name t) last
      pub named : AreNamed name b last

    event_forth : (event : Event) {events : List Event} {s t : State} {m after b : Lanes} →
        Happens (event_by name event) m after → Forth events s after t b → Forth (event ∷ events) s m t b
    event_forth event happens on =
        record { last = on.last; way = by_event (event_by name event) happens on.way; named = on.named }

    pub forth : {events : List Event} {s t : State} {a b : Lanes} → Leads (Both limits) events s a t b → (m : Lanes) →
        AreNamed name a m → Forth events s m t b
    forth leads_nowhere m named = record { last = m; way = leads_nowhere; named = named }
    forth (by_effect {s = s} {next = next} lane call reply asks step sets rest) m named =
        let on = forth rest (set_of m lane (Gets (reply_by name reply)))
        (named_then name lane named sets (sets_of m lane (Gets (reply_by name reply)))) in
        record {
          last = on.last;
          way = by_effect lane (call_by name call) (reply_by name reply) (named lane ∙ ap (phase_by name) asks)
              (both_forth s next call reply step) (sets_of m lane (Gets (reply_by name reply))) on.way;
          named = on.named;
        }
    forth (by_event (Begins lane call) happens rest) m named =
        event_forth (Begins lane call)
        (named lane ∙ ap (phase_by name) happens.0, sets_of m lane (Asks (call_by name call)))
        (forth rest (set_of m lane (Asks (call_by name call)))
        (named_then name lane named happens.1 (sets_of m lane (Asks (call_by name call)))))
    forth (by_event (Returns lane reply) happens rest) m named =
        event_forth (Returns lane reply) (named lane ∙ ap (phase_by name) happens.0, sets_of m lane Idle)
        (forth rest (set_of m lane Idle) (named_then name lane named happens.1 (sets_of m lane Idle)))
    forth (by_event (Withdraws lane) happens rest) m named =
        event_forth (Withdraws lane)
        (call_by name happens.0, named lane ∙ ap (phase_by name) happens.1, sets_of m lane Idle)
        (forth rest (set_of m lane Idle) (named_then name lane named happens.2 (sets_of m lane Idle)))

    -- a way by name is one in words: its order is theirs with the names of their replies, and it ends at their end
    pub record IsInWords (n : ℕ) (order : List Taken) (events : List Event) (s : State) (a : Lanes) (there : State)
        (b : Lanes) : Type 0 where
      pub words : List Taken
      pub order_is : order ≡ map (taken_by name) words
      pub state : State
      pub last : Lanes
      pub way : LeadsBy (Both limits) n words events s a state last
      pub there_is : there ≡ by_name state
      pub named : AreNamed name last b

    -- a call takes effect in both
    effect_back : (n : ℕ) (order : List Taken) (s next : State) (a m after : Lanes) (lane : ℕ) (asked : Call)
        (given : Reply) (events : List Event) {t : State} {b : Lanes} → AreNamed name a m → m lane ≡ Asks asked →
        Both limits (by_name s) asked given next → Sets m after lane (Gets given) →
        ((one : State) (c : Lanes) → next ≡ by_name one → AreNamed name c after →
        IsInWords n order events one c t b) → IsInWords n (taken_at n (lane, given) ∷ order) events s a t b
    effect_back n order s next a m after lane asked given events {t} {b} named asks step sets on =
        by (asks_back name (a lane) (sym (named lane) ∙ asks))
      where
        by : AsksBack name (a lane) asked → IsInWords n (taken_at n (lane, given) ∷ order) events s a t b
        by back = record {
          words = taken_at n (lane, one.reply) ∷ rest.words;
          order_is = λ i. taken_at n (lane, one.same i) ∷ rest.order_is i;
          state = rest.state;
          last = rest.last;
          way = by_taken lane back.call one.reply back.asks one.step (sets_of a lane (Gets one.reply)) rest.way;
          there_is = rest.there_is;
          named = rest.named;
        }
          where
            one : BackStep s back.call given next
            one = both_back s next back.call given
                (subst (λ (c : Call). Both limits (by_name s) c given next) back.same step)

            rest : IsInWords n order events one.next (set_of a lane (Gets one.reply)) t b
            rest = on one.next (set_of a lane (Gets one.reply)) one.there_is
                (named_then name lane named (sets_of a lane (Gets one.reply))
                (subst (λ (r : Reply). Sets m after lane (Gets r)) one.same sets))

    -- and an event happens in both
    next_back : (n : ℕ) (order : List Taken) (event : Event) {events : List Event} {s t : State} {a after b : Lanes} →
        Happens event a after → IsInWords (n + 1) order events s after t b →
        IsInWords n order (event ∷ events) s a t b
    next_back n order event happens rest = record {
      words = rest.words;
      order_is = rest.order_is;
      state = rest.state;
      last = rest.last;
      way = by_next event happens rest.way;
      there_is = rest.there_is;
      named = rest.named;
    }

    event_back : (n : ℕ) (order : List Taken) (event : Event) (s : State) (a m after : Lanes) (events : List Event)
        {t : State} {b : Lanes} → AreNamed name a m → Happens (event_by name event) m after →
        ((c : Lanes) → AreNamed name c after → IsInWords (n + 1) order events s c t b) →
        IsInWords n order (event ∷ events) s a t b
    event_back n order (Begins lane call) s a m after events named happens on =
        next_back n order (Begins lane call)
        (idle_back name (a lane) (sym (named lane) ∙ happens.0), sets_of a lane (Asks call))
        (on (set_of a lane (Asks call)) (named_then name lane named (sets_of a lane (Asks call)) happens.1))
    event_back n order (Returns lane reply) s a m after events named happens on =
        next_back n order (Returns lane reply)
        (gets.gets ∙ ap Gets (reply_same gets.reply reply gets.same), sets_of a lane Idle)
        (on (set_of a lane Idle) (named_then name lane named (sets_of a lane Idle) happens.1))
      where
        gets : GetsBack name (a lane) (reply_by name reply)
        gets = gets_back name (a lane) (sym (named lane) ∙ happens.0)
    event_back n order (Withdraws lane) s a m after events named happens on =
        next_back n order (Withdraws lane) (asks.call, asks.asks, sets_of a lane Idle)
        (on (set_of a lane Idle) (named_then name lane named (sets_of a lane Idle) happens.2))
      where
        asks : AsksBack name (a lane) happens.0
        asks = asks_back name (a lane) (sym (named lane) ∙ happens.1)

    pub back : {n : ℕ} {order : List Taken} {es : List Event} {s' t' : State} {m b : Lanes} →
        LeadsBy (Both limits) n order es s' m t' b → (events : List Event) → es ≡ map (event_by name) events →
        (s : State) → s' ≡ by_name s → (a : Lanes) → AreNamed name a m → IsInWords n order events s a t' b
    back led_nowhere [] same s there a named = record {
      words = [];
      order_is = refl;
      state = s;
      last = a;
      way = led_nowhere;
      there_is = there;
      named = named;
    }
    back led_nowhere (event ∷ events) same s there a named = cc
    back (by_next e happens rest) [] same s there a named = cc
    back {n = n} {m = m} (by_taken {order = order} {next = next} {after = after} lane call given asks step sets rest)
        events same s there a named = effect_back n order s next a m after lane call given events named asks
        (subst (λ (z : State). Both limits z call given next) there step) sets
        (λ one c then_named names. back rest events same one then_named c names)
    back {n = n} {order = order} {m = m} (by_next {after = after} e happens rest) (event ∷ events) same s there a
        named = event_back n order event s a m after events named
        (subst (λ (x : Event). Happens x m after) (first_same same) happens)
        (λ c names. back rest events (rest_same same) s there c names)

-- an order in which calls took effect by name, in words
pub order_in_words : (limits : Bounds) (name : Names) (content : List ℕ) (events : List Event) (order : List Taken)
    (s : State) (lanes : Lanes) → (different : AreDifferent name) →
    LeadsBy (Both limits) 0 order (map (event_by name) events) ([], name content) all_idle s lanes →
    IsInWords name different limits 0 order events ([], content) all_idle s lanes
order_in_words limits name content events order s lanes different way =
    back name different limits way events refl ([], content) refl all_idle (λ v. refl)

pub names_dont_matter : Rattle.stamp_runs.specs.RunLaws.NamesDontMatter
names_dont_matter limits name content events different = (
  (λ explained. let on = forth name different limits explained.way all_idle (λ v. refl) in
      record { state = by_name name different limits explained.state; last = on.last; way = on.way }),
  λ explained. let order = order_on (Both limits) explained.way 0 in
      let on = order_in_words limits name content events order.0 explained.state explained.last different order.1 in
      record { state = on.state; last = on.last; way = leads_of (Both limits) on.way },
)

-- the same of the first events
first_by_names : (limits : Bounds) (name : Names) (content : List ℕ) (events : List Event) (k : ℕ) →
    AreDifferent name → AreExplainedFrom (Both limits) ([], content) (take k events) ↔
    AreExplainedFrom (Both limits) ([], name content) (take k (map (event_by name) events))
first_by_names limits name content events k different = rw (take-map (event_by name) k events)
    (names_dont_matter limits name content (take k events) different)

pub stuck_by_names : Rattle.stamp_runs.specs.RunLaws.StuckByAnyNames
stuck_by_names limits name content events k different = (
  (λ is. record {
    explained = (front k).0 is.explained;
    stuck = λ on. is.stuck ((front (k + 1)).1 on);
  }),
  λ is. record {
    explained = (front k).1 is.explained;
    stuck = λ on. is.stuck ((front (k + 1)).0 on);
  },
)
  where
    front : (n : ℕ) → AreExplainedFrom (Both limits) ([], content) (take n events) ↔
        AreExplainedFrom (Both limits) ([], name content) (take n (map (event_by name) events))
    front n = first_by_names limits name content events n different
