-- Runs in form, and what comes of the events of one object's own calls, among those of all.
use Rattle.std.proofs.Common.{◌≡◌, ◌≢◌, ◌⊎◌, ◌↔◌, ℕ, Bool, true, false, List, [], ◌∷◌, ◌++◌, Option, Some, None}
use Rattle.std.proofs.Common.{refl, sym, ◌∙◌, ap, subst, inl, inr}
use Rattle.std.specs.Prelude.{if◌then◌else◌, IsSome}
use Rattle.std.specs.List.{fold}
use Rattle.std.proofs.lemmas.Bool.{cases_eq}
use Rattle.std.proofs.lemmas.List.Elements.{All-cons, All-head, All-tail}
use Rattle.stamp_core.specs.declared.call.Call.{Call}
use Rattle.stamp_core.specs.declared.reply.Reply.{Reply}
use Rattle.stamp_runs.specs.declared.event.Event.{Event}
use Rattle.stamp_runs.specs.declared.event.Event.TheVariants.{Begins, Returns, Withdraws}
use Rattle.stamp_runs.specs.Object.{Object}
use Rattle.stamp_runs.specs.Own.{AreInFormFrom, MayCome, is_own, is_own_call, none_open, open_then, own_from}
use Rattle.stamp_runs.specs.Own.{open_after, own_events}
use Rattle.stamp_runs.specs.Run.{EndsBy, EndsNever, Happens, IsEndOf, Lanes, Leads, Phase, ReturnsSooner, Sets}
use Rattle.stamp_runs.specs.Run.EndsBy.{ends_later, ends_next}
use Rattle.stamp_runs.specs.Run.Leads.{leads_nowhere, by_effect, by_event}
use Rattle.stamp_runs.specs.Run.Phase.{Idle, Asks, Gets}
use Rattle.stamp_runs.specs.Run.ReturnsSooner.{sooner_later, sooner_next}
use Rattle.stamp_runs.specs.RunLaws.{ExplainedInForm}
use Rattle.stamp_runs.proofs.Lanes.{idle_or_asks, idle_or_gets, none_some, true_or_false}
use Rattle.stamp_runs.proofs.Owning.{Calls, Opens, begins_opens, returns_opens, withdraws_opens}

-- a call is open in the lane exactly where it is not idle
abbrev pub IsOpenIn : Option Call → Phase → Type 0
IsOpenIn slot phase = (slot ≡ None) ↔ (phase ≡ Idle)

abbrev pub AreOpenIn : Calls → Lanes → Type 0
AreOpenIn calls lanes = (v : ℕ) → IsOpenIn (calls v) (lanes v)

open_as : {o p : Option Call} {x y : Phase} → p ≡ o → y ≡ x → IsOpenIn o x → IsOpenIn p y
open_as e f is = ((λ none. f ∙ is.0 (sym e ∙ none)), (λ idle. e ∙ is.1 (sym f ∙ idle)))

open_in_then : {calls after : Calls} {lanes next : Lanes} {o : Option Call} {p : Phase} (lane : ℕ) →
    AreOpenIn calls lanes → Opens calls after lane o → Sets lanes next lane p → IsOpenIn o p → AreOpenIn after next
open_in_then {after = after} {next = next} lane before opens sets now v = by (cases_eq v lane)
  where
    by : (v ≡ lane) ⊎ (v ≢ lane) → IsOpenIn (after v) (next v)
    by (inl same) = subst (λ (w : ℕ). IsOpenIn (after w) (next w)) (sym same) (open_as opens.here sets.here now)
    by (inr apart) = open_as (opens.others v apart) (sets.others v apart) (before v)

pub none_idle : IsOpenIn None Idle
none_idle = ((λ e. refl), (λ e. refl))

some_asks : (call : Call) → IsOpenIn (Some call) (Asks call)
some_asks call = ((λ none. absurd (none_some (sym none))), (λ asks. absurd (idle_or_asks refl (sym asks))))

busy_some : (slot : Option Call) → (slot ≡ None → ⊥) → IsSome slot
busy_some None not = absurd (not refl)
busy_some (Some call) not = refl

-- where an event happens it may come, and leaves it so; a call that takes effect does, too
may_come_there : {calls : Calls} (lanes after : Lanes) (event : Event) → Happens event lanes after →
    AreOpenIn calls lanes → MayCome calls event
may_come_there lanes after (Begins u c) happens are = (are u).1 happens.0
may_come_there {calls} lanes after (Returns u r) happens are =
    busy_some (calls u) (λ none. idle_or_gets ((are u).0 none) happens.0)
may_come_there {calls} lanes after (Withdraws u) happens are =
    busy_some (calls u) (λ none. idle_or_asks ((are u).0 none) happens.1)

pub open_happens : {calls : Calls} (lanes after : Lanes) (event : Event) → Happens event lanes after →
    AreOpenIn calls lanes → AreOpenIn (open_then calls event) after
open_happens {calls} lanes after (Begins u c) happens are =
    open_in_then u are (begins_opens calls u c) happens.1 (some_asks c)
open_happens {calls} lanes after (Returns u r) happens are =
    open_in_then u are (returns_opens calls u r) happens.1 none_idle
open_happens {calls} lanes after (Withdraws u) happens are =
    open_in_then u are (withdraws_opens calls u) happens.2 none_idle

pub open_takes : {calls : Calls} {lanes after : Lanes} {lane : ℕ} {call : Call} {reply : Reply} →
    lanes lane ≡ Asks call → Sets lanes after lane (Gets reply) → AreOpenIn calls lanes → AreOpenIn calls after
open_takes {lane = lane} asks sets are =
    open_in_then lane are (record { here = refl; others = λ v apart. refl }) sets (
      (λ none. absurd (idle_or_asks ((are lane).0 none) asks)),
      (λ gets. absurd (idle_or_gets refl (sym gets))),
    )

pub open_along : {S : Type 0} {O : Object S} {events : List Event} {s t : S} {lanes last : Lanes} (calls : Calls) →
    AreOpenIn calls lanes → Leads O events s lanes t last → AreOpenIn (fold open_then calls events) last
open_along calls are leads_nowhere = are
open_along calls are (by_effect lane call reply asks step sets rest) =
    open_along calls (open_takes asks sets are) rest
open_along calls are (by_event event happens rest) =
    open_along (open_then calls event) (open_happens _ _ event happens are) rest

module _ {S : Type 0} (O : Object S) where
  form_from : {events : List Event} {s t : S} {lanes last : Lanes} → Leads O events s lanes t last → (calls : Calls) →
      AreOpenIn calls lanes → AreInFormFrom calls events
  form_from leads_nowhere calls are = tt
  form_from (by_effect lane call reply asks step sets rest) calls are =
      form_from rest calls (open_takes asks sets are)
  form_from (by_event event happens rest) calls are = (
    may_come_there _ _ event happens are,
    form_from rest (open_then calls event) (open_happens _ _ event happens are),
  )

  pub explained_in_form : ExplainedInForm O
  explained_in_form start events explained = form_from explained.way none_open (λ v. none_idle)

-- some events, and more
pub form_of_first : (calls : Calls) (past future : List Event) → AreInFormFrom calls (past ++ future) →
    AreInFormFrom calls past
form_of_first calls [] future form = tt
form_of_first calls (e ∷ past) future form = (form.0, form_of_first (open_then calls e) past future form.1)

pub form_of_rest : (calls : Calls) (past future : List Event) → AreInFormFrom calls (past ++ future) →
    AreInFormFrom (fold open_then calls past) future
form_of_rest calls [] future form = form
form_of_rest calls (e ∷ past) future form = form_of_rest (open_then calls e) past future form.1

pub form_of_both : (calls : Calls) (past future : List Event) → AreInFormFrom calls past →
    AreInFormFrom (fold open_then calls past) future → AreInFormFrom calls (past ++ future)
form_of_both calls [] future form rest = rest
form_of_both calls (e ∷ past) future form rest = (form.0, form_of_both (open_then calls e) past future form.1 rest)

module _ (mine : Call → Bool) where
  pub own_from_both : (calls : Calls) (past future : List Event) → own_from mine calls (past ++ future) ≡
      own_from mine calls past ++ own_from mine (fold open_then calls past) future
  own_from_both calls [] future = refl
  own_from_both calls (e ∷ past) future = by (is_own mine calls e) _ _ _
      (own_from_both (open_then calls e) past future)
    where
      by : (k : Bool) (xs ys zs : List Event) → xs ≡ ys ++ zs →
          (if k then e ∷ xs else xs) ≡ (if k then e ∷ ys else ys) ++ zs
      by true xs ys zs same = ap (λ (l : List Event). e ∷ l) same
      by false xs ys zs same = same

  pub own_of_both : (past future : List Event) → own_events mine (past ++ future) ≡
      own_events mine past ++ own_from mine (open_after past) future
  own_of_both past future = own_from_both none_open past future

  -- one event is kept, or is not
  abbrev pub kept_as : Bool → Event → List Event → List Event
  kept_as k e events = if k then e ∷ events else events

  -- a call of one's own is open in the lane
  abbrev pub IsOwnLane : Calls → ℕ → Type 0
  IsOwnLane calls lane = is_own_call mine (calls lane) ≡ true

  -- and stays open where another event comes
  still_own : (calls : Calls) (lane : ℕ) (e : Event) → MayCome calls e → ¬ IsEndOf lane e → IsOwnLane calls lane →
      IsOwnLane (open_then calls e) lane
  still_own calls lane (Begins u c) may not own = by (cases_eq lane u)
    where
      by : (lane ≡ u) ⊎ (lane ≢ u) → IsOwnLane (open_then calls (Begins u c)) lane
      by (inl same) = absurd (true_or_false own (ap (λ (o : Option Call). is_own_call mine o) (ap calls same ∙ may)))
      by (inr apart) = ap (λ (o : Option Call). is_own_call mine o) ((begins_opens calls u c).others lane apart) ∙ own
  still_own calls lane (Returns u r) may not own = ap (λ (o : Option Call). is_own_call mine o)
      ((returns_opens calls u r).others lane (λ e. not (sym e))) ∙ own
  still_own calls lane (Withdraws u) may not own = ap (λ (o : Option Call). is_own_call mine o)
      ((withdraws_opens calls u).others lane (λ e. not (sym e))) ∙ own

  end_is_own : (calls : Calls) (lane : ℕ) (e : Event) → IsEndOf lane e → IsOwnLane calls lane →
      is_own mine calls e ≡ true
  end_is_own calls lane (Begins u c) is own = absurd is
  end_is_own calls lane (Returns u r) is own = ap (λ (v : ℕ). is_own_call mine (calls v)) is ∙ own
  end_is_own calls lane (Withdraws u) is own = ap (λ (v : ℕ). is_own_call mine (calls v)) is ∙ own

  -- how an own call ends among all is how it ends among the own events
  pub own_ends_by : (lane : ℕ) (end : Event) → IsEndOf lane end → (events : List Event) (calls : Calls) →
      AreInFormFrom calls events → IsOwnLane calls lane → EndsBy lane end events →
      EndsBy lane end (own_from mine calls events)
  own_ends_by lane end is [] calls form own ends = elim ends [ ]
  own_ends_by lane end is (e ∷ events) calls form own ends_next =
      subst (λ (k : Bool). EndsBy lane e (kept_as k e (own_from mine (open_then calls e) events)))
      (sym (end_is_own calls lane e is own)) ends_next
  own_ends_by lane end is (e ∷ events) calls form own (ends_later other not rest) =
      by (is_own mine calls e) (own_ends_by lane end is events (open_then calls e) form.1
      (still_own calls lane e form.0 not own) rest)
    where
      by : (k : Bool) {xs : List Event} → EndsBy lane end xs → EndsBy lane end (kept_as k e xs)
      by true is_later = ends_later e not is_later
      by false is_later = is_later

  abbrev NoEnd : ℕ → Event → Type 0
  NoEnd lane e = ¬ IsEndOf lane e

  pub own_ends_never : (lane : ℕ) (events : List Event) (calls : Calls) → EndsNever lane events →
      EndsNever lane (own_from mine calls events)
  own_ends_never lane [] calls never = never
  own_ends_never lane (e ∷ events) calls never = by (is_own mine calls e) _
      (own_ends_never lane events (open_then calls e) (All-tail (NoEnd lane) e events never))
    where
      by : (k : Bool) (xs : List Event) → EndsNever lane xs → EndsNever lane (kept_as k e xs)
      by true xs rest = All-cons (NoEnd lane) e xs (All-head (NoEnd lane) e events never) rest
      by false xs rest = rest

  pub own_returns_sooner : (lane than : ℕ) (events : List Event) (calls : Calls) → AreInFormFrom calls events →
      IsOwnLane calls lane → IsOwnLane calls than → ReturnsSooner lane than events →
      ReturnsSooner lane than (own_from mine calls events)
  own_returns_sooner lane than [] calls form own also sooner = elim sooner [ ]
  own_returns_sooner lane than (e ∷ events) calls form own also (sooner_next reply) =
      subst (λ (k : Bool). ReturnsSooner lane than (kept_as k e (own_from mine (open_then calls e) events)))
      (sym own) (sooner_next reply)
  own_returns_sooner lane than (e ∷ events) calls form own also (sooner_later other not apart rest) =
      by (is_own mine calls e) (own_returns_sooner lane than events (open_then calls e) form.1
      (still_own calls lane e form.0 not own) (still_own calls than e form.0 apart also) rest)
    where
      by : (k : Bool) {xs : List Event} → ReturnsSooner lane than xs → ReturnsSooner lane than (kept_as k e xs)
      by true is_later = sooner_later e not apart is_later
      by false is_later = is_later
