-- The events of a run, numbered, and the entries of its calls.
use Rattle.std.proofs.Common.{◌≡◌, ◌≢◌, ◌⊎◌, ℕ, suc, zero, ◌+◌, ◌<◌, ◌≤◌, ◌==◌, Bool, List, [], ◌∷◌, refl, sym, ◌∙◌}
use Rattle.std.proofs.Common.{ap, subst, inl, inr, arith, eq-eqb, ne_eqb, Some, None}
use Rattle.std.specs.Prelude.{slice_get, if◌then◌else◌}
use Rattle.std.specs.List.{Contains}
use Rattle.std.proofs.lemmas.Bool.{cases_eq}
use Rattle.std.proofs.lemmas.Option.{same_Some, none-some}
use Rattle.stamp_core.specs.declared.call.Call.{Call}
use Rattle.stamp_core.specs.declared.reply.Reply.{Reply}
use Rattle.stamp_explain.specs.declared.observed.Observation.{Observation}
use Rattle.stamp_explain.specs.declared.observed.Returned.{Returned}
use Rattle.stamp_explain.specs.Observed.{AllowsReply}
use Rattle.stamp_explain.proofs.Lists.{contains_at}
use Rattle.stamp_explain.proofs.Lists.{none_in_empty, contains_cases, contains_first, contains_rest}
use Rattle.stamp_runs.specs.declared.event.Event.{Event}
use Rattle.stamp_runs.specs.declared.event.Event.TheVariants.{Begins, Returns, Withdraws}
use Rattle.stamp_runs.specs.Run.{IsEndOf}
use Rattle.stamp_watch.specs.AsObserved.{Ending, ending_of, with_entry, entries_from}
use Rattle.stamp_watch.specs.AsObserved.Ending.{StaysOpen, EndsReturned, EndsWithdrawn}

-- what a test of two numbers chooses
if_same : (a b : ℕ) (x y : Ending) → a ≡ b → (if a == b then x else y) ≡ x
if_same a b x y same = ap (λ (t : Bool). if t then x else y) (eq-eqb a b same)

if_other : (a b : ℕ) (x y : Ending) → a ≢ b → (if a == b then x else y) ≡ y
if_other a b x y apart = ap (λ (t : Bool). if t then x else y) (ne_eqb a b apart)

-- how a return and a withdrawal end the calls of lanes
pub return_ends : (lane other n : ℕ) (reply : Reply) (events : List Event) → other ≡ lane →
    ending_of lane n (Returns other reply ∷ events) ≡ EndsReturned (record { last = n; reply = reply })
return_ends lane other n reply events same = if_same other lane (EndsReturned (record { last = n; reply = reply }))
    (ending_of lane (n + 1) events) same

pub withdrawal_ends : (lane other n : ℕ) (events : List Event) → other ≡ lane →
    ending_of lane n (Withdraws other ∷ events) ≡ EndsWithdrawn
withdrawal_ends lane other n events same = if_same other lane EndsWithdrawn (ending_of lane (n + 1) events) same

pub one_return : {q r : Returned} → EndsReturned q ≡ EndsReturned r → q ≡ r
one_return same = cc

pub open_or_ended : {r : Returned} → StaysOpen ≡ EndsReturned r → ⊥
open_or_ended same = cc

pub withdrawn_or_ended : {r : Returned} → EndsWithdrawn ≡ EndsReturned r → ⊥
withdrawn_or_ended same = cc

-- an event that does not end the call of a lane tells nothing of it
pub end_or_not : (lane : ℕ) (event : Event) → IsEndOf lane event ⊎ (¬ IsEndOf lane event)
end_or_not lane (Begins other call) = inr (λ none. none)
end_or_not lane (Returns other reply) = cases_eq other lane
end_or_not lane (Withdraws other) = cases_eq other lane

pub ending_spares : (lane n : ℕ) (event : Event) (events : List Event) → ¬ IsEndOf lane event →
    ending_of lane n (event ∷ events) ≡ ending_of lane (n + 1) events
ending_spares lane n (Begins other call) events not = refl
ending_spares lane n (Returns other reply) events not = if_other other lane
    (EndsReturned (record { last = n; reply = reply })) (ending_of lane (n + 1) events) not
ending_spares lane n (Withdraws other) events not =
    if_other other lane EndsWithdrawn (ending_of lane (n + 1) events) not

-- how an event ends a call does not depend on what comes then
pub end_told : (lane n : ℕ) (event : Event) (events others : List Event) → IsEndOf lane event →
    ending_of lane n (event ∷ events) ≡ ending_of lane n (event ∷ others)
end_told lane n (Begins other call) events others end = absurd end
end_told lane n (Returns other reply) events others end =
    return_ends lane other n reply events end ∙ sym (return_ends lane other n reply others end)
end_told lane n (Withdraws other) events others end =
    withdrawal_ends lane other n events end ∙ sym (withdrawal_ends lane other n others end)

-- a call that returns among these events does so by the first of them, or behind it
pub ended_by : (lane n : ℕ) (event : Event) (events : List Event) (r : Returned) →
    ending_of lane n (event ∷ events) ≡ EndsReturned r →
    ((event ≡ Returns lane r.reply) × (r.last ≡ n)) ⊎
    ((¬ IsEndOf lane event) × (ending_of lane (n + 1) events ≡ EndsReturned r))
ended_by lane n event events r ends = by (end_or_not lane event)
  where
    here : (e : Event) → IsEndOf lane e → ending_of lane n (e ∷ events) ≡ EndsReturned r →
        (e ≡ Returns lane r.reply) × (r.last ≡ n)
    here (Begins other call) end is = absurd end
    here (Returns other reply) same is = (
      ap (λ (v : ℕ). Returns v reply) same ∙
          ap (λ (q : Returned). Returns lane q.reply) (one_return
          (sym (return_ends lane other n reply events same) ∙ is)),
      ap (λ (q : Returned). q.last) (one_return (sym is ∙ return_ends lane other n reply events same)),
    )
    here (Withdraws other) same is =
        absurd (withdrawn_or_ended (sym (withdrawal_ends lane other n events same) ∙ is))

    by : IsEndOf lane event ⊎ (¬ IsEndOf lane event) → ((event ≡ Returns lane r.reply) × (r.last ≡ n)) ⊎
        ((¬ IsEndOf lane event) × (ending_of lane (n + 1) events ≡ EndsReturned r))
    by (inl end) = inl (here event end ends)
    by (inr not) = inr (not, sym (ending_spares lane n event events not) ∙ ends)

-- events have the numbers from this one on
pub ending_last : (lane n : ℕ) (events : List Event) (r : Returned) → ending_of lane n events ≡ EndsReturned r →
    n ≤ r.last
ending_last lane n [] r ends = absurd (open_or_ended ends)
ending_last lane n (event ∷ events) r ends = by (ended_by lane n event events r ends)
    (λ more. ending_last lane (n + 1) events r more)
  where
    by : ((event ≡ Returns lane r.reply) × (r.last ≡ n)) ⊎
        ((¬ IsEndOf lane event) × (ending_of lane (n + 1) events ≡ EndsReturned r)) →
        (ending_of lane (n + 1) events ≡ EndsReturned r → n + 1 ≤ r.last) → n ≤ r.last
    by (inl here) _ = omega (arith, here.1)
    by (inr past) later = omega (arith, later past.1)

-- the entry of a call that ends so; one that is withdrawn has none
abbrev pub IsEntryOf : ℕ → Call → ℕ → Ending → Observation → Type 0
IsEntryOf lane call first StaysOpen e = e ≡ record { thread = lane; call = call; first = first; returned = None }
IsEntryOf lane call first (EndsReturned r) e = e ≡ record {
  thread = lane;
  call = call;
  first = first;
  returned =
      Some r;
}
IsEntryOf lane call first EndsWithdrawn e = ⊥

-- what an entry tells of its call
pub record AreOfEntry (lane : ℕ) (call : Call) (first : ℕ) (e : Observation) : Type 0 where
  pub its_lane : e.thread ≡ lane
  pub its_call : e.call ≡ call
  pub its_first : e.first ≡ first

pub entry_tells : (lane : ℕ) (call : Call) (first : ℕ) (ending : Ending) (e : Observation) →
    IsEntryOf lane call first ending e → AreOfEntry lane call first e
entry_tells lane call first EndsWithdrawn e is = absurd is
entry_tells lane call first _ e is = record {
  its_lane = ap (λ (o : Observation). o.thread) is;
  its_call = ap (λ (o :
      Observation). o.call) is;
  its_first = ap (λ (o : Observation). o.first) is;
}

pub entry_returned : (lane : ℕ) (call : Call) (first : ℕ) (ending : Ending) (e : Observation) (r : Returned) →
    IsEntryOf lane call first ending e → e.returned ≡ Some r → ending ≡ EndsReturned r
entry_returned lane call first StaysOpen e r is back =
    absurd (none-some r (sym (ap (λ (o : Observation). o.returned) is) ∙ back))
entry_returned lane call first (EndsReturned q) e r is back =
    ap EndsReturned (same_Some q r (sym (ap (λ (o : Observation). o.returned) is) ∙ back))
entry_returned lane call first EndsWithdrawn e r is back = absurd is

pub one_entry : (lane : ℕ) (call : Call) (first : ℕ) (ending : Ending) (e f : Observation) →
    IsEntryOf lane call first ending e → IsEntryOf lane call first ending f → e ≡ f
one_entry lane call first EndsWithdrawn e f is other = absurd is
one_entry lane call first _ e f is other = is ∙ sym other

-- the call may have this reply by how it ends
abbrev pub IsReplyOf : Reply → Ending → Type 0
IsReplyOf reply StaysOpen = Unit {0}
IsReplyOf reply (EndsReturned r) = r.reply ≡ reply
IsReplyOf reply EndsWithdrawn = ⊥

pub entry_replies : (lane : ℕ) (call : Call) (first : ℕ) (ending : Ending) (e : Observation) (reply : Reply) →
    IsEntryOf lane call first ending e → AllowsReply e reply → IsReplyOf reply ending
entry_replies lane call first StaysOpen e reply is allows = tt
entry_replies lane call first (EndsReturned r) e reply is allows =
    subst (λ (o : Observation). AllowsReply o reply) is allows
entry_replies lane call first EndsWithdrawn e reply is allows = absurd is

-- a call that may have a reply has an entry, with this reply
pub record HasEntry (lane : ℕ) (call : Call) (first : ℕ) (ending : Ending) (reply : Reply) : Type 0 where
  pub entry : Observation
  pub is : IsEntryOf lane call first ending entry
  pub allows : AllowsReply entry reply

pub entry_of_reply : (lane : ℕ) (call : Call) (first : ℕ) (ending : Ending) (reply : Reply) →
    IsReplyOf reply ending → HasEntry lane call first ending reply
entry_of_reply lane call first StaysOpen reply replies = record {
  entry = record { thread = lane; call = call; first = first; returned = None };
  is = refl;
  allows = tt;
}
entry_of_reply lane call first (EndsReturned r) reply replies = record {
  entry = record { thread = lane; call = call; first = first; returned = Some r };
  is = refl;
  allows = replies;
}
entry_of_reply lane call first EndsWithdrawn reply replies = absurd replies

-- the entries with one more
pub in_with_entry : (lane : ℕ) (call : Call) (n : ℕ) (ending : Ending) (entries : List Observation)
    (e : Observation) → Contains (with_entry lane call n ending entries) e →
    IsEntryOf lane call n ending e ⊎ Contains entries e
in_with_entry lane call n StaysOpen entries e has = by (contains_cases
    (record { thread = lane; call = call; first = n; returned = None }) entries e has)
  where
    by : (record { thread = lane; call = call; first = n; returned = None } ≡ e) ⊎ Contains entries e →
        (e ≡ record { thread = lane; call = call; first = n; returned = None }) ⊎ Contains entries e
    by (inl is) = inl (sym is)
    by (inr later) = inr later
in_with_entry lane call n (EndsReturned r) entries e has = by (contains_cases
    (record { thread = lane; call = call; first = n; returned = Some r }) entries e has)
  where
    by : (record { thread = lane; call = call; first = n; returned = Some r } ≡ e) ⊎ Contains entries e →
        (e ≡ record { thread = lane; call = call; first = n; returned = Some r }) ⊎ Contains entries e
    by (inl is) = inl (sym is)
    by (inr later) = inr later
in_with_entry lane call n EndsWithdrawn entries e has = inr has

pub with_entry_has : (lane : ℕ) (call : Call) (n : ℕ) (ending : Ending) (entries : List Observation)
    (e : Observation) → IsEntryOf lane call n ending e ⊎ Contains entries e →
    Contains (with_entry lane call n ending entries) e
with_entry_has lane call n StaysOpen entries e (inl is) =
    contains_first (record { thread = lane; call = call; first = n; returned = None }) entries e (sym is)
with_entry_has lane call n StaysOpen entries e (inr has) =
    contains_rest (record { thread = lane; call = call; first = n; returned = None }) entries e has
with_entry_has lane call n (EndsReturned r) entries e (inl is) =
    contains_first (record { thread = lane; call = call; first = n; returned = Some r }) entries e (sym is)
with_entry_has lane call n (EndsReturned r) entries e (inr has) =
    contains_rest (record { thread = lane; call = call; first = n; returned = Some r }) entries e has
with_entry_has lane call n EndsWithdrawn entries e (inl is) = absurd is
with_entry_has lane call n EndsWithdrawn entries e (inr has) = has

pub first_from : (n : ℕ) (events : List Event) (e : Observation) → Contains (entries_from n events) e → n ≤ e.first
first_from n [] e has = absurd (none_in_empty e has)
first_from n (Begins lane call ∷ events) e has = by (in_with_entry lane call n (ending_of lane (n + 1) events)
    (entries_from (n + 1) events) e has) (λ later. first_from (n + 1) events e later)
  where
    by : IsEntryOf lane call n (ending_of lane (n + 1) events) e ⊎ Contains (entries_from (n + 1) events) e →
        (Contains (entries_from (n + 1) events) e → n + 1 ≤ e.first) → n ≤ e.first
    by (inl is) _ = let at = (entry_tells lane call n (ending_of lane (n + 1) events) e is).its_first in omega arith
    by (inr has) later = let low = later has in omega arith
first_from n (_ ∷ events) e has = let low = first_from (n + 1) events e has in omega arith

-- a call returns behind its beginning
pub last_from : (n : ℕ) (events : List Event) (e : Observation) (r : Returned) → Contains (entries_from n events) e →
    e.returned ≡ Some r → n < r.last
last_from n [] e r has back = absurd (none_in_empty e has)
last_from n (Begins lane call ∷ events) e r has back = by (in_with_entry lane call n (ending_of lane (n + 1) events)
    (entries_from (n + 1) events) e has) (λ later. last_from (n + 1) events e r later back)
  where
    by : IsEntryOf lane call n (ending_of lane (n + 1) events) e ⊎ Contains (entries_from (n + 1) events) e →
        (Contains (entries_from (n + 1) events) e → n + 1 < r.last) → n < r.last
    by (inl is) _ = let low = ending_last lane (n + 1) events r
        (entry_returned lane call n (ending_of lane (n + 1) events) e r is back) in omega arith
    by (inr has) later = let low = later has in omega arith
last_from n (_ ∷ events) e r has back = let low = last_from (n + 1) events e r has back in omega arith

-- no two entries begin at one position
abbrev pub HaveOwnFirsts : List Observation → Type 0
HaveOwnFirsts entries = (i j : ℕ) (e f : Observation) → slice_get entries i ≡ Some e → slice_get entries j ≡ Some f →
    e.first ≡ f.first → i ≡ j

own_firsts_more : (x : Observation) (entries : List Observation) →
    ((e : Observation) → Contains entries e → x.first < e.first) → HaveOwnFirsts entries → HaveOwnFirsts (x ∷ entries)
own_firsts_more x entries above own zero zero e f at_e at_f same = refl
own_firsts_more x entries above own zero (suc j) e f at_e at_f same =
    let less = above f (contains_at entries j f at_f) in
    let is : x.first ≡ e.first = ap (λ (o : Observation). o.first) (same_Some x e at_e) in absurd (omega arith)
own_firsts_more x entries above own (suc i) zero e f at_e at_f same =
    let less = above e (contains_at entries i e at_e) in
    let is : x.first ≡ f.first = ap (λ (o : Observation). o.first) (same_Some x f at_f) in absurd (omega arith)
own_firsts_more x entries above own (suc i) (suc j) e f at_e at_f same = ap suc (own i j e f at_e at_f same)

own_firsts_with : (lane : ℕ) (call : Call) (n : ℕ) (ending : Ending) (entries : List Observation) →
    ((e : Observation) → Contains entries e → n < e.first) → HaveOwnFirsts entries →
    HaveOwnFirsts (with_entry lane call n ending entries)
own_firsts_with lane call n StaysOpen entries above own = own_firsts_more
    (record { thread = lane; call = call; first = n; returned = None }) entries above own
own_firsts_with lane call n (EndsReturned r) entries above own = own_firsts_more
    (record { thread = lane; call = call; first = n; returned = Some r }) entries above own
own_firsts_with lane call n EndsWithdrawn entries above own = own

pub own_firsts : (n : ℕ) (events : List Event) → HaveOwnFirsts (entries_from n events)
own_firsts n [] = λ i j e f at_e at_f same. absurd (none-some e at_e)
own_firsts n (Begins lane call ∷ events) = own_firsts_with lane call n (ending_of lane (n + 1) events)
    (entries_from (n + 1) events) (λ e has. let low = first_from (n + 1) events e has in omega arith)
    (own_firsts (n + 1) events)
own_firsts n (_ ∷ events) = own_firsts (n + 1) events
