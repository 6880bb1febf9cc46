-- A run is stuck at an event exactly where it is as an observed history.
use Rattle.std.proofs.Common.{◌≡◌, ◌≢◌, ◌⊎◌, ℕ, suc, zero, ◌+◌, ◌==◌, Bool, List, [], ◌∷◌, ◌++◌, refl}
use Rattle.std.proofs.Common.{sym, ◌∙◌, ap, subst, inl, inr, arith, add-one, Option, Some, None}
use Rattle.std.specs.Prelude.{slice_get, map, take, drop, nat_lt, ◌&&◌, ◌||◌, if◌then◌else◌, ◌↔◌, is_some, IsSome}
use Rattle.std.specs.List.{Contains}
use Rattle.std.proofs.lemmas.Bool.{cases_eq, false≢true}
use Rattle.std.proofs.lemmas.Bool.Decides.{nat_tests}
use Rattle.std.proofs.lemmas.Option.{none-some, same_Some, slice_get-get_or}
use Rattle.stamp_core.specs.Limits.{Bounds}
use Rattle.stamp_core.specs.declared.call.Call.{Call}
use Rattle.stamp_core.specs.declared.reply.Reply.{Reply}
use Rattle.stamp_explain.specs.declared.observed.Observation.{Observation}
use Rattle.stamp_explain.specs.declared.observed.Returned.{Returned}
use Rattle.stamp_explain.specs.Observed.{observed_as, IsReturnAt}
use Rattle.stamp_explain.specs.Explained.{IsExplained}
use Rattle.stamp_explain.specs.Cut.{returned_by, cut_entries}
use Rattle.stamp_explain.proofs.Lists.{contains_at}
use Rattle.stamp_explain.proofs.Lists.{none_in_empty}
use Rattle.stamp_runs.specs.declared.event.Event.{Event}
use Rattle.stamp_runs.specs.declared.event.Event.TheVariants.{Begins, Returns, Withdraws}
use Rattle.stamp_runs.specs.Run.{EndsBy, IsEndOf, lane_of}
use Rattle.stamp_runs.specs.Run.EndsBy.{ends_next, ends_later}
use Rattle.stamp_runs.specs.BothRun.{AreExplained, AreStuckAt, Both, start}
use Rattle.stamp_runs.specs.Own.{AreInForm, AreInFormFrom, MayCome, none_open, open_then}
use Rattle.stamp_runs.proofs.Owning.{Calls, in_lane, in_other}
use Rattle.stamp_watch.specs.AsObserved.{Ending, ending_of, with_entry, entries_from, observed_of, IsStuckAtPosition}
use Rattle.stamp_watch.specs.AsObserved.{NoneIsWithdrawnLater}
use Rattle.stamp_watch.specs.AsObserved.Ending.{StaysOpen, EndsReturned, EndsWithdrawn}
use Rattle.stamp_watch.specs.WatchLaws.{StuckAsObserved, StuckAsSeen}
use Rattle.stamp_watch.proofs.Reading.{up_to}
use Rattle.stamp_watch.proofs.Numbered.{IsEntryOf, entry_returned, in_with_entry, with_entry_has, ended_by}
use Rattle.stamp_watch.proofs.Numbered.{ending_last}
use Rattle.stamp_watch.proofs.Numbered.{last_from, open_or_ended, return_ends, ending_spares}
use Rattle.stamp_watch.proofs.Form.{begins_next, form_up_to, may_come_at, open_other, past_end}
use Rattle.stamp_watch.proofs.AsObserved.{AreOfRun, run_explained, explained_run}
use Rattle.stamp_watch.proofs.Shortening.{returned_below, shortened, AreKept, shortened_run}

-- two lanes' calls do not end by one return
ends_apart : (a b n : ℕ) (events : List Event) (q r : Returned) → ending_of a n events ≡ EndsReturned q →
    ending_of b n events ≡ EndsReturned r → q.last ≡ r.last → a ≡ b
ends_apart a b n [] q r ends other same = absurd (open_or_ended ends)
ends_apart a b n (event ∷ events) q r ends other same = by (ended_by a n event events q ends)
    (ended_by b n event events r other) (λ late later. ends_apart a b (n + 1) events q r late later same)
  where
    by : ((event ≡ Returns a q.reply) × (q.last ≡ n)) ⊎
        ((¬ IsEndOf a event) × (ending_of a (n + 1) events ≡ EndsReturned q)) →
        ((event ≡ Returns b r.reply) × (r.last ≡ n)) ⊎
        ((¬ IsEndOf b event) × (ending_of b (n + 1) events ≡ EndsReturned r)) →
        (ending_of a (n + 1) events ≡ EndsReturned q → ending_of b (n + 1) events ≡ EndsReturned r → a ≡ b) → a ≡ b
    by (inl first) (inl second) more = ap lane_of (sym first.0 ∙ second.0)
    by (inl first) (inr second) more =
        absurd (omega (arith, first.1, same, ending_last b (n + 1) events r second.1))
    by (inr first) (inl second) more =
        absurd (omega (arith, second.1, same, ending_last a (n + 1) events q first.1))
    by (inr first) (inr second) more = more first.1 second.1

-- the return that ends an open call ends none that begins later
ends_none_later : (calls : Calls) (lane n : ℕ) (events : List Event) (e : Observation) (q r : Returned) →
    AreInFormFrom calls events → IsSome (calls lane) → ending_of lane n events ≡ EndsReturned q →
    Contains (entries_from n events) e → e.returned ≡ Some r → q.last ≡ r.last → ⊥
ends_none_later calls lane n [] e q r form is ends has back same = none_in_empty e has
ends_none_later calls lane n (Begins other call ∷ events) e q r form is ends has back same = by (in_with_entry other
    call n (ending_of other (n + 1) events) (entries_from (n + 1) events) e has) (λ later. ends_none_later
    (open_then calls (Begins other call)) lane (n + 1) events e q r form.1
    (ap is_some (in_other (Some call) (calls lane) apart) ∙ is) ends later back same)
  where
    apart : other ≢ lane
    apart e = false≢true (sym (ap is_some form.0) ∙ ap (λ (v : ℕ). is_some (calls v)) e ∙ is)

    by : IsEntryOf other call n (ending_of other (n + 1) events) e ⊎ Contains (entries_from (n + 1) events) e →
        (Contains (entries_from (n + 1) events) e → ⊥) → ⊥
    by (inl its) _ = apart (sym (ends_apart lane other (n + 1) events q r ends
        (entry_returned other call n (ending_of other (n + 1) events) e r its back) same))
    by (inr later) more = more later
ends_none_later calls lane n (event ∷ events) e q r form is ends has back same =
    by (ended_by lane n event events q ends) (λ apart more. ends_none_later (open_then calls event) lane (n + 1) events
    e q r form.1 (ap is_some (open_other lane calls event apart) ∙ is) more has back same)
  where
    by : ((event ≡ Returns lane q.reply) × (q.last ≡ n)) ⊎
        ((¬ IsEndOf lane event) × (ending_of lane (n + 1) events ≡ EndsReturned q)) →
        (¬ IsEndOf lane event → ending_of lane (n + 1) events ≡ EndsReturned q → ⊥) → ⊥
    by (inl here) _ = omega (arith, here.1, same, last_from (n + 1) events e r has back)
    by (inr past) more = more past.0 past.1

-- no two entries return at one position
HaveOwnLasts : List Observation → Type 0
HaveOwnLasts entries = (i j : ℕ) (e f : Observation) (q r : Returned) → slice_get entries i ≡ Some e →
    slice_get entries j ≡ Some f → e.returned ≡ Some q → f.returned ≡ Some r → q.last ≡ r.last → i ≡ j

own_lasts_more : (x : Observation) (entries : List Observation) →
    ((e : Observation) (q r : Returned) → Contains entries e → x.returned ≡ Some q → e.returned ≡ Some r →
    q.last ≢ r.last) → HaveOwnLasts entries → HaveOwnLasts (x ∷ entries)
unfolding HaveOwnLasts
own_lasts_more x entries others own zero zero e f q r at_e at_f back_e back_f same = refl
own_lasts_more x entries others own zero (suc j) e f q r at_e at_f back_e back_f same =
    absurd (others f q r (contains_at entries j f at_f)
    (ap (λ (o : Observation). o.returned) (same_Some x e at_e) ∙ back_e) back_f same)
own_lasts_more x entries others own (suc i) zero e f q r at_e at_f back_e back_f same =
    absurd (others e r q (contains_at entries i e at_e)
    (ap (λ (o : Observation). o.returned) (same_Some x f at_f) ∙ back_f) back_e (sym same))
own_lasts_more x entries others own (suc i) (suc j) e f q r at_e at_f back_e back_f same =
    ap suc (own i j e f q r at_e at_f back_e back_f same)

own_lasts_with : (lane : ℕ) (call : Call) (n : ℕ) (ending : Ending) (entries : List Observation) →
    ((e : Observation) (q r : Returned) → Contains entries e → ending ≡ EndsReturned q → e.returned ≡ Some r →
    q.last ≢ r.last) → HaveOwnLasts entries → HaveOwnLasts (with_entry lane call n ending entries)
own_lasts_with lane call n StaysOpen entries others own = own_lasts_more
    (record { thread = lane; call = call; first = n; returned = None }) entries
    (λ e q r has is back. absurd (none-some q is)) own
own_lasts_with lane call n (EndsReturned o) entries others own = own_lasts_more
    (record { thread = lane; call = call; first = n; returned = Some o }) entries
    (λ e q r has is back. others e q r has (ap EndsReturned (same_Some o q is)) back) own
own_lasts_with lane call n EndsWithdrawn entries others own = own

own_lasts : (calls : Calls) (n : ℕ) (events : List Event) → AreInFormFrom calls events →
    HaveOwnLasts (entries_from n events)
unfolding HaveOwnLasts
own_lasts calls n [] form = λ i j e f q r at_e at_f back_e back_f same. absurd (none-some e at_e)
own_lasts calls n (Begins lane call ∷ events) form = own_lasts_with lane call n (ending_of lane (n + 1) events)
    (entries_from (n + 1) events)
    (λ e q r has ends back same. ends_none_later (open_then calls (Begins lane call)) lane (n + 1)
    events e q r form.1 (ap is_some (in_lane (Some call) (calls lane) refl)) ends has back same)
    (own_lasts (open_then calls (Begins lane call)) (n + 1) events form.1)
own_lasts calls n (which ∷ events) form = own_lasts (open_then calls which) (n + 1) events form.1

-- so a cut at a return is the run up to there
cut_is_short : (last bound i end : ℕ) (entries : List Observation) →
    ((j k : ℕ) (e : Observation) → k ≡ i + j → slice_get entries j ≡ Some e →
    returned_by last bound k e.returned ≡ returned_below end e.returned) →
    cut_entries last bound i entries ≡ map (shortened end) entries
cut_is_short last bound i end [] each = refl
cut_is_short last bound i end (e ∷ entries) each =
    ap (λ (b : Bool). (if b then e else record e { returned = None }) ∷ cut_entries last bound (i + 1) entries)
    (each 0 i e (omega arith) refl) ∙ ap (λ (es : List Observation). shortened end e ∷ es)
    (cut_is_short last bound (i + 1) end entries (λ j k f at is. each (suc j) k f (omega arith) is))

module _ (events : List Event) (form : AreInForm events) (i : ℕ) (e : Observation) (r : Returned)
    (is_entry : slice_get (entries_from 0 events) i ≡ Some e) (returned : e.returned ≡ Some r)
  where
    own : (j : ℕ) (f : Observation) (q : Returned) → slice_get (entries_from 0 events) j ≡ Some f →
        f.returned ≡ Some q → q.last ≡ r.last → j ≡ i
    unfolding HaveOwnLasts
    own j f q at back same = own_lasts none_open 0 events form j i f e q r at is_entry back returned same

    pub cut_before_it : cut_entries r.last i 0 (entries_from 0 events) ≡
        map (shortened r.last) (entries_from 0 events)
    cut_before_it = cut_is_short r.last i 0 r.last (entries_from 0 events)
        (λ j k f at is. by j k f.returned at (λ q back. own j f q is back))
      where
        by : (j k : ℕ) (o : Option Returned) → k ≡ 0 + j → ((q : Returned) → o ≡ Some q → q.last ≡ r.last → j ≡ i) →
            returned_by r.last i k o ≡ returned_below r.last o
        by j k None at one = refl
        by j k (Some q) at one = test q.last (one q refl)
          where
            test : (n : ℕ) → (n ≡ r.last → j ≡ i) →
                (nat_lt n r.last || ((n == r.last) && nat_lt k i)) ≡ nat_lt n r.last
            test n here = grind (arith, nat_tests)

    pub cut_after_it : cut_entries r.last (i + 1) 0 (entries_from 0 events) ≡
        map (shortened (suc r.last)) (entries_from 0 events)
    cut_after_it = cut_is_short r.last (i + 1) 0 (suc r.last) (entries_from 0 events)
        (λ j k f at is. by j k f.returned at (λ q back. own j f q is back))
      where
        by : (j k : ℕ) (o : Option Returned) → k ≡ 0 + j → ((q : Returned) → o ≡ Some q → q.last ≡ r.last → j ≡ i) →
            returned_by r.last (i + 1) k o ≡ returned_below (suc r.last) o
        by j k None at one = refl
        by j k (Some q) at one = test q.last (one q refl)
          where
            test : (n : ℕ) → (n ≡ r.last → j ≡ i) →
                (nat_lt n r.last || ((n == r.last) && nat_lt k (i + 1))) ≡ nat_lt n (suc r.last)
            test n here = grind (arith, nat_tests)

-- the event at k, and the events up to it
pub take_none : (k : ℕ) (events : List Event) → slice_get events k ≡ None → take (suc k) events ≡ take k events
take_none zero [] none = refl
take_none (suc k) [] none = refl
take_none zero (x ∷ events) none = absurd (none-some x (sym none))
take_none (suc k) (x ∷ events) none = ap (λ (es : List Event). x ∷ es) (take_none k events none)

pub take_one : (k : ℕ) (events : List Event) (event : Event) → slice_get events k ≡ Some event →
    take (suc k) events ≡ take k events ++ event ∷ []
take_one k events event is = ap (λ (n : ℕ). take n events) (sym (add-one k)) ∙ up_to events k event is

withdrawn_at : (k lane : ℕ) (events : List Event) → slice_get events k ≡ Some (Withdraws lane) →
    EndsBy lane (Withdraws lane) (drop k events)
withdrawn_at zero lane [] is = absurd (none-some (Withdraws lane) is)
withdrawn_at (suc k) lane [] is = absurd (none-some (Withdraws lane) is)
withdrawn_at zero lane (x ∷ events) is = subst (λ (e : Event). EndsBy lane (Withdraws lane) (e ∷ events))
    (sym (same_Some x (Withdraws lane) is)) ends_next
withdrawn_at (suc k) lane (x ∷ events) is = withdrawn_at k lane events is

-- what is kept at a return is kept behind it
kept_past_return : (k : ℕ) (calls : Calls) (events : List Event) (u : ℕ) (reply : Reply) →
    slice_get events k ≡ Some (Returns u reply) → AreKept calls k events → AreKept calls (suc k) events
kept_past_return zero calls [] u reply is kept = absurd (none-some (Returns u reply) is)
kept_past_return (suc k) calls [] u reply is kept = absurd (none-some (Returns u reply) is)
kept_past_return zero calls (x ∷ events) u reply is kept = λ lane still withdrawn. past lane withdrawn
    (past_end u lane (calls lane) (subst (λ (e : Event). IsSome (open_then calls e lane)) first still))
  where
    first : x ≡ Returns u reply
    first = same_Some x (Returns u reply) is

    past : (lane : ℕ) → EndsBy lane (Withdraws lane) events → IsSome (calls lane) × (u ≢ lane) → ⊥
    past lane withdrawn before = kept lane before.0 (subst (λ (e : Event). EndsBy lane (Withdraws lane) (e ∷ events))
        (sym first) (ends_later (Returns u reply) before.1 withdrawn))
kept_past_return (suc k) calls (x ∷ events) u reply is kept =
    kept_past_return k (open_then calls x) events u reply is kept

-- an entry that returns so
record HasReturnAt (entries : List Observation) (r : Returned) : Type 0 where
  entry : Observation
  has : Contains entries entry
  back : entry.returned ≡ Some r

-- the call that returns so is open in this lane, or has its entry behind
abbrev IsOfCall : Option Call → Ending → List Observation → Returned → Type 0
IsOfCall was ending entries r = (IsSome was × (ending ≡ EndsReturned r)) ⊎ HasReturnAt entries r

call_past_end : (was : Option Call) (other lane : ℕ) (ending then_ending : Ending) (entries : List Observation)
    (r : Returned) → (other ≢ lane → ending ≡ then_ending) →
    IsOfCall (if other == lane then None else was) then_ending entries r → IsOfCall was ending entries r
call_past_end was other lane ending then_ending entries r spares (inr found) = inr found
call_past_end was other lane ending then_ending entries r spares (inl open_now) =
    let before = past_end other lane was open_now.0 in inl (before.0, spares before.1 ∙ open_now.1)

call_past_beginning : (was : Option Call) (other lane n : ℕ) (call : Call) (events : List Event) (r : Returned) →
    IsOfCall (if other == lane then Some call else was) (ending_of lane (n + 1) events)
    (entries_from (n + 1) events) r →
    IsOfCall was (ending_of lane (n + 1) events) (entries_from n (Begins other call ∷ events)) r
call_past_beginning was other lane n call events r (inr found) = inr (record {
  entry = found.entry;
  has = with_entry_has other call n (ending_of other (n + 1) events) (entries_from (n + 1) events) found.entry
      (inr found.has);
  back = found.back;
})
call_past_beginning was other lane n call events r (inl open_now) = by (cases_eq other lane)
  where
    is_its : other ≡ lane → IsEntryOf other call n (ending_of other (n + 1) events)
        (record { thread = other; call = call; first = n; returned = Some r })
    is_its same = rw (same, open_now.1) refl

    by : (other ≡ lane) ⊎ (other ≢ lane) →
        IsOfCall was (ending_of lane (n + 1) events) (entries_from n (Begins other call ∷ events)) r
    by (inl same) = inr (record {
      entry = record { thread = other; call = call; first = n; returned = Some r };
      has = with_entry_has other call n (ending_of other (n + 1) events) (entries_from (n + 1) events)
          (record { thread = other; call = call; first = n; returned = Some r }) (inl (is_its same));
      back = refl;
    })
    by (inr apart) = inl (sym (ap is_some (in_other (Some call) was apart)) ∙ open_now.0, open_now.1)

-- each return is that of a call
call_of_return : (calls : Calls) (n k : ℕ) (events : List Event) (lane : ℕ) (r : Returned) → r.last ≡ n + k →
    AreInFormFrom calls events → slice_get events k ≡ Some (Returns lane r.reply) →
    IsOfCall (calls lane) (ending_of lane n events) (entries_from n events) r
call_of_return calls n zero [] lane r at form is = absurd (none-some (Returns lane r.reply) is)
call_of_return calls n (suc k) [] lane r at form is = absurd (none-some (Returns lane r.reply) is)
call_of_return calls n zero (x ∷ events) lane r at form is = inl (
  subst (λ (e : Event). MayCome calls e) first form.0,
  subst (λ (e : Event). ending_of lane n (e ∷ events) ≡ EndsReturned r) (sym first)
      (return_ends lane lane n r.reply events refl ∙
      ap (λ (m : ℕ). EndsReturned (record { last = m; reply = r.reply })) (omega arith)),
)
  where
    first : x ≡ Returns lane r.reply
    first = same_Some x (Returns lane r.reply) is
call_of_return calls n (suc k) (Begins other call ∷ events) lane r at form is =
    call_past_beginning (calls lane) other lane n call events r
    (call_of_return (open_then calls (Begins other call)) (n + 1) k events lane r (omega arith)
    form.1 is)
call_of_return calls n (suc k) (event ∷ events) lane r at form is = call_past_end (calls lane) (lane_of event) lane
    (ending_of lane n (event ∷ events)) (ending_of lane (n + 1) events) (entries_from (n + 1) events) r
    (ending_spares lane n event events)
    (call_of_return (open_then calls event) (n + 1) k events lane r (omega arith) form.1 is)

-- and an entry that returned has its return among the events
abbrev IsReturnThere : ℕ → List Event → Type 0
IsReturnThere k events = (lane : ℕ) × ((reply : Reply) × (slice_get events k ≡ Some (Returns lane reply)))

return_of_ending : (lane n k : ℕ) (events : List Event) (r : Returned) → ending_of lane n events ≡ EndsReturned r →
    r.last ≡ n + k → IsReturnThere k events
return_of_ending lane n k [] r ends at = absurd (open_or_ended ends)
return_of_ending lane n k (event ∷ events) r ends at = by k at (ended_by lane n event events r ends)
    (λ j more there. return_of_ending lane (n + 1) j events r more there)
  where
    by : (m : ℕ) → r.last ≡ n + m → ((event ≡ Returns lane r.reply) × (r.last ≡ n)) ⊎
        ((¬ IsEndOf lane event) × (ending_of lane (n + 1) events ≡ EndsReturned r)) →
        ((j : ℕ) → ending_of lane (n + 1) events ≡ EndsReturned r → r.last ≡ n + 1 + j → IsReturnThere j events) →
        IsReturnThere m (event ∷ events)
    by zero last (inl here) more = (lane, (r.reply, ap (λ (e : Event). Some e) here.0))
    by (suc m) last (inl here) more = absurd (omega (arith, last, here.1))
    by zero last (inr past) more = absurd (omega (arith, last, ending_last lane (n + 1) events r past.1))
    by (suc m) last (inr past) more = more m past.1 (omega (arith, last))

return_of_entry : (n k : ℕ) (events : List Event) (e : Observation) (r : Returned) →
    Contains (entries_from n events) e → e.returned ≡ Some r → r.last ≡ n + k → IsReturnThere k events
return_of_entry n k [] e r has back at = absurd (none_in_empty e has)
return_of_entry n zero events e r has back at = let low = last_from n events e r has back in absurd (omega arith)
return_of_entry n (suc k) (Begins lane call ∷ events) e r has back at = by (in_with_entry lane call n
    (ending_of lane (n + 1) events) (entries_from (n + 1) events) e has)
    (λ later. return_of_entry (n + 1) k events e r later back (omega arith))
  where
    by : IsEntryOf lane call n (ending_of lane (n + 1) events) e ⊎ Contains (entries_from (n + 1) events) e →
        (Contains (entries_from (n + 1) events) e → IsReturnThere k events) → IsReturnThere k events
    by (inl is) _ = return_of_ending lane (n + 1) k events r
        (entry_returned lane call n (ending_of lane (n + 1) events) e r is back) (omega arith)
    by (inr later) more = more later
return_of_entry n (suc k) (Returns lane reply ∷ events) e r has back at =
    return_of_entry (n + 1) k events e r has back (omega arith)
return_of_entry n (suc k) (Withdraws lane ∷ events) e r has back at =
    return_of_entry (n + 1) k events e r has back (omega arith)

-- at the return of an entry, with the events up to it
module _ (limits : Bounds) (events : List Event) (form : AreInForm events) (i : ℕ) (e : Observation) (r : Returned)
    (is_entry : slice_get (entries_from 0 events) i ≡ Some e) (returned : e.returned ≡ Some r)
    (kept : AreKept none_open r.last events)
  where
    before : AreOfRun (map (shortened r.last) (entries_from 0 events)) (take r.last events)
    before = shortened_run r.last events kept

    there : IsReturnThere r.last events
    there = return_of_entry 0 r.last events e r (contains_at (entries_from 0 events) i e is_entry) returned
        (omega arith)

    after : AreOfRun (map (shortened (suc r.last)) (entries_from 0 events)) (take (suc r.last) events)
    after = shortened_run (suc r.last) events (kept_past_return r.last none_open events there.0
        there.1.0 there.1.1 kept)

    pub explained_before : AreExplained limits (take r.last events) →
        IsExplained (observed_as limits 1 (cut_entries r.last i 0 (entries_from 0 events)))
    explained_before explained = subst (λ (es : List Observation). IsExplained (observed_as limits 1 es))
        (sym (cut_before_it events form i e r is_entry returned))
        (run_explained limits 1 (map (shortened r.last) (entries_from 0 events)) (take r.last events) before explained)

    pub before_explained : IsExplained (observed_as limits 1 (cut_entries r.last i 0 (entries_from 0 events))) →
        AreExplained limits (take r.last events)
    before_explained explained = explained_run limits 1 (map (shortened r.last) (entries_from 0 events))
        (take r.last events) (form_up_to r.last none_open events form) before
        (subst (λ (es : List Observation). IsExplained (observed_as limits 1 es))
        (cut_before_it events form i e r is_entry returned) explained)

    pub explained_after : AreExplained limits (take (suc r.last) events) →
        IsExplained (observed_as limits 1 (cut_entries r.last (i + 1) 0 (entries_from 0 events)))
    explained_after explained = subst (λ (es : List Observation). IsExplained (observed_as limits 1 es))
        (sym (cut_after_it events form i e r is_entry returned))
        (run_explained limits 1 (map (shortened (suc r.last)) (entries_from 0 events)) (take (suc r.last) events) after
        explained)

    pub after_explained : IsExplained (observed_as limits 1 (cut_entries r.last (i + 1) 0 (entries_from 0 events))) →
        AreExplained limits (take (suc r.last) events)
    after_explained explained = explained_run limits 1 (map (shortened (suc r.last)) (entries_from 0 events))
        (take (suc r.last) events) (form_up_to (suc r.last) none_open events form) after
        (subst (λ (es : List Observation). IsExplained (observed_as limits 1 es))
        (cut_after_it events form i e r is_entry returned) explained)

stuck_there : (limits : Bounds) (events : List Event) (k : ℕ) → AreInForm events → NoneIsWithdrawnLater k events →
    AreStuckAt limits events k → IsStuckAtPosition (observed_of limits events) k
stuck_there limits events k form kept are = at (slice_get events k) refl
  where
    stuck : ¬ AreExplained limits (take (suc k) events)
    stuck explained = are.stuck (subst (λ (n : ℕ). AreExplained limits (take n events)) (sym (add-one k)) explained)

    here : (reply : Reply) → HasReturnAt (entries_from 0 events) (record { last = k; reply = reply }) →
        IsStuckAtPosition (observed_of limits events) k
    here reply found = record {
      entry = found.has.0;
      stuck = record {
        at = record {
          entry = found.entry;
          return = record { last = k; reply = reply };
          is_entry = place;
          returned = found.back;
        };
        explained = explained_before limits events form found.has.0 found.entry (record { last = k; reply = reply })
            place found.back kept are.explained;
        stuck = λ explained. stuck (after_explained limits events form found.has.0 found.entry
            (record { last = k; reply = reply }) place found.back kept explained);
      };
      here = refl;
    }
      where
        place : slice_get (entries_from 0 events) found.has.0 ≡ Some found.entry
        place = slice_get-get_or (entries_from 0 events) found.has.0 found.entry found.has.1 ∙
            ap (λ (o : Observation). Some o) found.has.2

    returned : (lane : ℕ) (reply : Reply) →
        IsOfCall None (ending_of lane 0 events) (entries_from 0 events) (record { last = k; reply = reply }) →
        IsStuckAtPosition (observed_of limits events) k
    returned lane reply (inl never) = absurd (false≢true never.0)
    returned lane reply (inr found) = here reply found

    by : (event : Event) → slice_get events k ≡ Some event → IsStuckAtPosition (observed_of limits events) k
    by (Begins lane call) is = absurd (stuck (subst (AreExplained limits)
        (sym (take_one k events (Begins lane call) is)) (begins_next (Both limits) start lane call (take k events)
        (ap is_some (may_come_at k none_open events (Begins lane call) form is)) are.explained)))
    by (Returns lane reply) is = returned lane reply (call_of_return none_open 0 k events lane
        (record { last = k; reply = reply }) (omega arith) form is)
    by (Withdraws lane) is = absurd (kept lane (may_come_at k none_open events (Withdraws lane) form is)
        (withdrawn_at k lane events is))

    at : (o : Option Event) → slice_get events k ≡ o → IsStuckAtPosition (observed_of limits events) k
    at None is = absurd (stuck (subst (AreExplained limits) (sym (take_none k events is)) are.explained))
    at (Some event) is = by event is

there_stuck : (limits : Bounds) (events : List Event) (k : ℕ) → AreInForm events → NoneIsWithdrawnLater k events →
    IsStuckAtPosition (observed_of limits events) k → AreStuckAt limits events k
there_stuck limits events k form kept found = subst (AreStuckAt limits events) found.here (record {
  explained = before_explained limits events form found.entry at.entry at.return at.is_entry at.returned now
      found.stuck.explained;
  stuck = λ explained. found.stuck.stuck (explained_after limits events form found.entry at.entry at.return at.is_entry
      at.returned now (subst (λ (n : ℕ). AreExplained limits (take n events)) (add-one at.return.last) explained));
})
  where
    at : IsReturnAt (entries_from 0 events) found.entry
    at = found.stuck.at

    now : AreKept none_open found.stuck.at.return.last events
    now = subst (λ (n : ℕ). AreKept none_open n events) (sym found.here) kept

pub stuck_as_observed : StuckAsObserved
stuck_as_observed limits events k form kept =
    ((λ are. stuck_there limits events k form kept are), (λ found. there_stuck limits events k form kept found))

-- a run up to an event, of which the event is the last
take_short : (k : ℕ) (events : List Event) → take k (take (suc k) events) ≡ take k events
take_short zero events = refl
take_short (suc k) [] = refl
take_short (suc k) (x ∷ events) = ap (λ (es : List Event). x ∷ es) (take_short k events)

take_twice : (k : ℕ) (events : List Event) → take k (take k events) ≡ take k events
take_twice zero events = refl
take_twice (suc k) [] = refl
take_twice (suc k) (x ∷ events) = ap (λ (es : List Event). x ∷ es) (take_twice k events)

withdrawn_alone : {lane : ℕ} {event : Event} → EndsBy lane (Withdraws lane) (event ∷ []) → event ≡ Withdraws lane
withdrawn_alone ends_next = refl
withdrawn_alone (ends_later event not none) = elim none [ ]

withdrawn_last : (k lane : ℕ) (events : List Event) → EndsBy lane (Withdraws lane) (drop k (take (suc k) events)) →
    slice_get events k ≡ Some (Withdraws lane)
withdrawn_last zero lane [] withdrawn = elim withdrawn [ ]
withdrawn_last (suc k) lane [] withdrawn = elim withdrawn [ ]
withdrawn_last zero lane (x ∷ events) withdrawn = ap (λ (e : Event). Some e) (withdrawn_alone withdrawn)
withdrawn_last (suc k) lane (x ∷ events) withdrawn = withdrawn_last k lane events withdrawn

pub stuck_as_seen : StuckAsSeen
stuck_as_seen limits events k form no_withdrawal = ((λ are. same.0 (shorter are)), (λ found. longer (same.1 found)))
  where
    none_later : NoneIsWithdrawnLater k (take (k + 1) events)
    none_later lane calls withdrawn = no_withdrawal lane (withdrawn_last k lane events
        (subst (λ (n : ℕ). EndsBy lane (Withdraws lane) (drop k (take n events))) (add-one k) withdrawn))

    same : AreStuckAt limits (take (k + 1) events) k ↔
        IsStuckAtPosition (observed_of limits (take (k + 1) events)) k
    same = stuck_as_observed limits (take (k + 1) events) k
        (form_up_to (k + 1) none_open events form) none_later

    first : take k (take (k + 1) events) ≡ take k events
    first = ap (λ (n : ℕ). take k (take n events)) (add-one k) ∙ take_short k events

    shorter : AreStuckAt limits events k → AreStuckAt limits (take (k + 1) events) k
    shorter are = record {
      explained = subst (AreExplained limits) (sym first) are.explained;
      stuck = λ explained. are.stuck (subst (AreExplained limits) (take_twice (k + 1) events) explained);
    }

    longer : AreStuckAt limits (take (k + 1) events) k → AreStuckAt limits events k
    longer are = record {
      explained = subst (AreExplained limits) first are.explained;
      stuck = λ explained. are.stuck (subst (AreExplained limits) (sym (take_twice (k + 1) events)) explained);
    }
