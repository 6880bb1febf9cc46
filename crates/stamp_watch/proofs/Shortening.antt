-- A run up to one of its events, and the entries that it has then.
use Rattle.std.proofs.Common.{◌≡◌, ◌⊎◌, ℕ, suc, zero, ◌+◌, ◌<◌, ◌≤◌, Bool, true, false, List, [], ◌∷◌}
use Rattle.std.proofs.Common.{length, refl, sym, ◌∙◌, ap, subst, inl, inr, arith, eq-eqb, lt-ltb, le-ltb}
use Rattle.std.proofs.Common.{Option, Some, None, length-take}
use Rattle.std.specs.Prelude.{slice_get, map, take, drop, nat_lt, if◌then◌else◌, is_some, IsSome}
use Rattle.std.specs.List.{Contains, fold}
use Rattle.stamp_core.specs.declared.call.Call.{Call}
use Rattle.stamp_explain.specs.declared.observed.Observation.{Observation}
use Rattle.stamp_explain.specs.declared.observed.Returned.{Returned}
use Rattle.stamp_explain.proofs.Lists.{contains_map, from_map}
use Rattle.stamp_explain.proofs.Lists.{contains_at}
use Rattle.stamp_explain.proofs.Lists.{none_in_empty}
use Rattle.stamp_runs.specs.declared.event.Event.{Event}
use Rattle.stamp_runs.specs.declared.event.Event.TheVariants.{Begins, Returns, Withdraws}
use Rattle.stamp_runs.specs.Own.{none_open, open_then}
use Rattle.stamp_runs.specs.Run.{EndsBy, IsEndOf}
use Rattle.stamp_runs.specs.Run.EndsBy.{ends_next, ends_later}
use Rattle.stamp_runs.proofs.Owning.{Calls, in_lane}
use Rattle.stamp_watch.specs.AsObserved.{Ending, ending_of, entries_from}
use Rattle.stamp_watch.specs.AsObserved.Ending.{StaysOpen, EndsReturned, EndsWithdrawn}
use Rattle.stamp_watch.proofs.Numbered.{IsEntryOf, entry_tells, entry_returned, in_with_entry, with_entry_has}
use Rattle.stamp_watch.proofs.Numbered.{end_or_not, ending_last, ending_spares, first_from, own_firsts}
use Rattle.stamp_watch.proofs.Numbered.{return_ends, withdrawn_or_ended}
use Rattle.stamp_watch.proofs.Form.{still_open}
use Rattle.stamp_watch.proofs.Planning.{IsLate}
use Rattle.stamp_watch.proofs.AsObserved.{AreOfRun}

abbrev pub returned_below : ℕ → Option Returned → Bool
returned_below end None = false
returned_below end (Some r) = nat_lt r.last end

-- what returned at this position or later is open still
abbrev pub shortened : ℕ → Observation → Observation
shortened end e = if returned_below end e.returned then e else record e { returned = None }

same_first : (end : ℕ) (e : Observation) → (shortened end e).first ≡ e.first
same_first end e = by (returned_below end e.returned)
  where
    by : (b : Bool) → (if b then e else record e { returned = None }).first ≡ e.first
    by true = refl
    by false = refl

shortened_open : (end : ℕ) (e : Observation) → ((r : Returned) → e.returned ≡ Some r → end ≤ r.last) →
    (shortened end e).returned ≡ None
shortened_open end e later = by e.returned refl later
  where
    by : (o : Option Returned) → e.returned ≡ o → ((r : Returned) → o ≡ Some r → end ≤ r.last) →
        (if returned_below end o then e else record e { returned = None }).returned ≡ None
    by None is all = refl
    by (Some r) is all = ap (λ (b : Bool). (if b then e else record e { returned = None }).returned)
        (le-ltb r.last end (all r refl))

-- how a call ends, in the whole run and up to a position
data EndsUpTo (end : ℕ) : Ending → Ending → Type 0 where
  open_still : EndsUpTo end StaysOpen StaysOpen
  ended : {r : Returned} → r.last < end → EndsUpTo end (EndsReturned r) (EndsReturned r)
  cut_off : {r : Returned} → end ≤ r.last → EndsUpTo end (EndsReturned r) StaysOpen
  withdrawn : EndsUpTo end EndsWithdrawn EndsWithdrawn

-- the entry up to there
shortened_entry : (lane : ℕ) (call : Call) (first end : ℕ) (whole cut : Ending) (e : Observation) →
    EndsUpTo end whole cut → IsEntryOf lane call first whole e → IsEntryOf lane call first cut (shortened end e)
shortened_entry lane call first end whole cut e open_still is = ap (shortened end) is
shortened_entry lane call first end whole cut e (ended {r} less) is = ap (shortened end) is ∙
    ap (λ (b : Bool). if b then record { thread = lane; call = call; first = first; returned = Some r } else
    record { thread = lane; call = call; first = first; returned = None }) (lt-ltb r.last end less)
shortened_entry lane call first end whole cut e (cut_off {r} le) is = ap (shortened end) is ∙
    ap (λ (b : Bool). if b then record { thread = lane; call = call; first = first; returned = Some r } else
    record { thread = lane; call = call; first = first; returned = None }) (le-ltb r.last end le)
shortened_entry lane call first end whole cut e withdrawn is = is

-- each entry up to there is one of the whole run, shortened
record IsShortenedOf (end : ℕ) (e : Observation) (P : Observation → Type 0) : Type 0 where
  whole : Observation
  is : P whole
  same : shortened end whole ≡ e

lengthened_entry : (lane : ℕ) (call : Call) (first end : ℕ) (whole cut : Ending) (e : Observation) →
    EndsUpTo end whole cut → IsEntryOf lane call first cut e →
    IsShortenedOf end e (IsEntryOf lane call first whole)
lengthened_entry lane call first end whole cut e open_still is = record {
  whole = e;
  is = is;
  same = ap (shortened end) is ∙ sym is;
}
lengthened_entry lane call first end whole cut e (ended {r} less) is = record {
  whole = e;
  is = is;
  same = shortened_entry lane call first end whole cut e (ended less) is ∙ sym is;
}
lengthened_entry lane call first end whole cut e (cut_off {r} le) is = record {
  whole = record { thread = lane; call = call; first = first; returned = Some r };
  is = refl;
  same = shortened_entry lane call first end whole cut
      (record { thread = lane; call = call; first = first; returned = Some r }) (cut_off le) refl ∙ sym is;
}
lengthened_entry lane call first end whole cut e withdrawn is = absurd is

withdrawal_there : (lane n : ℕ) (event : Event) (events : List Event) → IsEndOf lane event →
    ending_of lane n (event ∷ events) ≡ EndsWithdrawn → event ≡ Withdraws lane
withdrawal_there lane n (Begins other call) events end is = absurd end
withdrawal_there lane n (Returns other reply) events end is = absurd
    (withdrawn_or_ended (sym is ∙ return_ends lane other n reply events end))
withdrawal_there lane n (Withdraws other) events end is = ap Withdraws end

withdrawn_by : (lane n : ℕ) (events : List Event) → ending_of lane n events ≡ EndsWithdrawn →
    EndsBy lane (Withdraws lane) events
withdrawn_by lane n [] ends = cc
withdrawn_by lane n (event ∷ events) ends = by (end_or_not lane event) (λ is. withdrawn_by lane (n + 1) events is)
  where
    by : IsEndOf lane event ⊎ (¬ IsEndOf lane event) →
        (ending_of lane (n + 1) events ≡ EndsWithdrawn → EndsBy lane (Withdraws lane) events) →
        EndsBy lane (Withdraws lane) (event ∷ events)
    by (inl end) _ = subst (λ (e : Event). EndsBy lane (Withdraws lane) (e ∷ events))
        (sym (withdrawal_there lane n event events end ends)) ends_next
    by (inr not) more = ends_later event not (more (sym (ending_spares lane n event events not) ∙ ends))

-- a call that is open behind the first m events is not withdrawn behind them
abbrev IsKept : ℕ → Calls → ℕ → List Event → Type 0
IsKept lane calls m events = IsSome (fold open_then calls (take m events) lane) →
    ¬ EndsBy lane (Withdraws lane) (drop m events)

end_up_to : (lane n m end : ℕ) (event : Event) (events : List Event) → n < end → IsEndOf lane event →
    EndsUpTo end (ending_of lane n (event ∷ events)) (ending_of lane n (event ∷ take m events))
end_up_to lane n m end (Begins other call) events less is = absurd is
end_up_to lane n m end (Returns other reply) events less same =
    rw (eq-eqb other lane same) (ended {r = record { last = n; reply = reply }} less)
end_up_to lane n m end (Withdraws other) events less same = rw (eq-eqb other lane same) withdrawn

ends_up_to : (calls : Calls) (lane n m end : ℕ) (events : List Event) → end ≡ n + m → IsSome (calls lane) →
    IsKept lane calls m events → EndsUpTo end (ending_of lane n events) (ending_of lane n (take m events))
ends_up_to calls lane n zero end events at begun kept = by (ending_of lane n events) refl
  where
    by : (x : Ending) → ending_of lane n events ≡ x → EndsUpTo end x StaysOpen
    by StaysOpen is = open_still
    by (EndsReturned r) is = let low = ending_last lane n events r is in cut_off (omega arith)
    by EndsWithdrawn is = absurd (kept begun (withdrawn_by lane n events is))
ends_up_to calls lane n (suc m) end [] at begun kept = open_still
ends_up_to calls lane n (suc m) end (event ∷ events) at begun kept = by (end_or_not lane event)
    (λ more. ends_up_to (open_then calls event) lane (n + 1) m end events (omega (arith, at)) more kept)
  where
    by : IsEndOf lane event ⊎ (¬ IsEndOf lane event) → (IsSome (open_then calls event lane) →
        EndsUpTo end (ending_of lane (n + 1) events) (ending_of lane (n + 1) (take m events))) →
        EndsUpTo end (ending_of lane n (event ∷ events)) (ending_of lane n (event ∷ take m events))
    by (inl is) _ = end_up_to lane n m end event events (omega (arith, at)) is
    by (inr not) more = subst (λ (x : Ending). EndsUpTo end x (ending_of lane n (event ∷ take m events)))
        (sym (ending_spares lane n event events not)) (subst (EndsUpTo end (ending_of lane (n + 1) events))
        (sym (ending_spares lane n event (take m events) not)) (more (still_open lane calls event not begun)))

-- so it is with each of them
abbrev pub AreKept : Calls → ℕ → List Event → Type 0
AreKept calls m events = (lane : ℕ) → IsKept lane calls m events

begins_up_to : (calls : Calls) (lane n m end : ℕ) (call : Call) (events : List Event) → end ≡ n + suc m →
    AreKept calls (suc m) (Begins lane call ∷ events) →
    EndsUpTo end (ending_of lane (n + 1) events) (ending_of lane (n + 1) (take m events))
begins_up_to calls lane n m end call events at kept = ends_up_to (open_then calls (Begins lane call)) lane (n + 1) m
    end events (omega arith) (ap is_some (in_lane (Some call) (calls lane) refl)) (kept lane)

-- the entries up to there are those of the whole run, shortened, but for such as begin later
lengthened : (calls : Calls) (n m end : ℕ) (events : List Event) (e : Observation) → end ≡ n + m →
    AreKept calls m events → Contains (entries_from n (take m events)) e →
    IsShortenedOf end e (Contains (entries_from n events))
lengthened calls n zero end events e at kept has = absurd (none_in_empty e has)
lengthened calls n (suc m) end [] e at kept has = absurd (none_in_empty e has)
lengthened calls n (suc m) end (Begins lane call ∷ events) e at kept has = by (in_with_entry lane call n
    (ending_of lane (n + 1) (take m events)) (entries_from (n + 1) (take m events)) e has) (λ later. lengthened
    (open_then calls (Begins lane call)) (n + 1) m end events e (omega arith) kept
    later)
  where
    by : IsEntryOf lane call n (ending_of lane (n + 1) (take m events)) e ⊎
        Contains (entries_from (n + 1) (take m events)) e → (Contains (entries_from (n + 1) (take m events)) e →
        IsShortenedOf end e (Contains (entries_from (n + 1) events))) →
        IsShortenedOf end e (Contains (entries_from n (Begins lane call ∷ events)))
    by (inl is) _ =
        let found : IsShortenedOf end e (IsEntryOf lane call n (ending_of lane (n + 1) events)) =
        lengthened_entry lane call n end (ending_of lane (n + 1) events) (ending_of lane (n + 1) (take m events)) e
        (begins_up_to calls lane n m end call events at kept) is in
        record {
          whole = found.whole;
          is = with_entry_has lane call n (ending_of lane (n + 1) events) (entries_from (n + 1) events) found.whole
              (inl found.is);
          same = found.same;
        }
    by (inr later) more =
        let found = more later in
        record {
          whole = found.whole;
          is = with_entry_has lane call n (ending_of lane (n + 1) events) (entries_from (n + 1) events) found.whole
              (inr found.is);
          same = found.same;
        }
lengthened calls n (suc m) end (Returns lane reply ∷ events) e at kept has = lengthened
    (open_then calls (Returns lane reply)) (n + 1) m end events e (omega arith) kept has
lengthened calls n (suc m) end (Withdraws lane ∷ events) e at kept has = lengthened
    (open_then calls (Withdraws lane)) (n + 1) m end events e (omega arith) kept has

shortens : (calls : Calls) (n m end : ℕ) (events : List Event) (e : Observation) → end ≡ n + m →
    AreKept calls m events → Contains (entries_from n events) e →
    Contains (entries_from n (take m events)) (shortened end e) ⊎ (end ≤ e.first)
shortens calls n zero end events e at kept has = let low = first_from n events e has in inr (omega arith)
shortens calls n (suc m) end [] e at kept has = absurd (none_in_empty e has)
shortens calls n (suc m) end (Begins lane call ∷ events) e at kept has = by (in_with_entry lane call n
    (ending_of lane (n + 1) events) (entries_from (n + 1) events) e has) (λ later. shortens
    (open_then calls (Begins lane call)) (n + 1) m end events e (omega arith) kept
    later)
  where
    more_of : Contains (entries_from (n + 1) (take m events)) (shortened end e) ⊎ (end ≤ e.first) →
        Contains (entries_from n (Begins lane call ∷ take m events)) (shortened end e) ⊎ (end ≤ e.first)
    more_of (inl is) = inl (with_entry_has lane call n (ending_of lane (n + 1) (take m events))
        (entries_from (n + 1) (take m events)) (shortened end e) (inr is))
    more_of (inr late) = inr late

    by : IsEntryOf lane call n (ending_of lane (n + 1) events) e ⊎ Contains (entries_from (n + 1) events) e →
        (Contains (entries_from (n + 1) events) e →
        Contains (entries_from (n + 1) (take m events)) (shortened end e) ⊎ (end ≤ e.first)) →
        Contains (entries_from n (Begins lane call ∷ take m events)) (shortened end e) ⊎ (end ≤ e.first)
    by (inl is) _ = inl (with_entry_has lane call n (ending_of lane (n + 1) (take m events))
        (entries_from (n + 1) (take m events)) (shortened end e) (inl (shortened_entry lane call n end
        (ending_of lane (n + 1) events) (ending_of lane (n + 1) (take m events)) e
        (begins_up_to calls lane n m end call events at kept) is)))
    by (inr later) more = more_of (more later)
shortens calls n (suc m) end (Returns lane reply ∷ events) e at kept has = shortens
    (open_then calls (Returns lane reply)) (n + 1) m end events e (omega arith) kept has
shortens calls n (suc m) end (Withdraws lane ∷ events) e at kept has = shortens
    (open_then calls (Withdraws lane)) (n + 1) m end events e (omega arith) kept has

-- a call returns behind where it began
returns_behind : (n : ℕ) (events : List Event) (e : Observation) (r : Returned) → Contains (entries_from n events) e →
    e.returned ≡ Some r → e.first < r.last
returns_behind n [] e r has back = absurd (none_in_empty e has)
returns_behind n (Begins lane call ∷ events) e r has back = by (in_with_entry lane call n
    (ending_of lane (n + 1) events) (entries_from (n + 1) events) e has)
    (λ later. returns_behind (n + 1) events e r later back)
  where
    by : IsEntryOf lane call n (ending_of lane (n + 1) events) e ⊎ Contains (entries_from (n + 1) events) e →
        (Contains (entries_from (n + 1) events) e → e.first < r.last) → e.first < r.last
    by (inl is) _ =
        let at = (entry_tells lane call n (ending_of lane (n + 1) events) e is).its_first in
        let low = ending_last lane (n + 1) events r
        (entry_returned lane call n (ending_of lane (n + 1) events) e r is back) in omega arith
    by (inr later) more = more later
returns_behind n (_ ∷ events) e r has back = returns_behind (n + 1) events e r has back

abbrev IsFrom : ℕ → List Observation → ℕ → Observation → Type 0
IsFrom m entries i y = (x : Observation) × ((slice_get entries i ≡ Some x) × (shortened m x ≡ y))

pub shortened_run : (m : ℕ) (events : List Event) → AreKept none_open m events →
    AreOfRun (map (shortened m) (entries_from 0 events)) (take m events)
shortened_run m events kept = record {
  inside = λ e has. inside e (lengthened none_open 0 m m events e (omega arith) kept has);
  each = λ i e at. each i e (from_map (shortened m) (entries_from 0 events) i e at);
  single = λ i j e at_i at_j. single i j e (from_map (shortened m) (entries_from 0 events) i e at_i)
      (from_map (shortened m) (entries_from 0 events) j e at_j);
}
  where
    inside : (e : Observation) → IsShortenedOf m e (Contains (entries_from 0 events)) →
        Contains (map (shortened m) (entries_from 0 events)) e
    inside e found = subst (λ (o : Observation). Contains (map (shortened m) (entries_from 0 events)) o) found.same
        (contains_map (shortened m) (entries_from 0 events) found.whole found.is)

    each : (i : ℕ) (e : Observation) → IsFrom m (entries_from 0 events) i e →
        Contains (entries_from 0 (take m events)) e ⊎ IsLate (length (take m events)) e
    each i e image = by (shortens none_open 0 m m events image.0 (omega arith) kept
        (contains_at (entries_from 0 events) i image.0 image.1.0))
      where
        by : Contains (entries_from 0 (take m events)) (shortened m image.0) ⊎ (m ≤ image.0.first) →
            Contains (entries_from 0 (take m events)) e ⊎ IsLate (length (take m events)) e
        by (inl has) = inl (subst (λ (o : Observation). Contains (entries_from 0 (take m events)) o) image.1.1 has)
        by (inr late) =
            let first : image.0.first ≡ e.first =
            sym (same_first m image.0) ∙ ap (λ (o : Observation). o.first) image.1.1 in
            inr (record {
              begins = omega (arith, length-take m events);
              open_still = sym (ap (λ (o : Observation). o.returned) image.1.1) ∙ shortened_open m image.0
                  (λ r back. let behind = returns_behind 0 events image.0 r
                  (contains_at (entries_from 0 events) i image.0 image.1.0) back in omega arith);
            })

    single : (i j : ℕ) (e : Observation) → IsFrom m (entries_from 0 events) i e →
        IsFrom m (entries_from 0 events) j e → i ≡ j
    single i j e a b = own_firsts 0 events i j a.0 b.0 a.1.0 b.1.0 (sym (same_first m a.0) ∙
        ap (λ (o : Observation). o.first) (a.1.1 ∙ sym b.1.1) ∙ same_first m b.0)
