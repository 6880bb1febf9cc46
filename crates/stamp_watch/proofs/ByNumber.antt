-- Events by their numbers, and the entries of the calls that begin at them.
use Rattle.std.proofs.Common.{◌≡◌, ◌⊎◌, ℕ, suc, zero, ◌+◌, ◌<◌, List, [], ◌∷◌, refl, sym, ◌∙◌}
use Rattle.std.proofs.Common.{ap, subst, inl, inr, arith, Option, Some}
use Rattle.std.specs.Prelude.{slice_get, drop, take}
use Rattle.std.specs.List.{Contains}
use Rattle.std.proofs.lemmas.Option.{none-some, same_Some}
use Rattle.stamp_core.specs.declared.call.Call.{Call}
use Rattle.stamp_core.specs.declared.reply.Reply.{Reply}
use Rattle.stamp_explain.specs.declared.observed.Observation.{Observation}
use Rattle.stamp_explain.specs.declared.observed.Returned.{Returned}
use Rattle.stamp_explain.proofs.Lists.{none_in_empty}
use Rattle.stamp_runs.specs.declared.event.Event.{Event}
use Rattle.stamp_runs.specs.declared.event.Event.TheVariants.{Begins, Returns, Withdraws}
use Rattle.stamp_runs.specs.Run.{IsEndOf}
use Rattle.stamp_watch.specs.AsObserved.{ending_of, entries_from}
use Rattle.stamp_watch.specs.AsObserved.Ending.{StaysOpen, EndsReturned}
use Rattle.stamp_watch.proofs.Numbered.{IsEntryOf, in_with_entry, with_entry_has, return_ends, ending_spares}

-- the elements of a part of a list
pub in_take : {X : Type 0} (k j : ℕ) (xs : List X) (x : X) → slice_get (take k xs) j ≡ Some x →
    (j < k) × (slice_get xs j ≡ Some x)
in_take zero zero xs x at = absurd (none-some x at)
in_take zero (suc j) xs x at = absurd (none-some x at)
in_take (suc k) zero [] x at = absurd (none-some x at)
in_take (suc k) (suc j) [] x at = absurd (none-some x at)
in_take (suc k) zero (y ∷ xs) x at = (omega arith, at)
in_take (suc k) (suc j) (y ∷ xs) x at = let there = in_take k j xs x at in (omega (arith, there.0), there.1)

pub take_has : {X : Type 0} (k j : ℕ) (xs : List X) (x : X) → j < k → slice_get xs j ≡ Some x →
    slice_get (take k xs) j ≡ Some x
take_has zero j xs x less at = absurd (omega (arith, less))
take_has (suc k) zero [] x less at = absurd (none-some x at)
take_has (suc k) (suc j) [] x less at = absurd (none-some x at)
take_has (suc k) zero (y ∷ xs) x less at = at
take_has (suc k) (suc j) (y ∷ xs) x less at = take_has k j xs x (omega (arith, less)) at

pub in_drop : {X : Type 0} (n j k : ℕ) (xs : List X) (x : X) → k ≡ n + j → slice_get (drop n xs) j ≡ Some x →
    slice_get xs k ≡ Some x
in_drop zero j k xs x is at = subst (λ (i : ℕ). slice_get xs i ≡ Some x) (omega (arith, is)) at
in_drop (suc n) zero k [] x is at = absurd (none-some x at)
in_drop (suc n) (suc j) k [] x is at = absurd (none-some x at)
in_drop (suc n) j zero (y ∷ xs) x is at = absurd (omega (arith, is))
in_drop (suc n) j (suc k) (y ∷ xs) x is at = in_drop n j k xs x (omega (arith, is)) at

pub drop_has : {X : Type 0} (n j k : ℕ) (xs : List X) (x : X) → k ≡ n + j → slice_get xs k ≡ Some x →
    slice_get (drop n xs) j ≡ Some x
drop_has zero j k xs x is at = subst (λ (i : ℕ). slice_get xs i ≡ Some x) (omega (arith, is)) at
drop_has (suc n) j zero xs x is at = absurd (omega (arith, is))
drop_has (suc n) j (suc k) [] x is at = absurd (none-some x at)
drop_has (suc n) j (suc k) (y ∷ xs) x is at = drop_has n j k xs x (omega (arith, is)) at

-- an entry of a run begins at an event
pub record BeginsThere (n : ℕ) (events : List Event) (e : Observation) : Type 0 where
  pub number : ℕ
  pub first : ℕ
  pub lane : ℕ
  pub call : Call
  pub first_is : first ≡ n + number
  pub at : slice_get events number ≡ Some (Begins lane call)
  pub is : IsEntryOf lane call first (ending_of lane (first + 1) (drop (suc number) events)) e

begins_past : (n : ℕ) (event : Event) (events : List Event) (e : Observation) → BeginsThere (n + 1) events e →
    BeginsThere n (event ∷ events) e
begins_past n event events e there = record {
  number = suc there.number;
  first = there.first;
  lane = there.lane;
  call = there.call;
  first_is = omega (arith, there.first_is);
  at = there.at;
  is = there.is;
}

pub entry_begins : (n : ℕ) (events : List Event) (e : Observation) → Contains (entries_from n events) e →
    BeginsThere n events e
entry_begins n [] e has = absurd (none_in_empty e has)
entry_begins n (Begins lane call ∷ events) e has = by (in_with_entry lane call n (ending_of lane (n + 1) events)
    (entries_from (n + 1) events) e has) (λ later. entry_begins (n + 1) events e later)
  where
    by : IsEntryOf lane call n (ending_of lane (n + 1) events) e ⊎ Contains (entries_from (n + 1) events) e →
        (Contains (entries_from (n + 1) events) e → BeginsThere (n + 1) events e) →
        BeginsThere n (Begins lane call ∷ events) e
    by (inl is) _ = record {
      number = 0;
      first = n;
      lane = lane;
      call = call;
      first_is = omega arith;
      at = refl;
      is = is;
    }
    by (inr later) more = begins_past n (Begins lane call) events e (more later)
entry_begins n (which ∷ events) e has = begins_past n which events e (entry_begins (n + 1) events e has)

pub begins_entry : (n number first lane : ℕ) (call : Call) (events : List Event) (e : Observation) →
    first ≡ n + number → slice_get events number ≡ Some (Begins lane call) →
    IsEntryOf lane call first (ending_of lane (first + 1) (drop (suc number) events)) e →
    Contains (entries_from n events) e
begins_entry n zero first lane call [] e first_is at is = absurd (none-some (Begins lane call) at)
begins_entry n (suc k) first lane call [] e first_is at is = absurd (none-some (Begins lane call) at)
begins_entry n zero first lane call (x ∷ events) e first_is at is =
    subst (λ (y : Event). Contains (entries_from n (y ∷ events)) e) (sym (same_Some x (Begins lane call) at))
    (with_entry_has lane call n (ending_of lane (n + 1) events) (entries_from (n + 1) events) e
    (inl (subst (λ (p : ℕ). IsEntryOf lane call p (ending_of lane (p + 1) events) e) (omega (arith, first_is)) is)))
begins_entry n (suc k) first lane call (Begins other c ∷ events) e first_is at is = with_entry_has other c n
    (ending_of other (n + 1) events) (entries_from (n + 1) events) e
    (inr (begins_entry (n + 1) k first lane call events e (omega (arith, first_is)) at is))
begins_entry n (suc k) first lane call (Returns other reply ∷ events) e first_is at is =
    begins_entry (n + 1) k first lane call events e (omega (arith, first_is)) at is
begins_entry n (suc k) first lane call (Withdraws other ∷ events) e first_is at is =
    begins_entry (n + 1) k first lane call events e (omega (arith, first_is)) at is

-- how a lane's call ends is told by the first end of it
pub ending_at : (lane n k last : ℕ) (events : List Event) (reply : Reply) → last ≡ n + k →
    slice_get events k ≡ Some (Returns lane reply) →
    ((j : ℕ) (event : Event) → j < k → slice_get events j ≡ Some event → ¬ IsEndOf lane event) →
    ending_of lane n events ≡ EndsReturned (record { last = last; reply = reply })
ending_at lane n zero last [] reply is at spared = absurd (none-some (Returns lane reply) at)
ending_at lane n (suc k) last [] reply is at spared = absurd (none-some (Returns lane reply) at)
ending_at lane n zero last (x ∷ events) reply is at spared =
    subst (λ (e : Event). ending_of lane n (e ∷ events) ≡ EndsReturned (record { last = last; reply = reply }))
    (sym (same_Some x (Returns lane reply) at)) (return_ends lane lane n reply events refl ∙
    ap (λ (m : ℕ). EndsReturned (record { last = m; reply = reply })) (omega (arith, is)))
ending_at lane n (suc k) last (x ∷ events) reply is at spared =
    ending_spares lane n x events (spared 0 x (omega arith) refl) ∙ ending_at lane (n + 1) k last events reply
    (omega (arith, is)) at (λ j event less there. spared (suc j) event (omega (arith, less)) there)

pub ending_none : (lane n : ℕ) (events : List Event) →
    ((j : ℕ) (event : Event) → slice_get events j ≡ Some event → ¬ IsEndOf lane event) →
    ending_of lane n events ≡ StaysOpen
ending_none lane n [] spared = refl
ending_none lane n (x ∷ events) spared = ending_spares lane n x events (spared 0 x refl) ∙
    ending_none lane (n + 1) events (λ j event there. spared (suc j) event there)

-- of each element one that stands so to it
pub record AreChosen {X Y : Type 0} (P : ℕ → X → Y → Type 0) (xs : List X) (ys : List Y) : Type 0 where
  pub forth : (j : ℕ) (x : X) → slice_get xs j ≡ Some x → (y : Y) × ((slice_get ys j ≡ Some y) × P j x y)
  pub back : (j : ℕ) (y : Y) → slice_get ys j ≡ Some y → (x : X) × ((slice_get xs j ≡ Some x) × P j x y)

pub chosen_past : {X Y : Type 0} (P : ℕ → X → Y → Type 0) (x : X) (y : Y) (xs : List X) (ys : List Y) → P 0 x y →
    AreChosen (λ j. P (suc j)) xs ys → AreChosen P (x ∷ xs) (y ∷ ys)
chosen_past {X} {Y} P x y xs ys its are = record { forth = forth; back = back }
  where
    forth : (j : ℕ) (z : X) → slice_get (x ∷ xs) j ≡ Some z →
        (w : Y) × ((slice_get (y ∷ ys) j ≡ Some w) × P j z w)
    forth zero z at = (y, (refl, subst (λ (v : X). P 0 v y) (same_Some x z at) its))
    forth (suc j) z at = are.forth j z at

    back : (j : ℕ) (z : Y) → slice_get (y ∷ ys) j ≡ Some z →
        (w : X) × ((slice_get (x ∷ xs) j ≡ Some w) × P j w z)
    back zero z at = (x, (refl, subst (P 0 x) (same_Some y z at) its))
    back (suc j) z at = are.back j z at

pub choose : {X Y : Type 0} (P : ℕ → X → Y → Type 0) (xs : List X) →
    ((j : ℕ) (x : X) → slice_get xs j ≡ Some x → (y : Y) × P j x y) → (ys : List Y) × AreChosen P xs ys
choose P [] may = (
  [],
  record { forth = λ j x at. absurd (none-some x at); back = λ j y at. absurd (none-some y at) },
)
choose P (x ∷ xs) may =
    let first = may 0 x refl in
    let rest = choose (λ j. P (suc j)) xs (λ j z at. may (suc j) z at) in
    (first.0 ∷ rest.0, chosen_past P x first.0 xs rest.0 first.1 rest.1)

-- how far the one number is behind the other
pub gap : (p q : ℕ) → p < q → (d : ℕ) × (q ≡ suc p + d)
gap p zero less = absurd (omega (arith, less))
gap zero (suc q) less = (q, omega arith)
gap (suc p) (suc q) less = let rest = gap p q (omega (arith, less)) in (rest.0, omega (arith, rest.1))

pub entry_is : (e : Observation) (lane first : ℕ) (call : Call) (o : Option Returned) → e.thread ≡ lane →
    e.call ≡ call → e.first ≡ first → e.returned ≡ o →
    e ≡ record { thread = lane; call = call; first = first; returned = o }
entry_is e lane first call o thread same begins back = λ i. record {
  thread = thread i;
  call = same i;
  first = begins i;
  returned = back i;
}

-- it is the entry of the same call, told otherwise
pub told_so : {lane other number first place : ℕ} {call same : Call} (events : List Event) (e : Observation) →
    lane ≡ other → call ≡ same → number ≡ place → first ≡ place →
    IsEntryOf other same place (ending_of other (place + 1) (drop (suc place) events)) e →
    IsEntryOf lane call first (ending_of lane (first + 1) (drop (suc number) events)) e
told_so events e one two three four is = rw (one, two, three, four) is
