-- A way along the own events of an object, as one along all.
use Rattle.std.proofs.Common.{◌≡◌, ◌⊎◌, ℕ, suc, ◌+◌, ◌≤◌, Bool, true, false, List, [], ◌∷◌, length, get_or, refl, sym}
use Rattle.std.proofs.Common.{◌∙◌, ap, subst, inl, inr, arith}
use Rattle.std.specs.Prelude.{map, if◌then◌else◌}
use Rattle.std.proofs.lemmas.Bool.{cases_Bool}
use Rattle.stamp_core.specs.declared.call.Call.{Call}
use Rattle.stamp_core.specs.declared.reply.Reply.{Reply}
use Rattle.stamp_runs.specs.declared.event.Event.{Event}
use Rattle.stamp_runs.specs.Merged.{Ascends, with_point}
use Rattle.stamp_runs.specs.Object.{Object}
use Rattle.stamp_runs.specs.Own.{is_own, open_then, own_from, own_numbers_from}
use Rattle.stamp_runs.specs.Run.{Happens, Lanes, Sets}
use Rattle.stamp_runs.specs.Run.Phase.{Asks, Gets}
use Rattle.stamp_runs.specs.Trace.{LeadsBy, Taken, taken_at}
use Rattle.stamp_runs.specs.Trace.LeadsBy.{led_nowhere, by_taken, by_next}
use Rattle.stamp_runs.proofs.Owning.{Calls}

-- along all events, of which the own ones happen, calls take effect in this order
pub data LeadsAmong {S : Type 0} (mine : Call → Bool) (O : Object S) : Calls → ℕ → List Taken → List Event → S →
    Lanes → S → Lanes → Type 0 where
  among_none : {calls : Calls} {n : ℕ} {s : S} {lanes : Lanes} → LeadsAmong mine O calls n [] [] s lanes s lanes
  among_taken : {calls : Calls} {n : ℕ} {order : List Taken} {events : List Event} {s next t : S}
      {lanes after last : Lanes} → (lane : ℕ) (call : Call) (reply : Reply) → lanes lane ≡ Asks call →
      O s call reply next → Sets lanes after lane (Gets reply) →
      LeadsAmong mine O calls n order events next after t last →
      LeadsAmong mine O calls n (taken_at n (lane, reply) ∷ order) events s lanes t last
  among_own : {calls : Calls} {n : ℕ} {order : List Taken} {events : List Event} {s t : S}
      {lanes after last : Lanes} → (event : Event) → is_own mine calls event ≡ true → Happens event lanes after →
      LeadsAmong mine O (open_then calls event) (n + 1) order events s after t last →
      LeadsAmong mine O calls n order (event ∷ events) s lanes t last
  among_other : {calls : Calls} {n : ℕ} {order : List Taken} {events : List Event} {s t : S} {lanes last : Lanes} →
      (event : Event) → is_own mine calls event ≡ false →
      LeadsAmong mine O (open_then calls event) (n + 1) order events s lanes t last →
      LeadsAmong mine O calls n order (event ∷ events) s lanes t last

-- points that ascend
pub ascends_lower : {m n : ℕ} → m ≤ n → (order : List Taken) → Ascends n order → Ascends m order
ascends_lower le [] ascends = tt
ascends_lower {m} {n} le (x ∷ order) ascends = (let low : n ≤ x.point = ascends.0 in omega arith, ascends.1)

module _ {S : Type 0} (mine : Call → Bool) (O : Object S) where
  -- none takes effect before what comes first
  pub points_from : {calls : Calls} {n : ℕ} {x : Taken} {order : List Taken} {events : List Event} {s t : S}
      {a l : Lanes} → LeadsAmong mine O calls n (x ∷ order) events s a t l → n ≤ x.point
  points_from {n = n} (among_taken lane call reply asks step sets rest) = let same : n ≡ n = refl in omega arith
  points_from (among_own event is happens rest) = let low = points_from rest in omega arith
  points_from (among_other event not rest) = let low = points_from rest in omega arith

  pub among_ascends : {calls : Calls} {n : ℕ} {order : List Taken} {events : List Event} {s t : S} {a l : Lanes} →
      LeadsAmong mine O calls n order events s a t l → Ascends n order
  among_ascends among_none = tt
  among_ascends {n = n} (among_taken lane call reply asks step sets rest) =
      let same : n ≡ n = refl in (omega arith, among_ascends rest)
  among_ascends {n = n} {order = order} (among_own event is happens rest) =
      let less : n ≤ n + 1 = omega arith in ascends_lower less order (among_ascends rest)
  among_ascends {n = n} {order = order} (among_other event not rest) =
      let less : n ≤ n + 1 = omega arith in ascends_lower less order (among_ascends rest)

  module _ (tells : ℕ → ℕ) where
    at_end : {calls : Calls} {k n : ℕ} {order : List Taken} {s t : S} {a l : Lanes} → tells k ≡ n →
        LeadsBy O k order [] s a t l → LeadsAmong mine O calls n (map (with_point tells) order) [] s a t l
    at_end same led_nowhere = among_none
    at_end {calls} {k} {n} {s = s} {t} {a} {l} same (by_taken {order = order} lane call reply asks step sets rest) =
        subst (λ (m : ℕ). LeadsAmong mine O calls n (taken_at m (lane, reply) ∷ map (with_point tells) order) [] s a
        t l) (sym same) (among_taken lane call reply asks step sets (at_end same rest))

    until_own : {calls : Calls} {k n : ℕ} {order : List Taken} {own events : List Event} {s t : S} {a l : Lanes}
        (event : Event) → tells k ≡ n → is_own mine calls event ≡ true → LeadsBy O k order (event ∷ own) s a t l →
        ((more : List Taken) (u : S) (b : Lanes) → LeadsBy O (k + 1) more own u b t l →
        LeadsAmong mine O (open_then calls event) (n + 1) (map (with_point tells) more) events u b t l) →
        LeadsAmong mine O calls n (map (with_point tells) order) (event ∷ events) s a t l
    until_own {calls} {k} {n} {events = events} {s = s} {t} {a} {l} event same is (by_taken {order = order} lane call
        reply asks step sets rest) on =
        subst (λ (m : ℕ). LeadsAmong mine O calls n (taken_at m (lane, reply) ∷ map (with_point tells) order)
        (event ∷ events) s a t l) (sym same)
        (among_taken lane call reply asks step sets (until_own event same is rest on))
    until_own event same is (by_next itself happens rest) on = among_own event is happens (on _ _ _ rest)

    -- so the numbers of the own events tell the points
    abbrev pub Tells : ℕ → List ℕ → ℕ → Type 0
    Tells k numbers end = (i : ℕ) → tells (k + i) ≡ get_or numbers i end

    pub among : (events : List Event) (calls : Calls) (k n : ℕ) {order : List Taken} {s t : S} {a l : Lanes} →
        Tells k (own_numbers_from mine calls n events) (n + length events) →
        LeadsBy O k order (own_from mine calls events) s a t l →
        LeadsAmong mine O calls n (map (with_point tells) order) events s a t l
    among [] calls k n told way = at_end (ap tells zero ∙ told 0 ∙ same) way
      where
        zero : k ≡ k + 0
        zero = omega arith

        same : n + length {A = Event} [] ≡ n
        same = omega arith
    among (event ∷ events) calls k n {order} {s} {t} {a} {l} told way = by (cases_Bool (is_own mine calls event))
        (λ more u b told1 rest. among events (open_then calls event) (k + 1) (n + 1) {order = more} {s = u} {a = b}
        told1 rest)
        (λ told1 rest. among events (open_then calls event) k (n + 1) told1 rest)
      where
        then_calls : Calls
        then_calls = open_then calls event

        numbers : List ℕ
        numbers = own_numbers_from mine then_calls (n + 1) events

        own : List Event
        own = own_from mine then_calls events

        end : n + length (event ∷ events) ≡ n + 1 + length events
        end = omega arith

        all : Bool → Type 0
        all b = Tells k (if b then n ∷ numbers else numbers) (n + length (event ∷ events))

        by : (is_own mine calls event ≡ true) ⊎ (is_own mine calls event ≡ false) →
            ((more : List Taken) (u : S) (b : Lanes) → Tells (k + 1) numbers (n + 1 + length events) →
            LeadsBy O (k + 1) more own u b t l →
            LeadsAmong mine O then_calls (n + 1) (map (with_point tells) more) events u b t l) →
            (Tells k numbers (n + 1 + length events) → LeadsBy O k order own s a t l →
            LeadsAmong mine O then_calls (n + 1) (map (with_point tells) order) events s a t l) →
            LeadsAmong mine O calls n (map (with_point tells) order) (event ∷ events) s a t l
        by (inl is) past skip = until_own event (ap tells zero ∙ told1 0) is
            (subst (λ (b : Bool). LeadsBy O k order (if b then event ∷ own else own) s a t l) is way)
            (λ more u b rest. past more u b (λ i. ap tells (next i) ∙ told1 (suc i) ∙
            ap (λ (e : ℕ). get_or numbers i e) end) rest)
          where
            zero : k ≡ k + 0
            zero = omega arith

            next : (i : ℕ) → k + 1 + i ≡ k + suc i
            next i = omega arith

            told1 : Tells k (n ∷ numbers) (n + length (event ∷ events))
            told1 = subst (λ (b : Bool). Tells k (if b then n ∷ numbers else numbers)
                (n + length (event ∷ events))) is told
        by (inr not) past skip = among_other event not (skip (λ i. told1 i ∙ ap (λ (e : ℕ). get_or numbers i e) end)
            (subst (λ (b : Bool). LeadsBy O k order (if b then event ∷ own else own) s a t l) not way))
          where
            told1 : Tells k numbers (n + length (event ∷ events))
            told1 = subst (λ (b : Bool). Tells k (if b then n ∷ numbers else numbers)
                (n + length (event ∷ events))) not told
