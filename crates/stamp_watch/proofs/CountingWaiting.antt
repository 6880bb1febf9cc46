-- How many events of a lane wait.
use Rattle.std.proofs.Common.{◌≡◌, ◌≢◌, ◌⊎◌, ◌+◌, ◌<◌, ℕ, Bool, List, [], ◌∷◌, ◌++◌, length, get_or, set}
use Rattle.std.proofs.Common.{refl, sym, ◌∙◌, ap, subst, inl, inr, arith, ne_eqb}
use Rattle.std.specs.Prelude.{◌==◌, cond, replicate}
use Rattle.std.specs.List.{All}
use Rattle.std.specs.Bool.{IsTrue}
use Rattle.std.proofs.lemmas.Bool.{cases_eq, eq-eqb, eqb-true}
use Rattle.std.proofs.lemmas.List.{get_or-set_same, get_or-set_other, length-set, length-replicate, get_or-replicate}
use Rattle.std.proofs.lemmas.List.Elements.{All-cons, All-head, All-nil, All-tail}
use Rattle.std.proofs.lemmas.List.Sums.{sum_by-append, sum_by-cons}
use Rattle.stamp_core.specs.declared.call.Call.{Call}
use Rattle.stamp_runs.specs.Run.{lane_of}
use Rattle.stamp_runs.specs.declared.event.Event.{Event}
use Rattle.stamp_runs.specs.declared.event.Event.TheVariants.{Begins}
use Rattle.stamp_watch.specs.Ahead.{IsSpared}
use Rattle.stamp_watch.specs.declared.waiting.Waiting.{Waiting}
use Rattle.stamp_watch.specs.Waiting.{IsCounted, count_of}
use Rattle.stamp_watch.specs.inner.Delay.{IsAloneInFront, IsToBeAside}

abbrev pub one_of : ℕ → Event → ℕ
one_of lane e = cond (lane_of e == lane) 1 0

one_here : (lane : ℕ) (e : Event) → lane_of e ≡ lane → one_of lane e ≡ 1
one_here lane e same = ap (λ (b : Bool). cond b 1 0) (eq-eqb (lane_of e) lane same)

pub one_elsewhere : (lane : ℕ) (e : Event) → lane_of e ≢ lane → one_of lane e ≡ 0
one_elsewhere lane e apart = ap (λ (b : Bool). cond b 1 0) (ne_eqb (lane_of e) lane apart)

pub count_first : (lane : ℕ) (e : Event) (events : List Event) →
    count_of lane (e ∷ events) ≡ one_of lane e + count_of lane events
count_first lane e events = sum_by-cons (one_of lane) e events

pub count_behind : (lane : ℕ) (events : List Event) (e : Event) →
    count_of lane (events ++ e ∷ []) ≡ count_of lane events + one_of lane e
count_behind lane events e = let all : count_of lane (events ++ e ∷ []) ≡
    count_of lane events + count_of lane (e ∷ []) = sum_by-append (one_of lane) events (e ∷ []) in
    let one : count_of lane (e ∷ []) ≡ one_of lane e + count_of lane [] = count_first lane e [] in
    let none : count_of lane [] ≡ 0 = refl in omega (arith, all, one, none)

-- none is counted exactly where none is of the lane
pub none_counted : (lane : ℕ) (events : List Event) → count_of lane events ≡ 0 → IsSpared events lane
none_counted lane [] none = All-nil (λ (e : Event). lane_of e ≢ lane)
none_counted lane (e ∷ events) none = by (cases_eq (lane_of e) lane) (none_counted lane events
    (let first : count_of lane (e ∷ events) ≡ one_of lane e + count_of lane events = count_first lane e events in
    omega (arith, first, none)))
  where
    by : (lane_of e ≡ lane) ⊎ (lane_of e ≢ lane) → IsSpared events lane → IsSpared (e ∷ events) lane
    by (inl same) rest = absurd (let one : one_of lane e ≡ 1 = one_here lane e same in
        let first : count_of lane (e ∷ events) ≡ one_of lane e + count_of lane events = count_first lane e events in
        omega (arith, first, one, none))
    by (inr apart) rest = All-cons (λ (d : Event). lane_of d ≢ lane) e events apart rest

pub spared_counted : (lane : ℕ) (events : List Event) → IsSpared events lane → count_of lane events ≡ 0
spared_counted lane [] spared = refl
spared_counted lane (e ∷ events) spared =
    let first : count_of lane (e ∷ events) ≡ one_of lane e + count_of lane events = count_first lane e events in
    let none : one_of lane e ≡ 0 = one_elsewhere lane e
    (All-head (λ (d : Event). lane_of d ≢ lane) e events spared) in
    let rest : count_of lane events ≡ 0 = spared_counted lane events
    (All-tail (λ (d : Event). lane_of d ≢ lane) e events spared) in omega (arith, first, none, rest)

-- the events of the first one's lane are one more than those of it behind
pub first_counted : (old : Waiting) (e : Event) (rest : List Event) (d : ℕ) → IsCounted old →
    old.events.items ≡ e ∷ rest → get_or old.counts (lane_of e) d ≡ count_of (lane_of e) rest + 1
first_counted old e rest d is first_is =
    let low : lane_of e < 64 = All-head (λ (d : Event). lane_of d < 64) e rest
    (subst (All (λ (d : Event). lane_of d < 64)) first_is is.lanes) in
    let here : get_or old.counts (lane_of e) d ≡ count_of (lane_of e) old.events.items = is.counts (lane_of e) d low in
    let same : count_of (lane_of e) old.events.items ≡ count_of (lane_of e) (e ∷ rest) =
    ap (λ (xs : List Event). count_of (lane_of e) xs) first_is in
    let all : count_of (lane_of e) (e ∷ rest) ≡ one_of (lane_of e) e + count_of (lane_of e) rest =
    count_first (lane_of e) e rest in
    let one : one_of (lane_of e) e ≡ 1 = one_here (lane_of e) e refl in omega (arith, here, same, all, one)

module _ (old new : Waiting) (e : Event) (is : IsCounted old) where
  -- the first waits no longer
  module _ (first_is : old.events.items ≡ e ∷ new.events.items) where
    pub first_low : lane_of e < 64
    first_low = All-head (λ (d : Event). lane_of d < 64) e new.events.items
        (subst (All (λ (d : Event). lane_of d < 64)) first_is is.lanes)

    counted_here : (lane : ℕ) → count_of lane old.events.items ≡ one_of lane e + count_of lane new.events.items
    counted_here lane = ap (λ (xs : List Event). count_of lane xs) first_is ∙ count_first lane e new.events.items

    pub counted_pop : new.counts ≡ set old.counts (lane_of e) (count_of (lane_of e) new.events.items) → IsCounted new
    counted_pop counts_are = record {
      lanes = All-tail (λ (d : Event). lane_of d < 64) e new.events.items
          (subst (All (λ (d : Event). lane_of d < 64)) first_is is.lanes);
      many = ap (λ (xs : List ℕ). length xs) counts_are ∙
          length-set old.counts (lane_of e) (count_of (lane_of e) new.events.items) ∙ is.many;
      counts = λ lane d less. ap (λ (xs : List ℕ). get_or xs lane d) counts_are ∙ by lane d less
          (cases_eq (lane_of e) lane);
    }
      where
        by : (lane d : ℕ) → lane < 64 → (lane_of e ≡ lane) ⊎ (lane_of e ≢ lane) →
            get_or (set old.counts (lane_of e) (count_of (lane_of e) new.events.items)) lane d ≡
            count_of lane new.events.items
        by lane d less (inl same) = ap (λ (n : ℕ). get_or (set old.counts (lane_of e)
            (count_of (lane_of e) new.events.items)) n d) (sym same) ∙
            get_or-set_same old.counts (lane_of e) (count_of (lane_of e) new.events.items) d
            (let many : length old.counts ≡ 64 = is.many in
            let low : lane_of e < 64 = first_low in omega (arith, many, low)) ∙
            ap (λ (n : ℕ). count_of n new.events.items) same
        by lane d less (inr apart) = get_or-set_other old.counts (lane_of e) lane
            (count_of (lane_of e) new.events.items) d (λ is_it. apart (sym is_it)) ∙
            (let here : get_or old.counts lane d ≡ count_of lane old.events.items = is.counts lane d less in
            let all : count_of lane old.events.items ≡ one_of lane e + count_of lane new.events.items =
            counted_here lane in
            let none : one_of lane e ≡ 0 = one_elsewhere lane e apart in omega (arith, here, none, all))

pub counted_first : (waiting : Waiting) → waiting.events.items ≡ [] → waiting.counts ≡ replicate 64 0 → IsCounted
    waiting
counted_first waiting none counts_are = record {
  lanes = subst (All (λ (d : Event). lane_of d < 64)) (sym none) (All-nil (λ (d : Event). lane_of d < 64));
  many = ap (λ (xs : List ℕ). length xs) counts_are ∙ length-replicate {A = ℕ} 64 0;
  counts = λ lane d less. ap (λ (xs : List ℕ). get_or xs lane d) counts_are ∙ get_or-replicate {A = ℕ} 64 lane 0 d less
      ∙
      ap (λ (xs : List Event). count_of lane xs) (sym none);
}

-- whether the first event, which begins a call, is the only one of its lane
pub alone : (n lane : ℕ) (call : Call) (events : List Event) → get_or events 0 (Begins lane call) ≡ Begins lane call →
    0 < length events → n ≡ count_of lane events →
    (IsTrue (n == 1) → IsAloneInFront events) × (IsAloneInFront events → IsTrue (n == 1))
alone n lane call [] first some counted = absurd (omega (arith, some))
alone n lane call (e ∷ events) first some counted = subst (λ (d : Event). (IsTrue (n == 1) → IsToBeAside d events) ×
    (IsToBeAside d events → IsTrue (n == 1))) (sym first) (
      (λ one. none_counted lane events (let is_one : n ≡ 1 = eqb-true n 1 one in
          omega (arith, all, here, counted, is_one))),
      (λ spared. let none : count_of lane events ≡ 0 = spared_counted lane events spared in
          eq-eqb n 1 (omega (arith, all, here, counted, none))),
    )
  where
    all : count_of lane (e ∷ events) ≡ one_of lane e + count_of lane events
    all = count_first lane e events

    here : one_of lane e ≡ 1
    here = one_here lane e (ap lane_of first)
