-- The orders of two objects, as one of both.
use Rattle.std.proofs.Common.{◌≡◌, ◌⊎◌, ℕ, ◌+◌, ◌≤◌, ◌<◌, Bool, true, false, List, [], ◌∷◌, length, get_or}
use Rattle.std.proofs.Common.{Option, Some, None, refl, sym, ◌∙◌, ap, subst, inl, inr, arith}
use Rattle.std.specs.Prelude.{not, IsSome}
use Rattle.std.proofs.lemmas.Bool.{cases_lt, not-true, not_from_true}
use Rattle.std.proofs.lemmas.Option.{same_Some}
use Rattle.stamp_core.specs.declared.call.Call.{Call}
use Rattle.stamp_core.specs.declared.reply.Reply.{Reply}
use Rattle.stamp_runs.specs.declared.event.Event.{Event}
use Rattle.stamp_runs.specs.declared.event.Event.TheVariants.{Begins, Returns, Withdraws}
use Rattle.stamp_runs.specs.Merged.{Ascends, Merges, among_all}
use Rattle.stamp_runs.specs.Merged.Merges.{none_left, first_next, second_next}
use Rattle.stamp_runs.specs.Object.{Object}
use Rattle.stamp_runs.specs.Own.{AreInFormFrom, MayCome, is_own, is_own_call, none_open, open_then, own_events}
use Rattle.stamp_runs.specs.Own.{own_numbers}
use Rattle.stamp_runs.specs.Pairs.{Pair, not_of}
use Rattle.stamp_runs.specs.Run.{Happens, Lanes, Sets, all_idle, lane_of}
use Rattle.stamp_runs.specs.Run.Phase.{Idle, Asks, Gets}
use Rattle.stamp_runs.specs.RunLaws.{OrdersAscend, OrdersMerge}
use Rattle.stamp_runs.specs.Trace.{LeadsBy, Taken, taken_at}
use Rattle.stamp_runs.specs.Trace.LeadsBy.{led_nowhere, by_taken, by_next}
use Rattle.stamp_runs.proofs.Among.{LeadsAmong, among, among_ascends, ascends_lower, points_from}
use Rattle.stamp_runs.proofs.Among.LeadsAmong.{among_none, among_taken, among_own, among_other}
use Rattle.stamp_runs.proofs.Apart.{IsOpenAs, open_call}
use Rattle.stamp_runs.proofs.Lanes.{happens_as, idle_or_asks, none_some, set_of, sets_itself, sets_of}
use Rattle.stamp_runs.proofs.Lanes.{true_or_false}
use Rattle.stamp_runs.proofs.Owning.{AllFit, Calls, Fit, begins_opens, fit_then, own_call, returns_opens, still_open}
use Rattle.stamp_runs.proofs.Owning.{no_step, step_of_own, withdraws_opens}
use Rattle.stamp_runs.proofs.Owning.Fit.{is_free, is_mine, of_others}

-- how the lanes of one object fit those of both
module _ (mine : Call → Bool) where
  abbrev Fits : Calls → Lanes → Lanes → Type 0
  Fits = AllFit mine IsOpenAs

  -- a call of its own takes effect
  record TakesOwn (calls : Calls) (x : Lanes) (u : ℕ) (call : Call) : Type 0 where
    asks : x u ≡ Asks call
    its : calls u ≡ Some call
    own : mine call ≡ true

  takes_own : {calls : Calls} {x a : Lanes} (u : ℕ) (call : Call) → Fits calls x a → a u ≡ Asks call →
      TakesOwn calls x u call
  takes_own {calls} {x} {a} u call fits asks = by (fits u)
    where
      by : Fit mine IsOpenAs (calls u) (x u) (a u) → TakesOwn calls x u call
      by (is_free o idle other) = absurd (idle_or_asks other asks)
      by (of_others c o is idle is_open) = absurd (idle_or_asks idle asks)
      by (is_mine c o is same is_open) = record {
        asks = same ∙ asks;
        its = o ∙ ap Some (open_call is_open asks);
        own = subst (λ (d : Call). mine d ≡ true) (open_call is_open asks) is;
      }

  fits_taken : {calls : Calls} {x a after : Lanes} (u : ℕ) (call : Call) (reply : Reply) → Fits calls x a →
      TakesOwn calls x u call → Sets a after u (Gets reply) → Fits calls (set_of x u (Gets reply)) after
  fits_taken {calls} {x} u call reply fits takes sets = fit_then mine IsOpenAs u fits (still_open calls u)
      (sets_of x u (Gets reply)) sets (is_mine call takes.its takes.own refl (inr (reply, refl)))

  -- a call of the other one does
  fits_beside : {calls : Calls} {x a : Lanes} (u : ℕ) (call : Call) (reply : Reply) → Fits calls x a →
      calls u ≡ Some call → mine call ≡ false → Fits calls (set_of x u (Gets reply)) a
  fits_beside {calls} {x} {a} u call reply fits its not_own = by (fits u)
    where
      by : Fit mine IsOpenAs (calls u) (x u) (a u) → Fits calls (set_of x u (Gets reply)) a
      by (is_free o idle other) = absurd (none_some (sym o ∙ its))
      by (is_mine c o is same is_open) = absurd (true_or_false is
          (subst (λ (d : Call). mine d ≡ false) (same_Some _ _ (sym its ∙ o)) not_own))
      by (of_others c o is idle is_open) = fit_then mine IsOpenAs u fits (still_open calls u)
          (sets_of x u (Gets reply)) (sets_itself a u Idle idle) (of_others call its not_own refl (inr (reply, refl)))

  -- an event of its own
  own_is : (o : Option Call) (c : Call) → o ≡ Some c → mine c ≡ false → is_own_call mine o ≡ true → ⊥
  own_is o c is not_own own = true_or_false own (own_call mine o is not_own)

  same_there : {calls : Calls} {x a : Lanes} (event : Event) → MayCome calls event →
      is_own mine calls event ≡ true → Fits calls x a → x (lane_of event) ≡ a (lane_of event)
  same_there {calls} {x} {a} event may own fits = by event may own (fits (lane_of event))
    where
      by : (e : Event) → MayCome calls e → is_own mine calls e ≡ true →
          Fit mine IsOpenAs (calls (lane_of e)) (x (lane_of e)) (a (lane_of e)) → x (lane_of e) ≡ a (lane_of e)
      by e come is (is_free o idle other) = idle ∙ sym other
      by e come is (is_mine c o its same is_open) = same
      by (Begins u d) come is (of_others c o its idle is_open) = absurd (none_some (sym come ∙ o))
      by (Returns u r) come is (of_others c o its idle is_open) = absurd (own_is (calls u) c o its is)
      by (Withdraws u) come is (of_others c o its idle is_open) = absurd (own_is (calls u) c o its is)

  fits_own : {calls : Calls} {x a : Lanes} (x1 a1 : Lanes) (event : Event) → is_own mine calls event ≡ true →
      Fits calls x a →
      Happens event x x1 → Happens event a a1 → Fits (open_then calls event) x1 a1
  fits_own {calls} x1 a1 (Begins u c) own fits happens its = fit_then mine IsOpenAs u fits (begins_opens calls u c)
      happens.1 its.1 (is_mine c refl own refl (inl refl))
  fits_own {calls} x1 a1 (Returns u r) own fits happens its = fit_then mine IsOpenAs u fits (returns_opens calls u r)
      happens.1 its.1 (is_free refl refl refl)
  fits_own {calls} x1 a1 (Withdraws u) own fits happens its = fit_then mine IsOpenAs u fits (withdraws_opens calls u)
      happens.2 its.2 (is_free refl refl refl)

  -- an event of the other one
  idle_there : {calls : Calls} {x a : Lanes} (event : Event) → MayCome calls event →
      is_own mine calls event ≡ false → Fits calls x a → a (lane_of event) ≡ Idle
  idle_there {calls} {x} {a} event may not_own fits = by event may not_own (fits (lane_of event))
    where
      by : (e : Event) → MayCome calls e → is_own mine calls e ≡ false →
          Fit mine IsOpenAs (calls (lane_of e)) (x (lane_of e)) (a (lane_of e)) → a (lane_of e) ≡ Idle
      by e come is (is_free o idle other) = other
      by e come is (of_others c o its idle is_open) = idle
      by (Begins u d) come is (is_mine c o its same is_open) = absurd (none_some (sym come ∙ o))
      by (Returns u r) come is (is_mine c o its same is_open) =
          absurd (true_or_false (own_call mine (calls u) o its) is)
      by (Withdraws u) come is (is_mine c o its same is_open) =
          absurd (true_or_false (own_call mine (calls u) o its) is)

  fits_other : {calls : Calls} {x a : Lanes} (x1 : Lanes) (event : Event) → is_own mine calls event ≡ false →
      a (lane_of event) ≡ Idle → Fits calls x a → Happens event x x1 → Fits (open_then calls event) x1 a
  fits_other {calls} {a = a} x1 (Begins u c) not_own idle fits happens = fit_then mine IsOpenAs u fits
      (begins_opens calls u c) happens.1 (sets_itself a u Idle idle) (of_others c refl not_own refl (inl refl))
  fits_other {calls} {a = a} x1 (Returns u r) not_own idle fits happens = fit_then mine IsOpenAs u fits
      (returns_opens calls u r) happens.1 (sets_itself a u Idle idle) (is_free refl refl refl)
  fits_other {calls} {a = a} x1 (Withdraws u) not_own idle fits happens = fit_then mine IsOpenAs u fits
      (withdraws_opens calls u) happens.2 (sets_itself a u Idle idle) (is_free refl refl refl)

-- an event that may come is of one of the two
-- of two kinds of calls an event that may come is of one
other_call : (mine : Call → Bool) (o : Option Call) → IsSome o → is_own_call (not_of mine) o ≡ not (is_own_call mine o)
other_call mine None some = absurd (true_or_false some refl)
other_call mine (Some c) some = refl

pub opposite : (mine : Call → Bool) (calls : Calls) (event : Event) → MayCome calls event →
    is_own (not_of mine) calls event ≡ not (is_own mine calls event)
opposite mine calls (Begins u c) may = refl
opposite mine calls (Returns u r) may = other_call mine (calls u) may
opposite mine calls (Withdraws u) may = other_call mine (calls u) may

-- points that ascend do so in both
merged_ascend : (n : ℕ) {first second order : List Taken} → Merges first second order → Ascends n order →
    Ascends n first × Ascends n second
merged_ascend n none_left ascends = (tt, tt)
merged_ascend n (first_next {second = second} x rest) ascends = let both = merged_ascend x.point rest ascends.1 in
    ((ascends.0, both.0), ascends_lower ascends.0 second both.1)
merged_ascend n (second_next {first = first} x rest) ascends = let both = merged_ascend x.point rest ascends.1 in
    (ascends_lower ascends.0 first both.0, (ascends.0, both.1))

module _ {S : Type 0} (mine : Call → Bool) (O : Object S) where
  -- the first call takes effect now
  record TakesNow (calls : Calls) (n : ℕ) (x : Taken) (order : List Taken) (events : List Event) (s : S) (a : Lanes)
      (t : S) (l : Lanes) : Type 0 where
    call : Call
    next : S
    after : Lanes
    same : x ≡ taken_at n (x.lane, x.reply)
    asks : a x.lane ≡ Asks call
    step : O s call x.reply next
    sets : Sets a after x.lane (Gets x.reply)
    rest : LeadsAmong mine O calls n order events next after t l

  takes_now : {calls : Calls} {n : ℕ} {x : Taken} {order : List Taken} {events : List Event} {s t : S} {a l : Lanes} →
      x.point ≤ n → LeadsAmong mine O calls n (x ∷ order) events s a t l → TakesNow calls n x order events s a t l
  takes_now le (among_taken lane call reply asks step sets rest) = record {
    call = call;
    next = _;
    after = _;
    same = refl;
    asks = asks;
    step = step;
    sets = sets;
    rest = rest;
  }
  takes_now le (among_own event is happens rest) =
      let low = points_from mine O rest in absurd (omega arith)
  takes_now le (among_other event is rest) = let low = points_from mine O rest in absurd (omega arith)

  takes_at_end : {calls : Calls} {n : ℕ} {x : Taken} {order : List Taken} {s t : S} {a l : Lanes} →
      LeadsAmong mine O calls n (x ∷ order) [] s a t l → x.point ≤ n
  takes_at_end {n = n} (among_taken lane call reply asks step sets rest) = let same : n ≡ n = refl in omega arith

  -- or the next event comes first
  data GoesPast (calls : Calls) (n : ℕ) (order : List Taken) (event : Event) (events : List Event) (s : S) (a : Lanes)
      (t : S) (l : Lanes) : Type 0 where
    past_own : (after : Lanes) → is_own mine calls event ≡ true → Happens event a after →
        LeadsAmong mine O (open_then calls event) (n + 1) order events s after t l →
        GoesPast calls n order event events s a t l
    past_other : is_own mine calls event ≡ false →
        LeadsAmong mine O (open_then calls event) (n + 1) order events s a t l →
        GoesPast calls n order event events s a t l

  goes_past : {calls : Calls} {n : ℕ} {order : List Taken} {event : Event} {events : List Event} {s t : S}
      {a l : Lanes} → Ascends (n + 1) order → LeadsAmong mine O calls n order (event ∷ events) s a t l →
      GoesPast calls n order event events s a t l
  goes_past {n = n} ascends (among_taken lane call reply asks step sets rest) =
      let low : n + 1 ≤ n = ascends.0 in absurd (omega arith)
  goes_past ascends (among_own event is happens rest) = past_own _ is happens rest
  goes_past ascends (among_other event is rest) = past_other is rest

module _ {S T : Type 0} (mine : Call → Bool) (O : Object S) (P : Object T) where
  abbrev Both : Object (S × T)
  Both = Pair mine O P

  -- both orders, merged, from here on
  abbrev Join : List Event → Calls → ℕ → List Taken → List Taken → List Taken → Type 0
  Join events calls n first second order =
      (s s' : S) (t t' : T) (x a b a' b' : Lanes) → Fits mine calls x a → Fits (not_of mine) calls x b →
      LeadsAmong mine O calls n first events s a s' a' →
      LeadsAmong (not_of mine) P calls n second events t b t' b' →
      (last : Lanes) × LeadsBy Both n order events (s, t) x (s', t') last

  -- a call of the first takes effect
  join_first : {events : List Event} {calls : Calls} {n : ℕ} {first second order : List Taken} (x : Taken) →
      x.point ≤ n → Join events calls n first second order → Join events calls n (x ∷ first) second (x ∷ order)
  join_first {events} {calls} {n} {first} {order = order} x le on s s' t t' y a b a' b' fits fits_too way other = (
    then.0,
    subst (λ (z : Taken). LeadsBy Both n (z ∷ order) events (s, t) y (s', t') then.0) (sym now.same)
        (by_taken x.lane now.call x.reply takes.asks (
          step_of_own mine O refl takes.own now.step,
          no_step (not_of mine) P t x.reply (not_from_true (mine now.call) takes.own),
        ) (sets_of y x.lane (Gets x.reply)) then.1),
  )
    where
      now : TakesNow mine O calls n x first events s a s' a'
      now = takes_now mine O le way

      takes : TakesOwn mine calls y x.lane now.call
      takes = takes_own mine x.lane now.call fits now.asks

      then : (last : Lanes) × LeadsBy Both n order events (now.next, t) (set_of y x.lane (Gets x.reply)) (s', t') last
      then = on now.next s' t t' (set_of y x.lane (Gets x.reply)) now.after b a' b' (fits_taken mine x.lane now.call
          x.reply fits takes now.sets) (fits_beside (not_of mine) x.lane now.call x.reply fits_too takes.its
          (not_from_true (mine now.call) takes.own)) now.rest other

  -- or one of the other
  join_second : {events : List Event} {calls : Calls} {n : ℕ} {first second order : List Taken} (x : Taken) →
      x.point ≤ n → Join events calls n first second order → Join events calls n first (x ∷ second) (x ∷ order)
  join_second {events} {calls} {n} {second = second} {order = order} x le on s s' t t' y a b a' b' fits fits_too way
      other = (
        then.0,
        subst (λ (z : Taken). LeadsBy Both n (z ∷ order) events (s, t) y (s', t') then.0) (sym now.same)
            (by_taken x.lane now.call x.reply takes.asks (
              no_step mine O s x.reply (not-true (mine now.call) takes.own),
              step_of_own (not_of mine) P refl takes.own
                  now.step,
            ) (sets_of y x.lane (Gets x.reply)) then.1),
      )
    where
      now : TakesNow (not_of mine) P calls n x second events t b t' b'
      now = takes_now (not_of mine) P le other

      takes : TakesOwn (not_of mine) calls y x.lane now.call
      takes = takes_own (not_of mine) x.lane now.call fits_too now.asks

      then : (last : Lanes) × LeadsBy Both n order events (s, now.next) (set_of y x.lane (Gets x.reply)) (s', t') last
      then = on s s' now.next t' (set_of y x.lane (Gets x.reply)) a now.after a' b'
          (fits_beside mine x.lane now.call x.reply fits takes.its (not-true (mine now.call) takes.own))
          (fits_taken (not_of mine) x.lane now.call x.reply fits_too takes now.sets) way now.rest

  -- or the next event comes, of one of them
  join_past : {event : Event} {events : List Event} {calls : Calls} {n : ℕ} {first second order : List Taken} →
      MayCome calls event → Merges first second order → Ascends (n + 1) order →
      Join events (open_then calls event) (n + 1) first second order →
      Join (event ∷ events) calls n first second order
  join_past {event} {events} {calls} {n} {first} {second} {order} may merges ascends on s s' t t' x a b a' b' fits
      fits_too way other =
      by (goes_past mine O (merged_ascend (n + 1) merges ascends).0 way)
      (goes_past (not_of mine) P (merged_ascend (n + 1) merges ascends).1 other)
    where
      u : ℕ
      u = lane_of event

      by : GoesPast mine O calls n first event events s a s' a' →
          GoesPast (not_of mine) P calls n second event events t b t' b' →
          (last : Lanes) × LeadsBy Both n order (event ∷ events) (s, t) x (s', t') last
      by (past_own after own happens rest) (past_own after_too own_too happens_too rest_too) = absurd (true_or_false
          own (not-true (is_own mine calls event) (sym (opposite mine calls event may) ∙ own_too)))
      by (past_other none rest) (past_other none_too rest_too) = absurd (true_or_false
          (opposite mine calls event may ∙ ap not none) none_too)
      by (past_own after own happens rest) (past_other none rest_too) =
          let then_x : Lanes = set_of x u (after u) in
          let now : Happens event x then_x = happens_as a after x event happens (same_there mine event may own fits) in
          let then = on s s' t t' then_x after b a' b' (fits_own mine then_x after event own fits now happens)
          (fits_other (not_of mine) then_x event none (idle_there (not_of mine) event may none fits_too) fits_too now)
          rest
          rest_too in
          (then.0, by_next event now then.1)
      by (past_other none rest) (past_own after own happens rest_too) =
          let then_x : Lanes = set_of x u (after u) in
          let now : Happens event x then_x =
          happens_as b after x event happens (same_there (not_of mine) event may own fits_too) in
          let then = on s s' t t' then_x a after a' b' (fits_other mine then_x event none
          (idle_there mine event may none fits) fits now) (fits_own (not_of mine) then_x after event own
          fits_too now happens) rest rest_too in
          (then.0, by_next event now then.1)

  -- behind the last event
  join_at_end : {calls : Calls} {n : ℕ} {first second order : List Taken} → Merges first second order →
      Join [] calls n first second order
  join_at_end none_left s s' t t' x a b a' b' fits fits_too among_none among_none = (x, led_nowhere)
  join_at_end (first_next y rest) s s' t t' x a b a' b' fits fits_too way other =
      join_first y (takes_at_end mine O way) (join_at_end rest) s s' t t' x a b a' b' fits fits_too way other
  join_at_end (second_next y rest) s s' t t' x a b a' b' fits fits_too way other =
      join_second y (takes_at_end (not_of mine) P other) (join_at_end rest) s s' t t' x a b a' b' fits fits_too way
      other

  -- and before one
  abbrev JoinsAll : List Event → Calls → ℕ → Type 0
  JoinsAll events calls n = (first second order : List Taken) → Merges first second order → Ascends n order →
      Join events calls n first second order

  join_before : {event : Event} {events : List Event} {calls : Calls} {n : ℕ} → MayCome calls event →
      JoinsAll events (open_then calls event) (n + 1) → {first second order : List Taken} →
      Merges first second order → Ascends n order → Join (event ∷ events) calls n first second order
  join_before may on none_left ascends = join_past may none_left tt (on [] [] [] none_left tt)
  join_before {event} {events} {calls} {n} may on {first} {second} {order} (first_next {first = less} {order = more} y
      rest) ascends = by (cases_lt n y.point)
      (λ le. join_before may on rest (subst (λ (m : ℕ). Ascends m more) (same le) ascends.1))
    where
      same : y.point ≤ n → y.point ≡ n
      same le = let low : n ≤ y.point = ascends.0 in omega arith

      by : (n < y.point) ⊎ (y.point ≤ n) → (y.point ≤ n → Join (event ∷ events) calls n less second more) →
          Join (event ∷ events) calls n first second order
      by (inl later) now = let past : Ascends (n + 1) order = (omega arith, ascends.1) in
          join_past may (first_next y rest) past (on first second order (first_next y rest) past)
      by (inr le) now = join_first y le (now le)
  join_before {event} {events} {calls} {n} may on {first} {second} {order} (second_next {second = less} {order = more}
      y rest) ascends = by (cases_lt n y.point)
      (λ le. join_before may on rest (subst (λ (m : ℕ). Ascends m more) (same le) ascends.1))
    where
      same : y.point ≤ n → y.point ≡ n
      same le = let low : n ≤ y.point = ascends.0 in omega arith

      by : (n < y.point) ⊎ (y.point ≤ n) → (y.point ≤ n → Join (event ∷ events) calls n first less more) →
          Join (event ∷ events) calls n first second order
      by (inl later) now = let past : Ascends (n + 1) order = (omega arith, ascends.1) in
          join_past may (second_next y rest) past (on first second order (second_next y rest) past)
      by (inr le) now = join_second y le (now le)

  join : (events : List Event) (calls : Calls) (n : ℕ) → AreInFormFrom calls events → JoinsAll events calls n
  join [] calls n form first second order merges ascends = join_at_end merges
  join (event ∷ events) calls n form first second order merges ascends = join_before form.0
      (join events (open_then calls event) (n + 1) form.1) merges ascends

-- the points of all events are told by the numbers of the own ones
module _ {S : Type 0} (mine : Call → Bool) (O : Object S) where
  among_numbers : (events : List Event) {order : List Taken} {s t : S} {l : Lanes} →
      LeadsBy O 0 order (own_events mine events) s all_idle t l →
      LeadsAmong mine O none_open 0 (among_all mine events order) events s all_idle t l
  among_numbers events way = among mine O point events none_open 0 0 told way
    where
      point : ℕ → ℕ
      point k = get_or (own_numbers mine events) k (length events)

      told : (i : ℕ) → point (0 + i) ≡ get_or (own_numbers mine events) i (0 + length events)
      told i = ap point (here i) ∙ ap (λ (e : ℕ). get_or (own_numbers mine events) i e) end
        where
          here : (k : ℕ) → 0 + k ≡ k
          here k = omega arith

          end : length events ≡ 0 + length events
          end = omega arith

  pub orders_ascend : OrdersAscend mine O
  orders_ascend start events order s lanes way = among_ascends mine O (among_numbers events way)

pub orders_merge : {S T : Type 0} (mine : Call → Bool) (O : Object S) (P : Object T) → OrdersMerge mine O P
orders_merge mine O P start s other t events first second order one two form way way_too merges ascends =
    join mine O P events none_open 0 form _ _ order merges ascends start s other t all_idle all_idle all_idle one two
    (λ v. is_free refl refl refl) (λ v. is_free refl refl refl) (among_numbers mine O events way)
    (among_numbers (not_of mine) P events way_too)
