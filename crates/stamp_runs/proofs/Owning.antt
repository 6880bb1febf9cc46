-- A run of one object among others' calls, as a run of its own calls.
use Rattle.std.proofs.Common.{◌≡◌, ◌≢◌, ◌⊎◌, ℕ, suc, Bool, true, false, List, [], ◌∷◌, Option, Some, None, refl, sym}
use Rattle.std.proofs.Common.{◌∙◌, ap, subst, inl, inr, eq-eqb, ne_eqb}
use Rattle.std.specs.Prelude.{◌==◌, if◌then◌else◌, IsSome}
use Rattle.std.specs.Bool.{MatchBool}
use Rattle.std.proofs.lemmas.Bool.{cases_eq, cases_Bool}
use Rattle.std.proofs.lemmas.Option.{same_Some}
use Rattle.stamp_core.specs.declared.call.Call.{Call}
use Rattle.stamp_core.specs.declared.reply.Reply.{Reply}
use Rattle.stamp_runs.specs.declared.event.Event.{Event}
use Rattle.stamp_runs.specs.declared.event.Event.TheVariants.{Begins, Returns, Withdraws}
use Rattle.stamp_runs.specs.Object.{Object}
use Rattle.stamp_runs.specs.Pairs.{Of}
use Rattle.stamp_runs.specs.Own.{AreInFormFrom, is_own_call, open_then, own_from}
use Rattle.stamp_runs.specs.Run.{Happens, Lanes, Phase, Sets, Survives}
use Rattle.stamp_runs.specs.Run.Leads.{leads_nowhere}
use Rattle.stamp_runs.specs.Run.Phase.{Idle, Asks, Gets}
use Rattle.stamp_runs.proofs.Lanes.{idle_or_asks, idle_or_gets, set_of, sets_itself, sets_of}
use Rattle.stamp_runs.proofs.Lanes.{none_some, true_or_false}
use Rattle.stamp_runs.proofs.Apart.{IsOpenAs, not_idle, open_call}
use Rattle.stamp_runs.proofs.Going.{GoesOnIn, more_in, survives_effect, survives_event}
use Rattle.stamp_runs.proofs.Going.GoesOnIn.{at_end, one_effect, one_event}

abbrev pub Calls : Type 0
Calls = ℕ → Option Call

-- one lane's open call becomes this
pub record Opens (calls after : Calls) (lane : ℕ) (call : Option Call) : Type 0 where
  pub here : after lane ≡ call
  pub others : (v : ℕ) → v ≢ lane → after v ≡ calls v

-- an event of this lane, and of another one
pub in_lane : {lane other : ℕ} (x y : Option Call) → lane ≡ other → (if lane == other then x else y) ≡ x
in_lane {lane} {other} x y same = ap (λ (b : Bool). if b then x else y) (eq-eqb lane other same)

pub in_other : {lane other : ℕ} (x y : Option Call) → lane ≢ other → (if lane == other then x else y) ≡ y
in_other {lane} {other} x y apart = ap (λ (b : Bool). if b then x else y) (ne_eqb lane other apart)

pub begins_opens : (calls : Calls) (lane : ℕ) (call : Call) →
    Opens calls (open_then calls (Begins lane call)) lane (Some call)
begins_opens calls lane call = record {
  here = in_lane (Some call) (calls lane) refl;
  others = λ v apart. in_other (Some call) (calls v) (λ e. apart (sym e));
}

pub returns_opens : (calls : Calls) (lane : ℕ) (reply : Reply) →
    Opens calls (open_then calls (Returns lane reply)) lane None
returns_opens calls lane reply = record {
  here = in_lane None (calls lane) refl;
  others = λ v apart. in_other None (calls v) (λ e. apart (sym e));
}

pub withdraws_opens : (calls : Calls) (lane : ℕ) → Opens calls (open_then calls (Withdraws lane)) lane None
withdraws_opens calls lane = record {
  here = in_lane None (calls lane) refl;
  others = λ v apart. in_other None (calls v) (λ e. apart (sym e));
}

-- a lane of all calls and of the own ones; where another's call is open this is so of the first
pub data Fit (mine : Call → Bool) (Q : Call → Phase → Type 0) (o : Option Call) (x y : Phase) : Type 0 where
  is_free : o ≡ None → x ≡ Idle → y ≡ Idle → Fit mine Q o x y
  is_mine : (c : Call) → o ≡ Some c → mine c ≡ true → x ≡ y → IsOpenAs c y → Fit mine Q o x y
  of_others : (c : Call) → o ≡ Some c → mine c ≡ false → y ≡ Idle → Q c x → Fit mine Q o x y

module _ (mine : Call → Bool) (Q : Call → Phase → Type 0) where
  abbrev pub AllFit : Calls → Lanes → Lanes → Type 0
  AllFit calls a b = (v : ℕ) → Fit mine Q (calls v) (a v) (b v)

  fit_as : {o p : Option Call} {x x' y y' : Phase} → p ≡ o → x' ≡ x → y' ≡ y → Fit mine Q o x y → Fit mine Q p x' y'
  fit_as {o} {p} {x} {x'} {y} {y'} e f g fit = subst (λ (z : Option Call). Fit mine Q z x' y') (sym e)
      (subst (λ (z : Phase). Fit mine Q o z y') (sym f) (subst (λ (z : Phase). Fit mine Q o x z) (sym g) fit))

  -- one lane of each becomes something else
  pub fit_then : {calls after : Calls} {a a1 b b1 : Lanes} {o : Option Call} {p q : Phase} (lane : ℕ) →
      AllFit calls a b →
      Opens calls after lane o → Sets a a1 lane p → Sets b b1 lane q → Fit mine Q o p q → AllFit after a1 b1
  fit_then {after = after} {a1 = a1} {b1 = b1} lane before opens sa sb now v = by (cases_eq v lane)
    where
      by : (v ≡ lane) ⊎ (v ≢ lane) → Fit mine Q (after v) (a1 v) (b1 v)
      by (inl same) = subst (λ (w : ℕ). Fit mine Q (after w) (a1 w) (b1 w)) (sym same)
          (fit_as opens.here sa.here sb.here now)
      by (inr apart) = fit_as (opens.others v apart) (sa.others v apart) (sb.others v apart) (before v)

pub still_open : (calls : Calls) (lane : ℕ) → Opens calls calls lane (calls lane)
still_open calls lane = record { here = refl; others = λ v apart. refl }

pub own_call : (mine : Call → Bool) (o : Option Call) {c : Call} {b : Bool} → o ≡ Some c → mine c ≡ b →
    is_own_call mine o ≡ b
own_call mine o {b = b} is same = subst (λ (x : Option Call). is_own_call mine x ≡ b) (sym is) same

module _ {S : Type 0} (mine : Call → Bool) (O : Object S) where
  abbrev pub FitOpen : Calls → Lanes → Lanes → Type 0
  FitOpen = AllFit mine IsOpenAs

  abbrev pub AsksOnly : Call → Phase → Type 0
  AsksOnly c phase = phase ≡ Asks c

  abbrev pub FitAsking : Calls → Lanes → Lanes → Type 0
  FitAsking = AllFit mine AsksOnly

  -- an event that is kept, or is not
  kept : {n : ℕ} {events : List Event} {s : S} {b : Lanes} {k : Bool} (event : Event) → k ≡ true →
      GoesOnIn O n (event ∷ events) s b → GoesOnIn O n (if k then event ∷ events else events) s b
  kept {n} {events} {s} {b} event is way =
      subst (λ (x : Bool). GoesOnIn O n (if x then event ∷ events else events) s b) (sym is) way

  left_out : {n : ℕ} {events : List Event} {s : S} {b : Lanes} {k : Bool} (event : Event) → k ≡ false →
      GoesOnIn O n events s b → GoesOnIn O n (if k then event ∷ events else events) s b
  left_out {n} {events} {s} {b} event is way =
      subst (λ (x : Bool). GoesOnIn O n (if x then event ∷ events else events) s b) (sym is) way

  was_kept : {n : ℕ} {events : List Event} {s : S} {b : Lanes} {k : Bool} (event : Event) → k ≡ true →
      GoesOnIn O n (if k then event ∷ events else events) s b → GoesOnIn O n (event ∷ events) s b
  was_kept {n} {events} {s} {b} event is way =
      subst (λ (x : Bool). GoesOnIn O n (if x then event ∷ events else events) s b) is way

  was_left_out : {n : ℕ} {events : List Event} {s : S} {b : Lanes} {k : Bool} (event : Event) → k ≡ false →
      GoesOnIn O n (if k then event ∷ events else events) s b → GoesOnIn O n events s b
  was_left_out {n} {events} {s} {b} event is way =
      subst (λ (x : Bool). GoesOnIn O n (if x then event ∷ events else events) s b) is way

  own_step : {s next : S} {c d : Call} {r : Reply} → c ≡ d → mine c ≡ true → Of mine O s d r next → O s d r next
  own_step {s} {next} {c} {d} {r} same is step = subst (λ (k : Bool). MatchBool k (O s d r next) (next ≡ s))
      (subst (λ (x : Call). mine x ≡ true) same is) step

  others_step : {s next : S} {c d : Call} (r : Reply) → c ≡ d → mine c ≡ false → Of mine O s d r next → next ≡ s
  others_step {s} {next} {c} {d} r same is step = subst (λ (k : Bool). MatchBool k (O s d r next) (next ≡ s))
      (subst (λ (x : Call). mine x ≡ false) same is) step

  pub step_of_own : {s next : S} {c d : Call} {r : Reply} → c ≡ d → mine c ≡ true → O s d r next → Of mine O s d r next
  step_of_own {s} {next} {c} {d} {r} same is step = subst (λ (k : Bool). MatchBool k (O s d r next) (next ≡ s))
      (sym (subst (λ (x : Call). mine x ≡ true) same is)) step

  pub no_step : (s : S) {c : Call} (r : Reply) → mine c ≡ false → Of mine O s c r s
  no_step s {c} r is = subst (λ (k : Bool). MatchBool k (O s c r s) (s ≡ s)) (sym is) refl

  -- what goes on among all goes on along the own events
  pub own_goes_on : {n : ℕ} {events : List Event} {s : S} {a : Lanes} → GoesOnIn (Of mine O) n events s a →
      (calls : Calls) (b : Lanes) → FitOpen calls a b → GoesOnIn O n (own_from mine calls events) s b
  own_goes_on at_end calls b fit = at_end
  own_goes_on {s = s} {a} (one_effect {n = n} {events = events} {next = next} {after = after} u c r asks step sets
      rest)
      calls b fit = by (fit u) (λ b1 fit1. own_goes_on rest calls b1 fit1)
    where
      by : Fit mine IsOpenAs (calls u) (a u) (b u) →
          ((b1 : Lanes) → FitOpen calls after b1 → GoesOnIn O n (own_from mine calls events) next b1) →
          GoesOnIn O (suc n) (own_from mine calls events) s b
      by (is_free o idle other) on = absurd (idle_or_asks idle asks)
      by (is_mine d o is same is_open) on = one_effect u c r (sym same ∙ asks)
          (own_step (open_call is_open (sym same ∙ asks)) is step) (sets_of b u (Gets r)) (on (set_of b u (Gets r))
          (fit_then mine IsOpenAs u fit (still_open calls u) sets (sets_of b u (Gets r))
          (is_mine d o is refl (inr (r, refl)))))
      by (of_others d o not idle is_open) on = subst (λ (t : S). GoesOnIn O (suc n) (own_from mine calls events) t b)
          (others_step r (open_call is_open asks) not step) (more_in O (on b (fit_then mine IsOpenAs u fit
          (still_open calls u) sets (sets_itself b u Idle idle) (of_others d o not refl (inr (r, refl))))))
  own_goes_on {n} {s = s} {a} (one_event {events = events} {after = after} (Begins u c) happens rest) calls b fit =
      by (fit u) (cases_Bool (mine c)) (λ b1 fit1. own_goes_on rest (open_then calls (Begins u c)) b1 fit1)
    where
      then_calls : Calls
      then_calls = open_then calls (Begins u c)

      by : Fit mine IsOpenAs (calls u) (a u) (b u) → (mine c ≡ true) ⊎ (mine c ≡ false) →
          ((b1 : Lanes) → FitOpen then_calls after b1 → GoesOnIn O n (own_from mine then_calls events) s b1) →
          GoesOnIn O n (own_from mine calls (Begins u c ∷ events)) s b
      by (is_mine d o is same is_open) either on = absurd (not_idle is_open (sym same ∙ happens.0))
      by (of_others d o not idle is_open) either on = absurd (not_idle is_open happens.0)
      by (is_free o idle other) (inl is) on = kept (Begins u c) is (one_event (Begins u c)
          (other, sets_of b u (Asks c)) (on (set_of b u (Asks c)) (fit_then mine IsOpenAs u fit (begins_opens calls u
          c) happens.1 (sets_of b u (Asks c)) (is_mine c refl is refl (inl refl)))))
      by (is_free o idle other) (inr not) on = left_out (Begins u c) not (on b (fit_then mine IsOpenAs u fit
          (begins_opens calls u c) happens.1 (sets_itself b u Idle other) (of_others c refl not refl (inl refl))))
  own_goes_on {n} {s = s} {a} (one_event {events = events} {after = after} (Returns u r) happens rest) calls b fit =
      by (fit u) (λ b1 fit1. own_goes_on rest (open_then calls (Returns u r)) b1 fit1)
    where
      then_calls : Calls
      then_calls = open_then calls (Returns u r)

      by : Fit mine IsOpenAs (calls u) (a u) (b u) →
          ((b1 : Lanes) → FitOpen then_calls after b1 → GoesOnIn O n (own_from mine then_calls events) s b1) →
          GoesOnIn O n (own_from mine calls (Returns u r ∷ events)) s b
      by (is_free o idle other) on = absurd (idle_or_gets idle happens.0)
      by (is_mine d o is same is_open) on = kept (Returns u r) (own_call mine (calls u) o is) (one_event (Returns u r)
          (sym same ∙ happens.0, sets_of b u Idle) (on (set_of b u Idle) (fit_then mine IsOpenAs u fit
          (returns_opens calls u r) happens.1 (sets_of b u Idle) (is_free refl refl refl))))
      by (of_others d o not idle is_open) on = left_out (Returns u r) (own_call mine (calls u) o not) (on b
          (fit_then mine IsOpenAs u fit (returns_opens calls u r) happens.1 (sets_itself b u Idle idle)
          (is_free refl refl refl)))
  own_goes_on {n} {s = s} {a} (one_event {events = events} {after = after} (Withdraws u) happens rest) calls b fit =
      by (fit u) (λ b1 fit1. own_goes_on rest (open_then calls (Withdraws u)) b1 fit1)
    where
      then_calls : Calls
      then_calls = open_then calls (Withdraws u)

      by : Fit mine IsOpenAs (calls u) (a u) (b u) →
          ((b1 : Lanes) → FitOpen then_calls after b1 → GoesOnIn O n (own_from mine then_calls events) s b1) →
          GoesOnIn O n (own_from mine calls (Withdraws u ∷ events)) s b
      by (is_free o idle other) on = absurd (idle_or_asks idle happens.1)
      by (is_mine d o is same is_open) on = kept (Withdraws u) (own_call mine (calls u) o is) (one_event (Withdraws u)
          (happens.0, sym same ∙ happens.1, sets_of b u Idle) (on (set_of b u Idle) (fit_then mine IsOpenAs u fit
          (withdraws_opens calls u) happens.2 (sets_of b u Idle) (is_free refl refl refl))))
      by (of_others d o not idle is_open) on = left_out (Withdraws u) (own_call mine (calls u) o not) (on b
          (fit_then mine IsOpenAs u fit (withdraws_opens calls u) happens.2 (sets_itself b u Idle idle)
          (is_free refl refl refl)))

  -- up to an own event the same calls take effect
  until_own : {n : ℕ} {own events : List Event} {s : S} {a b : Lanes} (event : Event) (calls : Calls) →
      FitAsking calls a b → GoesOnIn O n (event ∷ own) s b →
      ((m : ℕ) (t : S) (a1 b1 b2 : Lanes) → FitAsking calls a1 b1 → Happens event b1 b2 → GoesOnIn O m own t b2 →
      Survives (Of mine O) (event ∷ events) t a1) → Survives (Of mine O) (event ∷ events) s a
  until_own {own = own} {events} {s} {a} {b} event calls fit (one_effect {n = n} {next = next} {after = after} u c r
      asks step sets rest) on = by (fit u) (λ a1 fit1. until_own event calls fit1 rest on)
    where
      by : Fit mine AsksOnly (calls u) (a u) (b u) →
          ((a1 : Lanes) → FitAsking calls a1 after → Survives (Of mine O) (event ∷ events) next a1) →
          Survives (Of mine O) (event ∷ events) s a
      by (is_free o idle other) more = absurd (idle_or_asks other asks)
      by (of_others d o not idle is_open) more = absurd (idle_or_asks idle asks)
      by (is_mine d o is same is_open) more = survives_effect (Of mine O) u c r (same ∙ asks)
          (step_of_own (open_call is_open asks) is step) (sets_of a u (Gets r)) (more (set_of a u (Gets r))
          (fit_then mine AsksOnly u fit (still_open calls u) (sets_of a u (Gets r)) sets
          (is_mine d o is refl (inr (r, refl)))))
  until_own {n} {s = s} {a} {b} event calls fit (one_event {after = after} itself happens rest) on =
      on n s a b after fit happens rest

  -- a lane that fits, by its open call
  fits_none : {o : Option Call} {x y : Phase} → o ≡ None → Fit mine AsksOnly o x y → (x ≡ Idle) × (y ≡ Idle)
  fits_none no_call (is_free o idle other) = (idle, other)
  fits_none no_call (is_mine d o is same is_open) = absurd (none_some (sym no_call ∙ o))
  fits_none no_call (of_others d o not idle asks) = absurd (none_some (sym no_call ∙ o))

  fits_own : {o : Option Call} {c : Call} {x y : Phase} → o ≡ Some c → mine c ≡ true → Fit mine AsksOnly o x y →
      x ≡ y
  fits_own call is (is_free o idle other) = idle ∙ sym other
  fits_own call is (is_mine d o mine_too same is_open) = same
  fits_own {c = c} call is (of_others d o not idle asks) = absurd (true_or_false is
      (subst (λ (z : Call). mine z ≡ false) (same_Some _ _ (sym o ∙ call)) not))

  -- what goes on along the own events goes on among all: others take effect where they return
  pub others_join : (events : List Event) (calls : Calls) → AreInFormFrom calls events → {n : ℕ} {s : S} {a b : Lanes}
      → FitAsking calls a b → GoesOnIn O n (own_from mine calls events) s b → Survives (Of mine O) events s a
  others_join [] calls form fit way = record { state = _; last = _; way = leads_nowhere }
  others_join (Begins u c ∷ events) calls form {n} {s} {a} {b} fit way = by (cases_Bool (mine c))
      (λ m t a1 b1 fit1 on. others_join events (open_then calls (Begins u c)) form.1 {n = m} {s = t} {a = a1} {b = b1}
      fit1 on)
    where
      then_calls : Calls
      then_calls = open_then calls (Begins u c)

      by : (mine c ≡ true) ⊎ (mine c ≡ false) →
          ((m : ℕ) (t : S) (a1 b1 : Lanes) → FitAsking then_calls a1 b1 →
          GoesOnIn O m (own_from mine then_calls events) t b1 → Survives (Of mine O) events t a1) →
          Survives (Of mine O) (Begins u c ∷ events) s a
      by (inl is) on = until_own (Begins u c) calls fit (was_kept (Begins u c) is way)
          (λ m t a1 b1 b2 fit1 happens rest. survives_event (Of mine O) (Begins u c)
          ((fits_none form.0 (fit1 u)).0, sets_of a1 u (Asks c)) (on m t (set_of a1 u (Asks c)) b2
          (fit_then mine AsksOnly u fit1 (begins_opens calls u c) (sets_of a1 u (Asks c)) happens.1
          (is_mine c refl is refl (inl refl))) rest))
      by (inr not) on = survives_event (Of mine O) (Begins u c)
          ((fits_none form.0 (fit u)).0, sets_of a u (Asks c)) (on n s (set_of a u (Asks c)) b
          (fit_then mine AsksOnly u fit (begins_opens calls u c) (sets_of a u (Asks c))
          (sets_itself b u Idle (fits_none form.0 (fit u)).1) (of_others c refl not refl refl))
          (was_left_out (Begins u c) not way))
  others_join (Returns u r ∷ events) calls form {n} {s} {a} {b} fit way = by (fit u)
      (λ m t a1 b1 fit1 on. others_join events (open_then calls (Returns u r)) form.1 {n = m} {s = t} {a = a1} {b = b1}
      fit1 on)
    where
      then_calls : Calls
      then_calls = open_then calls (Returns u r)

      by : Fit mine AsksOnly (calls u) (a u) (b u) →
          ((m : ℕ) (t : S) (a1 b1 : Lanes) → FitAsking then_calls a1 b1 →
          GoesOnIn O m (own_from mine then_calls events) t b1 → Survives (Of mine O) events t a1) →
          Survives (Of mine O) (Returns u r ∷ events) s a
      by (is_free o idle other) on = absurd (true_or_false (subst IsSome o form.0) refl)
      by (is_mine d o is same is_open) on = until_own (Returns u r) calls fit
          (was_kept (Returns u r) (own_call mine (calls u) o is) way)
          (λ m t a1 b1 b2 fit1 happens rest. survives_event (Of mine O) (Returns u r)
          (fits_own o is (fit1 u) ∙ happens.0, sets_of a1 u Idle) (on m t (set_of a1 u Idle) b2
          (fit_then mine AsksOnly u fit1 (returns_opens calls u r) (sets_of a1 u Idle) happens.1
          (is_free refl refl refl)) rest))
      by (of_others d o not idle asks) on = survives_effect (Of mine O) u d r asks (no_step s r not) (sets_of a u (Gets
          r))
          (survives_event (Of mine O) (Returns u r) ((sets_of a u (Gets r)).here, sets_of (set_of a u (Gets r)) u Idle)
          (on n s (set_of (set_of a u (Gets r)) u Idle) b (fit_then mine AsksOnly u fit (returns_opens calls u r)
          (record {
            here = (sets_of (set_of a u (Gets r)) u Idle).here;
            others = λ v apart. (sets_of (set_of a u (Gets r)) u Idle).others v apart ∙
                (sets_of a u (Gets r)).others v apart;
          }) (sets_itself b u Idle idle) (is_free refl refl refl))
          (was_left_out (Returns u r) (own_call mine (calls u) o not) way)))
  others_join (Withdraws u ∷ events) calls form {n} {s} {a} {b} fit way = by (fit u)
      (λ m t a1 b1 fit1 on. others_join events (open_then calls (Withdraws u)) form.1 {n = m} {s = t} {a = a1} {b = b1}
      fit1 on)
    where
      then_calls : Calls
      then_calls = open_then calls (Withdraws u)

      by : Fit mine AsksOnly (calls u) (a u) (b u) →
          ((m : ℕ) (t : S) (a1 b1 : Lanes) → FitAsking then_calls a1 b1 →
          GoesOnIn O m (own_from mine then_calls events) t b1 → Survives (Of mine O) events t a1) →
          Survives (Of mine O) (Withdraws u ∷ events) s a
      by (is_free o idle other) on = absurd (true_or_false (subst IsSome o form.0) refl)
      by (is_mine d o is same is_open) on = until_own (Withdraws u) calls fit
          (was_kept (Withdraws u) (own_call mine (calls u) o is) way)
          (λ m t a1 b1 b2 fit1 happens rest. survives_event (Of mine O) (Withdraws u)
          (happens.0, fits_own o is (fit1 u) ∙ happens.1, sets_of a1 u Idle) (on m t (set_of a1 u Idle) b2
          (fit_then mine AsksOnly u fit1 (withdraws_opens calls u) (sets_of a1 u Idle) happens.2
          (is_free refl refl refl)) rest))
      by (of_others d o not idle asks) on = survives_event (Of mine O) (Withdraws u) (d, asks, sets_of a u Idle)
          (on n s (set_of a u Idle) b (fit_then mine AsksOnly u fit (withdraws_opens calls u) (sets_of a u Idle)
          (sets_itself b u Idle idle) (is_free refl refl refl))
          (was_left_out (Withdraws u) (own_call mine (calls u) o not) way))
