-- Events in form, by the numbers of the lanes with an open call.
use Rattle.std.proofs.Common.{ℕ, ◌≡◌, ◌≢◌, ◌⊎◌, ◌+◌, ◌<◌, ◌≤◌, ◌==◌, Bool, true, false, List, [], ◌∷◌, ◌++◌, length}
use Rattle.std.proofs.Common.{get_or, Option, Some, None, refl, sym, ◌∙◌, ap, subst, inl, inr, arith, append_assoc}
use Rattle.std.proofs.Common.{append-nil}
use Rattle.std.specs.Prelude.{IsSome}
use Rattle.std.specs.Prelude.{◌↔◌, if◌then◌else◌, is_some, take}
use Rattle.std.specs.Int.{bit_at}
use Rattle.std.specs.List.{fold}
use Rattle.std.proofs.lemmas.Bool.{false_from_ne_true}
use Rattle.std.proofs.lemmas.Bool.{cases_eq, cases_lt, false≢true}
use Rattle.std.proofs.lemmas.List.{take_all, length-append, length_push}
use Rattle.std.proofs.lemmas.List.Elements.{All-push, All-contains, All-take, All-nil, Contains-push}
use Rattle.std.proofs.lemmas.List.Elements.{Contains-append_right, Contains-get_or}
use Rattle.std.proofs.Math.Seq.{take-append_seam}
use Rattle.std.proofs.lemmas.Nat.Bits.{bit_at-zero}
use Rattle.stamp_core.specs.declared.call.Call.{Call}
use Rattle.stamp_runs.specs.OneWord.{is_small_call, is_small_reply}
use Rattle.stamp_runs.specs.Own.{AreInFormFrom, MayCome, none_open, open_after, open_then}
use Rattle.stamp_runs.specs.declared.event.Event.{Event}
use Rattle.stamp_runs.specs.declared.event.Event.TheVariants.{Begins, Returns, Withdraws}
use Rattle.stamp_runs.proofs.Owning.{Calls, in_lane, in_other}
use Rattle.stamp_sets.specs.Lanes.{SetsBit}
use Rattle.stamp_watch.specs.Form.{is_busy_after}
use Rattle.stamp_watch.specs.Verdict.{AreOfLanes, IsInFormUpTo, IsOfLane, NoMoreAreOfLanes}
use Rattle.stamp_watch.specs.Judging.{AreBusyLanes}
use Rattle.stamp_watch.specs.inner.Judging.{MayComeIn, SetsBusy}
use Rattle.stamp_watch.proofs.Form.{form_goes_on, form_up_to, none_is, open_after_one}
use Rattle.stamp_watch.proofs.Reading.{take_read}

form_at : (calls : Calls) (past : List Event) (e : Event) (more : List Event) →
    AreInFormFrom calls (past ++ e ∷ more) → MayCome (fold open_then calls past) e
form_at calls [] e more form = form.0
form_at calls (x ∷ past) e more form = form_at (open_then calls x) past e more form.1

-- an event of a run in form may come there, and is of a lane
pub next_comes : (past : List Event) (e : Event) (more : List Event) → AreOfLanes (past ++ e ∷ more) →
    MayCome (open_after past) e
next_comes past e more whole = form_at none_open past e more whole.form

pub next_of_lane : (past : List Event) (e : Event) (more : List Event) → AreOfLanes (past ++ e ∷ more) → IsOfLane e
next_of_lane past e more whole = All-contains IsOfLane (past ++ e ∷ more) e whole.lanes
    (Contains-append_right past (e ∷ more) e (Contains-get_or (e ∷ more) 0 e (omega arith)))

pub of_lanes_up_to : (k : ℕ) (events : List Event) → AreOfLanes events → AreOfLanes (take k events)
of_lanes_up_to k events whole = record {
  form = form_up_to k none_open events whole.form;
  lanes = All-take IsOfLane k events whole.lanes;
}

module _ (past : List Event) (busy : ℕ) (lanes : AreBusyLanes past busy) where
  comes_then : (e : Event) → MayComeIn busy e → MayCome (open_after past) e
  comes_then (Begins lane call) may = none_is (open_after past lane)
      (false_from_ne_true (is_busy_after past lane) (λ is. may.0.1 ((lanes.same lane may.0.0).0 is)))
  comes_then (Returns lane reply) may = (lanes.same lane may.0.0).1 may.0.1
  comes_then (Withdraws lane) may = (lanes.same lane may.0).1 may.1

  of_lane_then : (e : Event) → MayComeIn busy e → IsOfLane e
  of_lane_then (Withdraws lane) may = may.0
  of_lane_then _ may = (may.0.0, may.1)

  comes_back : (e : Event) → MayCome (open_after past) e → IsOfLane e → MayComeIn busy e
  comes_back (Begins lane call) may is =
      ((is.0, (λ one. false≢true (sym (ap is_some may) ∙ (lanes.same lane is.0).1 one))), is.1)
  comes_back (Returns lane reply) may is = ((is.0, (lanes.same lane is.0).0 may), is.1)
  comes_back (Withdraws lane) may is = (is, (lanes.same lane is).0 may)

-- whether a lane has an open call after one more event
pub busy_after_one : (past : List Event) (e : Event) (lane : ℕ) →
    is_busy_after (past ++ e ∷ []) lane ≡ is_some (open_then (open_after past) e lane)
busy_after_one past e lane = ap (λ (calls : Calls). is_some (calls lane)) (open_after_one none_open past e)

iff_false : (a : Bool) (x : ℕ) → a ≡ false → x ≡ 0 → (a ≡ true) ↔ (x ≡ 1)
iff_false a x first second = (
  (λ is. absurd (false≢true (sym first ∙ is))),
  (λ one. let none : x ≡ 0 = second in absurd (omega (arith, none, one))),
)

-- the bit of a lane with an open call, and of one without
abbrev pub bit_of : Option Call → ℕ
bit_of None = 0
bit_of (Some call) = 1

pub some_bit : (slot : Option Call) → IsSome slot ↔ (bit_of slot ≡ 1)
some_bit None = ((λ is. absurd (false≢true is)), λ one. absurd (omega (arith, one)))
some_bit (Some call) = ((λ is. refl), λ one. refl)

-- the lanes with an open call, once one lane has this one, or none
lanes_then : (past : List Event) (busy after u : ℕ) (slot : Option Call) (e : Event) → AreBusyLanes past busy →
    SetsBit busy after u (bit_of slot) →
    ((lane : ℕ) → open_then (open_after past) e lane ≡ (if u == lane then slot else open_after past lane)) →
    AreBusyLanes (past ++ e ∷ []) after
lanes_then past busy after u slot e lanes is then_open = record {
  same = λ lane below. by lane below (cases_eq u lane);
}
  where
    by : (lane : ℕ) → lane < 64 → (u ≡ lane) ⊎ (u ≢ lane) →
        (is_busy_after (past ++ e ∷ []) lane ≡ true) ↔ (bit_at after lane ≡ 1)
    by lane below (inl same) = rw (
      busy_after_one past e lane,
      then_open lane,
      in_lane slot (open_after past lane) same,
      subst (λ (v : ℕ). bit_at after v ≡ bit_of slot) same is.here,
    ) (some_bit slot)
    by lane below (inr apart) = rw (
      busy_after_one past e lane,
      then_open lane,
      in_other slot (open_after past lane) apart,
      is.others lane (λ e. apart (sym e)),
    ) (lanes.same lane below)

-- the lanes with an open call after one more event
pub busy_lanes_then : (past : List Event) (busy after : ℕ) (e : Event) → AreBusyLanes past busy →
    SetsBusy busy e after → AreBusyLanes (past ++ e ∷ []) after
busy_lanes_then past busy after (Begins u call) lanes is =
    lanes_then past busy after u (Some call) (Begins u call) lanes is (λ lane. refl)
busy_lanes_then past busy after (Returns u reply) lanes is =
    lanes_then past busy after u None (Returns u reply) lanes is (λ lane. refl)
busy_lanes_then past busy after (Withdraws u) lanes is =
    lanes_then past busy after u None (Withdraws u) lanes is (λ lane. refl)

-- one event on, or not
pub of_lanes_on : (past : List Event) (busy : ℕ) (e : Event) → AreBusyLanes past busy → MayComeIn busy e →
    AreOfLanes past → AreOfLanes (past ++ e ∷ [])
of_lanes_on past busy e lanes may whole = record {
  form = form_goes_on none_open past e whole.form (comes_then past busy lanes e may);
  lanes = All-push IsOfLane past e whole.lanes (of_lane_then past busy lanes e may);
}

pub of_lanes_not : (past : List Event) (busy : ℕ) (e : Event) → AreBusyLanes past busy → ¬ MayComeIn busy e →
    ¬ AreOfLanes (past ++ e ∷ [])
of_lanes_not past busy e lanes none whole =
    none (comes_back past busy lanes e (next_comes past e [] whole) (next_of_lane past e [] whole))

-- before any event
pub form_first : AreOfLanes [] × AreBusyLanes [] 0
form_first = (
  record { form = tt; lanes = All-nil IsOfLane },
  record { same = λ lane below. iff_false false (bit_at 0 lane) refl (bit_at-zero lane) },
)

-- one event more in form
module _ (events : List Event) (k busy : ℕ) (e : Event) (less : k < length events) (read : e ≡ get_or events k e)
    (lanes : AreBusyLanes (take k events) busy) where
  pub of_lanes_more : AreOfLanes (take k events) → MayComeIn busy e → AreOfLanes (take (k + 1) events)
  of_lanes_more whole may = subst AreOfLanes (sym (take_read events k e less read)) (record {
    form = form_goes_on none_open (take k events) e whole.form
        (comes_then (take k events) busy lanes e may);
    lanes = All-push IsOfLane (take k events) e whole.lanes (of_lane_then (take k events) busy lanes e may);
  })

  pub busy_more : (after : ℕ) → SetsBusy busy e after → AreBusyLanes (take (k + 1) events) after
  busy_more after is = subst (λ (past : List Event). AreBusyLanes past after) (sym (take_read events k e less read))
      (busy_lanes_then (take k events) busy after e lanes is)

  of_lanes_no_more : ¬ MayComeIn busy e → ¬ AreOfLanes (take (k + 1) events)
  of_lanes_no_more none whole = by (subst AreOfLanes (take_read events k e less read) whole)
    where
      by : AreOfLanes (take k events ++ e ∷ []) → ⊥
      by longer = none (comes_back (take k events) busy lanes e
          (form_at none_open (take k events) e [] longer.form)
          (All-contains IsOfLane (take k events ++ e ∷ []) e longer.lanes (Contains-push (take k events) e)))

  pub form_stops : AreOfLanes (take k events) → ¬ MayComeIn busy e → IsInFormUpTo events k
  form_stops whole none = record {
    within = omega (arith, less);
    whole = whole;
    broken = λ _. of_lanes_no_more none;
  }

pub form_ends : (events : List Event) (k n : ℕ) → n ≡ length events → length events ≤ k → AreOfLanes (take k events) →
    IsInFormUpTo events n
form_ends events k n all high whole = record {
  within = omega (arith, all);
  whole = subst AreOfLanes (take_all k events high ∙ sym (take_all n events (omega (arith, all)))) whole;
  broken = λ less. absurd (omega (arith, less, all));
}

of_lanes_by : (past : List Event) (e : Event) → AreOfLanes past → MayCome (open_after past) e → IsOfLane e →
    AreOfLanes (past ++ e ∷ [])
of_lanes_by past e whole comes is = record {
  form = form_goes_on none_open past e whole.form comes;
  lanes = All-push IsOfLane past e whole.lanes is;
}

both_or_not : {A B : Type 0} → A ⊎ (¬ A) → B ⊎ (¬ B) → (A × B) ⊎ (¬ (A × B))
both_or_not (inl a) (inl b) = inl (a, b)
both_or_not (inl a) (inr none) = inr (λ both. none both.1)
both_or_not (inr none) b = inr (λ both. none both.0)

true_or_not : (b : Bool) → (b ≡ true) ⊎ (¬ (b ≡ true))
true_or_not true = inl refl
true_or_not false = inr (λ same. false≢true same)

below_or_not : (lane : ℕ) → (lane < 64) ⊎ (¬ (lane < 64))
below_or_not lane = by (cases_lt lane 64)
  where
    by : (lane < 64) ⊎ (64 ≤ lane) → (lane < 64) ⊎ (¬ (lane < 64))
    by (inl less) = inl less
    by (inr high) = inr (λ less. omega (arith, high, less))

none_or_not : (slot : Option Call) → (slot ≡ None) ⊎ (¬ (slot ≡ None))
none_or_not None = inl refl
none_or_not (Some call) = inr (λ none. false≢true (sym (ap is_some none)))

comes_or_not : (calls : Calls) (e : Event) → MayCome calls e ⊎ (¬ MayCome calls e)
comes_or_not calls (Begins lane call) = none_or_not (calls lane)
comes_or_not calls (Returns lane reply) = true_or_not (is_some (calls lane))
comes_or_not calls (Withdraws lane) = true_or_not (is_some (calls lane))

lane_or_not : (e : Event) → IsOfLane e ⊎ (¬ IsOfLane e)
lane_or_not (Begins lane call) = both_or_not (below_or_not lane) (true_or_not (is_small_call call))
lane_or_not (Returns lane reply) = both_or_not (below_or_not lane) (true_or_not (is_small_reply reply))
lane_or_not (Withdraws lane) = below_or_not lane

-- an event may come behind others, or may not
next_or_not : (past : List Event) (e : Event) → AreOfLanes past →
    AreOfLanes (past ++ e ∷ []) ⊎ (¬ AreOfLanes (past ++ e ∷ []))
next_or_not past e whole = by (both_or_not (comes_or_not (open_after past) e) (lane_or_not e))
  where
    by : (MayCome (open_after past) e × IsOfLane e) ⊎ (¬ (MayCome (open_after past) e × IsOfLane e)) →
        AreOfLanes (past ++ e ∷ []) ⊎ (¬ AreOfLanes (past ++ e ∷ []))
    by (inl both) = inl (of_lanes_by past e whole both.0 both.1)
    by (inr none) = inr (λ longer. none (next_comes past e [] longer, next_of_lane past e [] longer))

-- so many of the events that come behind a run may come there
pub record GoesOnFor (run more : List Event) : Type 0 where
  pub part : List Event
  pub place : ℕ
  pub long : place ≡ length run + length part
  pub front : take place (run ++ more) ≡ run ++ part
  pub form : IsInFormUpTo (run ++ more) place

-- none of them may
abbrev pub stops_here : (run more : List Event) → AreOfLanes run → NoMoreAreOfLanes (run ++ more) (length run) →
    GoesOnFor run more
stops_here run more whole none = record {
  part = [];
  place = length run;
  long = omega arith;
  front = take-append_seam run more ∙ sym (append-nil run);
  form = record {
    within = let long : length (run ++ more) ≡ length run + length more = length-append run more in
        omega (arith, long);
    whole = subst AreOfLanes (sym (take-append_seam run more)) whole;
    broken = none;
  };
}

pub goes_on_for : (run more : List Event) → AreOfLanes run → GoesOnFor run more
goes_on_for run [] whole = stops_here run [] whole
    (λ less. let long : length (run ++ []) ≡ length run = ap length (append-nil run) in
    absurd (omega (arith, less, long)))
goes_on_for run (e ∷ more) whole = by (next_or_not run e whole)
    (λ longer. goes_on_for (run ++ e ∷ []) more longer)
  where
    here : run ++ e ∷ more ≡ (run ++ e ∷ []) ++ more
    here = sym (append_assoc run (e ∷ []) more)

    one_more : length (run ++ e ∷ []) ≡ length run + 1
    one_more = length_push run e

    by : AreOfLanes (run ++ e ∷ []) ⊎ (¬ AreOfLanes (run ++ e ∷ [])) →
        (AreOfLanes (run ++ e ∷ []) → GoesOnFor (run ++ e ∷ []) more) → GoesOnFor run (e ∷ more)
    by (inl longer) further = let on = further longer in
        record {
          part = e ∷ on.part;
          place = on.place;
          long = let long : on.place ≡ length (run ++ e ∷ []) + length on.part = on.long in
              omega (arith, long, one_more);
          front = ap (take on.place) here ∙ on.front ∙ append_assoc run (e ∷ []) on.part;
          form = subst (λ (xs : List Event). IsInFormUpTo xs on.place) (sym here) on.form;
        }
    by (inr none) further = stops_here run (e ∷ more) whole (λ less longer. none (subst AreOfLanes
        (ap (λ (n : ℕ). take n (run ++ e ∷ more)) (sym one_more) ∙ ap (take (length (run ++ e ∷ []))) here ∙
        take-append_seam (run ++ e ∷ []) more) longer))
