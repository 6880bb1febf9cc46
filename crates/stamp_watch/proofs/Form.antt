-- Runs in form, and the calls that are open in them.
use Rattle.std.proofs.Common.{◌≡◌, ◌≢◌, ◌⊎◌, ℕ, suc, zero, ◌==◌, Bool, true, false, List, [], ◌∷◌, ◌++◌, refl, sym}
use Rattle.std.proofs.Common.{◌∙◌, ap, subst, inl, inr, append-nil, Option, Some, None}
use Rattle.std.specs.Prelude.{slice_get, drop, take, if◌then◌else◌, is_some, IsSome}
use Rattle.std.specs.List.{fold}
use Rattle.std.proofs.lemmas.Bool.{cases_eq, false≢true}
use Rattle.std.proofs.lemmas.List.{take-append-drop}
use Rattle.std.proofs.lemmas.Option.{none-some, same_Some}
use Rattle.stamp_core.specs.declared.call.Call.{Call}
use Rattle.stamp_runs.specs.declared.event.Event.{Event}
use Rattle.stamp_runs.specs.declared.event.Event.TheVariants.{Begins}
use Rattle.stamp_runs.specs.Object.{Object}
use Rattle.stamp_runs.specs.Own.{AreInFormFrom, MayCome, none_open, open_after, open_then}
use Rattle.stamp_runs.specs.Run.{AreExplainedFrom, IsEndOf, Lanes, Survives}
use Rattle.stamp_runs.specs.Run.{lane_of}
use Rattle.stamp_runs.specs.Run.Phase.{Idle, Asks}
use Rattle.stamp_runs.proofs.Lanes.{sets_of}
use Rattle.stamp_runs.proofs.OwnEvents.{form_of_both, form_of_first, none_idle, open_along}
use Rattle.stamp_runs.proofs.Owning.{Calls, in_lane, in_other}
use Rattle.stamp_runs.proofs.Sets.{leads_survive}
use Rattle.stamp_watch.specs.Form.{is_busy_after}
use Rattle.stamp_watch.proofs.Ways.{at_end, comes_next, cut, survives_on}

pub form_up_to : (k : ℕ) (calls : Calls) (events : List Event) → AreInFormFrom calls events →
    AreInFormFrom calls (take k events)
form_up_to k calls events form = form_of_first calls (take k events) (drop k events)
    (subst (AreInFormFrom calls) (sym (take-append-drop k events)) form)

pub may_come_at : (k : ℕ) (calls : Calls) (events : List Event) (event : Event) → AreInFormFrom calls events →
    slice_get events k ≡ Some event → MayCome (fold open_then calls (take k events)) event
may_come_at zero calls [] event form is = absurd (none-some event is)
may_come_at (suc k) calls [] event form is = absurd (none-some event is)
may_come_at zero calls (x ∷ events) event form is =
    subst (λ (e : Event). MayCome calls e) (same_Some x event is) form.0
may_come_at (suc k) calls (x ∷ events) event form is = may_come_at k (open_then calls x) events event form.1 is

-- a run goes on in form by an event that may come
pub form_goes_on : (calls : Calls) (past : List Event) (event : Event) → AreInFormFrom calls past →
    MayCome (fold open_then calls past) event → AreInFormFrom calls (past ++ event ∷ [])
form_goes_on calls past event form may = form_of_both calls past (event ∷ []) form (may, tt)

-- what is open after one more event
pub open_after_one : (calls : Calls) (past : List Event) (event : Event) →
    fold open_then calls (past ++ event ∷ []) ≡ open_then (fold open_then calls past) event
open_after_one calls [] event = refl
open_after_one calls (x ∷ past) event = open_after_one (open_then calls x) past event

-- an event of another lane leaves the call of a lane
pub open_other : (lane : ℕ) (calls : Calls) (e : Event) → lane_of e ≢ lane → open_then calls e lane ≡ calls lane
open_other lane calls (Begins u call) apart = in_other (Some call) (calls lane) apart
open_other lane calls _ apart = in_other None (calls lane) apart

-- where a call is open, one is behind an event that does not end it
pub still_open : (lane : ℕ) (calls : Calls) (event : Event) → ¬ IsEndOf lane event → IsSome (calls lane) →
    IsSome (open_then calls event lane)
still_open lane calls (Begins u call) not is = by (u == lane)
  where
    by : (a : Bool) → IsSome (if a then Some call else calls lane)
    by true = refl
    by false = is
still_open lane calls which not is = ap is_some (open_other lane calls which not) ∙ is

-- a call that is open behind the end of one was so before it, in another lane
pub past_end : (u lane : ℕ) (was : Option Call) → IsSome (if u == lane then None else was) →
    IsSome was × (u ≢ lane)
past_end u lane was is = by (cases_eq u lane)
  where
    by : (u ≡ lane) ⊎ (u ≢ lane) → IsSome was × (u ≢ lane)
    by (inl same) = absurd (false≢true (sym (ap is_some (in_lane None was same)) ∙ is))
    by (inr apart) = (sym (ap is_some (in_other None was apart)) ∙ is, apart)

-- none is open
pub none_is : (o : Option Call) → is_some o ≡ false → o ≡ None
none_is None free = refl
none_is (Some call) free = absurd (false≢true (sym free))

module _ {S : Type 0} (O : Object S) (start : S) (lane : ℕ) where
  -- what goes on where a lane is free goes on so behind events that leave it free
  pub past_free : (old new past : List Event) → ((s : S) (lanes : Lanes) → lanes lane ≡ Idle →
      Survives O old s lanes → Survives O new s lanes) → is_busy_after past lane ≡ false →
      AreExplainedFrom O start (past ++ old) → AreExplainedFrom O start (past ++ new)
  past_free old new past goes free way =
      let two = cut past old way.way in survives_on two.before (goes two.state two.lanes
      ((open_along none_open (λ v. none_idle) two.before lane).0 (none_is (open_after past lane) free))
      (leads_survive O two.behind))

  -- a call may begin in a lane that is free
  pub begins_next : (call : Call) (past : List Event) → is_busy_after past lane ≡ false →
      AreExplainedFrom O start past → AreExplainedFrom O start (past ++ Begins lane call ∷ [])
  begins_next call past free way = past_free [] (Begins lane call ∷ []) past
      (λ s lanes idle way. comes_next (Begins lane call) (idle, sets_of lanes lane (Asks call)) at_end) free
      (subst (AreExplainedFrom O start) (sym (append-nil past)) way)
