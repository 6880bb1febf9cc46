-- A run in which calls begin later is explained only where the run is.
use Rattle.std.proofs.Common.{◌≡◌, ◌≢◌, ◌⊎◌, ◌+◌, ◌-◌, ◌<◌, ◌≤◌, ℕ, zero, suc, false, List, [], ◌∷◌, ◌++◌}
use Rattle.std.proofs.Common.{length, refl, sym, ◌∙◌, ap, subst, inl, inr, arith}
use Rattle.std.specs.Prelude.{take, ◌==◌, if◌then◌else◌, Option, Some, None, is_some}
use Rattle.std.specs.List.{All, fold}
use Rattle.std.proofs.lemmas.Bool.{cases_eq, cases_lt}
use Rattle.std.proofs.lemmas.List.{length-append, take-append-le}
use Rattle.std.proofs.lemmas.List.Elements.{All-append, All-cons, All-drop, All-head, All-tail, All-take}
use Rattle.std.proofs.Math.Seq.{drop-append_seam, take-append_seam, take-append-add}
use Rattle.stamp_core.specs.Limits.{Bounds}
use Rattle.stamp_core.specs.declared.call.Call.{Call}
use Rattle.stamp_runs.specs.declared.event.Event.{Event}
use Rattle.stamp_runs.specs.declared.event.Event.TheVariants.{Begins, Returns, Withdraws}
use Rattle.stamp_runs.specs.Run.{lane_of, Lanes, Survives}
use Rattle.stamp_runs.specs.BothRun.{AreExplained, Both, State, start}
use Rattle.stamp_runs.specs.Own.{AreInForm, AreInFormFrom, MayCome, none_open, open_then}
use Rattle.stamp_runs.specs.Run.Phase.{Idle, Asks}
use Rattle.stamp_runs.proofs.Lanes.{set_of, sets_of}
use Rattle.stamp_runs.proofs.Owning.{Calls}
use Rattle.stamp_watch.specs.Form.{is_busy_after}
use Rattle.stamp_watch.specs.Late.{BeginsLater, BeginsOneLater, LaterExplainsNoMore}
use Rattle.stamp_watch.specs.Late.BeginsLater.{as_it_is, then_later}
use Rattle.stamp_watch.specs.Verdict.{AreOfLanes, IsOfLane}
use Rattle.stamp_watch.proofs.BeginningLate.{begins_sooner}
use Rattle.stamp_watch.proofs.Ways.{at_end, comes_next, spared_one}
use Rattle.stamp_watch.proofs.Form.{open_other, past_free}

-- an event opens and closes in a lane as it does where the same is open
open_as : (a b : Calls) (e : Event) (lane : ℕ) → a lane ≡ b lane → open_then a e lane ≡ open_then b e lane
open_as a b (Begins u call) lane same = ap (λ (o : Option Call). if u == lane then Some call else o) same
open_as a b (Returns u reply) lane same = ap (λ (o : Option Call). if u == lane then None else o) same
open_as a b (Withdraws u) lane same = ap (λ (o : Option Call). if u == lane then None else o) same

open_swapped : (calls : Calls) (d e : Event) → lane_of d ≢ lane_of e →
    open_then (open_then calls d) e ≡ open_then (open_then calls e) d
open_swapped calls d e apart = λ i lane. by lane (cases_eq (lane_of d) lane) i
  where
    by : (lane : ℕ) → (lane_of d ≡ lane) ⊎ (lane_of d ≢ lane) →
        open_then (open_then calls d) e lane ≡ open_then (open_then calls e) d lane
    by lane (inl same) = open_other lane (open_then calls d) e other ∙
        sym (open_as (open_then calls e) calls d lane (open_other lane calls e other))
      where
        other : lane_of e ≢ lane
        other is = apart (same ∙ sym is)
    by lane (inr other) = open_as (open_then calls d) calls e lane (open_other lane calls d other) ∙
        sym (open_other lane (open_then calls e) d other)

may_come_so : (a b : Calls) (e : Event) → a (lane_of e) ≡ b (lane_of e) → MayCome a e → MayCome b e
may_come_so a b (Begins lane call) same may = sym same ∙ may
may_come_so a b (Returns lane reply) same may = ap is_some (sym same) ∙ may
may_come_so a b (Withdraws lane) same may = ap is_some (sym same) ∙ may

-- two events of different lanes are in form in either order
form_swapped : (calls : Calls) (past : List Event) (d e : Event) (rest : List Event) → lane_of d ≢ lane_of e →
    AreInFormFrom calls (past ++ d ∷ e ∷ rest) → AreInFormFrom calls (past ++ e ∷ d ∷ rest)
form_swapped calls [] d e rest apart form = (
  may_come_so (open_then calls d) calls e (open_other (lane_of e) calls d apart) form.1.0,
  (
    may_come_so calls (open_then calls e) d (sym (open_other (lane_of d) calls e (λ is. apart (sym is)))) form.0,
    subst (λ (after : Calls). AreInFormFrom after rest) (open_swapped calls d e apart) form.1.1,
  ),
)
form_swapped calls (x ∷ past) d e rest apart form =
    (form.0, form_swapped (open_then calls x) past d e rest apart form.1)

-- a lane is free before a call that begins in it
pub free_before : (calls : Calls) (past : List Event) (lane : ℕ) (call : Call) (rest : List Event) →
    AreInFormFrom calls (past ++ Begins lane call ∷ rest) → is_some (fold open_then calls past lane) ≡ false
free_before calls [] lane call rest form = ap is_some form.0
free_before calls (x ∷ past) lane call rest form = free_before (open_then calls x) past lane call rest form.1

module _ (limits : Bounds) (lane : ℕ) (call : Call) (next : Event) (rest : List Event) (apart : lane_of next ≢ lane)
  where
    -- the call may begin before the event, also where the events end at a place
    begins_before : (j : ℕ) (s : State) (lanes : Lanes) → lanes lane ≡ Idle →
        Survives (Both limits) (take j (next ∷ Begins lane call ∷ rest)) s lanes →
        Survives (Both limits) (take j (Begins lane call ∷ next ∷ rest)) s lanes
    begins_before zero s lanes idle way = way
    begins_before (suc zero) s lanes idle way = comes_next (Begins lane call)
        (idle, sets_of lanes lane (Asks call)) at_end
    begins_before (suc (suc j)) s lanes idle way = comes_next (Begins lane call) (idle, sets_of lanes lane (Asks call))
        (begins_sooner (Both limits) lane call (next ∷ []) (take j rest) s lanes (set_of lanes lane (Asks call))
        (sets_of lanes lane (Asks call)) (spared_one lane next apart) way)

    cut_before : (past : List Event) (k : ℕ) → is_busy_after past lane ≡ false →
        AreExplained limits (take k (past ++ next ∷ Begins lane call ∷ rest)) →
        AreExplained limits (take k (past ++ Begins lane call ∷ next ∷ rest))
    cut_before past k free way = by (cases_lt k (length past))
      where
        by : (k < length past) ⊎ (length past ≤ k) →
            AreExplained limits (take k (past ++ Begins lane call ∷ next ∷ rest))
        by (inl less) = subst (AreExplained limits)
            (take-append-le k past (next ∷ Begins lane call ∷ rest) (omega (arith, less)) ∙
            sym (take-append-le k past (Begins lane call ∷ next ∷ rest) (omega (arith, less)))) way
        by (inr more) = subst (AreExplained limits) (sym (cut (Begins lane call ∷ next ∷ rest)))
            (past_free (Both limits) start lane (take (k - length past) (next ∷ Begins lane call ∷ rest))
            (take (k - length past) (Begins lane call ∷ next ∷ rest)) past (begins_before (k - length past)) free
            (subst (AreExplained limits) (cut (next ∷ Begins lane call ∷ rest)) way))
          where
            sum_is : length past + (k - length past) ≡ k
            sum_is = omega (arith, more)

            cut : (events : List Event) → take k (past ++ events) ≡ past ++ take (k - length past) events
            cut events = ap (λ (n : ℕ). take n (past ++ events)) (sym sum_is) ∙
                take-append-add past events (k - length past)

-- one call begins later: the run is in form, and explained no further
record IsSound (limits : Bounds) (old new : List Event) : Type 0 where
  form : AreInForm new
  explained : (k : ℕ) → AreExplained limits (take k new) → AreExplained limits (take k old)

one_sound : (limits : Bounds) (old new : List Event) → BeginsOneLater old new → AreInForm old →
    IsSound limits old new
one_sound limits old new is form = record {
  form = subst AreInForm (sym is.new_is)
      (form_swapped none_open is.past (Begins is.lane is.call) is.next is.rest
      (λ same. is.apart (sym same)) form_here);
  explained = λ k way. subst (λ (xs : List Event). AreExplained limits (take k xs)) (sym is.old_is)
      (cut_before limits is.lane is.call is.next is.rest is.apart is.past k
      (free_before none_open is.past is.lane is.call (is.next ∷ is.rest) form_here)
      (subst (λ (xs : List Event). AreExplained limits (take k xs)) is.new_is way));
}
  where
    form_here : AreInForm (is.past ++ Begins is.lane is.call ∷ is.next ∷ is.rest)
    form_here = subst AreInForm is.old_is form

sound : (limits : Bounds) (run handed : List Event) → BeginsLater run handed → AreInForm run →
    IsSound limits run handed
sound limits run handed as_it_is form = record { form = form; explained = λ k way. way }
sound limits run handed (then_later {old = old} before one) form = by (sound limits run old before form)
  where
    by : IsSound limits run old → IsSound limits run handed
    by first = let then_one = one_sound limits old handed one first.form in
        record {
          form = then_one.form;
          explained = λ k way. first.explained k (then_one.explained k way);
        }

pub later_in_form : (limits : Bounds) (run handed : List Event) → BeginsLater run handed → AreInForm run →
    AreInForm handed
later_in_form limits run handed later form = (sound limits run handed later form).form

all_swapped : (P : Event → Type 0) (past : List Event) (d e : Event) (rest : List Event) →
    All P (past ++ d ∷ e ∷ rest) → All P (past ++ e ∷ d ∷ rest)
all_swapped P past d e rest all = All-append P past (e ∷ d ∷ rest)
    (subst (All P) (take-append_seam past (d ∷ e ∷ rest)) (All-take P (length past) (past ++ d ∷ e ∷ rest) all))
    (All-cons P e (d ∷ rest) (All-head P e rest (All-tail P d (e ∷ rest) behind))
    (All-cons P d rest (All-head P d (e ∷ rest) behind) (All-tail P e rest (All-tail P d (e ∷ rest) behind))))
  where
    behind : All P (d ∷ e ∷ rest)
    behind = subst (All P) (drop-append_seam past (d ∷ e ∷ rest))
        (All-drop P (length past) (past ++ d ∷ e ∷ rest) all)

-- it is in those lanes, too
pub later_of_lanes : (limits : Bounds) (run handed : List Event) → BeginsLater run handed → AreOfLanes run →
    AreOfLanes handed
later_of_lanes limits run handed later whole = record {
  form = later_in_form limits run handed later whole.form;
  lanes = by handed later;
}
  where
    by : (events : List Event) → BeginsLater run events → All IsOfLane events
    by events as_it_is = whole.lanes
    by events (then_later {old = old} before one) = subst (All IsOfLane) (sym one.new_is)
        (all_swapped IsOfLane one.past (Begins one.lane one.call) one.next one.rest
        (subst (All IsOfLane) one.old_is (by old before)))

pub later_explains_no_more : LaterExplainsNoMore
later_explains_no_more limits run handed k form later way = (sound limits run handed later form).explained k way

pub later_as_long : (run handed : List Event) → BeginsLater run handed → length handed ≡ length run
later_as_long run handed as_it_is = refl
later_as_long run handed (then_later {old = old} before one) =
    ap length one.new_is ∙ swapped ∙ sym (ap length one.old_is) ∙ later_as_long run old before
  where
    swapped : length (one.past ++ one.next ∷ Begins one.lane one.call ∷ one.rest) ≡
        length (one.past ++ Begins one.lane one.call ∷ one.next ∷ one.rest)
    swapped = length-append one.past (one.next ∷ Begins one.lane one.call ∷ one.rest) ∙
        sym (length-append one.past (Begins one.lane one.call ∷ one.next ∷ one.rest))
