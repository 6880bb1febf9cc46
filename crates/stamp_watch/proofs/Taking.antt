-- The events of a run that are in form, taken one by one.
use Rattle.std.proofs.Common.{ℕ, ◌≡◌, ◌<◌, ◌≤◌, List, length, get_or, refl, sym, ◌∙◌, ap, subst, arith}
use Rattle.std.specs.Prelude.{take}
use Rattle.std.proofs.lemmas.List.{take_all, length-take-le}
use Rattle.stamp_runs.specs.declared.event.Event.{Event}
use Rattle.stamp_runs.specs.declared.event.Event.TheVariants.{Begins, Returns, Withdraws}
use Rattle.stamp_watch.specs.Stream.{IsOfStream}
use Rattle.stamp_watch.specs.Judging.{AreBusyLanes}
use Rattle.stamp_watch.specs.Verdict.{AreOfLanes, IsInFormUpTo}
use Rattle.stamp_watch.specs.inner.Judging.{AreTaken, MayComeIn}
use Rattle.stamp_watch.proofs.Forming.{form_stops, form_ends}

-- an event that may come has few bytes
stream_of : (busy : ℕ) (e : Event) → MayComeIn busy e → IsOfStream e
stream_of busy (Begins lane call) may = let low : lane < 64 = may.0.0 in (omega (arith, low), may.1)
stream_of busy (Returns lane reply) may = let low : lane < 64 = may.0.0 in (omega (arith, low), may.1)
stream_of busy (Withdraws lane) may = let low : lane < 64 = may.0 in omega (arith, low)

pub no_stream : (busy : ℕ) (e : Event) → ¬ IsOfStream e → ¬ MayComeIn busy e
no_stream busy e none may = none (stream_of busy e may)

module _ (events taken : List Event) (k : ℕ) (is : taken ≡ take k events) where
  pub taken_form : k ≤ length events → IsInFormUpTo events k → AreTaken events taken
  taken_form within form = record {
    form = subst (λ (n : ℕ). IsInFormUpTo events n) (sym long) form;
    same = is ∙ ap (λ (n : ℕ). take n events) (sym long);
  }
    where
      long : length taken ≡ k
      long = ap length is ∙ length-take-le k events within

pub taken_stops : (events taken : List Event) (k busy : ℕ) (e : Event) → k < length events → e ≡ get_or events k e →
    taken ≡ take k events → AreOfLanes (take k events) → AreBusyLanes (take k events) busy → ¬ MayComeIn busy e →
    AreTaken events taken
taken_stops events taken k busy e less read is whole lanes none =
    taken_form events taken k is (omega (arith, less)) (form_stops events k busy e less read lanes whole none)

pub taken_all : (events taken : List Event) (k : ℕ) → length events ≤ k → taken ≡ take k events →
    AreOfLanes (take k events) → AreTaken events taken
taken_all events taken k high is whole = taken_form events taken (length events) same (omega arith)
    (form_ends events k (length events) refl high whole)
  where
    same : taken ≡ take (length events) events
    same = is ∙ take_all k events high ∙ sym (take_all (length events) events (omega arith))

-- they are of the lanes, as a slice
pub taken_whole : (events held taken : List Event) → AreTaken events held → taken ≡ held → AreOfLanes taken
taken_whole events held taken is same = subst AreOfLanes (sym (same ∙ is.same)) is.form.whole
