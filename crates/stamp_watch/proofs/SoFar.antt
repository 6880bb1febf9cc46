-- How far a judge has come with a run.
use Rattle.std.proofs.Common.{ℕ, zero, suc, ◌≡◌, ◌+◌, ◌<◌, ◌≤◌, Bool, true, false, List, length, sym, ◌∙◌, subst}
use Rattle.std.proofs.Common.{arith}
use Rattle.std.proofs.Common.{[], ◌++◌, None, append-nil, ap, refl}
use Rattle.std.specs.Prelude.{if◌then◌else◌, ◌↔◌, drop, take}
use Rattle.std.specs.Int.{bit_at}
use Rattle.std.proofs.lemmas.Bool.{false≢true}
use Rattle.std.proofs.lemmas.Nat.Bits.{bit_at-lt}
use Rattle.stamp_core.specs.Limits.{Bounds}
use Rattle.stamp_runs.specs.declared.event.Event.{Event}
use Rattle.stamp_runs.specs.BothRun.{AreExplained}
use Rattle.stamp_watch.specs.declared.online.Judge.{Judge}
use Rattle.stamp_watch.specs.Form.{is_busy_after}
use Rattle.stamp_watch.specs.Course.{IsRunOn}
use Rattle.stamp_watch.specs.Judge.{IsJudge, IsUnderWay}
use Rattle.stamp_watch.specs.Judging.{AreBusyLanes}
use Rattle.stamp_watch.specs.SoFar.{BeginWithOpenCall, IsExplainedUpTo, open_below, open_calls}
use Rattle.stamp_sets.specs.inner.Lanes.{lanes_below, lanes_in}
use Rattle.stamp_watch.proofs.GoingOn.{run_long, way_of}
use Rattle.stamp_watch.proofs.LettingGo.{run_behind}
use Rattle.stamp_watch.proofs.Running.{cut_run}

-- the bit of a lane is whether it has an open call
bit_is : (b : Bool) (bit : ℕ) → bit < 2 → (b ≡ true) ↔ (bit ≡ 1) → bit ≡ (if b then 1 else 0)
bit_is true bit less is = is.0 refl
bit_is false bit less is =
    let apart : (bit ≡ 1) → ⊥ = λ one. false≢true (is.1 one) in omega (arith, less, apart)

pub below : (n busy : ℕ) (run : List Event) → n ≤ 64 → AreBusyLanes run busy → lanes_below n busy ≡ open_below n run
unfolding lanes_below open_below
below zero busy run within lanes = refl
below (suc n) busy run within lanes =
    let rest : lanes_below n busy ≡ open_below n run = below n busy run (omega arith) lanes in
    let here : bit_at busy n ≡ (if is_busy_after run n then 1 else 0) =
    bit_is (is_busy_after run n) (bit_at busy n) (bit_at-lt busy n) (lanes.same n (omega arith)) in
    omega (arith, rest, here)

module _ (limits : Bounds) (most ahead : ℕ) (run : List Event) (judge : Judge)
    (is : IsJudge limits most ahead run judge) (none : judge.found ≡ None) where
  pub open_is : lanes_in judge.busy ≡ open_calls run
  unfolding lanes_in
  open_is = below 64 judge.busy run (omega arith) (way_of limits most ahead run judge is none).lanes

  abbrev way : IsUnderWay limits ahead run judge
  way = way_of limits most ahead run judge is none

  abbrev on : IsRunOn limits run judge.course.first judge.course.seen judge.course.events.items judge.course.base
      judge.course.watch
  on = way.course_of.on

  long : judge.course.first + length judge.course.events.items ≡ length run
  long = run_long limits run judge.course.first judge.course.seen judge.course.events.items judge.course.base
      judge.course.watch on

  cut : take (judge.course.first + judge.course.seen) run ≡ on.past ++ take judge.course.seen judge.course.events.items
  cut = ap (take (judge.course.first + judge.course.seen)) (sym (append-nil run)) ∙
      cut_run limits run judge.course.first judge.course.seen judge.course.events.items judge.course.base
      judge.course.watch on judge.course.seen [] on.within

  pub explained_is : IsExplainedUpTo limits run ahead (judge.course.first + judge.course.seen)
  explained_is = record {
    within = let within : judge.course.seen ≤ length judge.course.events.items = on.within in omega
        (arith, long, within);
    explained = subst (AreExplained limits) (sym cut) on.now.judging.explained;
    near = let near : length judge.course.events.items ≤ judge.course.seen + ahead = way.near.events in
        omega (arith, long, near);
  }

  pub waits_is : BeginWithOpenCall (drop (judge.course.first + judge.course.seen) run)
  waits_is = subst BeginWithOpenCall (sym (run_behind limits run judge.course.first judge.course.seen
      judge.course.events.items judge.course.base judge.course.watch on judge.course.seen)) way.near.waits
