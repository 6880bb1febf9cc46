-- How far a judge has come that lets calls begin late.
use Rattle.std.proofs.Common.{ℕ, ◌≡◌, ◌+◌, ◌-◌, ◌*◌, ◌≤◌, List, ◌++◌, length, None, arith, sym, subst}
use Rattle.std.specs.Prelude.{drop}
use Rattle.std.proofs.lemmas.List.{take-append-le}
use Rattle.stamp_core.specs.Limits.{Bounds}
use Rattle.stamp_runs.specs.declared.event.Event.{Event}
use Rattle.stamp_runs.specs.BothRun.{AreExplained}
use Rattle.stamp_watch.specs.declared.late.LateJudge.{LateJudge}
use Rattle.stamp_watch.specs.Delay.{reach_of}
use Rattle.stamp_watch.specs.Late.{BeginsLater}
use Rattle.stamp_watch.specs.LateJudge.{IsLateJudge, IsLateUnderWay}
use Rattle.stamp_watch.specs.SoFar.{BeginWithOpenCall, IsExplainedUpTo, open_calls}
use Rattle.stamp_sets.specs.inner.Lanes.{lanes_in}
use Rattle.stamp_watch.proofs.BeginningLater.{later_explains_no_more}
use Rattle.stamp_watch.proofs.Closeness.{few_aside, near_open}
use Rattle.stamp_watch.proofs.HandingOn.{given_length}
use Rattle.stamp_watch.proofs.JudgingLate.{late_way, run_long}
use Rattle.stamp_watch.proofs.LongCalls.{later_of_long}
use Rattle.stamp_watch.proofs.SoFar.{below, explained_is, waits_is}

module _ (limits : Bounds) (most ahead : ℕ) (run : List Event) (judge : LateJudge)
    (is : IsLateJudge limits most ahead run judge) (none : judge.found ≡ None) where
  pub way : IsLateUnderWay limits most ahead run judge
  way = late_way limits most ahead run judge is none

  pub late_open_is : lanes_in judge.busy ≡ open_calls run
  unfolding lanes_in
  late_open_is = below 64 judge.busy run (omega arith) way.lanes

  later : BeginsLater run (way.delayed.given ++ (judge.delay.aside.items ++ judge.delay.waiting.events.items))
  later = subst (λ (xs : List Event). BeginsLater xs
      (way.delayed.given ++ (judge.delay.aside.items ++ judge.delay.waiting.events.items)))
      (sym way.delayed.handed.run_is) (later_of_long run (ahead - 64)
      (way.delayed.handed.past ++ judge.delay.waiting.events.items)
      (way.delayed.given ++ (judge.delay.aside.items ++ judge.delay.waiting.events.items))
      (way.delayed.handed.later judge.delay.waiting.events.items))

  long : length way.delayed.given + length judge.delay.aside.items + length judge.delay.waiting.events.items ≡ length
      run
  long = let parts : length way.delayed.given + length judge.delay.aside.items ≡ judge.delay.passed =
      given_length (ahead - 64) run way.delayed.given judge.delay.aside.items judge.delay.waiting.events.items
      judge.delay.first_late judge.delay.passed way.delayed.handed in
      let all : judge.delay.passed + length judge.delay.waiting.events.items ≡ length run =
      run_long limits most ahead run judge is none in omega (arith, parts, all)

  few_lanes : length judge.delay.aside.items ≤ reach_of ahead
  few_lanes = let few : length judge.delay.aside.items ≤ 64 = few_aside judge.delay.aside.items
      judge.delay.waiting.events.items way.delayed.handed.asides in omega (arith, few)

  pub late_explained_is : (k : ℕ) → IsExplainedUpTo limits way.delayed.given (reach_of ahead) k →
      BeginWithOpenCall (drop k way.delayed.given) → IsExplainedUpTo limits run (2 * ahead + 64) k
  late_explained_is k in_judge waits = record {
    within = let within : k ≤ length way.delayed.given = in_judge.within in
        let all : length way.delayed.given + length judge.delay.aside.items +
        length judge.delay.waiting.events.items ≡ length run = long in omega (arith, within, all);
    explained = later_explains_no_more limits run
        (way.delayed.given ++ (judge.delay.aside.items ++ judge.delay.waiting.events.items)) k way.delayed.whole.form
        later (subst (AreExplained limits) (sym (take-append-le k way.delayed.given
        (judge.delay.aside.items ++ judge.delay.waiting.events.items) in_judge.within)) in_judge.explained);
    near = let near : length way.delayed.given + length judge.delay.aside.items ≤ k + reach_of ahead =
        near_open (reach_of ahead) k way.delayed.given judge.delay.aside.items judge.delay.waiting.events.items
        few_lanes way.delayed.near waits in
        let few : length judge.delay.waiting.events.items ≤ ahead - 64 = way.few in
        let all : length way.delayed.given + length judge.delay.aside.items +
        length judge.delay.waiting.events.items ≡ length run = long in omega (arith, near, few, all);
  }

  -- so it is of some event
  pub late_near : (k : ℕ) × IsExplainedUpTo limits run (2 * ahead + 64) k
  late_near = (
    judge.delay.judge.course.first + judge.delay.judge.course.seen,
    late_explained_is (judge.delay.judge.course.first + judge.delay.judge.course.seen)
        (explained_is limits most (reach_of ahead) way.delayed.given judge.delay.judge way.delayed.judge_of way.going)
        (waits_is limits most (reach_of ahead) way.delayed.given judge.delay.judge way.delayed.judge_of way.going),
  )
