use Rattle.std.proofs.Common.{List, ◌+◌, ◌++◌, append-nil, arith, subst, sym}
use Rattle.std.proofs.lemmas.List.{take_all, take_rest}
use Rattle.std.specs.Prelude.{take, drop}
use Rattle.stamp_core.specs.Limits.{Bounds}
use Rattle.stamp_runs.specs.declared.event.Event.{Event}
use Rattle.stamp_sets.specs.Tracing.{IsTracing}
use Rattle.stamp_sets.specs.Watch.{IsTaken}
use Rattle.stamp_watch.specs.Judging.{IsJudging}
use Rattle.stamp_watch.specs.inner.Judging.{IsEndTold, IsStep}
use Rattle.stamp_watch.proofs.Judged.{judging_start, judging_here, judging_more, unexplained_here, too_many_here}
use Rattle.stamp_watch.proofs.Judged.{never_refused, all_explained, all_seen, past_on}
use Rattle.stamp_watch.proofs.judge.judge_on.Goals as goal
use Rattle.stamp_watch.proofs.judge.judge_on.Goals.{In_ok-progress}

pub loop-k-init : goal.loop-k-init
loop-k-init c = record {
  judging = λ limits past judging. judging_start limits c.args.first past c.args.events.now c.args.watch.now judging;
  traced = λ past tracing. subst (λ (before : List Event). IsTracing before c.args.watch.now) (sym (append-nil past))
      tracing;
}

pub step-requires : goal.step-requires
step-requires c = record {
  past = c.requires.judging.past ++ take c.loop-k.k c.args.events.now;
  watching = (c.loop-k.invariant.judging c.requires.judging.limits c.requires.judging.past
      c.requires.judging.judging).watching;
}

-- what the answer means
stepped_here : (c : In_ok-progress) (limits : Bounds) (past : List Event) →
    IsJudging limits c.args.first past c.args.events.now c.args.watch.now →
    IsStep limits (c.args.first + c.loop-k.k) (past ++ take c.loop-k.k c.args.events.now) c.index-events-k.result
    (drop (c.loop-k.k + 1) c.args.events.now) c.args.most c.step.new.watch c.in_ok-progress.progress
stepped_here c limits past judging = c.in_ok-progress.ensures.step limits (c.args.first + c.loop-k.k)
    (past ++ take c.loop-k.k c.args.events.now) (drop (c.loop-k.k + 1) c.args.events.now)
    (subst (λ (ahead : List Event). IsEndTold c.index-events-k.result (c.args.first + c.loop-k.k + 1) ahead
    c.end_told-ends.result) (take_rest c.args.events.now (c.loop-k.k + 1)) c.end_told-ends.ensures)
    (judging_here limits c.args.first past c.args.events.now c.args.most c.loop-k.k c.index-events-k.result
    c.loop-k-test.true c.index-events-k.is c.loop-k.watch (c.loop-k.invariant.judging limits past judging))

pub loop-k-preserved : goal.loop-k-preserved
loop-k-preserved c = record {
  judging = λ limits past judging. judging_more limits c.args.first past c.args.events.now c.args.most c.loop-k.k
      c.index-events-k.result c.loop-k-test.true c.index-events-k.is c.step.new.watch c.in_ok-progress.progress
      (stepped_here (goal.at.loop-k-preserved c).In_ok-progress limits past judging) c.in-Going.is;
  traced = λ past tracing. subst (λ (before : List Event). IsTracing before c.step.new.watch)
      (past_on past c.args.events.now c.loop-k.k c.index-events-k.result c.loop-k-test.true c.index-events-k.is)
      (c.in_ok-progress.ensures.traced (subst IsTaken (sym c.in-Going.is) tt)
      (past ++ take c.loop-k.k c.args.events.now) (c.loop-k.invariant.traced past tracing));
}

pub returns-in-Dead-clause-outcome : goal.returns-in-Dead-clause-outcome
returns-in-Dead-clause-outcome c limits past judging = unexplained_here limits c.args.first past c.args.events.now
    c.args.most c.loop-k.k c.index-events-k.result c.loop-k-test.true c.index-events-k.is c.step.new.watch
    c.in_ok-progress.progress
    (stepped_here (goal.at.returns-in-Dead-clause-outcome c).In_ok-progress limits past judging)
    c.in-Dead.is (c.loop-k.invariant.judging limits past judging).explained

pub returns-in-TooMany-clause-outcome : goal.returns-in-TooMany-clause-outcome
returns-in-TooMany-clause-outcome c limits past judging = too_many_here limits c.args.first past c.args.events.now
    c.args.most c.loop-k.k c.index-events-k.result c.loop-k-test.true c.index-events-k.is c.step.new.watch
    c.in_ok-progress.progress
    (stepped_here (goal.at.returns-in-TooMany-clause-outcome c).In_ok-progress limits past judging)
    c.in-TooMany.is (c.loop-k.invariant.judging limits past judging).explained

pub unreachable-requires : goal.unreachable-requires
unreachable-requires c = never_refused c.requires.judging.limits c.args.first c.requires.judging.past
    c.args.events.now c.args.most c.loop-k.k c.index-events-k.result c.loop-k-test.true c.index-events-k.is
    c.step.new.watch c.in_ok-progress.progress
    (stepped_here (goal.at.unreachable-requires c).In_ok-progress c.requires.judging.limits c.requires.judging.past
    c.requires.judging.judging) c.in-Refused.is

pub returns-clause-outcome : goal.returns-clause-outcome
returns-clause-outcome c limits past judging = all_explained limits c.args.first past c.args.events.now c.loop-k.k
    c.loop-k.watch c.loop-k-test.false (c.loop-k.invariant.judging limits past judging)

pub returns-clause-seen : goal.returns-clause-seen
returns-clause-seen c same = record {
  judging = λ limits past judging. all_seen limits c.args.first past c.args.events.now c.loop-k.k c.loop-k.watch
      (let high = c.loop-k-test.false in omega (arith, high)) (c.loop-k.invariant.judging limits past judging);
  traced = λ past tracing. subst (λ (events : List Event). IsTracing (past ++ events) c.loop-k.watch)
      (take_all c.loop-k.k c.args.events.now c.loop-k-test.false) (c.loop-k.invariant.traced past tracing);
}
