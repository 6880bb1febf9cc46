use Rattle.std.proofs.Common.{◌+◌, ◌-◌, ◌/◌, arith, length, refl}
use Rattle.stamp_watch.proofs.Judged.{searching_first, searching_higher, searching_lower, search_too_many, search_ends}
use Rattle.stamp_watch.proofs.Judged.{from_base}
use Rattle.stamp_watch.proofs.judge.find_stuck.Goals as goal

pub loop-low-init : goal.loop-low-init
loop-low-init c = searching_first c.args.first c.args.explained c.args.events.now c.args.base.now
    (length c.args.events.now)
    refl c.requires.within

pub judge_rest-requires-clause-judging : goal.judge_rest-requires-clause-judging
judge_rest-requires-clause-judging c = record {
  limits = c.requires.stuck.limits;
  past = c.requires.stuck.past;
  judging = from_base c.args.first c.args.explained c.args.events.now c.args.base.now c.loop-low.low c.loop-low.high
      c.loop-low.invariant c.requires.stuck.limits c.requires.stuck.past
      (c.loop-low.low + (c.loop-low.high - c.loop-low.low) / 2) c.in_ok-start.start c.requires.stuck.base
      (omega (arith, c.loop-low.invariant.apart)) (omega (arith, c.loop-low.invariant.apart)) c.in_ok-start.ensures;
}

pub returns-in-TooMany-clause-found : goal.returns-in-TooMany-clause-found
returns-in-TooMany-clause-found c ahead = search_too_many c.args.first c.args.explained c.args.events.now
    c.args.base.now
    c.loop-low.low
    c.loop-low.high c.loop-low.invariant (c.loop-low.low + (c.loop-low.high - c.loop-low.low) / 2) c.args.most
    c.in-TooMany.field-0 ahead c.in_ok-start.start c.in_ok-outcome.outcome (omega (arith, c.loop-low.invariant.apart))
    (omega (arith, c.loop-low.invariant.apart)) refl c.in-TooMany.is c.in_ok-start.ensures
    c.in_ok-outcome.ensures.outcome

pub returns-clause-found : goal.returns-clause-found
returns-clause-found c ahead = search_ends c.args.first c.args.explained c.args.events.now c.args.base.now
    c.loop-low.low
    c.loop-low.high
    c.loop-low.invariant c.args.most ahead c.loop-low-test.false

pub returns-clause-among : goal.returns-clause-among
returns-clause-among c = (
  omega (arith, c.loop-low.invariant.after),
  omega (arith, c.loop-low.invariant.apart, c.loop-low.invariant.within),
)

pub loop-low-preserved-in-Explained : goal.loop-low-preserved-in-Explained
loop-low-preserved-in-Explained c = searching_higher c.args.first c.args.explained c.args.events.now c.args.base.now
    c.loop-low.low c.loop-low.high c.loop-low.invariant (c.loop-low.low + (c.loop-low.high - c.loop-low.low) / 2)
    c.args.most
    c.in_ok-start.start c.in_ok-outcome.outcome (omega (arith, c.loop-low.invariant.apart))
    (omega (arith, c.loop-low.invariant.apart)) c.in-Explained.is c.in_ok-start.ensures c.in_ok-outcome.ensures.outcome

pub loop-low-preserved : goal.loop-low-preserved
loop-low-preserved c = searching_lower c.args.first c.args.explained c.args.events.now c.args.base.now
    c.loop-low.low c.loop-low.high c.loop-low.invariant (c.loop-low.low + (c.loop-low.high - c.loop-low.low) / 2)
    c.args.most
    c.in-Unexplained.field-0 c.in_ok-start.start c.in_ok-outcome.outcome
    (omega (arith, c.loop-low.invariant.apart)) (omega (arith, c.loop-low.invariant.apart)) c.in-Unexplained.is
    c.in_ok-start.ensures c.in_ok-outcome.ensures.outcome
