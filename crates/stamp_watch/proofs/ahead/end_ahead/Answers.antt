use Rattle.std.proofs.Common.{ℕ, ◌+◌, Option, ap, subst, add-zero}
use Rattle.stamp_watch.specs.AsObserved.{ending_of}
use Rattle.stamp_sets.specs.declared.ending.Ending.{Ending}
use Rattle.stamp_watch.specs.inner.Judging.{IsEndBy}
use Rattle.stamp_watch.proofs.EndingAhead.{ending_more, ending_here, ending_none}
use Rattle.stamp_watch.proofs.ahead.end_ahead.Goals as goal

pub loop-k-init : goal.loop-k-init
loop-k-init c = ap (λ (n : ℕ). ending_of c.args.lane n c.args.events.now) (add-zero c.args.first)

pub returns-in-Some : goal.returns-in-Some
returns-in-Some c = ending_here c.args.events.now c.args.lane c.args.first c.loop-k.k c.index-events-k.result
    c.in-Some.end c.loop-k-test.true c.index-events-k.is c.loop-k.invariant c.in-Some.ensures

pub loop-k-preserved : goal.loop-k-preserved
loop-k-preserved c = ending_more c.args.events.now c.args.lane c.args.first c.loop-k.k c.index-events-k.result
    c.loop-k-test.true c.index-events-k.is c.loop-k.invariant
    (subst (λ (o : Option Ending). IsEndBy c.index-events-k.result c.args.lane (c.args.first + c.loop-k.k) o)
    c.in_default.is c.end_by.ensures)

pub returns : goal.returns
returns c = ending_none c.args.events.now c.args.lane c.args.first c.loop-k.k c.loop-k-test.false c.loop-k.invariant
