use Rattle.std.proofs.Common.{arith}
use Rattle.stamp_watch.proofs.SeekingReturns.{none_behind, return_here}
use Rattle.stamp_watch.proofs.history.first_return.Goals as goal

pub loop-place-init : goal.loop-place-init
loop-place-init c k m low less at = absurd (omega (arith, low, less))

pub returns-then-moments-place : goal.returns-then-moments-place
returns-then-moments-place c = (
  return_here c.args.moments.now _ c.loop-place.place c.loop-place-test.true c.if-moments-place.true,
  c.loop-place.auto.place,
  c.loop-place.invariant,
)

pub loop-place-preserved : goal.loop-place-preserved
loop-place-preserved c = none_behind c.args.moments.now _ c.args.from c.loop-place.place c.loop-place.invariant
    c.if-moments-place.false

pub returns : goal.returns
returns c k m low less = let past = c.loop-place-test.false in
    c.loop-place.invariant k m low (omega (arith, less, past))
