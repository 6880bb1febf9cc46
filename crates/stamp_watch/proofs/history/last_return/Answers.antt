use Rattle.std.proofs.Common.{◌-◌, arith}
use Rattle.stamp_watch.proofs.SeekingReturns.{none_before, return_here}
use Rattle.stamp_watch.proofs.history.last_return.Goals as goal

pub loop-place-init : goal.loop-place-init
loop-place-init c k m low less at = absurd (omega (arith, low, less))

pub returns-then-moments-place : goal.returns-then-moments-place
returns-then-moments-place c =
    let some = c.loop-place-test.true in
    let within = c.loop-place.auto.place in (
      return_here c.args.moments.now _ (c.loop-place.place - 1) (omega (arith, some, within, c.requires))
          c.if-moments-place.true,
      omega (arith, some, within),
      (λ k m low less at. c.loop-place.invariant k m (omega (arith, low, some)) less at),
    )

pub loop-place-preserved : goal.loop-place-preserved
loop-place-preserved c = let some = c.loop-place-test.true in
    none_before c.args.moments.now _ (c.loop-place.place - 1) c.loop-place.place c.args.to (omega (arith, some))
    c.loop-place.invariant c.if-moments-place.false

pub returns : goal.returns
returns c k m low less = let past = c.loop-place-test.false in
    c.loop-place.invariant k m (omega (arith, low, past)) less
