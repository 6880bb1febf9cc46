use Rattle.std.proofs.Common.{List, subst, arith, ◌-◌}
use Rattle.std.specs.Prelude.{map, reverse, take}
use Rattle.stamp_runs.specs.Trace.{order_of}
use Rattle.stamp_sets.specs.declared.trail.Entry.{Entry}
use Rattle.stamp_sets.specs.declared.trail.Entry.TheVariants.{Begins}
use Rattle.stamp_sets.specs.Order.{effect_at}
use Rattle.stamp_sets.specs.inner.Order.{WalksTo}
use Rattle.stamp_sets.proofs.ReadingBack.{last_first}
use Rattle.stamp_sets.proofs.order.read_order.Goals as goal

pub loop-rest-preserved : goal.loop-rest-preserved
loop-rest-preserved c = (
  omega (arith, c.loop-rest.invariant.0),
  λ moves events says. c.in_ok-step.ensures
      (reverse (take (c.loop-rest.rest - 1) c.args.entries.now)) _
      (subst (λ (es : List Entry). WalksTo es (map effect_at (order_of moves)) c.loop-rest.walk)
      (last_first c.args.entries.now c.loop-rest.rest (Begins 0) (omega (arith, c.loop-rest-test.true))
      c.loop-rest.invariant.0) (c.loop-rest.invariant.1 moves events says)),
)
