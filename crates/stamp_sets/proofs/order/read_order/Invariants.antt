use Rattle.std.proofs.Common.{◌≡◌, ◌≤◌, List, length}
use Rattle.std.specs.Prelude.{map, reverse, take}
use Rattle.stamp_runs.specs.Trace.{Move, order_of}
use Rattle.stamp_sets.specs.Order.{effect_at}
use Rattle.stamp_sets.specs.inner.Order.{WalksTo}
use Rattle.stamp_sets.specs.Tracing.{Says, events_in}
use Rattle.stamp_sets.proofs.order.read_order.Given as goal

abbrev pub invariant-loop-rest : goal.invariant-loop-rest
invariant-loop-rest l = (l.rest ≤ length l.entries) × ((moves : List Move) →
    events_in (reverse l.entries) ≡ l.fn.events → Says (reverse l.entries) l.fn.position
    moves →
    WalksTo (reverse (take l.rest l.entries)) (map effect_at (order_of moves)) l.walk)

abbrev pub decreases-loop-rest : goal.decreases-loop-rest
decreases-loop-rest l = l.rest
