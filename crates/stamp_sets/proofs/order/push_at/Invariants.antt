use Rattle.std.proofs.Common.{◌≡◌, ◌++◌}
use Rattle.std.specs.Prelude.{take}
use Rattle.stamp_sets.specs.inner.Order.{lanes_at}
use Rattle.stamp_sets.proofs.order.push_at.Given as goal

abbrev pub invariant-loop-call : goal.invariant-loop-call
invariant-loop-call l = l.list.items ≡ l.initial.list.items ++ lanes_at l.point (take l.call-index l.calls)
