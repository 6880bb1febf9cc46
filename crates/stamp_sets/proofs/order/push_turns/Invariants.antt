use Rattle.std.proofs.Common.{◌≡◌, ◌≤◌, ◌++◌}
use Rattle.stamp_sets.proofs.ReadingBack.{turns_from}
use Rattle.stamp_sets.proofs.order.push_turns.Given as goal

abbrev pub invariant-loop-step : goal.invariant-loop-step
invariant-loop-step l = (l.step ≤ 64) × (l.list.items ≡ l.initial.list.items ++ turns_from l.link l.point l.step)
