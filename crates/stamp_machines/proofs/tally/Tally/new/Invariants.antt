use Rattle.std.proofs.Common.{◌≡◌, replicate}
use Rattle.stamp_machines.specs.inner.Tally.{idle_meter}
use Rattle.stamp_machines.proofs.tally.Tally.new.Given as goal

abbrev pub invariant-loop : goal.invariant-loop
invariant-loop l = l.meters.items ≡ replicate l.counter idle_meter
