use Rattle.std.proofs.Common.{◌≡◌}
use Rattle.std.specs.Prelude.{take}
use Rattle.stamp_watch.specs.EndedCall.{begun_in}
use Rattle.stamp_watch.proofs.ended_call.begun_in.Given as goal

abbrev pub invariant-loop-event : goal.invariant-loop-event
invariant-loop-event l = l.last ≡ begun_in l.lane (take l.event-index l.events)
