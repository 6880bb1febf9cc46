use Rattle.std.proofs.Common.{◌≡◌}
use Rattle.std.specs.Prelude.{take}
use Rattle.stamp_watch.specs.Verdict.{AreOfLanes}
use Rattle.stamp_watch.specs.Judging.{AreBusyLanes}
use Rattle.stamp_watch.proofs.lanes.in_form.Given as goal

abbrev pub invariant-loop-event : goal.invariant-loop-event
invariant-loop-event l = record {
  taken_is : l.taken.items ≡ take l.event-index l.events;
  whole : AreOfLanes (take l.event-index l.events);
  lanes : AreBusyLanes (take l.event-index l.events) l.busy;
}
