use Rattle.stamp_watch.proofs.AsEvents.{stuck_as_events}
use Rattle.stamp_watch.proofs.watch_laws.stuck_as_events.Goals as goal

pub returns : goal.returns
returns c = stuck_as_events
