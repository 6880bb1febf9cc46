use Rattle.stamp_watch.proofs.AsEvents.{cut_as_events}
use Rattle.stamp_watch.proofs.watch_laws.cut_as_events.Goals as goal

pub returns : goal.returns
returns c = cut_as_events
