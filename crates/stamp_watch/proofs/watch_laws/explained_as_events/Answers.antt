use Rattle.stamp_watch.proofs.AsEvents.{explained_as_events}
use Rattle.stamp_watch.proofs.watch_laws.explained_as_events.Goals as goal

pub returns : goal.returns
returns c = explained_as_events
