use Rattle.stamp_watch.proofs.StuckAsObserved.{stuck_as_seen}
use Rattle.stamp_watch.proofs.watch_laws.stuck_as_seen.Goals as goal

pub returns : goal.returns
returns c = stuck_as_seen
