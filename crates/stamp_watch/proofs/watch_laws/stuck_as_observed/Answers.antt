use Rattle.stamp_watch.proofs.StuckAsObserved.{stuck_as_observed}
use Rattle.stamp_watch.proofs.watch_laws.stuck_as_observed.Goals as goal

pub returns : goal.returns
returns c = stuck_as_observed
