use Rattle.stamp_watch.proofs.AsObserved.{explained_as_observed}
use Rattle.stamp_watch.proofs.watch_laws.explained_as_observed.Goals as goal

pub returns : goal.returns
returns c = explained_as_observed
