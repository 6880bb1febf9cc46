use Rattle.stamp_watch.proofs.AsObserved.{traces_explain}
use Rattle.stamp_watch.proofs.watch_laws.traces_explain.Goals as goal

pub returns : goal.returns
returns c = traces_explain
