use Rattle.stamp_watch.proofs.AsObserved.{order_is_of_history}
use Rattle.stamp_watch.proofs.watch_laws.order_explains.Goals as goal

pub returns : goal.returns
returns c = order_is_of_history
