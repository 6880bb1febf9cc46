use Rattle.stamp_watch.proofs.AlongMoments.{order_of_history}
use Rattle.stamp_watch.proofs.watch_laws.order_of_history.Goals as goal

pub returns : goal.returns
returns c = order_of_history
