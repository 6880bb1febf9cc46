use Rattle.stamp_watch.proofs.AlongMoments.{order_up_to}
use Rattle.stamp_watch.proofs.watch_laws.order_up_to.Goals as goal

pub returns : goal.returns
returns c = order_up_to
