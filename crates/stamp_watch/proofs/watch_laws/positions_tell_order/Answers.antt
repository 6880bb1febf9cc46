use Rattle.stamp_watch.proofs.Corresponding.{positions_tell_order}
use Rattle.stamp_watch.proofs.watch_laws.positions_tell_order.Goals as goal

pub returns : goal.returns
returns c = positions_tell_order
