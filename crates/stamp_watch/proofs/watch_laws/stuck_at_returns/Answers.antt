use Rattle.stamp_watch.proofs.AsEvents.{stuck_at_returns}
use Rattle.stamp_watch.proofs.watch_laws.stuck_at_returns.Goals as goal

pub returns : goal.returns
returns c = stuck_at_returns
