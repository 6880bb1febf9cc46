use Rattle.stamp_watch.proofs.AsEvents.{stuck_by_numbers}
use Rattle.stamp_watch.proofs.watch_laws.stuck_by_numbers.Goals as goal

pub returns : goal.returns
returns c = stuck_by_numbers
