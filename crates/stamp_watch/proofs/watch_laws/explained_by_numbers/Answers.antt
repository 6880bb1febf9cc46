use Rattle.stamp_watch.proofs.AsEvents.{explained_by_numbers}
use Rattle.stamp_watch.proofs.watch_laws.explained_by_numbers.Goals as goal

pub returns : goal.returns
returns c = explained_by_numbers
