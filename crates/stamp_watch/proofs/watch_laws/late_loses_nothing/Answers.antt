use Rattle.stamp_watch.proofs.LosingNothing.{late_loses_nothing}
use Rattle.stamp_watch.proofs.watch_laws.late_loses_nothing.Goals as goal

pub returns : goal.returns
returns c = late_loses_nothing
