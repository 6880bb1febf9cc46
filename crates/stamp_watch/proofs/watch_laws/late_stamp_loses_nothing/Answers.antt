use Rattle.stamp_watch.proofs.TellingVersions.{late_stamp_loses_nothing}
use Rattle.stamp_watch.proofs.watch_laws.late_stamp_loses_nothing.Goals as goal

pub returns : goal.returns
returns c = late_stamp_loses_nothing
