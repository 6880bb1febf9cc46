use Rattle.stamp_watch.proofs.BeginningLater.{later_explains_no_more}
use Rattle.stamp_watch.proofs.watch_laws.later_explains_no_more.Goals as goal

pub returns : goal.returns
returns c = later_explains_no_more
