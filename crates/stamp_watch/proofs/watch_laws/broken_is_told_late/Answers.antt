use Rattle.stamp_watch.proofs.TellingBroken.{broken_is_told_late}
use Rattle.stamp_watch.proofs.watch_laws.broken_is_told_late.Goals as goal

pub returns : goal.returns
returns c = broken_is_told_late
