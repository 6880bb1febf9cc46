use Rattle.stamp_watch.proofs.TellingVersions.{stamp_tells_version}
use Rattle.stamp_watch.proofs.watch_laws.stamp_tells_version.Goals as goal

pub returns : goal.returns
returns c = stamp_tells_version
