use Rattle.stamp_runs.specs.BothRun.{Both}
use Rattle.stamp_watch.proofs.Surviving.{withdrawn_takes_no_effect}
use Rattle.stamp_watch.proofs.watch_laws.withdrawn_takes_no_effect.Goals as goal

pub returns : goal.returns
returns c limits = withdrawn_takes_no_effect (Both limits)
