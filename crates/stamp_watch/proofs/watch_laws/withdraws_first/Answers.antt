use Rattle.stamp_runs.specs.BothRun.{Both}
use Rattle.stamp_watch.proofs.Surviving.{withdraws_first}
use Rattle.stamp_watch.proofs.watch_laws.withdraws_first.Goals as goal

pub returns : goal.returns
returns c limits = withdraws_first (Both limits)
