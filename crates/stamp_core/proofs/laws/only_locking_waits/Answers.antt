use Rattle.stamp_core.proofs.Deciding.{only_locking_waits}
use Rattle.stamp_core.proofs.laws.only_locking_waits.Goals as goal

pub returns : goal.returns
returns c = only_locking_waits
