use Rattle.stamp_check.proofs.RespelledRecords.{linearized_migrates}
use Rattle.stamp_check.proofs.migration_laws.linearized_migrates.Goals as goal

pub returns : goal.returns
returns c = linearized_migrates
