use Rattle.stamp_check.proofs.RespelledRecords.{migration_keeps_linearized}
use Rattle.stamp_check.proofs.migration_laws.migration_keeps_linearized.Goals as goal

pub returns : goal.returns
returns c = migration_keeps_linearized
