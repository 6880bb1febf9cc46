use Rattle.stamp_check.proofs.RespelledStamps.{respelling_is_of_stamps}
use Rattle.stamp_check.proofs.migration_laws.respelling_is_of_stamps.Goals as goal

pub returns : goal.returns
returns c = respelling_is_of_stamps
