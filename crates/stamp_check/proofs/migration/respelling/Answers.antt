use Rattle.stamp_check.proofs.RespelledStamps.{one_respelling}
use Rattle.stamp_check.proofs.migration.respelling.Goals as goal

pub returns : goal.returns
returns c = one_respelling c.args.stamp c.respell.result c.respell.ensures
