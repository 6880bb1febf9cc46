use Rattle.stamp_check.proofs.OneFault.{one_verdict}
use Rattle.stamp_check.proofs.check_laws.one_verdict.Goals as goal

pub returns : goal.returns
returns c = one_verdict
