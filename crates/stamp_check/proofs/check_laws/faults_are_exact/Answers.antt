use Rattle.stamp_check.proofs.OneFault.{faults_are_exact}
use Rattle.stamp_check.proofs.check_laws.faults_are_exact.Goals as goal

pub returns : goal.returns
returns c = faults_are_exact
