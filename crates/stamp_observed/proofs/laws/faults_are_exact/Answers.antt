use Rattle.stamp_observed.proofs.OneFault as fault
use Rattle.stamp_observed.proofs.laws.faults_are_exact.Goals as goal

pub returns : goal.returns
returns c = fault.faults_are_exact
