use Rattle.stamp_observed.proofs.OneFault as fault
use Rattle.stamp_observed.proofs.laws.one_verdict.Goals as goal

pub returns : goal.returns
returns c = fault.one_verdict
