use Rattle.stamp_runs.proofs.Objects.{same_are_alike}
use Rattle.stamp_runs.proofs.run_laws.same_are_alike.Goals as goal

pub returns : goal.returns
returns c = same_are_alike
