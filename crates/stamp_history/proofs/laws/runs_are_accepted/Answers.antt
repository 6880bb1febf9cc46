use Rattle.stamp_history.proofs.RunsAccepted.{runs_are_accepted}
use Rattle.stamp_history.proofs.laws.runs_are_accepted.Goals as goal

pub returns : goal.returns
returns c = runs_are_accepted
