use Rattle.stamp_history.proofs.RunsReadAgain.{runs_read_again}
use Rattle.stamp_history.proofs.laws.runs_read_again.Goals as goal

pub returns : goal.returns
returns c = runs_read_again
