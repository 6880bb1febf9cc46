use Rattle.stamp_cli.proofs.RunLines.{run_lines_are_accepted}
use Rattle.stamp_cli.proofs.laws.run_lines_are_accepted.Goals as goal

pub returns : goal.returns
returns c = run_lines_are_accepted
