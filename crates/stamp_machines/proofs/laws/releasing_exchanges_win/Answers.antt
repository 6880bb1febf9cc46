use Rattle.stamp_machines.proofs.StepsKeep.{releases_win}
use Rattle.stamp_machines.proofs.laws.releasing_exchanges_win.Goals as goal

pub returns : goal.returns
returns c = releases_win
