use Rattle.stamp_core.proofs.Deciding.{decisions_are_transitions}
use Rattle.stamp_core.proofs.laws.decisions_are_transitions.Goals as goal

pub returns : goal.returns
returns c = decisions_are_transitions
