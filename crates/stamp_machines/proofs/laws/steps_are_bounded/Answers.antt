use Rattle.stamp_machines.proofs.StepBound.{steps_are_bounded, under_way_bounded}
use Rattle.stamp_machines.proofs.laws.steps_are_bounded.Goals as goal

pub returns-clause-finished : goal.returns-clause-finished
returns-clause-finished c = steps_are_bounded

pub returns-clause-under_way : goal.returns-clause-under_way
returns-clause-under_way c = under_way_bounded
