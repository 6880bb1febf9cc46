use Rattle.stamp_runs.proofs.Forgetting.{held_are_told, overtaken_are_forgotten, overtaken_stays}
use Rattle.stamp_runs.proofs.run_laws.overtaken_are_forgotten.Goals as goal

pub returns-clause-all : goal.returns-clause-all
returns-clause-all c = held_are_told

pub returns-clause-overtaken : goal.returns-clause-overtaken
returns-clause-overtaken c = overtaken_are_forgotten

pub returns-clause-stays : goal.returns-clause-stays
returns-clause-stays c = overtaken_stays
