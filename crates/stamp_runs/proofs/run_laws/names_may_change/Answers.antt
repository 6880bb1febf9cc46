use Rattle.stamp_runs.proofs.Renaming.{names_may_change, stuck_by_changing_names}
use Rattle.stamp_runs.proofs.run_laws.names_may_change.Goals as goal

pub returns-clause-explained : goal.returns-clause-explained
returns-clause-explained c = names_may_change

pub returns-clause-stuck : goal.returns-clause-stuck
returns-clause-stuck c = stuck_by_changing_names
