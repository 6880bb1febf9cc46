use Rattle.stamp_runs.proofs.Naming.{names_dont_matter, stuck_by_names}
use Rattle.stamp_runs.proofs.run_laws.names_dont_matter.Goals as goal

pub returns-clause-explained : goal.returns-clause-explained
returns-clause-explained c = names_dont_matter

pub returns-clause-stuck : goal.returns-clause-stuck
returns-clause-stuck c = stuck_by_names
