use Rattle.stamp_runs.proofs.Laws.{stuck_is_exact}
use Rattle.stamp_runs.proofs.run_laws.stuck_is_exact.Goals as goal

pub returns-clause-of_lock : goal.returns-clause-of_lock
returns-clause-of_lock c limits = stuck_is_exact _

pub returns-clause-of_record : goal.returns-clause-of_record
returns-clause-of_record c = stuck_is_exact _

pub returns-clause-of_both : goal.returns-clause-of_both
returns-clause-of_both c limits = stuck_is_exact _
