use Rattle.stamp_runs.proofs.Laws.{traces_go_on}
use Rattle.stamp_runs.proofs.run_laws.traces_go_on.Goals as goal

pub returns-clause-of_lock : goal.returns-clause-of_lock
returns-clause-of_lock c limits = traces_go_on _

pub returns-clause-of_record : goal.returns-clause-of_record
returns-clause-of_record c = traces_go_on _
