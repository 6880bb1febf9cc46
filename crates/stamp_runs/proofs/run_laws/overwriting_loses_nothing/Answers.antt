use Rattle.stamp_runs.proofs.Laws.{overwriting_loses_nothing}
use Rattle.stamp_runs.proofs.run_laws.overwriting_loses_nothing.Goals as goal

pub returns-clause-of_lock : goal.returns-clause-of_lock
returns-clause-of_lock c limits = overwriting_loses_nothing _

pub returns-clause-of_record : goal.returns-clause-of_record
returns-clause-of_record c = overwriting_loses_nothing _
