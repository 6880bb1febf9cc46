use Rattle.stamp_runs.proofs.Laws.{hidden_with_readers}
use Rattle.stamp_runs.proofs.run_laws.hidden_with_readers.Goals as goal

pub returns-clause-of_lock : goal.returns-clause-of_lock
returns-clause-of_lock c limits = hidden_with_readers _

pub returns-clause-of_record : goal.returns-clause-of_record
returns-clause-of_record c = hidden_with_readers _
