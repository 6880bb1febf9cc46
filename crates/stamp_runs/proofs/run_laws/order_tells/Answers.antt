use Rattle.stamp_runs.proofs.Laws.{order_tells}
use Rattle.stamp_runs.proofs.run_laws.order_tells.Goals as goal

pub returns-clause-of_lock : goal.returns-clause-of_lock
returns-clause-of_lock c limits = order_tells _

pub returns-clause-of_record : goal.returns-clause-of_record
returns-clause-of_record c = order_tells _

pub returns-clause-of_both : goal.returns-clause-of_both
returns-clause-of_both c limits = order_tells _
