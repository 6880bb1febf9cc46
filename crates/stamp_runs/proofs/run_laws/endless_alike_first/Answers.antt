use Rattle.stamp_runs.proofs.Laws.{endless_alike_first}
use Rattle.stamp_runs.proofs.run_laws.endless_alike_first.Goals as goal

pub returns-clause-of_lock : goal.returns-clause-of_lock
returns-clause-of_lock c limits = endless_alike_first _

pub returns-clause-of_record : goal.returns-clause-of_record
returns-clause-of_record c = endless_alike_first _

pub returns-clause-of_both : goal.returns-clause-of_both
returns-clause-of_both c limits = endless_alike_first _
