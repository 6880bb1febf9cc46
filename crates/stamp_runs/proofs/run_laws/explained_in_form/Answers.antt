use Rattle.stamp_runs.proofs.OwnEvents.{explained_in_form}
use Rattle.stamp_runs.proofs.run_laws.explained_in_form.Goals as goal

pub returns-clause-of_lock : goal.returns-clause-of_lock
returns-clause-of_lock c limits = explained_in_form _

pub returns-clause-of_record : goal.returns-clause-of_record
returns-clause-of_record c = explained_in_form _

pub returns-clause-of_both : goal.returns-clause-of_both
returns-clause-of_both c limits = explained_in_form _
