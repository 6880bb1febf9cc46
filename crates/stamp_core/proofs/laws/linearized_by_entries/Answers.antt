use Rattle.stamp_core.proofs.Linearizing.{linearized_by_entries}
use Rattle.stamp_core.proofs.laws.linearized_by_entries.Goals as goal

pub returns : goal.returns
returns c = linearized_by_entries
