use Rattle.stamp_machines.proofs.Undisturbed.{ends_within_two}
use Rattle.stamp_machines.proofs.laws.undisturbed_calls_end.Goals as goal

pub returns : goal.returns
returns c = ends_within_two
