use Rattle.stamp_core.proofs.StampValidity.{held_is_valid}
use Rattle.stamp_core.proofs.laws.held_is_valid.Goals as goal

pub returns : goal.returns
returns c = held_is_valid
