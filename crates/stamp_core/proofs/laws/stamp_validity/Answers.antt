use Rattle.stamp_core.proofs.StampValidity.{stamp_validity}
use Rattle.stamp_core.proofs.laws.stamp_validity.Goals as goal

pub returns : goal.returns
returns c = stamp_validity
