use Rattle.stamp_core.proofs.StampValidity.{legal_is_well_formed}
use Rattle.stamp_core.proofs.laws.legal_is_well_formed.Goals as goal

pub returns : goal.returns
returns c = legal_is_well_formed
