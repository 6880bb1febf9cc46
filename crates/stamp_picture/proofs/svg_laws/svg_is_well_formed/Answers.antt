use Rattle.stamp_picture.proofs.WellFormed.{svg_is_well_formed}
use Rattle.stamp_picture.proofs.svg_laws.svg_is_well_formed.Goals as goal

pub returns : goal.returns
returns c = svg_is_well_formed
