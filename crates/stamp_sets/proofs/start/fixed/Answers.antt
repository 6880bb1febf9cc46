use Rattle.std.proofs.Common.{refl}
use Rattle.stamp_sets.proofs.start.fixed.Goals as goal

pub returns : goal.returns
returns c = record { state = refl; in_effect = refl; clears = c.without_lane.ensures }
