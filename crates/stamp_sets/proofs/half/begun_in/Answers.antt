use Rattle.std.proofs.Common.{refl}
use Rattle.stamp_sets.proofs.half.begun_in.Goals as goal

pub returns : goal.returns
returns c = record {
  plain = record { state = c.args.position.state; in_effect = c.without_lane.result; free = c.args.position.free };
  state = refl;
  clears = c.without_lane.ensures;
  free = refl;
  settles = c.at_once.ensures;
}
