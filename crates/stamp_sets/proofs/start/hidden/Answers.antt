use Rattle.std.proofs.Common.{refl}
use Rattle.stamp_sets.proofs.start.hidden.Goals as goal

pub returns : goal.returns
returns c = record {
  there = record { state = c.args.left; in_effect = c.with_lane.result; free = c.without_lane.result };
  then = c.settled-then.result;
  at = refl;
  takes = c.with_lane.ensures;
  clears = c.without_lane.ensures;
  settled = c.settled-then.ensures;
  state = refl;
  in_effect = refl;
  free = refl;
}
