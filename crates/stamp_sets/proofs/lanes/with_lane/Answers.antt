use Rattle.std.proofs.Common.{w64}
use Rattle.std.proofs.lemmas.Nat.Bits.{bit_at_set_same, bit_at_set_other}
use Rattle.stamp_sets.proofs.lanes.with_lane.Goals as goal

pub returns : goal.returns
returns c = record {
  here = bit_at_set_same w64 c.args.lanes c.args.lane c.requires;
  others = bit_at_set_other w64 c.args.lanes c.args.lane c.requires;
}
