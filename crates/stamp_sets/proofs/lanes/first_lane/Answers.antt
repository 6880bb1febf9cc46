use Rattle.std.proofs.Common.{w64}
use Rattle.std.proofs.lemmas.Nat.Bits.{bit_at-trailing_zeros}
use Rattle.stamp_sets.proofs.lanes.first_lane.Goals as goal

pub returns : goal.returns
returns c = record {
  within = (bit_at-trailing_zeros w64 c.args.lanes c.requires c.ranges.lanes.fits).0;
  among = (bit_at-trailing_zeros w64 c.args.lanes c.requires c.ranges.lanes.fits).1;
  lowest = (bit_at-trailing_zeros w64 c.args.lanes c.requires c.ranges.lanes.fits).2;
}
