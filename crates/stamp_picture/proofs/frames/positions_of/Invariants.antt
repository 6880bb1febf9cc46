use Rattle.std.proofs.Common.{◌≡◌, take}
use Rattle.stamp_picture.specs.Frames.{positions_of}
use Rattle.stamp_picture.proofs.frames.positions_of.Given as goal

abbrev pub invariant-loop-bar : goal.invariant-loop-bar
invariant-loop-bar l = l.positions.items ≡ positions_of (take l.bar-index l.bars)
