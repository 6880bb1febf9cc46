use Rattle.std.proofs.Common.{◌≡◌, ◌≤◌, take}
use Rattle.stamp_picture.specs.Frames.{lanes_in}
use Rattle.stamp_picture.proofs.frames.lanes_in.Given as goal

abbrev pub invariant-loop-bar : goal.invariant-loop-bar
invariant-loop-bar l = record { few : l.lanes ≤ 64; is : l.lanes ≡ lanes_in (take l.bar-index l.bars) }
