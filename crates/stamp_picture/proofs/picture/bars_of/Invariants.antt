use Rattle.std.proofs.Common.{◌≡◌, take}
use Rattle.stamp_picture.specs.Bars.{bars_of}
use Rattle.stamp_picture.proofs.picture.bars_of.Given as goal

abbrev pub invariant-loop-number : goal.invariant-loop-number
invariant-loop-number l = l.bars.items ≡ bars_of l.window (take l.number l.entries)
