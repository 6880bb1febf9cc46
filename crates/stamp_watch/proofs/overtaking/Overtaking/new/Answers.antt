use Rattle.std.proofs.Common.{[]}
use Rattle.stamp_watch.proofs.Overtaken.{follows_none}
use Rattle.stamp_watch.proofs.overtaking.Overtaking.new.Goals as goal

pub returns : goal.returns
returns c = c.settle.ensures [] [] follows_none
