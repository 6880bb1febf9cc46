use Rattle.std.proofs.Common.{◌++◌, []}
use Rattle.stamp_watch.proofs.Overtaken.{tracks_from}
use Rattle.stamp_watch.proofs.overtaking.Overtaking.mark.Goals as goal

pub returns : goal.returns
returns c past since tracks =
    c.settle.ensures (past ++ since) [] (tracks_from past since c.args.self.now tracks)
