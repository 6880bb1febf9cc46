use Rattle.stamp_watch.proofs.SoFar.{open_is}
use Rattle.std.proofs.Common.{◌∙◌}
use Rattle.stamp_watch.proofs.online.Judge.open_calls.Goals as goal

pub returns : goal.returns
returns c limits most ahead run is =
    c.lanes_in.ensures ∙ open_is limits most ahead run c.args.self.now is c.requires.none
