use Rattle.std.proofs.Common.{◌∙◌}
use Rattle.stamp_watch.proofs.SoFarLate.{late_open_is}
use Rattle.stamp_watch.proofs.late.LateJudge.open_calls.Goals as goal

pub returns : goal.returns
returns c limits most ahead run is =
    c.lanes_in.ensures ∙ late_open_is limits most ahead run c.args.self.now is c.requires.none
