use Rattle.std.proofs.Common.{◌∙◌}
use Rattle.stamp_watch.proofs.JudgingLate.{late_way, run_long}
use Rattle.stamp_watch.proofs.late.LateJudge.count.Goals as goal

pub count-requires : goal.count-requires
count-requires c = let some = c.requires.some in
    (late_way some.limits some.most some.ahead some.run c.args.self.now some.judge_of c.requires.none).room

pub returns : goal.returns
returns c limits most ahead run is = c.count.ensures ∙ run_long limits most ahead run c.args.self.now is
    c.requires.none
