use Rattle.stamp_watch.specs.Delay.{reach_of}
use Rattle.stamp_watch.proofs.SoFarLate.{late_explained_is, way}
use Rattle.stamp_watch.proofs.late.LateJudge.explained.Goals as goal

pub explained-requires-clause-some : goal.explained-requires-clause-some
explained-requires-clause-some c = let some = c.requires.some in
    let here = way some.limits some.most some.ahead some.run c.args.self.now some.judge_of c.requires.none in record {
      limits = some.limits;
      most = some.most;
      ahead = reach_of some.ahead;
      run = here.delayed.given;
      judge_of = here.delayed.judge_of;
    }

pub explained-requires-clause-none : goal.explained-requires-clause-none
explained-requires-clause-none c = let some = c.requires.some in
    (way some.limits some.most some.ahead some.run c.args.self.now some.judge_of c.requires.none).going

pub returns : goal.returns
returns c limits most ahead run is = late_explained_is limits most ahead run c.args.self.now is c.requires.none
    c.explained.result (let here = way limits most ahead run c.args.self.now is c.requires.none in
    c.explained.ensures.explained limits most (reach_of ahead) here.delayed.given here.delayed.judge_of)
    (let here = way limits most ahead run c.args.self.now is c.requires.none in
    c.explained.ensures.waits limits most (reach_of ahead) here.delayed.given here.delayed.judge_of)
