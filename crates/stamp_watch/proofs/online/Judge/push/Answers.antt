use Rattle.std.proofs.Common.{Some, [], ◌∷◌, ◌++◌}
use Rattle.stamp_watch.proofs.GoingOn.{found_of, judge_stays}
use Rattle.stamp_watch.proofs.Running.{found_later}
use Rattle.stamp_watch.proofs.Kept.{IfOk-both, kept_beside}
use Rattle.stamp_watch.proofs.online.Judge.push.Goals as goal

pub returns-in-Some-clause-found : goal.returns-in-Some-clause-found
returns-in-Some-clause-found c limits most ahead run is = found_later limits run most (Some ahead) c.in-Some.verdict
    c.args.event.now
    (found_of limits most ahead run c.args.self.now is c.in-Some.verdict c.in-Some.is)

pub returns-in-Some-clause-given : goal.returns-in-Some-clause-given
returns-in-Some-clause-given c limits most ahead run is =
    judge_stays limits most ahead run c.args.event.now c.args.self.now is c.in-Some.verdict c.in-Some.is

pub returns-in-Some-clause-kept : goal.returns-in-Some-clause-kept
returns-in-Some-clause-kept c limits most ahead run is keeps =
    kept_beside limits run c.args.self.now.course c.args.event.now keeps

pub returns-in-Some-clause-keeping : goal.returns-in-Some-clause-keeping
returns-in-Some-clause-keeping c is = record {
  limits = is.limits;
  most = is.most;
  ahead = is.ahead;
  run = is.run ++ c.args.event.now ∷ [];
  judge_of = returns-in-Some-clause-given c is.limits is.most is.ahead is.run is.judge_of;
  keeps = returns-in-Some-clause-kept c is.limits is.most is.ahead is.run is.judge_of is.keeps;
}

pub returns-in-None-clause-keeping : goal.returns-in-None-clause-keeping
returns-in-None-clause-keeping c = IfOk-both c.look_at.result _ _ _ (λ found given kept is. record {
  limits = is.limits;
  most = is.most;
  ahead = is.ahead;
  run = is.run ++ c.args.event.now ∷ [];
  judge_of = given is.limits is.most is.ahead is.run is.judge_of;
  keeps = kept is.limits is.most is.ahead is.run is.judge_of is.keeps;
}) c.look_at.ensures.given c.look_at.ensures.kept
