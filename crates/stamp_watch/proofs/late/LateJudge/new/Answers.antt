use Rattle.std.proofs.Common.{refl, []}
use Rattle.stamp_watch.proofs.JudgingLate.{late_first}
use Rattle.stamp_watch.proofs.late.LateJudge.new.Goals as goal

pub returns-clause-judge : goal.returns-clause-judge
returns-clause-judge c = late_first c.args.limits c.args.most c.args.ahead _ c.in_ok-delay.ensures.delayed
    c.in_ok-delay.ensures.going c.in_ok-delay.ensures.none refl refl

pub returns-clause-known : goal.returns-clause-known
returns-clause-known c = record {
  limits = c.args.limits;
  most = c.args.most;
  ahead = c.args.ahead;
  run = [];
  judge_of = returns-clause-judge c;
}
