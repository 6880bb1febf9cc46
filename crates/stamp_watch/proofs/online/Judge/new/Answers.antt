use Rattle.std.proofs.Common.{refl, []}
use Rattle.stamp_watch.proofs.GoingOn.{judge_first}
use Rattle.stamp_watch.proofs.GoingOn.{way_of}
use Rattle.stamp_watch.proofs.Kept.{kept_of}
use Rattle.stamp_watch.proofs.online.Judge.new.Goals as goal

pub returns-clause-judge : goal.returns-clause-judge
returns-clause-judge c = judge_first c.args.limits c.args.most c.args.ahead _ refl refl refl refl
    c.in_ok-course.ensures.course (c.in_ok-course.ensures.small c.args.ahead)

pub returns-clause-known : goal.returns-clause-known
returns-clause-known c = record {
  limits = c.args.limits;
  most = c.args.most;
  ahead = c.args.ahead;
  run = [];
  judge_of = returns-clause-judge c;
}

pub returns-clause-kept : goal.returns-clause-kept
returns-clause-kept c =
    let way = way_of c.args.limits c.args.most c.args.ahead [] _ (returns-clause-judge c) refl in
    kept_of c.args.limits [] _ way.course_of way.room

pub returns-clause-keeping : goal.returns-clause-keeping
returns-clause-keeping c = record {
  limits = c.args.limits;
  most = c.args.most;
  ahead = c.args.ahead;
  run = [];
  judge_of = returns-clause-judge c;
  keeps = returns-clause-kept c;
}
