use Rattle.stamp_watch.proofs.JudgingLate.{found_then, late_found_of, late_stays}
use Rattle.stamp_watch.proofs.late.LateJudge.push.Goals as goal

pub returns-in-Some-clause-found : goal.returns-in-Some-clause-found
returns-in-Some-clause-found c limits most ahead run is = found_then limits run most ahead c.args.event.now
    c.in-Some.finding (late_found_of limits most ahead run c.args.self.now is c.in-Some.finding c.in-Some.is)

pub returns-in-Some-clause-given : goal.returns-in-Some-clause-given
returns-in-Some-clause-given c limits most ahead run is =
    late_stays limits most ahead run c.args.self.now is c.args.event.now c.in-Some.finding c.in-Some.is
