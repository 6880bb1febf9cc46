use Rattle.std.proofs.Common.{[], ◌∷◌, ◌++◌, ◌∙◌, refl}
use Rattle.stamp_watch.proofs.EndedLate.{more_in_run}
use Rattle.stamp_watch.proofs.JudgingLate.{few_wait, has_found, late_broken, late_known_then, late_way, ready_now}
use Rattle.stamp_watch.proofs.PossibleLate.{keeps_beside}
use Rattle.stamp_watch.proofs.late.LateJudge.break_off.Goals as goal

pub break_off-requires-clause-ready : goal.break_off-requires-clause-ready
break_off-requires-clause-ready c = let some = c.requires.some in
    ready_now some.limits some.most some.ahead some.run c.args.self.now some.judge_of c.requires.none

pub break_off-requires-clause-few : goal.break_off-requires-clause-few
break_off-requires-clause-few c = let some = c.requires.some in
    few_wait some.limits some.most some.ahead some.run c.args.self.now some.judge_of c.requires.none

pub returns-clause-found : goal.returns-clause-found
returns-clause-found c limits most ahead run is = c.in_ok-finding.ensures.broken limits most ahead run
    (late_way limits most ahead run c.args.self.now is c.requires.none).delayed c.args.event.now
    (late_broken limits most ahead run c.args.self.now is c.requires.none c.args.event.now c.requires.not)

pub returns-clause-given : goal.returns-clause-given
returns-clause-given c limits most ahead run is = has_found limits most ahead (run ++ c.args.event.now ∷ []) _
    c.in_ok-finding.finding (c.in_ok-finding.ensures.window ∙ is.window)
    (c.in_ok-finding.ensures.small most ahead is.small)
    (keeps_beside limits run c.break_off.new.self c.args.event.now (c.in_ok-finding.ensures.keeps limits most ahead run
    (late_way limits most ahead run c.args.self.now is c.requires.none).delayed)) c.in_ok-finding.ensures.tells
    (more_in_run run (c.args.event.now ∷ []) c.break_off.new.self c.in_ok-finding.finding
    (c.in_ok-finding.ensures.there limits most ahead run
    (late_way limits most ahead run c.args.self.now is c.requires.none).delayed)) refl
    (returns-clause-found c limits most ahead run is)

pub returns-clause-known : goal.returns-clause-known
returns-clause-known c = late_known_then c.args.self.now _ c.args.event.now c.requires.some (returns-clause-given c)
