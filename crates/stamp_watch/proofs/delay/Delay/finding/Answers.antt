use Rattle.std.proofs.Common.{Option, ◌++◌, refl, subst}
use Rattle.std.specs.Prelude.{⊤, MatchOption}
use Rattle.stamp_watch.specs.declared.verdict.Verdict.{Verdict}
use Rattle.stamp_watch.specs.Course.{KeepsEndOf}
use Rattle.stamp_watch.specs.Delay.{reach_of}
use Rattle.stamp_watch.proofs.Closeness.{found_near}
use Rattle.stamp_watch.proofs.EndedAt.{ended_more}
use Rattle.stamp_watch.proofs.EndedLate.{found_in_run, settled_ends}
use Rattle.stamp_watch.proofs.FindingLate.{found_by}
use Rattle.stamp_watch.proofs.GoingOn.{found_of}
use Rattle.stamp_watch.proofs.JudgingLate.{late_told}
use Rattle.stamp_watch.proofs.PossibleLate.{keeps_of}
use Rattle.stamp_watch.proofs.delay.Delay.finding.Goals as goal

pub returns-clause-found : goal.returns-clause-found
returns-clause-found c limits most ahead run is = found_by limits most ahead run is.given c.args.self.now.aside.items
    c.args.self.now.waiting.events.items c.args.self.now.first_late c.args.self.now.passed is.whole is.handed
    c.args.self.now.shown is.shown is.late c.args.verdict
    (found_near limits most (reach_of ahead) is.given is.near.none c.args.verdict
    (found_of limits most (reach_of ahead) is.given c.args.self.now.judge is.judge_of c.args.verdict c.requires))
    c.finding_of.result c.finding_of.ensures

pub returns-clause-tells : goal.returns-clause-tells
returns-clause-tells c limits most ahead run is = late_told c.args.self.now.aside.items c.args.self.now.shown
    c.args.self.now.first_late c.args.verdict c.finding_of.result c.args.self.now c.finding_of.ensures
    (subst (λ (o : Option Verdict). MatchOption o ⊤ (KeepsEndOf c.args.self.now.judge.course)) c.requires
    is.judge_of.tells)

pub returns-clause-there : goal.returns-clause-there
returns-clause-there c limits most ahead run is = found_in_run limits run is.given c.args.self.now is.keeps
    (keeps_of limits most ahead run c.args.self.now is) c.args.self.now.aside.items c.args.self.now.shown
    (λ k settled call at. settled_ends limits run is.given c.args.self.now.aside.items
    c.args.self.now.waiting.events.items c.args.self.now.shown is.shown k settled call
    (ended_more is.given (c.args.self.now.aside.items ++ c.args.self.now.waiting.events.items) k call at))
    c.args.self.now.first_late refl c.args.verdict c.finding_of.result c.finding_of.ensures
