use Rattle.std.proofs.Common.{◌-◌, ◌++◌, ◌∙◌, ap, subst, sym}
use Rattle.stamp_watch.specs.declared.verdict.Verdict.{Verdict}
use Rattle.stamp_watch.specs.Course.{KeepsEndOf}
use Rattle.stamp_watch.specs.Delay.{reach_of}
use Rattle.stamp_watch.specs.inner.Delay.{IsFindingOf}
use Rattle.stamp_watch.proofs.Closeness.{near_all, rest_near}
use Rattle.stamp_watch.proofs.Delaying.{few_given}
use Rattle.stamp_watch.proofs.EndedLate.{found_in_run, settled_ends}
use Rattle.stamp_watch.proofs.FindingLate.{rest_by}
use Rattle.stamp_watch.proofs.HandingOn.{passed_length}
use Rattle.stamp_watch.proofs.JudgingLate.{broken_by, finding_as, late_told}
use Rattle.stamp_watch.proofs.KeepingEnds.{keeps_broken}
use Rattle.stamp_watch.proofs.PossibleLate.{keeps_all}
use Rattle.stamp_watch.proofs.delay.Delay.break_off.Goals as goal

pub returns-clause-keeps : goal.returns-clause-keeps
returns-clause-keeps c limits most ahead run is = keeps_all limits most ahead run c.args.self.now c.give_all.new.self
    is c.in_ok-give_all.ensures.same.2 c.in_ok-give_all.ensures.window
    (c.in_ok-give_all.ensures.kept limits most (reach_of ahead) is.given is.judge_of is.keeps)

pub returns-clause-broken : goal.returns-clause-broken
returns-clause-broken c limits most ahead run is = broken_by limits run most ahead c.count-number.result
    (c.count-number.ensures ∙ passed_length (ahead - 64) run is.given c.args.self.now.aside.items
    c.args.self.now.waiting.events.items c.args.self.now.first_late c.args.self.now.passed is.handed)
    c.args.self.now.aside.items c.args.self.now.shown c.args.self.now.first_late c.in_ok-rest.rest
    (rest_by limits most ahead run is.given c.args.self.now.aside.items c.args.self.now.waiting.events.items
    c.args.self.now.first_late c.args.self.now.passed is.whole is.handed c.args.self.now.shown is.shown is.late
    c.in_ok-rest.rest
    (rest_near limits most (reach_of ahead)
    (is.given ++ (c.args.self.now.aside.items ++ c.args.self.now.waiting.events.items))
    (near_all (reach_of ahead) is.given c.args.self.now.aside.items c.args.self.now.waiting.events.items
    (few_given limits most ahead run c.args.self.now is c.requires.few) is.near) c.in_ok-rest.rest
    (c.in_ok-rest.ensures.rest limits most (reach_of ahead)
    (is.given ++ (c.args.self.now.aside.items ++ c.args.self.now.waiting.events.items))
    (c.in_ok-give_all.ensures.given limits most (reach_of ahead) is.given is.judge_of)))) c.finding_of.result
    (subst (λ (v : Verdict). IsFindingOf c.args.self.now.aside.items c.args.self.now.shown c.args.self.now.first_late v
    c.finding_of.result) c.broken_off-broken.ensures
    (finding_as c.broken_off-broken.result c.finding_of.result (ap (λ v. v.items) c.in_ok-give_all.ensures.same.0)
    c.in_ok-give_all.ensures.same.3 c.in_ok-give_all.ensures.same.2 c.finding_of.ensures))

pub returns-clause-tells : goal.returns-clause-tells
returns-clause-tells c = late_told c.give_all.new.self.aside.items c.give_all.new.self.shown
    c.give_all.new.self.first_late c.broken_off-broken.result c.finding_of.result c.give_all.new.self
    c.finding_of.ensures
    (subst (KeepsEndOf c.give_all.new.self.judge.course) (sym c.broken_off-broken.ensures)
    (keeps_broken c.give_all.new.self.judge.course c.in_ok-rest.rest c.count-number.result c.in_ok-rest.ensures.tells))

pub returns-clause-there : goal.returns-clause-there
returns-clause-there c limits most ahead run is = found_in_run limits run
    (is.given ++ (c.args.self.now.aside.items ++ c.args.self.now.waiting.events.items)) c.give_all.new.self
    (c.in_ok-give_all.ensures.kept limits most (reach_of ahead) is.given is.judge_of is.keeps)
    (returns-clause-keeps c limits most ahead run is) c.args.self.now.aside.items c.args.self.now.shown
    (settled_ends limits run is.given c.args.self.now.aside.items c.args.self.now.waiting.events.items
    c.args.self.now.shown is.shown) c.args.self.now.first_late c.in_ok-give_all.ensures.same.2
    c.broken_off-broken.result c.finding_of.result
    (finding_as c.broken_off-broken.result c.finding_of.result (ap (λ v. v.items) c.in_ok-give_all.ensures.same.0)
    c.in_ok-give_all.ensures.same.3 c.in_ok-give_all.ensures.same.2 c.finding_of.ensures)
