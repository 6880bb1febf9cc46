use Rattle.std.proofs.Common.{◌∙◌, sym}
use Rattle.std.proofs.lemmas.Result.{IfOk-weaker}
use Rattle.stamp_watch.proofs.JudgingLate.{few_wait, finding_now, late_found_of, late_rest_now, late_way, tells_of}
use Rattle.stamp_watch.proofs.JudgingLate.{there_of}
use Rattle.stamp_watch.proofs.late.LateJudge.finish.Goals as goal

pub returns-in-Some-clause-verdict : goal.returns-in-Some-clause-verdict
returns-in-Some-clause-verdict c limits most ahead run is = finding_now limits run most ahead c.in-Some.finding
    (late_found_of limits most ahead run c.args.self.now is c.in-Some.finding c.in-Some.is)

pub returns-in-Some-clause-keeps : goal.returns-in-Some-clause-keeps
returns-in-Some-clause-keeps c limits most ahead run is = is.keeps

pub returns-in-Some-clause-tells : goal.returns-in-Some-clause-tells
returns-in-Some-clause-tells c = let some = c.requires in
    tells_of some.limits some.most some.ahead some.run c.args.self.now some.judge_of c.in-Some.finding c.in-Some.is

pub returns-in-Some-clause-there : goal.returns-in-Some-clause-there
returns-in-Some-clause-there c limits most ahead run is =
    there_of limits most ahead run c.args.self.now is c.in-Some.finding c.in-Some.is

pub returns-in-None-clause-there : goal.returns-in-None-clause-there
returns-in-None-clause-there c = IfOk-weaker c.rest.result _ _ (λ f there limits most ahead run is.
    there limits most ahead run (late_way limits most ahead run c.args.self.now is c.in-None.is).delayed)
    c.rest.ensures.there

pub returns-in-None-clause-verdict : goal.returns-in-None-clause-verdict
returns-in-None-clause-verdict c = IfOk-weaker c.rest.result _ _ (λ f rest limits most ahead run is.
    late_rest_now limits run most ahead f
    (rest limits most ahead run (late_way limits most ahead run c.args.self.now is c.in-None.is).delayed))
    c.rest.ensures.rest

pub returns-in-None-clause-keeps : goal.returns-in-None-clause-keeps
returns-in-None-clause-keeps c = IfOk-weaker c.rest.result _ _ (λ f keeps limits most ahead run is.
    keeps limits most ahead run (late_way limits most ahead run c.args.self.now is c.in-None.is).delayed)
    c.rest.ensures.keeps

pub rest-requires-clause-few : goal.rest-requires-clause-few
rest-requires-clause-few c = few_wait c.requires.limits c.requires.most c.requires.ahead c.requires.run c.args.self.now
    c.requires.judge_of c.in-None.is

pub rest-requires-clause-room : goal.rest-requires-clause-room
rest-requires-clause-room c =
    (late_way c.requires.limits c.requires.most c.requires.ahead c.requires.run c.args.self.now c.requires.judge_of
    c.in-None.is).room

pub returns-in-None-clause-most : goal.returns-in-None-clause-most
returns-in-None-clause-most c = IfOk-weaker c.rest.result _ _ (λ f small. let some = c.requires in
    (small some.most some.ahead some.judge_of.small).judge_of.most_is ∙ sym some.judge_of.small.judge_of.most_is)
    c.rest.ensures.small
