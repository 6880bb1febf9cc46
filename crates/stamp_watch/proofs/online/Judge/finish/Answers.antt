use Rattle.std.proofs.Common.{ℕ, Option, Some, subst}
use Rattle.std.specs.Prelude.{⊤, MatchOption}
use Rattle.std.proofs.lemmas.Result.{IfOk-weaker}
use Rattle.stamp_watch.specs.declared.verdict.Verdict.{Verdict}
use Rattle.stamp_watch.specs.Course.{IsRest, KeepsEndOf}
use Rattle.stamp_watch.proofs.GoingOn.{course_on, course_room, found_of, way_of}
use Rattle.stamp_watch.proofs.Running.{found_now, rest_found, rest_now}
use Rattle.stamp_watch.proofs.online.Judge.finish.Goals as goal

pub rest-requires-clause-on : goal.rest-requires-clause-on
rest-requires-clause-on c = course_on c.args.self.now c.requires c.in-None.is

pub rest-requires-clause-room : goal.rest-requires-clause-room
rest-requires-clause-room c = course_room c.args.self.now c.requires c.in-None.is

pub returns-in-Some-clause-verdict : goal.returns-in-Some-clause-verdict
returns-in-Some-clause-verdict c limits most ahead run is = found_now limits run most (Some ahead) c.in-Some.verdict
    (found_of limits most ahead run c.args.self.now is c.in-Some.verdict c.in-Some.is)

pub returns-in-Some-clause-rest : goal.returns-in-Some-clause-rest
returns-in-Some-clause-rest c limits most ahead run is = rest_found limits run most (Some ahead) c.in-Some.verdict
    (found_of limits most ahead run c.args.self.now is c.in-Some.verdict c.in-Some.is)

pub returns-in-Some-clause-tells : goal.returns-in-Some-clause-tells
returns-in-Some-clause-tells c = subst (λ (o : Option Verdict). MatchOption o ⊤ (KeepsEndOf c.args.self.now.course))
    c.in-Some.is c.requires.judge_of.tells

pub returns-in-None-clause-verdict : goal.returns-in-None-clause-verdict
returns-in-None-clause-verdict c = IfOk-weaker c.rest.result _ _
    (λ verdict rest limits most ahead run is. rest_now limits run most (Some ahead) verdict
    (subst (λ (m : ℕ). IsRest limits run m (Some ahead) verdict) is.most_is (rest (Some ahead) limits run
    (way_of limits most ahead run c.args.self.now is c.in-None.is).course_of))) c.rest.ensures.rest

pub returns-in-None-clause-rest : goal.returns-in-None-clause-rest
returns-in-None-clause-rest c = IfOk-weaker c.rest.result _ _
    (λ verdict rest limits most ahead run is. subst (λ (m : ℕ). IsRest limits run m (Some ahead) verdict) is.most_is
    (rest (Some ahead) limits run (way_of limits most ahead run c.args.self.now is c.in-None.is).course_of))
    c.rest.ensures.rest
