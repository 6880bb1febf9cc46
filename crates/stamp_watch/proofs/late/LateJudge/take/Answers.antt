use Rattle.std.proofs.Common.{[], ◌∷◌, ◌++◌, ◌∙◌, refl}
use Rattle.stamp_watch.proofs.JudgingLate.{few_wait, late_finds, late_goes_on, late_known_then, late_way}
use Rattle.stamp_watch.proofs.JudgingLate.{ready_for, whole_then}
use Rattle.stamp_watch.proofs.late.LateJudge.take.Goals as goal

pub push-requires-clause-ready : goal.push-requires-clause-ready
push-requires-clause-ready c = let some = c.requires.some in
    ready_for some.limits some.most some.ahead some.run c.args.self.now some.judge_of c.requires.none
    c.args.event.now c.args.busy c.requires.may c.requires.busy

pub push-requires-clause-few : goal.push-requires-clause-few
push-requires-clause-few c = let some = c.requires.some in
    few_wait some.limits some.most some.ahead some.run c.args.self.now some.judge_of c.requires.none

pub returns-in_default-clause-found : goal.returns-in_default-clause-found
returns-in_default-clause-found c limits most ahead run is = whole_then limits most ahead run c.args.self.now is
    c.requires.none c.args.event.now c.args.busy c.requires.may c.requires.busy

pub returns-in_default-clause-given : goal.returns-in_default-clause-given
returns-in_default-clause-given c limits most ahead run is = late_goes_on limits most ahead run c.args.self.now is
    c.requires.none c.args.event.now c.args.busy c.requires.may c.requires.busy _
    (c.in_ok-found.ensures.delayed limits most ahead run
    (late_way limits most ahead run c.args.self.now is c.requires.none).delayed
    (whole_then limits most ahead run c.args.self.now is c.requires.none c.args.event.now c.args.busy c.requires.may
    c.requires.busy))
    (c.in_ok-found.ensures.told ∙ c.in_default.is) refl (c.in_ok-found.ensures.few.0 c.in_default.is) c.requires.none
    c.requires.room.room

pub returns-in_default-clause-known : goal.returns-in_default-clause-known
returns-in_default-clause-known c = late_known_then c.args.self.now _ c.args.event.now c.requires.some
    (returns-in_default-clause-given c)

pub returns-clause-found : goal.returns-clause-found
returns-clause-found c limits most ahead run is = c.finding-finding.ensures.found limits most ahead
    (run ++ c.args.event.now ∷ [])
    (c.in_ok-found.ensures.delayed limits most ahead run
    (late_way limits most ahead run c.args.self.now is c.requires.none).delayed
    (whole_then limits most ahead run c.args.self.now is c.requires.none c.args.event.now c.args.busy c.requires.may
    c.requires.busy))

pub returns-clause-given : goal.returns-clause-given
returns-clause-given c limits most ahead run is = late_finds limits most ahead run c.args.self.now is
    c.requires.none c.args.event.now c.args.busy c.requires.may c.requires.busy _ c.finding-finding.result
    (c.in_ok-found.ensures.delayed limits most ahead run
    (late_way limits most ahead run c.args.self.now is c.requires.none).delayed
    (whole_then limits most ahead run c.args.self.now is c.requires.none c.args.event.now c.args.busy c.requires.may
    c.requires.busy)) c.in_ok-found.ensures.few.1
    (c.finding-finding.ensures.tells limits most ahead (run ++ c.args.event.now ∷ [])
    (c.in_ok-found.ensures.delayed limits most ahead run
    (late_way limits most ahead run c.args.self.now is c.requires.none).delayed
    (whole_then limits most ahead run c.args.self.now is c.requires.none c.args.event.now c.args.busy c.requires.may
    c.requires.busy)))
    (c.finding-finding.ensures.there limits most ahead (run ++ c.args.event.now ∷ [])
    (c.in_ok-found.ensures.delayed limits most ahead run
    (late_way limits most ahead run c.args.self.now is c.requires.none).delayed
    (whole_then limits most ahead run c.args.self.now is c.requires.none c.args.event.now c.args.busy c.requires.may
    c.requires.busy))) refl (returns-clause-found c limits most ahead run is)

pub returns-clause-known : goal.returns-clause-known
returns-clause-known c = late_known_then c.args.self.now _ c.args.event.now c.requires.some (returns-clause-given c)
