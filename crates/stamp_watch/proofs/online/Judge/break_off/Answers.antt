use Rattle.std.proofs.Common.{[], ◌∷◌, ◌++◌, Some, refl, sym, subst}
use Rattle.stamp_watch.specs.declared.verdict.Verdict.{Verdict}
use Rattle.stamp_watch.specs.Judging.{IsFound}
use Rattle.stamp_watch.specs.Course.{KeepsEndOf}
use Rattle.stamp_watch.proofs.KeepingEnds.{keeps_broken}
use Rattle.stamp_watch.proofs.GoingOn.{course_on, course_room, found_broken, judge_broken, known_then}
use Rattle.stamp_watch.proofs.Kept.{kept_beside}
use Rattle.stamp_watch.proofs.online.Judge.break_off.Goals as goal

pub rest-requires-clause-on : goal.rest-requires-clause-on
rest-requires-clause-on c = course_on c.args.self.now c.requires.some c.requires.none

pub rest-requires-clause-room : goal.rest-requires-clause-room
rest-requires-clause-room c = course_room c.args.self.now c.requires.some c.requires.none

pub count-requires : goal.count-requires
count-requires c = course_room c.args.self.now c.requires.some c.requires.none

pub returns-clause-found : goal.returns-clause-found
returns-clause-found c limits most ahead run is =
    subst (λ (v : Verdict). IsFound limits (run ++ c.args.event.now ∷ []) most (Some ahead) v)
    (sym c.broken_off-verdict.ensures)
    (found_broken limits most ahead run c.args.event.now c.args.self.now is c.requires.none c.count.result
    c.in_ok-rest.rest
    c.count.ensures c.requires.not c.in_ok-rest.ensures.rest)

pub returns-clause-given : goal.returns-clause-given
returns-clause-given c limits most ahead run is = judge_broken limits most ahead run c.args.event.now c.args.self.now
    is c.requires.none _
    c.broken_off-verdict.result refl refl refl refl (returns-clause-found c limits most ahead run is)
    (subst (KeepsEndOf c.args.self.now.course) (sym c.broken_off-verdict.ensures)
    (keeps_broken c.args.self.now.course c.in_ok-rest.rest c.count.result c.in_ok-rest.ensures.tells))

pub returns-clause-known : goal.returns-clause-known
returns-clause-known c = known_then c.args.self.now _ c.args.event.now c.requires.some (returns-clause-given c)

pub returns-clause-kept : goal.returns-clause-kept
returns-clause-kept c limits most ahead run is keeps =
    kept_beside limits run c.args.self.now.course c.args.event.now keeps
