use Rattle.std.proofs.lemmas.Result.{IfOk-weaker}
use Rattle.stamp_watch.specs.Possible.{items_in, plain_replies}
use Rattle.stamp_watch.proofs.PossibleLate.{none_here, not_told, return_here, told_later}
use Rattle.stamp_watch.proofs.late.LateJudge.possible_at.Goals as goal

pub returns-then-is_late_by : goal.returns-then-is_late_by
returns-then-is_late_by c = not_told c.args.self.now c.args.number
    (λ can. c.is_late_by.ensures.late c.if-is_late_by.true can.before)
    (plain_replies c.args.self.now.delay.judge.course.base.limits c.args.call.now)

pub returns : goal.returns
returns c = IfOk-weaker c.possible_at.result _ _ (λ told is_told.
    let here = return_here c.args.self.now c.args.number c.return_at.result c.if-is_none.ensures
    c.return_at.ensures in
    told_later c.args.self.now c.args.number here.0 here.1 here.2 (c.is_late_by.ensures.before c.if-is_late_by.false)
    (plain_replies c.args.self.now.delay.judge.course.base.limits c.args.call.now) (items_in told) is_told)
    c.possible_at.ensures

pub returns-then-is_none : goal.returns-then-is_none
returns-then-is_none c = not_told c.args.self.now c.args.number
    (none_here c.args.self.now c.args.number c.return_at.result c.if-is_none.ensures c.return_at.ensures)
    (plain_replies c.args.self.now.delay.judge.course.base.limits c.args.call.now)
