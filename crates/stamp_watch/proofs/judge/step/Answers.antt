use Rattle.std.proofs.Common.{sym, subst}
use Rattle.std.proofs.lemmas.Result.{IfOk-weaker}
use Rattle.stamp_runs.specs.declared.event.Event.{Event}
use Rattle.stamp_sets.specs.SmallCall.{call_of, reply_of}
use Rattle.stamp_sets.specs.Tracing.{StaysTraced}
use Rattle.stamp_watch.proofs.Judged.{both_ok}
use Rattle.stamp_watch.proofs.Judging.{never_many, step_begins, step_returns, step_withdraws}
use Rattle.stamp_watch.proofs.judge.step.Goals as goal

pub returns-in-Begins-clause-step : goal.returns-in-Begins-clause-step
returns-in-Begins-clause-step c = IfOk-weaker c.begins.result _ _
    (λ progress both limits n past ahead told judging. step_begins limits n past c.args.event.now ahead c.args.most
    c.in-Begins.lane (call_of c.in-Begins.call) c.args.ends c.args.watch.now c.begins.new.self progress
    (sym c.in-Begins.ensures) told (both.0 past c.args.most judging.watching) both.1 judging)
    (both_ok c.begins.result _ _ c.begins.ensures.progress c.begins.ensures.told)

pub returns-in-Begins-clause-at_return : goal.returns-in-Begins-clause-at_return
returns-in-Begins-clause-at_return c = IfOk-weaker c.begins.result _ _
    (λ progress never. never_many c.args.event.now progress never) c.begins.ensures.never

pub returns-in-Begins-clause-traced : goal.returns-in-Begins-clause-traced
returns-in-Begins-clause-traced c = IfOk-weaker c.begins.result _ _
    (λ progress stays taken. subst (λ (e : Event). StaysTraced e c.args.watch.now c.begins.new.self)
    c.in-Begins.ensures (stays taken)) c.begins.ensures.traced

pub returns-in-Returns-clause-step : goal.returns-in-Returns-clause-step
returns-in-Returns-clause-step c = IfOk-weaker c.returns.result _ _
    (λ progress both limits n past ahead told judging. step_returns limits n past c.args.event.now ahead c.args.most
    c.in-Returns.lane (reply_of c.in-Returns.reply) c.args.watch.now c.returns.new.self progress
    (sym c.in-Returns.ensures) (both.0 past judging.watching) both.1 judging)
    (both_ok c.returns.result _ _ c.returns.ensures.progress c.returns.ensures.told)

pub returns-in-Returns-clause-traced : goal.returns-in-Returns-clause-traced
returns-in-Returns-clause-traced c = IfOk-weaker c.returns.result _ _
    (λ progress stays taken. subst (λ (e : Event). StaysTraced e c.args.watch.now c.returns.new.self)
    c.in-Returns.ensures (stays taken)) c.returns.ensures.traced

pub returns-in-Withdraws-clause-step : goal.returns-in-Withdraws-clause-step
returns-in-Withdraws-clause-step c = IfOk-weaker c.withdraws.result _ _
    (λ progress both limits n past ahead told judging. step_withdraws limits n past c.args.event.now ahead
    c.args.most c.in-Withdraws.lane c.args.watch.now c.withdraws.new.self progress (sym c.in-Withdraws.ensures)
    (both.0 past c.args.most judging.watching) both.1 judging)
    (both_ok c.withdraws.result _ _ c.withdraws.ensures.progress c.withdraws.ensures.told)

pub returns-in-Withdraws-clause-at_return : goal.returns-in-Withdraws-clause-at_return
returns-in-Withdraws-clause-at_return c = IfOk-weaker c.withdraws.result _ _
    (λ progress never. never_many c.args.event.now progress never) c.withdraws.ensures.never

pub returns-in-Withdraws-clause-traced : goal.returns-in-Withdraws-clause-traced
returns-in-Withdraws-clause-traced c = IfOk-weaker c.withdraws.result _ _
    (λ progress stays taken. subst (λ (e : Event). StaysTraced e c.args.watch.now c.withdraws.new.self)
    c.in-Withdraws.ensures (stays taken)) c.withdraws.ensures.traced
