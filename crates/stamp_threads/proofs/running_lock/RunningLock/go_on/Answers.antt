use Rattle.std.proofs.Common.{◌∙◌, rules, ap}
use Rattle.stamp_core.specs.LockDecision.{reply_as}
use Rattle.stamp_machines.proofs.LockCallSteps.{by_number}
use Rattle.stamp_threads.specs.LockPass.{LockView}
use Rattle.stamp_threads.proofs.CallSteps.{exchange_won, exchange_lost}
use Rattle.stamp_threads.proofs.GoingAsMachine.{is_made_by_answer, ends_by_answer, is_made_by_change}
use Rattle.stamp_threads.proofs.GoingAsMachine.{ends_by_change, loses_exchange, loads_again}
use Rattle.stamp_threads.proofs.Replying.{may_reply}
use Rattle.stamp_threads.proofs.running_lock.RunningLock.go_on.Goals as goal

pub loop-init : goal.loop-init
loop-init g c =
    let table = ap (λ (l : LockView). l.table) c.self.view_is in
    record { seat = rw (← table) at c.requires.seat; goes_on = λ v is. is }

pub decide-requires-clause-admitted : goal.decide-requires-clause-admitted
decide-requires-clause-admitted g c =
    let to_decide = c.loop.invariant.goes_on c.requires.to_decide.0 c.requires.to_decide.1 in search rules

pub exchange-found-requires-clause-changes : goal.exchange-found-requires-clause-changes
exchange-found-requires-clause-changes g c =
    let limits = c.self.invariant.0 ∙ ap (λ (l : LockView). l.limits) c.self.view_is in
    rw (c.bits.ensures.bits, limits)
    (reply_as c.in-Change.reply, by_number _ _ _ _ _ c.in-Change.ensures.decides)

pub returns-in-Answer-clause-made : goal.returns-in-Answer-clause-made
returns-in-Answer-clause-made g c = λ v is.
    (is_made_by_answer _ _ _ _ _ (c.loop.invariant.goes_on v is) _ c.in-Answer.ensures.decides)

pub returns-in-Answer-clause-reply : goal.returns-in-Answer-clause-reply
returns-in-Answer-clause-reply g c =
    let to_decide = c.loop.invariant.goes_on c.requires.to_decide.0 c.requires.to_decide.1 in
    (may_reply _ _ _ _ _ c.requires.lock_call
    (is_made_by_answer _ _ _ _ _ to_decide _ c.in-Answer.ensures.decides))

pub returns-in-Answer-clause-machine : goal.returns-in-Answer-clause-machine
returns-in-Answer-clause-machine g c = λ v is.
    (ends_by_answer _ _ _ _ _ (c.loop.invariant.goes_on v is) _ c.in-Answer.ensures.number)

pub returns-then-found-old-clause-made : goal.returns-then-found-old-clause-made
returns-then-found-old-clause-made g c = λ v is.
    let limits = c.self.invariant.0 ∙ ap (λ (l : LockView). l.limits) c.self.view_is in
    (is_made_by_change _ _ _ _ _ (c.loop.invariant.goes_on v is) _ _ c.in-Change.ensures.decides
    c.in-Change.ensures.number _
    (exchange_won _ _ _ _ _ _ c.if-found-old.true (rw limits at c.exchange-found.ensures.learned)))

pub returns-then-found-old-clause-reply : goal.returns-then-found-old-clause-reply
returns-then-found-old-clause-reply g c =
    let to_decide = c.loop.invariant.goes_on c.requires.to_decide.0 c.requires.to_decide.1 in
    let limits = c.self.invariant.0 ∙ ap (λ (l : LockView). l.limits) c.self.view_is in
    (may_reply _ _ _ _ _ c.requires.lock_call
    (is_made_by_change _ _ _ _ _ to_decide _ _ c.in-Change.ensures.decides
    c.in-Change.ensures.number _
    (exchange_won _ _ _ _ _ _ c.if-found-old.true (rw limits at c.exchange-found.ensures.learned))))

pub returns-then-found-old-clause-machine : goal.returns-then-found-old-clause-machine
returns-then-found-old-clause-machine g c = λ v is.
    let limits = c.self.invariant.0 ∙ ap (λ (l : LockView). l.limits) c.self.view_is in
    (ends_by_change _ _ _ _ _ (c.loop.invariant.goes_on v is) _ _ c.in-Change.ensures.decides
    c.in-Change.ensures.number _
    (exchange_won _ _ _ _ _ _ c.if-found-old.true (rw limits at c.exchange-found.ensures.learned)))

pub loop-preserved-in-Change : goal.loop-preserved-in-Change
loop-preserved-in-Change g c =
    let limits = c.self.invariant.0 ∙ ap (λ (l : LockView). l.limits) c.self.view_is in
    let lost = exchange_lost _ _ _ _ _ _ c.if-found-old.false (rw limits at c.exchange-found.ensures.learned) in
    record {
      seat = c.exchange-found.ensures.seat;
      goes_on = λ v is. loses_exchange _ _ _ _ _ (c.loop.invariant.goes_on v is) _ _
          c.in-Change.ensures.decides c.in-Change.ensures.number _ _ lost.0 lost.1;
    }

pub loop-preserved : goal.loop-preserved
loop-preserved g c =
    let limits = c.self.invariant.0 ∙ ap (λ (l : LockView). l.limits) c.self.view_is in
    record {
      seat = c.load-found.ensures.seat;
      goes_on = λ v is. loads_again _ _ _ _ _ (c.loop.invariant.goes_on v is) c.in-Wait.ensures.decides
          c.in-Wait.ensures.number _ _ (rw limits at c.load-found.ensures.learned);
    }
