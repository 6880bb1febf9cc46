use Rattle.std.proofs.Common.{◌∙◌, ap}
use Rattle.stamp_core.specs.LockDecision.{reply_as}
use Rattle.stamp_machines.proofs.LockCallSteps.{by_number}
use Rattle.stamp_threads.specs.LockPass.{LockView, LockToken}
use Rattle.stamp_threads.proofs.CallSteps.{exchange_won, exchange_lost}
use Rattle.stamp_threads.proofs.GoingAsMachine.{begins, is_made_by_answer, ends_by_answer, is_made_by_change}
use Rattle.stamp_threads.proofs.GoingAsMachine.{ends_by_change, loses_exchange}
use Rattle.stamp_threads.proofs.Replying.{may_reply}
use Rattle.stamp_threads.proofs.running_lock.RunningLock.call_in.Goals as goal

pub exchange-found-requires-clause-changes : goal.exchange-found-requires-clause-changes
exchange-found-requires-clause-changes g c =
    let limits = c.self.invariant.0 ∙ ap (λ (l : LockView). l.limits) c.self.view_is in
    rw (c.bits.ensures.bits, limits)
    (reply_as c.in-Change.reply, by_number _ _ _ _ _ c.in-Change.ensures.decides)

pub returns-in-Answer-clause-made : goal.returns-in-Answer-clause-made
returns-in-Answer-clause-made g c =
    let limits = c.self.invariant.0 ∙ ap (λ (l : LockView). l.limits) c.self.view_is in
    let view = ap (λ (p : LockToken). p.view) c.pass.view_is in
    let begun = begins _ _ _ _ _ c.requires.lock_call (rw (limits, view) at c.load-word.ensures.learned) in
    rw c.as_reply.ensures (is_made_by_answer _ _ _ _ _ begun _ c.in-Answer.ensures.decides)

pub returns-in-Answer-clause-reply : goal.returns-in-Answer-clause-reply
returns-in-Answer-clause-reply g c =
    let limits = c.self.invariant.0 ∙ ap (λ (l : LockView). l.limits) c.self.view_is in
    let view = ap (λ (p : LockToken). p.view) c.pass.view_is in
    let begun = begins _ _ _ _ _ c.requires.lock_call (rw (limits, view) at c.load-word.ensures.learned) in
    rw c.as_reply.ensures
    (may_reply _ _ _ _ _ c.requires.lock_call (is_made_by_answer _ _ _ _ _ begun _ c.in-Answer.ensures.decides))

pub returns-in-Answer-clause-machine : goal.returns-in-Answer-clause-machine
returns-in-Answer-clause-machine g c =
    let limits = c.self.invariant.0 ∙ ap (λ (l : LockView). l.limits) c.self.view_is in
    let view = ap (λ (p : LockToken). p.view) c.pass.view_is in
    let begun = begins _ _ _ _ _ c.requires.lock_call (rw (limits, view) at c.load-word.ensures.learned) in
    rw c.as_reply.ensures (ends_by_answer _ _ _ _ _ begun _ c.in-Answer.ensures.number)

pub returns-then-found-word-clause-made : goal.returns-then-found-word-clause-made
returns-then-found-word-clause-made g c =
    let limits = c.self.invariant.0 ∙ ap (λ (l : LockView). l.limits) c.self.view_is in
    let view = ap (λ (p : LockToken). p.view) c.pass.view_is in
    let begun = begins _ _ _ _ _ c.requires.lock_call (rw (limits, view) at c.load-word.ensures.learned) in
    let won = exchange_won _ _ _ _ _ _ c.if-found-word.true (rw limits at c.exchange-found.ensures.learned) in
    rw c.as_reply-then-found-word.ensures
    (is_made_by_change _ _ _ _ _ begun _ _ c.in-Change.ensures.decides c.in-Change.ensures.number _ won)

pub returns-then-found-word-clause-reply : goal.returns-then-found-word-clause-reply
returns-then-found-word-clause-reply g c =
    let limits = c.self.invariant.0 ∙ ap (λ (l : LockView). l.limits) c.self.view_is in
    let view = ap (λ (p : LockToken). p.view) c.pass.view_is in
    let begun = begins _ _ _ _ _ c.requires.lock_call (rw (limits, view) at c.load-word.ensures.learned) in
    let won = exchange_won _ _ _ _ _ _ c.if-found-word.true (rw limits at c.exchange-found.ensures.learned) in
    rw c.as_reply-then-found-word.ensures
    (may_reply _ _ _ _ _ c.requires.lock_call
    (is_made_by_change _ _ _ _ _ begun _ _ c.in-Change.ensures.decides c.in-Change.ensures.number _ won))

pub returns-then-found-word-clause-machine : goal.returns-then-found-word-clause-machine
returns-then-found-word-clause-machine g c =
    let limits = c.self.invariant.0 ∙ ap (λ (l : LockView). l.limits) c.self.view_is in
    let view = ap (λ (p : LockToken). p.view) c.pass.view_is in
    let begun = begins _ _ _ _ _ c.requires.lock_call (rw (limits, view) at c.load-word.ensures.learned) in
    let won = exchange_won _ _ _ _ _ _ c.if-found-word.true (rw limits at c.exchange-found.ensures.learned) in
    rw c.as_reply-then-found-word.ensures
    (ends_by_change _ _ _ _ _ begun _ _ c.in-Change.ensures.decides c.in-Change.ensures.number _ won)

pub go_on_anew-reply-requires-clause-to_decide : goal.go_on_anew-reply-requires-clause-to_decide
go_on_anew-reply-requires-clause-to_decide g c =
    let limits = c.self.invariant.0 ∙ ap (λ (l : LockView). l.limits) c.self.view_is in
    let view = ap (λ (p : LockToken). p.view) c.pass.view_is in
    let begun = begins _ _ _ _ _ c.requires.lock_call (rw (limits, view) at c.load-word.ensures.learned) in
    let lost = exchange_lost _ _ _ _ _ _ c.if-found-word.false (rw limits at c.exchange-found.ensures.learned) in
    let going = loses_exchange _ _ _ _ _ begun _ _ c.in-Change.ensures.decides c.in-Change.ensures.number _ _
    lost.0 lost.1 in
    (c.args.pass.now.view, going)

pub returns-else-found-word-clause-made : goal.returns-else-found-word-clause-made
returns-else-found-word-clause-made g c =
    let limits = c.self.invariant.0 ∙ ap (λ (l : LockView). l.limits) c.self.view_is in
    let view = ap (λ (p : LockToken). p.view) c.pass.view_is in
    let begun = begins _ _ _ _ _ c.requires.lock_call (rw (limits, view) at c.load-word.ensures.learned) in
    let lost = exchange_lost _ _ _ _ _ _ c.if-found-word.false (rw limits at c.exchange-found.ensures.learned) in
    let going = loses_exchange _ _ _ _ _ begun _ _ c.in-Change.ensures.decides c.in-Change.ensures.number _ _
    lost.0 lost.1 in
    rw c.as_reply-in-Change.ensures
    (c.go_on_anew-reply.ensures.made _ going)

pub returns-else-found-word-clause-machine : goal.returns-else-found-word-clause-machine
returns-else-found-word-clause-machine g c =
    let limits = c.self.invariant.0 ∙ ap (λ (l : LockView). l.limits) c.self.view_is in
    let view = ap (λ (p : LockToken). p.view) c.pass.view_is in
    let begun = begins _ _ _ _ _ c.requires.lock_call (rw (limits, view) at c.load-word.ensures.learned) in
    let lost = exchange_lost _ _ _ _ _ _ c.if-found-word.false (rw limits at c.exchange-found.ensures.learned) in
    let going = loses_exchange _ _ _ _ _ begun _ _ c.in-Change.ensures.decides c.in-Change.ensures.number _ _
    lost.0 lost.1 in
    rw c.as_reply-in-Change.ensures
    (c.go_on_anew-reply.ensures.machine c.args.pass.now.view going)

pub go_on_anew-reply-requires-in-Wait-clause-to_decide : goal.go_on_anew-reply-requires-in-Wait-clause-to_decide
go_on_anew-reply-requires-in-Wait-clause-to_decide g c =
    let limits = c.self.invariant.0 ∙ ap (λ (l : LockView). l.limits) c.self.view_is in
    let view = ap (λ (p : LockToken). p.view) c.pass.view_is in
    let begun = begins _ _ _ _ _ c.requires.lock_call (rw (limits, view) at c.load-word.ensures.learned) in
    (c.args.pass.now.view, begun)

pub returns-in-Wait-clause-made : goal.returns-in-Wait-clause-made
returns-in-Wait-clause-made g c =
    let limits = c.self.invariant.0 ∙ ap (λ (l : LockView). l.limits) c.self.view_is in
    let view = ap (λ (p : LockToken). p.view) c.pass.view_is in
    let begun = begins _ _ _ _ _ c.requires.lock_call (rw (limits, view) at c.load-word.ensures.learned) in
    rw c.as_reply-in-Wait.ensures
    (c.go_on_anew-reply-in-Wait.ensures.made _ begun)

pub returns-in-Wait-clause-machine : goal.returns-in-Wait-clause-machine
returns-in-Wait-clause-machine g c =
    let limits = c.self.invariant.0 ∙ ap (λ (l : LockView). l.limits) c.self.view_is in
    let view = ap (λ (p : LockToken). p.view) c.pass.view_is in
    let begun = begins _ _ _ _ _ c.requires.lock_call (rw (limits, view) at c.load-word.ensures.learned) in
    rw c.as_reply-in-Wait.ensures
    (c.go_on_anew-reply-in-Wait.ensures.machine c.args.pass.now.view begun)
