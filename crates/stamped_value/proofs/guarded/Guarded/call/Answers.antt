use Rattle.std.proofs.Common.{◌∙◌, ap, subst}
use Rattle.stamp_core.specs.Limits.{AreInRange}
use Rattle.stamp_core.specs.LockDecision.{reply_as}
use Rattle.stamp_machines.proofs.LockCallSteps.{by_number}
use Rattle.stamp_threads.proofs.GoingAsMachine.{ends_by_answer, ends_by_change}
use Rattle.stamp_threads.proofs.Replying.{may_reply}
use Rattle.stamped_value.specs.ValueLock.{ValueLock}
use Rattle.stamped_value.proofs.Calling.{begins, may_still, has_now, is_made_by_answer, is_made_by_change}
use Rattle.stamped_value.proofs.Calling.{exchange_won, exchange_lost, loses_exchange}
use Rattle.stamped_value.proofs.Standing.{stands_after}
use Rattle.stamped_value.proofs.guarded.Guarded.call.Goals as goal

pub returns-in-Answer-clause-made : goal.returns-in-Answer-clause-made
returns-in-Answer-clause-made g c =
    let limits = c.self.invariant.0 ∙ ap (λ (l : ValueLock _). l.limits) c.self.view_is in
    let begun = begins _ _ _ _ _ c.requires.lock_call (rw limits at c.load-word.ensures.learned) in
    is_made_by_answer _ _ _ _ _ begun _ c.in-Answer.ensures.decides

pub returns-in-Answer-clause-stands : goal.returns-in-Answer-clause-stands
returns-in-Answer-clause-stands g c =
    let limits = c.self.invariant.0 ∙ ap (λ (l : ValueLock _). l.limits) c.self.view_is in
    let range = subst AreInRange (ap (λ (l : ValueLock _). l.limits) c.self.view_is) c.self.invariant.1 in
    let begun = begins _ _ _ _ _ c.requires.lock_call (rw limits at c.load-word.ensures.learned) in
    let made = is_made_by_answer _ _ _ _ _ begun _ c.in-Answer.ensures.decides in
    stands_after _ range _ c.requires.lock_call _ _ _ c.requires.stands c.requires.may made

pub returns-in-Answer-clause-reply : goal.returns-in-Answer-clause-reply
returns-in-Answer-clause-reply g c =
    let limits = c.self.invariant.0 ∙ ap (λ (l : ValueLock _). l.limits) c.self.view_is in
    let begun = begins _ _ _ _ _ c.requires.lock_call (rw limits at c.load-word.ensures.learned) in
    let made = is_made_by_answer _ _ _ _ _ begun _ c.in-Answer.ensures.decides in
    may_reply _ _ _ _ _ c.requires.lock_call made.made

pub returns-in-Answer-clause-machine : goal.returns-in-Answer-clause-machine
returns-in-Answer-clause-machine g c =
    let limits = c.self.invariant.0 ∙ ap (λ (l : ValueLock _). l.limits) c.self.view_is in
    let begun = begins _ _ _ _ _ c.requires.lock_call (rw limits at c.load-word.ensures.learned) in
    ends_by_answer _ _ _ _ _ begun.pass _ c.in-Answer.ensures.number

pub exchange-found-requires-clause-hold : goal.exchange-found-requires-clause-hold
exchange-found-requires-clause-hold g c =
    let limits = c.self.invariant.0 ∙ ap (λ (l : ValueLock _). l.limits) c.self.view_is in
    let range = subst AreInRange (ap (λ (l : ValueLock _). l.limits) c.self.view_is) c.self.invariant.1 in
    let begun = begins _ _ _ _ _ c.requires.lock_call (rw limits at c.load-word.ensures.learned) in
    has_now _ _ _ _ _ begun range c.requires.stands

pub exchange-found-requires-clause-may : goal.exchange-found-requires-clause-may
exchange-found-requires-clause-may g c =
    let limits = c.self.invariant.0 ∙ ap (λ (l : ValueLock _). l.limits) c.self.view_is in
    let begun = begins _ _ _ _ _ c.requires.lock_call (rw limits at c.load-word.ensures.learned) in
    may_still _ _ _ _ _ begun c.requires.may

pub exchange-found-requires-clause-changes : goal.exchange-found-requires-clause-changes
exchange-found-requires-clause-changes g c =
    let limits = c.self.invariant.0 ∙ ap (λ (l : ValueLock _). l.limits) c.self.view_is in
    rw (c.bits.ensures.bits, limits)
    (reply_as c.in-Change.reply, by_number _ _ _ _ _ c.in-Change.ensures.decides)

pub returns-then-found-word-clause-made : goal.returns-then-found-word-clause-made
returns-then-found-word-clause-made g c =
    let limits = c.self.invariant.0 ∙ ap (λ (l : ValueLock _). l.limits) c.self.view_is in
    let begun = begins _ _ _ _ _ c.requires.lock_call (rw limits at c.load-word.ensures.learned) in
    let won = exchange_won _ _ _ c.bits.result _ _ _ c.if-found-word.true
    (rw limits at c.exchange-found.ensures.learned) in
    is_made_by_change _ _ _ _ _ begun _ _ c.in-Change.ensures.decides c.in-Change.ensures.number _ won

pub returns-then-found-word-clause-stands : goal.returns-then-found-word-clause-stands
returns-then-found-word-clause-stands g c =
    let limits = c.self.invariant.0 ∙ ap (λ (l : ValueLock _). l.limits) c.self.view_is in
    let range = subst AreInRange (ap (λ (l : ValueLock _). l.limits) c.self.view_is) c.self.invariant.1 in
    let begun = begins _ _ _ _ _ c.requires.lock_call (rw limits at c.load-word.ensures.learned) in
    let won = exchange_won _ _ _ c.bits.result _ _ _ c.if-found-word.true
    (rw limits at c.exchange-found.ensures.learned) in
    let made = is_made_by_change _ _ _ _ _ begun _ _ c.in-Change.ensures.decides c.in-Change.ensures.number _ won in
    stands_after _ range _ c.requires.lock_call _ _ _ c.requires.stands c.requires.may made

pub returns-then-found-word-clause-reply : goal.returns-then-found-word-clause-reply
returns-then-found-word-clause-reply g c =
    let limits = c.self.invariant.0 ∙ ap (λ (l : ValueLock _). l.limits) c.self.view_is in
    let begun = begins _ _ _ _ _ c.requires.lock_call (rw limits at c.load-word.ensures.learned) in
    let won = exchange_won _ _ _ c.bits.result _ _ _ c.if-found-word.true
    (rw limits at c.exchange-found.ensures.learned) in
    let made = is_made_by_change _ _ _ _ _ begun _ _ c.in-Change.ensures.decides c.in-Change.ensures.number _ won in
    may_reply _ _ _ _ _ c.requires.lock_call made.made

pub returns-then-found-word-clause-machine : goal.returns-then-found-word-clause-machine
returns-then-found-word-clause-machine g c =
    let limits = c.self.invariant.0 ∙ ap (λ (l : ValueLock _). l.limits) c.self.view_is in
    let begun = begins _ _ _ _ _ c.requires.lock_call (rw limits at c.load-word.ensures.learned) in
    let won = exchange_won _ _ _ c.bits.result _ _ _ c.if-found-word.true
    (rw limits at c.exchange-found.ensures.learned) in
    ends_by_change _ _ _ _ _ begun.pass _ _ c.in-Change.ensures.decides c.in-Change.ensures.number _ won.pass

pub go_on_anew-requires-clause-under_way : goal.go_on_anew-requires-clause-under_way
go_on_anew-requires-clause-under_way g c =
    let limits = c.self.invariant.0 ∙ ap (λ (l : ValueLock _). l.limits) c.self.view_is in
    let begun = begins _ _ _ _ _ c.requires.lock_call (rw limits at c.load-word.ensures.learned) in
    let lost = exchange_lost _ _ _ c.bits.result _ _ _ c.if-found-word.false
    (rw limits at c.exchange-found.ensures.learned) in
    let going = loses_exchange _ _ _ _ _ begun _ _ c.in-Change.ensures.decides c.in-Change.ensures.number _ _
    lost.0 lost.1 in
    (_, record { to_decide = going; stands = c.requires.stands; may = c.requires.may })

pub returns-else-found-word-clause-made : goal.returns-else-found-word-clause-made
returns-else-found-word-clause-made g c =
    let limits = c.self.invariant.0 ∙ ap (λ (l : ValueLock _). l.limits) c.self.view_is in
    let begun = begins _ _ _ _ _ c.requires.lock_call (rw limits at c.load-word.ensures.learned) in
    let lost = exchange_lost _ _ _ c.bits.result _ _ _ c.if-found-word.false
    (rw limits at c.exchange-found.ensures.learned) in
    let going = loses_exchange _ _ _ _ _ begun _ _ c.in-Change.ensures.decides c.in-Change.ensures.number _ _
    lost.0 lost.1 in
    c.go_on_anew.ensures.made _ going

pub returns-else-found-word-clause-stands : goal.returns-else-found-word-clause-stands
returns-else-found-word-clause-stands g c =
    let limits = c.self.invariant.0 ∙ ap (λ (l : ValueLock _). l.limits) c.self.view_is in
    let range = subst AreInRange (ap (λ (l : ValueLock _). l.limits) c.self.view_is) c.self.invariant.1 in
    let begun = begins _ _ _ _ _ c.requires.lock_call (rw limits at c.load-word.ensures.learned) in
    let lost = exchange_lost _ _ _ c.bits.result _ _ _ c.if-found-word.false
    (rw limits at c.exchange-found.ensures.learned) in
    let going = loses_exchange _ _ _ _ _ begun _ _ c.in-Change.ensures.decides c.in-Change.ensures.number _ _
    lost.0 lost.1 in
    let made = c.go_on_anew.ensures.made _ going in
    stands_after _ range _ c.requires.lock_call _ _ _ c.requires.stands c.requires.may made

pub returns-else-found-word-clause-reply : goal.returns-else-found-word-clause-reply
returns-else-found-word-clause-reply g c =
    let limits = c.self.invariant.0 ∙ ap (λ (l : ValueLock _). l.limits) c.self.view_is in
    let begun = begins _ _ _ _ _ c.requires.lock_call (rw limits at c.load-word.ensures.learned) in
    let lost = exchange_lost _ _ _ c.bits.result _ _ _ c.if-found-word.false
    (rw limits at c.exchange-found.ensures.learned) in
    let going = loses_exchange _ _ _ _ _ begun _ _ c.in-Change.ensures.decides c.in-Change.ensures.number _ _
    lost.0 lost.1 in
    let made = c.go_on_anew.ensures.made _ going in
    may_reply _ _ _ _ _ c.requires.lock_call made.made

pub returns-else-found-word-clause-machine : goal.returns-else-found-word-clause-machine
returns-else-found-word-clause-machine g c =
    let limits = c.self.invariant.0 ∙ ap (λ (l : ValueLock _). l.limits) c.self.view_is in
    let begun = begins _ _ _ _ _ c.requires.lock_call (rw limits at c.load-word.ensures.learned) in
    let lost = exchange_lost _ _ _ c.bits.result _ _ _ c.if-found-word.false
    (rw limits at c.exchange-found.ensures.learned) in
    let going = loses_exchange _ _ _ _ _ begun _ _ c.in-Change.ensures.decides c.in-Change.ensures.number _ _
    lost.0 lost.1 in
    c.go_on_anew.ensures.machine _ going

pub go_on_anew-requires-in-Wait-clause-under_way : goal.go_on_anew-requires-in-Wait-clause-under_way
go_on_anew-requires-in-Wait-clause-under_way g c =
    let limits = c.self.invariant.0 ∙ ap (λ (l : ValueLock _). l.limits) c.self.view_is in
    let begun = begins _ _ _ _ _ c.requires.lock_call (rw limits at c.load-word.ensures.learned) in
    (_, record { to_decide = begun; stands = c.requires.stands; may = c.requires.may })

pub returns-in-Wait-clause-made : goal.returns-in-Wait-clause-made
returns-in-Wait-clause-made g c =
    let limits = c.self.invariant.0 ∙ ap (λ (l : ValueLock _). l.limits) c.self.view_is in
    let begun = begins _ _ _ _ _ c.requires.lock_call (rw limits at c.load-word.ensures.learned) in
    c.go_on_anew-in-Wait.ensures.made _ begun

pub returns-in-Wait-clause-stands : goal.returns-in-Wait-clause-stands
returns-in-Wait-clause-stands g c =
    let limits = c.self.invariant.0 ∙ ap (λ (l : ValueLock _). l.limits) c.self.view_is in
    let range = subst AreInRange (ap (λ (l : ValueLock _). l.limits) c.self.view_is) c.self.invariant.1 in
    let begun = begins _ _ _ _ _ c.requires.lock_call (rw limits at c.load-word.ensures.learned) in
    let made = c.go_on_anew-in-Wait.ensures.made _ begun in
    stands_after _ range _ c.requires.lock_call _ _ _ c.requires.stands c.requires.may made

pub returns-in-Wait-clause-reply : goal.returns-in-Wait-clause-reply
returns-in-Wait-clause-reply g c =
    let limits = c.self.invariant.0 ∙ ap (λ (l : ValueLock _). l.limits) c.self.view_is in
    let begun = begins _ _ _ _ _ c.requires.lock_call (rw limits at c.load-word.ensures.learned) in
    let made = c.go_on_anew-in-Wait.ensures.made _ begun in
    may_reply _ _ _ _ _ c.requires.lock_call made.made

pub returns-in-Wait-clause-machine : goal.returns-in-Wait-clause-machine
returns-in-Wait-clause-machine g c =
    let limits = c.self.invariant.0 ∙ ap (λ (l : ValueLock _). l.limits) c.self.view_is in
    let begun = begins _ _ _ _ _ c.requires.lock_call (rw limits at c.load-word.ensures.learned) in
    c.go_on_anew-in-Wait.ensures.machine _ begun
