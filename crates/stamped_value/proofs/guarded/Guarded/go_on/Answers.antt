use Rattle.std.proofs.Common.{◌∙◌, ap, rules, subst}
use Rattle.stamp_core.specs.Limits.{AreInRange}
use Rattle.stamp_core.specs.LockDecision.{reply_as}
use Rattle.stamp_machines.proofs.LockCallSteps.{by_number}
use Rattle.stamp_threads.proofs.GoingAsMachine.{ends_by_answer, ends_by_change}
use Rattle.stamped_value.specs.ValueLock.{ValueLock}
use Rattle.stamped_value.proofs.Calling.{may_still, has_now, is_made_by_answer, is_made_by_change}
use Rattle.stamped_value.proofs.Calling.{exchange_won, exchange_lost, loses_exchange, loads_again}
use Rattle.stamped_value.proofs.guarded.Guarded.go_on.Goals as goal

pub loop-init : goal.loop-init
loop-init g c = record { table = c.requires.table; goes_on = λ v is. is }

pub decide-requires-clause-admitted : goal.decide-requires-clause-admitted
decide-requires-clause-admitted g c =
    let began = c.requires.under_way.1 in
    let to_decide = c.loop.invariant.goes_on _ began.to_decide in search rules

pub returns-in-Answer-clause-made : goal.returns-in-Answer-clause-made
returns-in-Answer-clause-made g c = λ v is.
    is_made_by_answer _ _ _ _ _ (c.loop.invariant.goes_on v is) _ c.in-Answer.ensures.decides

pub returns-in-Answer-clause-machine : goal.returns-in-Answer-clause-machine
returns-in-Answer-clause-machine g c = λ v is.
    ends_by_answer _ _ _ _ _ (c.loop.invariant.goes_on v is).pass _ c.in-Answer.ensures.number

pub exchange-found-requires-clause-hold : goal.exchange-found-requires-clause-hold
exchange-found-requires-clause-hold g c =
    let range = subst AreInRange (ap (λ (l : ValueLock _). l.limits) c.self.view_is) c.self.invariant.1 in
    let began = c.requires.under_way.1 in
    has_now _ _ _ _ _ (c.loop.invariant.goes_on _ began.to_decide) range began.stands

pub exchange-found-requires-clause-may : goal.exchange-found-requires-clause-may
exchange-found-requires-clause-may g c =
    let began = c.requires.under_way.1 in
    may_still _ _ _ _ _ (c.loop.invariant.goes_on _ began.to_decide) began.may

pub exchange-found-requires-clause-changes : goal.exchange-found-requires-clause-changes
exchange-found-requires-clause-changes g c =
    let limits = c.self.invariant.0 ∙ ap (λ (l : ValueLock _). l.limits) c.self.view_is in
    rw (c.bits.ensures.bits, limits)
    (reply_as c.in-Change.reply, by_number _ _ _ _ _ c.in-Change.ensures.decides)

pub returns-then-found-old-clause-made : goal.returns-then-found-old-clause-made
returns-then-found-old-clause-made g c = λ v is.
    let limits = c.self.invariant.0 ∙ ap (λ (l : ValueLock _). l.limits) c.self.view_is in
    let won = exchange_won _ _ _ c.bits.result _ _ _ c.if-found-old.true
    (rw limits at c.exchange-found.ensures.learned) in
    is_made_by_change _ _ _ _ _ (c.loop.invariant.goes_on v is) _ _ c.in-Change.ensures.decides
    c.in-Change.ensures.number _ won

pub returns-then-found-old-clause-machine : goal.returns-then-found-old-clause-machine
returns-then-found-old-clause-machine g c = λ v is.
    let limits = c.self.invariant.0 ∙ ap (λ (l : ValueLock _). l.limits) c.self.view_is in
    let won = exchange_won _ _ _ c.bits.result _ _ _ c.if-found-old.true
    (rw limits at c.exchange-found.ensures.learned) in
    ends_by_change _ _ _ _ _ (c.loop.invariant.goes_on v is).pass _ _ c.in-Change.ensures.decides
    c.in-Change.ensures.number _ won.pass

pub loop-preserved-in-Change : goal.loop-preserved-in-Change
loop-preserved-in-Change g c =
    let limits = c.self.invariant.0 ∙ ap (λ (l : ValueLock _). l.limits) c.self.view_is in
    let lost = exchange_lost _ _ _ c.bits.result _ _ _ c.if-found-old.false
    (rw limits at c.exchange-found.ensures.learned) in
    record {
      table = c.exchange-found.ensures.table ∙ ap (λ (l : ValueLock _). l.table) c.self.view_is;
      goes_on = λ v is. loses_exchange _ _ _ _ _ (c.loop.invariant.goes_on v is) _ _
          c.in-Change.ensures.decides c.in-Change.ensures.number _ _ lost.0 lost.1;
    }

pub loop-preserved : goal.loop-preserved
loop-preserved g c =
    let limits = c.self.invariant.0 ∙ ap (λ (l : ValueLock _). l.limits) c.self.view_is in
    record {
      table = c.load-found.ensures.table ∙ ap (λ (l : ValueLock _). l.table) c.self.view_is;
      goes_on = λ v is. loads_again _ _ _ _ _ (c.loop.invariant.goes_on v is) c.in-Wait.ensures.decides
          c.in-Wait.ensures.number _ _ (rw limits at c.load-found.ensures.learned);
    }
