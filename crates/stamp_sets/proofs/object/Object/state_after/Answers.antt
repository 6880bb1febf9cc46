use Rattle.std.proofs.Common.{sym, subst}
use Rattle.stamp_sets.specs.declared.object.Object.{Object}
use Rattle.stamp_sets.specs.Judged.{judged}
use Rattle.stamp_sets.specs.inner.Effect.{IsEffect}
use Rattle.stamp_sets.specs.inner.State.{IsState}
use Rattle.stamp_sets.proofs.object.Object.state_after.Goals as goal

pub lock_after-requires : goal.lock_after-requires
lock_after-requires c = subst (λ (o : Object). IsState (judged o) c.args.state) c.in-Lock.is c.requires

pub returns-in-Lock : goal.returns-in-Lock
returns-in-Lock c = subst (λ (o : Object). IsEffect (judged o) c.args.state c.args.begun.now c.lock_after.result)
    (sym c.in-Lock.is) c.lock_after.ensures

pub returns-in-Record : goal.returns-in-Record
returns-in-Record c = subst (λ (o : Object). IsEffect (judged o) c.args.state c.args.begun.now c.record_after.result)
    (sym c.in-Record.is) c.record_after.ensures
