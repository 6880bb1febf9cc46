use Rattle.std.proofs.Common.{refl, sym, subst}
use Rattle.stamp_sets.specs.declared.object.Object.{Object}
use Rattle.stamp_sets.specs.Judged.{judged}
use Rattle.stamp_sets.proofs.object.Object.opening.Goals as goal

pub returns-in-Lock : goal.returns-in-Lock
returns-in-Lock c = subst (λ (o : Object). (judged o).holds c.lock_opening.result (judged o).start) (sym c.in-Lock.is)
    c.lock_opening.ensures

pub returns-in-Record : goal.returns-in-Record
returns-in-Record c = subst (λ (o : Object). (judged o).holds 0 (judged o).start) (sym c.in-Record.is) refl
