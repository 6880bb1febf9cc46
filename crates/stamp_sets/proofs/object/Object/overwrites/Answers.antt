use Rattle.std.proofs.Common.{◌≡◌, ℕ, Option, None, refl, sym, subst}
use Rattle.stamp_sets.specs.declared.object.Object.{Object}
use Rattle.stamp_sets.specs.declared.object.Object.TheVariants.{Lock, Record}
use Rattle.stamp_sets.specs.Judged.{guarded}
use Rattle.stamp_sets.specs.Judged.{judged}
use Rattle.stamp_sets.specs.inner.Effect.{IsOverwritingTo}
use Rattle.stamp_sets.proofs.Overwriting.{judged_lawful}
use Rattle.stamp_sets.proofs.object.Object.overwrites.Goals as goal

pub returns-in-Lock-clause-value : goal.returns-in-Lock-clause-value
returns-in-Lock-clause-value c = subst (λ (o : Object). None ≡ (judged o).overwrites c.args.begun.now)
    (sym c.in-Lock.is)
    refl

pub returns-in-Lock-clause-leaves : goal.returns-in-Lock-clause-leaves
returns-in-Lock-clause-leaves c = subst (λ (o : Object). IsOverwritingTo (judged o) c.args.begun.now None)
    (sym c.in-Lock.is) ((judged_lawful (Lock c.in-Lock.field-0)).overwriting c.args.begun.now)

pub returns-in-Record-clause-value : goal.returns-in-Record-clause-value
returns-in-Record-clause-value c = subst
    (λ (o : Object). c.put_leaves.result ≡ (judged o).overwrites c.args.begun.now) (sym c.in-Record.is)
    c.put_leaves.ensures

pub returns-in-Record-clause-leaves : goal.returns-in-Record-clause-leaves
returns-in-Record-clause-leaves c = subst
    (λ (o : Object). IsOverwritingTo (judged o) c.args.begun.now c.put_leaves.result) (sym c.in-Record.is)
    (subst (λ (found : Option ℕ). IsOverwritingTo guarded c.args.begun.now found)
    (sym c.put_leaves.ensures) ((judged_lawful Record).overwriting c.args.begun.now))
