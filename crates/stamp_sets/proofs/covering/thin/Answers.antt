use Rattle.std.proofs.Common.{sym, subst}
use Rattle.stamp_sets.specs.declared.object.Object.{Object}
use Rattle.stamp_sets.specs.Judged.{judged}
use Rattle.stamp_sets.specs.inner.Covering.{IsThinned}
use Rattle.stamp_sets.proofs.covering.thin.Goals as goal

pub returns : goal.returns
returns c = subst (λ (object : Object). IsThinned (judged object) c.args.table.now c.args.positions.now.items
    c.drop_covered.new.positions.items) (sym c.in-Record.is)
    (c.drop_covered.ensures c.args.table.now c.kinds_of.ensures)
