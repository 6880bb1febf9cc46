use Rattle.std.proofs.Common.{sym, ◌∙◌, ap}
use Rattle.stamp_sets.specs.declared.ending.Ending.{Ending}
use Rattle.stamp_sets.specs.Unchanging.{told_unchanging}
use Rattle.stamp_sets.proofs.Overwriting.{not_told, reads_nothing}
use Rattle.stamp_sets.proofs.open_call.OpenCall.is_unchanging.Goals as goal

pub returns-in-Returns-clause-value : goal.returns-in-Returns-clause-value
returns-in-Returns-clause-value c = c.is_unchanging.ensures.value ∙
    sym (ap (λ (e : Ending). told_unchanging e c.args.self.now.asks) c.in-Returns.is)

pub returns-in-Returns-clause-unchanging : goal.returns-in-Returns-clause-unchanging
returns-in-Returns-clause-unchanging c object is = reads_nothing c.args.self.now
    (sym (returns-in-Returns-clause-value c) ∙ is) object

pub returns-in_default-clause-value : goal.returns-in_default-clause-value
returns-in_default-clause-value c = not_told c.args.self.now.ends c.args.self.now.asks c.in_default.not-Returns
