use Rattle.std.proofs.Common.{◌∙◌, sym}
use Rattle.stamp_check.proofs.RespelledRecords.{same_judgement, cannot_migrate, is_not_linearized}
use Rattle.stamp_check.proofs.migration.migrate.Goals as goal

pub returns-in-None-clause-judgement : goal.returns-in-None-clause-judgement
returns-in-None-clause-judgement c =
    same_judgement c.args.history c.in_layout_two.result c.limits.result c.entries.result.now c.limits.ensures
    (sym c.layout.ensures.layout ∙ c.in-One.is) c.layout.ensures.in_range c.entries.ensures.known
    c.entries.ensures.entries c.in-None.ensures c.in_layout_two.ensures

pub returns-in-Some-clause-ok : goal.returns-in-Some-clause-ok
returns-in-Some-clause-ok c =
    cannot_migrate c.args.history c.limits.result c.entries.result.now c.in-Some.entry c.limits.ensures
    (sym c.layout.ensures.layout ∙ c.in-One.is) c.entries.ensures.entries c.in-Some.ensures

pub returns-in-Some-clause-linearized : goal.returns-in-Some-clause-linearized
returns-in-Some-clause-linearized c =
    is_not_linearized c.args.history c.limits.result c.entries.result.now c.in-Some.entry c.limits.ensures
    (sym c.layout.ensures.layout ∙ c.in-One.is) c.layout.ensures.in_range c.entries.ensures.known
    c.entries.ensures.entries c.in-Some.ensures
