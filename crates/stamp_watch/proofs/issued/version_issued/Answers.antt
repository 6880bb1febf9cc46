use Rattle.std.proofs.Common.{◌∙◌, sym, rules, subst, ℕ}
use Rattle.std.specs.Prelude.{MatchOption}
use Rattle.stamp_core.specs.Layout.{units_of}
use Rattle.stamp_core.specs.Stamp.{IsStamp}
use Rattle.stamp_core.specs.declared.layout.Layout.{Layout}
use Rattle.stamp_watch.proofs.Issuing.{issued_by}
use Rattle.stamp_watch.proofs.issued.version_issued.Goals as goal

pub returns-clause-issued : goal.returns-clause-issued
returns-clause-issued c = issued_by c.args.limits c.args.begun.now c.args.end.now c.in-Begins.lane
    c.in-Returns-default-Stamp.other
    c.in-Begins.call c.in-Returns-default-Stamp.stamp (sym c.as_event.ensures ∙ c.in-Begins.is)
    (let told = c.as_event-2.ensures in let is = c.in-Returns-default-Stamp.is in
    let of = c.in-Returns-default-Stamp.field-1-is in let at = c.in-Returns-default-Stamp.other-is in cc)
    (search rules) (c.issues_stamp.ensures.0 c.if-not-issues_stamp.false) c.version_of.result
    (subst (λ (l : Layout). MatchOption c.version_of.result
    ((k : ℕ) → ¬ IsStamp (units_of l) k c.in-Returns-default-Stamp.stamp)
    (λ k. IsStamp (units_of l) k c.in-Returns-default-Stamp.stamp)) c.layout.ensures.layout c.version_of.ensures)

pub returns-clause-range : goal.returns-clause-range
returns-clause-range c some = c.layout.ensures.in_range
