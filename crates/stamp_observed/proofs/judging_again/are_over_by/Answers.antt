use Rattle.std.proofs.Common.{◌∙◌, subst, arith}
use Rattle.std.specs.List.{All}
use Rattle.std.proofs.lemmas.List.{take_all}
use Rattle.std.proofs.lemmas.List.Elements.{All-more}
use Rattle.stamp_observed.specs.inner.Over.{IsOverBy}
use Rattle.stamp_observed.proofs.judging_again.are_over_by.Goals as goal

pub loop-call-preserved : goal.loop-call-preserved
loop-call-preserved c =
    All-more (IsOverBy c.args.last) c.entries-call-items.result.now c.loop-call.call-index c.call-item.result
    c.loop-call-test.true c.loop-call.invariant
    (subst (IsOverBy c.args.last) c.call-item.is (c.is_over_by.ensures c.if-not-is_over_by.false))

pub returns : goal.returns
returns c = λ _. subst (All (IsOverBy c.args.last))
    (take_all c.loop-call.call-index c.entries-call-items.result.now (omega (arith, c.loop-call-test.false)) ∙
    c.entries-call-items.ensures.entries) c.loop-call.invariant
