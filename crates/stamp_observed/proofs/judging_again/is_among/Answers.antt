use Rattle.std.proofs.Common.{subst, sym, ◌∙◌}
use Rattle.std.specs.List.{Contains}
use Rattle.std.proofs.lemmas.List.Elements.{Contains-get_or}
use Rattle.stamp_observed.proofs.judging_again.is_among.Goals as goal

pub returns-then-is_same : goal.returns-then-is_same
returns-then-is_same c = λ _. subst (Contains c.args.replies.now)
    (sym c.other-item.is ∙ c.is_same.ensures.0 c.if-is_same.true)
    (Contains-get_or c.args.replies.now c.loop-other.other-index c.other-item.result c.loop-other-test.true)
