use Rattle.std.proofs.Common.{subst, arith}
use Rattle.std.specs.List.{All, Contains}
use Rattle.std.proofs.lemmas.List.{take_all}
use Rattle.std.proofs.lemmas.List.Elements.{All-more}
use Rattle.stamp_observed.proofs.judging_again.are_among.Goals as goal

pub loop-other-preserved : goal.loop-other-preserved
loop-other-preserved c =
    All-more (Contains c.args.replies.now) c.args.others.now c.loop-other.other-index c.other-item.result
    c.loop-other-test.true c.loop-other.invariant
    (subst (Contains c.args.replies.now) c.other-item.is (c.is_among.ensures c.if-not-is_among.false))

pub returns : goal.returns
returns c = λ _. subst (All (Contains c.args.replies.now)) (take_all c.loop-other.other-index c.args.others.now
    (omega (arith, c.loop-other-test.false))) c.loop-other.invariant
