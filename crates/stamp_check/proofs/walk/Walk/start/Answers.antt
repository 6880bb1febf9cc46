use Rattle.std.proofs.Common.{sym}
use Rattle.stamp_check.proofs.WalkSteps.{after_none}
use Rattle.stamp_check.proofs.walk.Walk.start.Goals as goal

pub returns : goal.returns
returns c = λ few. after_none c.args.limits c.args.width c.opening_in.result c.bits.result c.first_content.result
    (c.opening_in.ensures.represented c.args.limits (sym c.layout.ensures.layout)) c.bits.ensures.bits
    (λ some. c.first_content.ensures some few)
