use Rattle.std.proofs.Common.{arith}
use Rattle.stamp_observed.proofs.Judged.{stuck_as}
use Rattle.stamp_observed.proofs.judging_again.found_of.Goals as goal

pub returns-then-branch : goal.returns-then-branch
returns-then-branch c =
    stuck_as c.args.observed.now c.args.most c.args.fault.now c.args.candidate c.in-Some.small c.len-place.result
    c.requires (rw c.in-Some.is at c.in_ok-small.ensures.observed) (rw c.in-Some.is at c.in_ok-small.ensures.same)
    (omega (arith, c.len-place.ensures, c.args.candidate.others.ok.0))
    (c.are_over_by.ensures c.if-not-are_over_by.false)
    (c.in_ok-is_stuck_at.ensures c.if-not-branch.false)
    (rw (c.layout-layout.ensures.layout, c.limits.ensures) at (c.in_ok-has_same_possible.ensures c.if-branch.true))
    (rw (c.layout-layout.ensures.layout, c.limits.ensures) at
    (c.is_shown_by.ensures c.if-not-is_shown_by.false))
