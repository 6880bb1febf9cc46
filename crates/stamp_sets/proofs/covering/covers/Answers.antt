use Rattle.std.proofs.Common.{sym}
use Rattle.stamp_sets.specs.Judged.{guarded}
use Rattle.stamp_sets.proofs.Thinning.{covered_by_tests}
use Rattle.stamp_sets.proofs.covering.covers.Goals as goal

pub returns : goal.returns
returns c is table are = covered_by_tests guarded table c.args.kinds.now c.args.first.now c.args.other.now
    (sym c.if-first-other.false) (c.are_among.ensures c.if-not-are_among.false)
    (c.are_among-2.ensures c.if-not-are_among-2.false) (c.are_among-3.ensures is) are
