use Rattle.stamp_sets.proofs.Judging.{alike_of_lock}
use Rattle.stamp_sets.proofs.object.Object.does_same.Goals as goal

pub returns-in-OfLock-other : goal.returns-in-OfLock-other
returns-in-OfLock-other c does = alike_of_lock c.in-Lock.limits c.in-OfLock.first c.in-OfLock-other.second
    c.args.self.now c.args.call c.args.other c.in-Lock.is c.in-OfLock.is c.in-OfLock-other.is
    (c.does_same.ensures does)
