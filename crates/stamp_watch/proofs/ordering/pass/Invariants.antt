use Rattle.std.proofs.Common.{List, ◌++◌, take}
use Rattle.stamp_watch.specs.declared.moments.Moment.{Moment}
use Rattle.stamp_watch.specs.inner.Ordering.{AreLastBegun}
use Rattle.stamp_watch.proofs.ordering.pass.Given as goal

abbrev pub invariant-loop-moment : goal.invariant-loop-moment
invariant-loop-moment l = (past : List Moment) → AreLastBegun l.observed.entries past l.fn.last →
    AreLastBegun l.observed.entries (past ++ take l.moment-index l.moments) l.last
