use Rattle.stamp_watch.specs.Course.{IsSmall}
use Rattle.stamp_watch.specs.inner.Course.{IsSameRun, unseen}
use Rattle.stamp_watch.proofs.course.Course.go_on.Given as goal

abbrev pub invariant-unseen : goal.invariant-unseen
invariant-unseen l = record {
  same : IsSameRun l.fn.self l.self;
  small : IsSmall l.ahead l.fn.self → IsSmall l.ahead l.self;
}

abbrev pub decreases-unseen : goal.decreases-unseen
decreases-unseen l = unseen l.self
