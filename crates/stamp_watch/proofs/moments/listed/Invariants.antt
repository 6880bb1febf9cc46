use Rattle.stamp_watch.specs.inner.AsEvents.{AreListed}
use Rattle.stamp_watch.proofs.moments.listed.Given as goal

abbrev pub invariant-loop-i : goal.invariant-loop-i
invariant-loop-i l = AreListed l.entries l.i l.moments.items
