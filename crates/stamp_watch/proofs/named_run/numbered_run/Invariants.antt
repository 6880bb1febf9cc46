use Rattle.std.specs.Prelude.{take}
use Rattle.stamp_watch.specs.Names.{IsGrown, StaysWide}
use Rattle.stamp_watch.specs.inner.Trial.{AreNumbered}
use Rattle.stamp_watch.proofs.named_run.numbered_run.Given as goal

abbrev pub invariant-loop-k : goal.invariant-loop-k
invariant-loop-k l = record {
  numbered : AreNumbered l.observed (take l.k l.moments) l.names l.run.items;
  grows : IsGrown l.initial.names l.names;
  wide : StaysWide l.initial.names l.names;
}
