use Rattle.std.specs.Prelude.{length}
use Rattle.stamped_watch.specs.inner.StreamJudge.{HasTakenFront}
use Rattle.stamped_watch.proofs.stream_judge.StreamJudge.take_units.Given as goal

abbrev pub invariant-units : goal.invariant-units
invariant-units l = HasTakenFront l.bytes l.rest l.fn.self l.self

abbrev pub decreases-units : goal.decreases-units
decreases-units l = length l.rest
