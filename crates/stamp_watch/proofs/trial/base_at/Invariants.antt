use Rattle.std.proofs.Common.{◌+◌}
use Rattle.std.specs.Prelude.{drop, take}
use Rattle.stamp_watch.specs.Judging.{IsJudging}
use Rattle.stamp_watch.proofs.trial.base_at.Given as goal

abbrev pub invariant-loop-k : goal.invariant-loop-k
invariant-loop-k l = IsJudging l.limits (0 + l.k) (take l.k l.events) (drop l.k l.events) l.watch
