use Rattle.std.proofs.Common.{List, ◌+◌, ◌++◌}
use Rattle.std.specs.Prelude.{take, drop}
use Rattle.stamp_core.specs.Limits.{Bounds}
use Rattle.stamp_runs.specs.declared.event.Event.{Event}
use Rattle.stamp_sets.specs.Tracing.{IsTracing}
use Rattle.stamp_watch.specs.Judging.{IsJudging}
use Rattle.stamp_watch.proofs.judge.judge_on.Given as goal

abbrev pub invariant-loop-k : goal.invariant-loop-k
invariant-loop-k l = record {
  judging : (limits : Bounds) (past : List Event) → IsJudging limits l.first past l.events l.fn.watch →
      IsJudging limits (l.first + l.k) (past ++ take l.k l.events) (drop l.k l.events) l.watch;
  traced : (past : List Event) → IsTracing past l.fn.watch → IsTracing (past ++ take l.k l.events) l.watch;
}
