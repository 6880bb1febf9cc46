use Rattle.stamp_watch.specs.LateJudge.{IsLateJudgeOfSome}
use Rattle.stamp_watch_tests.proofs.late_tests.pushed.Given as goal

abbrev pub invariant-loop-event : goal.invariant-loop-event
invariant-loop-event l = IsLateJudgeOfSome l.judge
