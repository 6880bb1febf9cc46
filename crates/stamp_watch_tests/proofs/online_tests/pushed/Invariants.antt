use Rattle.stamp_watch.specs.Judge.{IsJudgeOfSome}
use Rattle.stamp_watch_tests.proofs.online_tests.pushed.Given as goal

abbrev pub invariant-loop-event : goal.invariant-loop-event
invariant-loop-event l = IsJudgeOfSome l.judge
