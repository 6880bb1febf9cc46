use Rattle.stamp_watch.specs.Judge.{IsJudgeOfSome}
use Rattle.stamp_watch.specs.Possible.{IsKeeping}
use Rattle.stamp_watch_tests.proofs.online_tests.kept.Given as goal

abbrev pub invariant-loop-event : goal.invariant-loop-event
invariant-loop-event l = IsJudgeOfSome l.judge × IsKeeping l.judge
