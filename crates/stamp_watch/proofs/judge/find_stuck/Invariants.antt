use Rattle.std.proofs.Common.{◌-◌}
use Rattle.stamp_watch.proofs.Judged.{IsSearching}
use Rattle.stamp_watch.proofs.judge.find_stuck.Given as goal

abbrev pub invariant-loop-low : goal.invariant-loop-low
invariant-loop-low l = IsSearching l.first l.explained l.low l.high l.events l.base

abbrev pub decreases-loop-low : goal.decreases-loop-low
decreases-loop-low l = l.high - l.low
