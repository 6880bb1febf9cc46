use Rattle.std.proofs.Common.{map}
use Rattle.stamp_core.specs.LockCall.{call_as}
use Rattle.stamp_history.proofs.RepliesSoFar.{RepliesSoFar}
use Rattle.stamp_history.proofs.replay_answer.push_replies_to.Given as goal

abbrev pub invariant-loop-index : goal.invariant-loop-index
invariant-loop-index l = RepliesSoFar l.limits (map call_as l.calls) l.index l.word l.fn.text.items l.text.items
