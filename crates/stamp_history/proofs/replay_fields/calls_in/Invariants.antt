use Rattle.stamp_history.specs.ReplayFields.{call_at}
use Rattle.stamp_history.specs.inner.Replay.{calls_as}
use Rattle.stamp_history.proofs.EachItem.{IsReadTo}
use Rattle.stamp_history.proofs.replay_fields.calls_in.Given as goal

abbrev pub invariant-loop-index : goal.invariant-loop-index
invariant-loop-index l = IsReadTo call_at l.list l.index (calls_as l.calls)
