use Rattle.stamp_core.proofs.Replaying.{Replaying}
use Rattle.stamp_core.proofs.replayed.replay.Given as goal

abbrev pub invariant-loop-i : goal.invariant-loop-i
invariant-loop-i l = Replaying l.limits l.calls l.i l.word l.replies.items
