use Rattle.std.specs.Prelude.{take}
use Rattle.stamp_explain.specs.Possible.{IsPossible}
use Rattle.stamp_explain.proofs.Choosing.{AreChosen}
use Rattle.stamp_watch.specs.inner.Trial.{IsTrialAt}
use Rattle.stamp_watch.proofs.replies.possible_among.Given as goal

abbrev pub invariant-loop-k : goal.invariant-loop-k
invariant-loop-k l = record {
  trial : IsTrialAt l.observed l.entry l.most l.names l.trial;
  chosen : AreChosen (IsPossible l.observed l.entry) (take l.k l.replies) l.found.items;
}
