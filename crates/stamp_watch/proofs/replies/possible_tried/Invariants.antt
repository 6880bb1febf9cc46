use Rattle.std.proofs.Common.{ℕ}
use Rattle.std.specs.Prelude.{take}
use Rattle.stamp_watch.specs.inner.Trial.{AreFound, IsTrialAt}
use Rattle.stamp_watch.proofs.replies.possible_tried.Given as goal

abbrev pub invariant-loop-k : goal.invariant-loop-k
invariant-loop-k l = (i most : ℕ) → IsTrialAt l.observed i most l.names l.trial →
    AreFound l.observed i l.names (take l.k l.tried) l.found.items
