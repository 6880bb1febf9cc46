-- How far a lock call under way has gone as its machine does.
use Rattle.std.specs.Prelude.{ℕ, List, [], ◌∷◌, ◌++◌}
use mathlib.Core.List.{IsPrefix}
use Rattle.stamp_core.specs.Limits.{Bounds}
use Rattle.stamp_core.specs.CountedDecision.{decision}
use Rattle.stamp_core.specs.declared.call.Call.{Call}
use Rattle.stamp_machines.specs.LockPhase.{turn_on}
use Rattle.stamp_machines.specs.Machine.{Finds, lock_turn}
use Rattle.stamp_machines.specs.MachineState.{start, lock_alone}
use Rattle.stamp_machines.specs.declared.machine.Turn.TheVariants.{Going}
use Rattle.stamp_threads.specs.PassView.{HasFound, MadeNoCallSince}
use Rattle.stamp_threads.specs.LockPass.{LockPassView, IsConsistentWith, LeavesWord}
use Rattle.stamp_threads.specs.inner.LockRule.{Loaded}

-- the pass has tried a call in vain so far, if at all: it has come to know more, found these words, and
-- made no call
pub record TriedInVain (v : LockPassView) (words : List ℕ) (w : LockPassView) : Type 0 where
  pub begins : IsPrefix v.known w.known
  pub has_found : HasFound v words w
  pub no_call : MadeNoCallSince v w

-- the pass knew the whole history when the access found this word, and made no call
pub record WentOn (limits : Bounds) (v : LockPassView) (word : ℕ) (w : LockPassView) : Type 0 where
  pub left : LeavesWord limits v word w.known
  pub no_call : MadeNoCallSince v w
  pub consistent : IsConsistentWith limits w

-- the call is to decide on this word, which its last access found. The pass, which was
-- v when the call began, was `before` until then
pub record IsToDecide (limits : Bounds) (call : Call) (v : LockPassView) (found : ℕ) (w : LockPassView) :
    Type 0 where
  pub before : LockPassView
  pub words : List ℕ
  pub in_vain : TriedInVain v words before
  pub loaded : Loaded limits call before found w
  pub machine : Finds (words ++ found ∷ []) (Going (start (lock_alone limits) call))
      (lock_turn (lock_alone limits) call (turn_on found (decision limits found call)))
