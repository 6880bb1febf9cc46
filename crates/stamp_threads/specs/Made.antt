-- A call that was made.
use Rattle.std.specs.Prelude.{◌≡◌, ◌⊎◌, ℕ, List, [], ◌∷◌, ◌++◌}
use mathlib.Core.List.{IsPrefix}
use Rattle.stamp_core.specs.Limits.{Bounds}
use Rattle.stamp_core.specs.declared.call.Call.{Call}
use Rattle.stamp_core.specs.declared.call.Call.TheVariants.{TryWrite, TryRead, WriteLock, ReadLock}
use Rattle.stamp_core.specs.declared.reply.Reply.{Reply}
use Rattle.stamp_threads.specs.declared.pass_view.LogEntry.{LogEntry}
use Rattle.stamp_threads.specs.PassView.{entry, HasFound, IsSamePass}
use Rattle.stamp_threads.specs.LockLog.{LockLog}
use Rattle.stamp_threads.specs.LockPass.{LockPassView, IsConsistentWith, LeavesWord}

-- the call that doesn't wait, where there is one that does
abbrev pub try_form : Call → Call
try_form WriteLock = TryWrite
try_form ReadLock = TryRead
try_form call = call

-- the history goes on from what the pass v knew, and leaves the word that the last access found;
-- then comes this call with its reply, which is one more of the pass's own. w is the pass after it
pub record Made (limits : Bounds) (call : Call) (reply : Reply) (v w : LockPassView) : Type 0 where
  pub log : LockLog
  pub word : ℕ
  pub left : LeavesWord limits v word log
  pub earlier : List ℕ
  pub last : HasFound v (earlier ++ word ∷ []) w
  pub known : w.known ≡ log ++ entry v.name (call, reply) ∷ []
  pub own : w.own ≡ v.own ++ (call, reply) ∷ []
  pub same : IsSamePass v w
  pub consistent : IsConsistentWith limits w

-- two accesses of the word were made. The word that the first found is the one that a history left,
-- and what came before the last entry goes on from that history
pub record AccessesTwice (limits : Bounds) (v w : LockPassView) : Type 0 where
  pub loaded : ℕ
  pub found : ℕ
  pub has_found : HasFound v (loaded ∷ found ∷ []) w
  pub first : LockLog
  pub at_first : LeavesWord limits v loaded first
  pub log : LockLog
  pub longer : IsPrefix first log
  pub made : LogEntry (Call × Reply)
  pub known : w.known ≡ log ++ made ∷ []

-- one access of the word was made, or two
abbrev pub AccessesOnceOrTwice : Bounds → LockPassView → LockPassView → Type 0
AccessesOnceOrTwice limits v w = ((word : ℕ) × HasFound v (word ∷ []) w) ⊎ AccessesTwice limits v w
