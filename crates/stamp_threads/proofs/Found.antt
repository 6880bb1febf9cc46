-- An access of a call's finds one word, whatever comes of it.
use Rattle.std.proofs.Common.{◌≡◌, ℕ, ◌==◌, Bool, true, false, MatchBool, Option, Some, None}
use Rattle.std.proofs.Common.{List, [], ◌∷◌, ◌++◌, refl, ap, ◌∙◌, append_assoc}
use Rattle.stamp_core.specs.Limits.{Bounds}
use Rattle.stamp_core.specs.LockEvent.{LockEvent}
use Rattle.stamp_core.specs.Transition.{Transition}
use Rattle.stamp_core.specs.declared.call.Call.{Call}
use Rattle.stamp_core.specs.declared.reply.Reply.{Reply}
use Rattle.stamp_threads.specs.PassView.{HasFound}
use Rattle.stamp_threads.specs.inner.PassView.{finding}
use Rattle.stamp_threads.specs.LockLog.{LockLog, transition_after}
use Rattle.stamp_threads.specs.LockPass.{LockPassView}
use Rattle.stamp_threads.specs.inner.LockRule.{Loaded, Won, Exchanged, making, answering, reading}

found-making : (o : Option Transition) (call : Call) (v : LockPassView) (log : LockLog) →
    (making o call v log).found ≡ v.found
found-making None call v log = refl
found-making (Some t) call v log = refl

found-answering : (appended : List LockEvent) (reply : Reply) (call : Call) (v : LockPassView)
    (log : LockLog) → (answering appended reply call v log).found ≡ v.found
found-answering [] reply call v log = refl
found-answering (event ∷ appended) reply call v log = refl

found-reading : (o : Option Transition) (call : Call) (v : LockPassView) (log : LockLog) →
    (reading o call v log).found ≡ v.found
found-reading None call v log = refl
found-reading (Some t) call v log = found-answering t.appended t.reply call v log

module _ (limits : Bounds) (call : Call) (v : LockPassView) (found : ℕ) (w : LockPassView) where
  pub found_by_load : Loaded limits call v found w → HasFound v (found ∷ []) w
  found_by_load l = ap (λ (u : LockPassView). u.found) l.after ∙
      found-reading (transition_after limits l.log call) call (finding v found) l.log

  pub found_by_win : Won limits call v found w → HasFound v (found ∷ []) w
  found_by_win l = ap (λ (u : LockPassView). u.found) l.after ∙
      found-making (transition_after limits l.log call) call (finding v found) l.log

  by_test : (b : Bool) →
      MatchBool b (Won limits call v found w) (Loaded limits call v found w) →
      HasFound v (found ∷ []) w
  by_test true won = found_by_win won
  by_test false l = found_by_load l

  pub found_by_exchange : (old : ℕ) → Exchanged limits call old v found w →
      HasFound v (found ∷ []) w
  found_by_exchange old e = by_test (found == old) e

-- two accesses, one after the other
pub found_twice : (v u w : LockPassView) (loaded found : ℕ) → HasFound v (loaded ∷ []) u →
    HasFound u (found ∷ []) w → HasFound v (loaded ∷ found ∷ []) w
found_twice v u w loaded found first second =
    second ∙ (λ i. first i ++ found ∷ []) ∙ append_assoc v.found (loaded ∷ []) (found ∷ [])
