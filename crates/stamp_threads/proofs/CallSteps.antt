-- What a pass knows after one access of a lock call.
use Rattle.std.proofs.Common.{◌≡◌, ◌≢◌, ℕ, ◌==◌, Bool, true, false, MatchBool, Option}
use Rattle.std.proofs.Common.{List, [], ◌∷◌, refl, ap, sym, ◌∙◌, subst, arith}
use Rattle.std.specs.Prelude.{IsTrue}
use Rattle.std.proofs.lemmas.Bool.Decides.{nat_tests}
use Rattle.stamp_core.specs.Call.{is_lock_call}
use Rattle.stamp_core.specs.Limits.{Bounds}
use Rattle.stamp_core.specs.LockEvent.{LockEvent}
use Rattle.stamp_core.specs.Word.{LockWord, word_at}
use Rattle.stamp_core.specs.Transition.{Transition}
use Rattle.stamp_core.specs.Decision.{Answers, Changes, HasNone, Moves}
use Rattle.stamp_core.specs.declared.call.Call.{Call}
use Rattle.stamp_core.specs.declared.reply.Reply.{Reply}
use Rattle.stamp_core.proofs.Deciding.{only_locking_waits}
use Rattle.stamp_threads.specs.inner.PassView.{knowing, adding, finding}
use Rattle.stamp_threads.specs.LockLog.{LockLog, events_after}
use Rattle.stamp_threads.specs.LockPass.{LockPassView, IsConsistentWith, LeavesWord}
use Rattle.stamp_threads.specs.inner.LockRule.{Loaded, Won, Exchanged, making, reading, answering}
use Rattle.stamp_threads.specs.inner.GoesAsMachine.{WentOn}
use Rattle.stamp_threads.specs.Made.{Made}
use Rattle.stamp_threads.specs.inner.Made.{MayWait}
use Rattle.stamp_threads.proofs.SamePass.{no_call_by}

module _ (limits : Bounds) (call : Call) (v : LockPassView) (found : ℕ) (w : LockPassView) where
  made_at : (log : LockLog) (reply : Reply) → LeavesWord limits v found log →
      w ≡ adding (finding v found) log (call, reply) → IsConsistentWith limits w →
      Made limits call reply v w
  made_at log reply left is consistent = record {
    log = log;
    word = found;
    left = left;
    earlier = [];
    last = ap (λ (u : LockPassView). u.found) is;
    known = ap (λ (u : LockPassView). u.known) is;
    own = ap (λ (u : LockPassView). u.own) is;
    same = record {
      name = ap (λ (u : LockPassView). u.name) is;
      splits = ap (λ (u : LockPassView). u.splits) is;
    };
    consistent = consistent;
  }

  went_at : (log : LockLog) → LeavesWord limits v found log → w ≡ knowing (finding v found) log →
      IsConsistentWith limits w → WentOn limits v found w
  went_at log left is consistent = record {
    left = subst (LeavesWord limits v found) (sym (ap (λ (u : LockPassView). u.known) is)) left;
    no_call = no_call_by v w (ap (λ (u : LockPassView). u.name) is)
        (ap (λ (u : LockPassView). u.splits) is) (ap (λ (u : LockPassView). u.own) is);
    consistent = consistent;
  }

  -- the word found answers the call
  pub by_answer : (reply : Reply) → Loaded limits call v found w →
      Answers limits (word_at limits found) call reply → Made limits call reply v w
  by_answer reply l answers =
      let is : w ≡ adding (finding v found) l.log (call, reply) =
      l.after ∙ ap (λ (o : Option Transition). reading o call (finding v found) l.log)
      (answers (events_after limits l.log) l.left.represents) in
      made_at l.log reply l.left is l.consistent

  -- the call was made by an exchange
  pub by_change_made : (new : LockWord) (reply : Reply) → Won limits call v found w →
      Changes limits (word_at limits found) call new reply → Made limits call reply v w
  by_change_made new reply won changes =
      let m : Moves limits (events_after limits won.log) call (word_at limits found) new reply =
      changes (events_after limits won.log) won.left.represents in
      let is : w ≡ adding (finding v found) won.log (call, reply) =
      won.after ∙
      ap (λ (o : Option Transition). making o call (finding v found) won.log) m.transition_is in
      made_at won.log reply won.left is won.consistent

  only_known : (appended : List LockEvent) (reply : Reply) (log : LockLog) → appended ≢ [] →
      answering appended reply call (finding v found) log ≡ knowing (finding v found) log
  only_known [] reply log some = absurd (some refl)
  only_known (event ∷ appended) reply log some = refl

  -- the call is to change the word found
  pub by_change : (new : LockWord) (reply : Reply) → Loaded limits call v found w →
      Changes limits (word_at limits found) call new reply → WentOn limits v found w
  by_change new reply l changes =
      let m : Moves limits (events_after limits l.log) call (word_at limits found) new reply =
      changes (events_after limits l.log) l.left.represents in
      let is : w ≡ knowing (finding v found) l.log = l.after ∙
      (ap (λ (o : Option Transition). reading o call (finding v found) l.log) m.transition_is ∙
      only_known m.appended reply l.log m.some) in
      went_at l.log l.left is l.consistent

  -- the call waits on the word found
  pub by_wait : Loaded limits call v found w → HasNone limits (word_at limits found) call →
      WentOn limits v found w
  by_wait l none =
      let is : w ≡ knowing (finding v found) l.log = l.after ∙
      ap (λ (o : Option Transition). reading o call (finding v found) l.log)
      (none (events_after limits l.log) l.left.represents) in
      went_at l.log l.left is l.consistent

  -- only a call that may wait has no transition on the word found
  pub never_waits : IsTrue (is_lock_call call) → (MayWait call → ⊥) → Loaded limits call v found w →
      HasNone limits (word_at limits found) call → ⊥
  never_waits lock never l none =
      never (only_locking_waits limits (events_after limits l.log) call lock
      (none (events_after limits l.log) l.left.represents))

-- an exchange that found the old word
pub exchange_won : (limits : Bounds) (call : Call) (old : ℕ) (v : LockPassView) (found : ℕ)
    (w : LockPassView) → found ≡ old → Exchanged limits call old v found w → Won limits call v old w
exchange_won limits call old v found w same learned =
    let yes : (found == old) ≡ true = grind (arith, nat_tests) in
    let won : Won limits call v found w =
    subst (λ (b : Bool). MatchBool b (Won limits call v found w) (Loaded limits call v found w)) yes
    learned in subst (λ (n : ℕ). Won limits call v n w) same won

-- an exchange that found another word
pub exchange_lost : (limits : Bounds) (call : Call) (old : ℕ) (v : LockPassView) (found : ℕ)
    (w : LockPassView) → found ≢ old → Exchanged limits call old v found w →
    ((found == old) ≡ false) × Loaded limits call v found w
exchange_lost limits call old v found w other learned =
    let no : (found == old) ≡ false = grind (arith, nat_tests) in (
      no,
      subst (λ (b : Bool). MatchBool b (Won limits call v found w) (Loaded limits call v found w)) no
          learned,
    )
