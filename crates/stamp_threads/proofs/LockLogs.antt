-- Histories of a running lock that grow by a call.
use Rattle.std.proofs.Common.{◌≡◌, ℕ, Option, Some, List, [], ◌∷◌, ◌++◌, refl, ap, sym, ◌∙◌, subst}
use Rattle.std.proofs.Common.{append-nil}
use Rattle.std.specs.Prelude.{IsTrue}
use Rattle.stamp_core.specs.Limits.{Bounds}
use Rattle.stamp_core.specs.LockEvent.{LockEvent}
use Rattle.stamp_core.specs.Call.{is_lock_call}
use Rattle.stamp_core.specs.Content.{zeros}
use Rattle.stamp_core.specs.Transition.{Transition, transition}
use Rattle.stamp_core.specs.History.{History, appended_by, Replies, IsReply, IsLegal, content_after}
use Rattle.stamp_core.specs.History.{events_of}
use Rattle.stamp_core.specs.declared.call.Call.{Call}
use Rattle.stamp_core.specs.declared.reply.Reply.{Reply}
use Rattle.stamp_core.proofs.StampValidity.{events_from-append}
use Rattle.stamp_core.proofs.Linearizing.{legal_more}
use Rattle.stamp_machines.specs.LockNumber.{RepresentsAt}
use Rattle.stamp_threads.specs.PassView.{entry}
use Rattle.stamp_threads.specs.LockLog.{LockLog, history_in, events_after, transition_after}
use Rattle.stamp_threads.specs.LockLog.{AreLockCalls, IsLegalLog}

pub history-append : (xs ys : LockLog) → history_in (xs ++ ys) ≡ history_in xs ++ history_in ys
history-append [] ys = refl
history-append (x ∷ xs) ys = ap (λ (l : History). x.made ∷ l) (history-append xs ys)

lock_calls-append : (xs ys : LockLog) → AreLockCalls xs → AreLockCalls ys → AreLockCalls (xs ++ ys)
lock_calls-append [] ys a b = b
lock_calls-append (x ∷ xs) ys a b = (a.0, lock_calls-append xs ys a.1 b)

is_lock_reply : (limits : Bounds) (events : List LockEvent) (content : List ℕ) (call : Call)
    (reply : Reply) → IsTrue (is_lock_call call) → Replies (transition limits events call) reply →
    IsReply limits events content call reply
is_lock_reply limits events content call reply lock replies = rw lock replies

-- a history one call longer
module _ (limits : Bounds) (log : LockLog) (call : Call) (name : List ℕ) (t : Transition)
    (is : transition_after limits log call ≡ Some t) where
  abbrev longer : LockLog
  longer = log ++ entry name (call, t.reply) ∷ []

  history_longer : history_in longer ≡ history_in log ++ (call, t.reply) ∷ []
  history_longer = history-append log (entry name (call, t.reply) ∷ [])

  pub legal_longer : IsTrue (is_lock_call call) → IsLegalLog limits log → IsLegalLog limits longer
  legal_longer lock legal =
      let replies : Replies (transition_after limits log call) t.reply =
      subst (λ (o : Option Transition). Replies o t.reply) (sym is) refl in
      let answered = is_lock_reply limits (events_after limits log) (content_after 0 (history_in log))
      call t.reply lock replies in
      record {
        calls = lock_calls-append log (entry name (call, t.reply) ∷ []) legal.calls (lock, tt);
        legal = subst (IsLegal limits 0) (sym history_longer)
            (legal_more limits [] (zeros 0) (history_in log) (call, t.reply) legal.legal answered);
      }

  pub events_longer : events_after limits longer ≡ events_after limits log ++ t.appended
  events_longer =
      ap (λ (h : History). events_of limits h) history_longer ∙
      (events_from-append limits [] (history_in log) ((call, t.reply) ∷ []) ∙
      ap (λ (o : Option Transition). events_after limits log ++ appended_by o) is)

  pub represents_unchanged : (word : ℕ) → t.appended ≡ [] →
      RepresentsAt limits word (events_after limits log) →
      RepresentsAt limits word (events_after limits longer)
  represents_unchanged word none represents =
      subst (RepresentsAt limits word) (sym
      (events_longer ∙ (ap (λ (l : List LockEvent). events_after limits log ++ l) none ∙
      append-nil _))) represents

  pub represents_changed : (word : ℕ) → RepresentsAt limits word
      (events_after limits log ++ t.appended) →
      RepresentsAt limits word (events_after limits longer)
  represents_changed word represents = subst (RepresentsAt limits word) (sym events_longer)
      represents
