-- Histories of a running record that grow by an event.
use Rattle.std.proofs.Common.{◌≡◌, ◌≢◌, ℕ, ◌+◌, Bool, true, false, if◌then◌else◌, List, [], ◌∷◌, ◌++◌, length}
use Rattle.std.proofs.Common.{map, refl, ap, sym, ◌∙◌, subst, length-append, append-nil, arith}
use Rattle.std.proofs.Common.{append_assoc}
use Rattle.std.proofs.lemmas.List.{map-append}
use lib.Pointwise.{bytes_decides}
use mathlib.Core.List.{IsPrefix}
use Rattle.stamp_core.specs.Limits.{Bounds}
use Rattle.stamp_core.specs.Call.{is_lock_call}
use Rattle.stamp_core.specs.Content.{zeros, content_next, same_words, RecordReplies}
use Rattle.stamp_core.specs.History.{History, IsReply, IsLegal, content_from, content_after, events_of}
use Rattle.stamp_core.specs.declared.call.Call.{Call}
use Rattle.stamp_core.specs.declared.call.Call.TheVariants.{Get, Put, PutIf}
use Rattle.stamp_core.specs.declared.reply.Reply.{Reply}
use Rattle.stamp_core.specs.declared.reply.Reply.TheVariants.{Yes, No, Done, Content, Stamp, Mismatch, Count}
use Rattle.stamp_core.proofs.Linearizing.{content_from-append, legal_more}
use Rattle.stamp_threads.specs.declared.pass_view.LogEntry.{LogEntry}
use Rattle.stamp_threads.specs.declared.record_view.RecordEvent.{RecordEvent}
use Rattle.stamp_threads.specs.declared.record_view.RecordEvent.TheVariants.{Mark, Called}
use Rattle.stamp_threads.specs.PassView.{entry, made_by}
use Rattle.stamp_threads.specs.RecordLog.{RecordLog, calls_in, history_in, content_in}
use Rattle.stamp_threads.specs.RecordLog.{AreRecordCalls, IsLegalLog, put_in, puts_in, puts}
use Rattle.stamp_threads.specs.RecordLog.{leaving, locked_then, is_locked, marker_then, marker_in}
use Rattle.stamp_threads.specs.RecordLog.{is_mark, marks_of}
use Rattle.stamp_threads.proofs.MadeBy.{made_by-same, other_name}

leaving-append : {C : Type 0} (f : C → LogEntry RecordEvent → C) (c : C) (xs ys : RecordLog) →
    leaving f c (xs ++ ys) ≡ leaving f (leaving f c xs) ys
leaving-append f c [] ys = refl
leaving-append f c (x ∷ xs) ys = leaving-append f (f c x) xs ys

pub locked_longer : (log : RecordLog) (name : List ℕ) (e : RecordEvent) →
    is_locked (log ++ entry name e ∷ []) ≡ locked_then (is_locked log) e
locked_longer log name e =
    leaving-append (λ b x. locked_then b x.made) false log (entry name e ∷ [])

pub marker_longer : (log : RecordLog) (name : List ℕ) (e : RecordEvent) →
    marker_in (log ++ entry name e ∷ []) ≡ marker_then (marker_in log) name e
marker_longer log name e =
    leaving-append (λ m x. marker_then m x.name x.made) [] log (entry name e ∷ [])

-- puts
pub puts_in-append : (es : List RecordEvent) (e : RecordEvent) →
    puts_in (es ++ e ∷ []) ≡ puts_in es + put_in e
puts_in-append [] e = omega arith
puts_in-append (x ∷ es) e = let h = puts_in-append es e in omega arith

pub puts_longer : (log : RecordLog) (name : List ℕ) (e : RecordEvent) →
    puts (log ++ entry name e ∷ []) ≡ puts log + put_in e
puts_longer log name e = ap puts_in (map-append (λ (x : LogEntry RecordEvent). x.made) log _) ∙
    puts_in-append (map (λ (x : LogEntry RecordEvent). x.made) log) e

-- the history
history-append : (xs ys : RecordLog) → history_in (xs ++ ys) ≡ history_in xs ++ history_in ys
history-append [] ys = refl
history-append (x ∷ xs) ys = ap (λ (l : History). calls_in x.made ++ l) (history-append xs ys) ∙
    sym (append_assoc (calls_in x.made) (history_in xs) (history_in ys))

history_marked : (log : RecordLog) (name : List ℕ) →
    history_in (log ++ entry name Mark ∷ []) ≡ history_in log
history_marked log name = history-append log (entry name Mark ∷ []) ∙ append-nil (history_in log)

history_longer : (log : RecordLog) (name : List ℕ) (call : Call) (reply : Reply) →
    history_in (log ++ entry name (Called call reply) ∷ []) ≡ history_in log ++ (call, reply) ∷ []
history_longer log name call reply = history-append log (entry name (Called call reply) ∷ [])

pub content_marked : (width : ℕ) (log : RecordLog) (name : List ℕ) →
    content_in width (log ++ entry name Mark ∷ []) ≡ content_in width log
content_marked width log name = ap (content_after width) (history_marked log name)

pub content_longer : (width : ℕ) (log : RecordLog) (name : List ℕ) (call : Call) (reply : Reply) →
    content_in width (log ++ entry name (Called call reply) ∷ []) ≡
    content_next (content_in width log) call reply
content_longer width log name call reply =
    ap (content_after width) (history_longer log name call reply) ∙
    content_from-append (zeros width) (history_in log) ((call, reply) ∷ [])

-- legality
record_calls-append : (xs ys : History) → AreRecordCalls xs → AreRecordCalls ys → AreRecordCalls (xs ++ ys)
record_calls-append [] ys a b = b
record_calls-append (x ∷ xs) ys a b = (a.0, record_calls-append xs ys a.1 b)

pub legal_marked : (width : ℕ) (log : RecordLog) (name : List ℕ) → IsLegalLog width log →
    IsLegalLog width (log ++ entry name Mark ∷ [])
legal_marked width log name legal = record {
  calls = subst AreRecordCalls (sym (history_marked log name)) legal.calls;
  legal = λ limits. subst (IsLegal limits width) (sym (history_marked log name))
      (legal.legal limits);
}

is_record_reply : (limits : Bounds) (width : ℕ) (log : RecordLog) (call : Call) (reply : Reply) →
    is_lock_call call ≡ false → RecordReplies (content_in width log) call reply →
    IsReply limits (events_of limits (history_in log)) (content_after width (history_in log)) call
    reply
is_record_reply limits width log call reply other replies = rw other replies

pub legal_longer : (width : ℕ) (log : RecordLog) (name : List ℕ) (call : Call) (reply : Reply) →
    is_lock_call call ≡ false → RecordReplies (content_in width log) call reply →
    IsLegalLog width log → IsLegalLog width (log ++ entry name (Called call reply) ∷ [])
legal_longer width log name call reply other replies legal =
    let is = sym (history_longer log name call reply) in
    record {
      calls = subst AreRecordCalls is
          (record_calls-append (history_in log) ((call, reply) ∷ []) legal.calls (other, tt));
      legal = λ limits. subst (IsLegal limits width) is
          (legal_more limits [] (zeros width) (history_in log) (call, reply) (legal.legal limits)
          (is_record_reply limits width log call reply other replies));
    }

-- marks of the name that the event is under
pub marks_marked : (name : List ℕ) (log : RecordLog) →
    marks_of name (log ++ entry name Mark ∷ []) ≡ marks_of name log + 1
marks_marked name log = ap length (made_by-same is_mark name log Mark) ∙
    length-append (made_by is_mark name log) (Mark ∷ [])

pub marks_called : (name : List ℕ) (log : RecordLog) (call : Call) (reply : Reply) →
    marks_of name (log ++ entry name (Called call reply) ∷ []) ≡ marks_of name log
marks_called name log call reply =
    ap length (made_by-same is_mark name log (Called call reply) ∙ append-nil _)

-- puts, event by event
pub puts_marked : (log : RecordLog) (name : List ℕ) → puts (log ++ entry name Mark ∷ []) ≡ puts log
puts_marked log name =
    let h : puts (log ++ entry name Mark ∷ []) ≡ puts log + 0 = puts_longer log name Mark in
    omega (arith, h)

-- a call that puts nothing leaves the content
content_kept : (content : List ℕ) (call : Call) (reply : Reply) → put_in (Called call reply) ≡ 0 →
    content_next content call reply ≡ content
content_kept content (Put words) _ h = absurd (omega (arith, h))
content_kept content (PutIf expected words) Yes h = absurd (omega (arith, h))
content_kept content (PutIf expected words) No h = refl
content_kept content (PutIf expected words) Done h = refl
content_kept content (PutIf expected words) Mismatch h = refl
content_kept content (PutIf expected words) (Stamp s) h = refl
content_kept content (PutIf expected words) (Count n) h = refl
content_kept content (PutIf expected words) (Content w) h = refl
content_kept content _ _ h = refl

event_kept : (content : List ℕ) (e : RecordEvent) (rest : History) → put_in e ≡ 0 →
    content_from content (calls_in e ++ rest) ≡ content_from content rest
event_kept content Mark rest h = refl
event_kept content (Called call reply) rest h =
    ap (λ (c : List ℕ). content_from c rest) (content_kept content call reply h)

content_still : (content : List ℕ) (log : RecordLog) → puts log ≡ 0 →
    content_from content (history_in log) ≡ content
content_still content [] h = refl
content_still content (x ∷ log) h =
    let first : put_in x.made ≡ 0 = omega (arith, h) in
    let more : puts log ≡ 0 = omega (arith, h) in
    event_kept content x.made (history_in log) first ∙ content_still content log more

puts-append : (xs ys : RecordLog) → puts (xs ++ ys) ≡ puts xs + puts ys
puts-append [] ys = omega arith
puts-append (x ∷ xs) ys = let h = puts-append xs ys in omega (arith, h)

-- while nothing is put the content stays
pub content_same : (width : ℕ) (xs ys : RecordLog) → IsPrefix xs ys → puts ys ≡ puts xs →
    content_in width ys ≡ content_in width xs
content_same width xs ys begins same =
    let rest = begins.0 in
    let none : puts rest ≡ 0 =
    (let a = puts-append xs rest in let b = ap puts begins.1 in omega (arith, a, b, same)) in
    ap (content_in width) (sym begins.1) ∙
    (ap (content_after width) (history-append xs rest) ∙
    (content_from-append (zeros width) (history_in xs) (history_in rest) ∙
    content_still (content_in width xs) rest none))

pub same_words_refl : (words : List ℕ) → same_words words words ≡ true
same_words_refl words = (bytes_decides words words).1 refl

-- a call that puts these words over this content
pub record Writes (content words : List ℕ) (call : Call) (reply : Reply) : Type 0 where
  pub ours : is_lock_call call ≡ false
  pub replies : RecordReplies content call reply
  pub leaves : content_next content call reply ≡ words
  pub spends : put_in (Called call reply) ≡ 1
  pub frees : (locked : Bool) → locked_then locked (Called call reply) ≡ false

pub put_writes : (content words : List ℕ) → Writes content words (Put words) Done
put_writes content words =
    record { ours = refl; replies = refl; leaves = refl; spends = refl; frees = λ _. refl }

pub over_writes : (content words : List ℕ) → Writes content words (PutIf content words) Yes
over_writes content words = record {
  ours = refl;
  replies = sym (ap (λ (b : Bool). if b then Yes else No) (same_words_refl content));
  leaves = refl;
  spends = refl;
  frees = λ _. refl;
}

-- a call that puts nothing
pub record Reads (content : List ℕ) (call : Call) (reply : Reply) : Type 0 where
  pub ours : is_lock_call call ≡ false
  pub replies : RecordReplies content call reply
  pub leaves : content_next content call reply ≡ content
  pub spends : put_in (Called call reply) ≡ 0
  pub keeps : (locked : Bool) → locked_then locked (Called call reply) ≡ locked

pub get_reads : (content : List ℕ) → Reads content Get (Content content)
get_reads content =
    record { ours = refl; replies = refl; leaves = refl; spends = refl; keeps = λ _. refl }

pub no_reads : (content expected words : List ℕ) → content ≢ expected →
    Reads content (PutIf expected words) No
no_reads content expected words differ = record {
  ours = refl;
  replies = sym (ap (λ (b : Bool). if b then Yes else No)
      (other_name (same_words content expected) content expected refl differ));
  leaves = refl;
  spends = refl;
  keeps = λ _. refl;
}
