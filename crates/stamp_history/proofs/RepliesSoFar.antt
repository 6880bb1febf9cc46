-- Replies written one after the other, as the calls are taken.
use Rattle.std.proofs.Common.{◌≡◌, ℕ, ◌+◌, List, [], ◌∷◌, ◌++◌, length, take, map, sym, ◌∙◌, ap, Some, None}
use Rattle.std.proofs.Common.{append_assoc, append-nil, codes}
use Rattle.std.proofs.lemmas.List.{length-map}
use Rattle.std.proofs.Math.Seq.{take-length}
use Rattle.std.specs.Prelude.{IsTrue, nat_lt}
use Rattle.serde_json.specs.View.{items_of}
use Rattle.serde_json.specs.Written.{comma_if, compact_text, items_text}
use Rattle.stamp_core.specs.Limits.{Bounds}
use Rattle.stamp_core.specs.Word.{LockWord, Represents}
use Rattle.stamp_core.specs.Call.{is_lock_call}
use Rattle.stamp_core.specs.Decision.{IsTransition}
use Rattle.stamp_core.specs.Replayed.{IsReplayed, WaitsAt}
use Rattle.stamp_core.specs.declared.call.Call.{Call}
use Rattle.stamp_core.specs.declared.reply.Reply.{Reply}
use Rattle.stamp_core.proofs.Replaying.{Replaying, none, more, waits, all}
use Rattle.stamp_history.specs.ReplayText.{reply_data, replies_data}
use Rattle.stamp_core.specs.LockCall.{call_as}
use Rattle.stamp_core.specs.declared.lock_call.LockCall.{LockCall}
use Rattle.stamp_history.proofs.Appending.{before}
use Rattle.stamp_history.proofs.ItemsText.{next_written}
use Rattle.stamp_history.proofs.LockCalls.{CallAt}

-- how far the calls have come; the list of their replies was begun after an old text, and any later ones end it
pub record RepliesSoFar (limits : Bounds) (calls : List Call) (i : ℕ) (word : LockWord) (old text : List ℕ) :
    Type 0 where
  pub replies : List Reply
  pub replaying : Replaying limits calls i word replies
  pub begun : (later : List Reply) → text ++ items_text (nat_lt 0 i) (items_of (map reply_data later)) ≡ old ++
      compact_text (replies_data (replies ++ later))

pub begins : (limits : Bounds) (calls : List Call) (word : LockWord) (old text : List ℕ) → Represents limits word [] →
    text ≡ old ++ codes "[" → RepliesSoFar limits calls 0 word old text
begins limits calls word old text represented opened = record {
  replies = [];
  replaying = none limits calls word represented;
  begun = λ later. before old (codes "[") (items_text (nat_lt 0 0) (items_of (map reply_data later))) opened;
}

pub waits_at : (limits : Bounds) (xs : List LockCall) (i : ℕ) (call : Call) (word : LockWord)
    (old text : List ℕ) → CallAt xs i call → RepliesSoFar limits (map call_as xs) i word old text →
    IsTransition limits word call None → WaitsAt limits (map call_as xs) i
waits_at limits xs i call word old text there so_far made =
    waits limits (map call_as xs) i word so_far.replies call so_far.replaying there.within there.at made

pub goes_on : (limits : Bounds) (xs : List LockCall) (i : ℕ) (call : Call) (word next : LockWord) (reply : Reply)
    (old text mid grown : List ℕ) → CallAt xs i call → IsTrue (is_lock_call call) →
    mid ≡ text ++ comma_if (nat_lt 0 i) → grown ≡ mid ++ compact_text (reply_data reply) →
    RepliesSoFar limits (map call_as xs) i word old text → IsTransition limits word call (Some (next, reply)) →
    RepliesSoFar limits (map call_as xs) (i + 1) next old grown
goes_on limits xs i call word next reply old text mid grown there lock comma piece so_far made = record {
  replies = so_far.replies ++ reply ∷ [];
  replaying = more limits (map call_as xs) i word next so_far.replies call reply so_far.replaying there.within
      there.at lock made;
  begun = λ later. next_written reply_data reply later i text mid grown _ comma piece (so_far.begun (reply ∷ later)) ∙
      ap (λ (rs : List Reply). old ++ compact_text (replies_data rs))
      (sym (append_assoc so_far.replies (reply ∷ []) later));
}

pub ends : (limits : Bounds) (xs : List LockCall) (i : ℕ) (word : LockWord) (old text new : List ℕ) →
    i ≡ length xs → new ≡ text ++ codes "]" → RepliesSoFar limits (map call_as xs) i word old text →
    (replies : List Reply) × (new ≡ old ++ compact_text (replies_data replies)) ×
    IsReplayed limits (map call_as xs) replies word
ends limits xs i word old text new end closed so_far =
    let n : i ≡ length (map call_as xs) = end ∙ sym (length-map xs call_as) in (
      so_far.replies,
      closed ∙ so_far.begun [] ∙
          ap (λ (rs : List Reply). old ++ compact_text (replies_data rs)) (append-nil so_far.replies),
      all limits (map call_as xs) i word so_far.replies so_far.replaying
          (ap (λ (k : ℕ). take k (map call_as xs)) n ∙ take-length (map call_as xs)) n,
    )
