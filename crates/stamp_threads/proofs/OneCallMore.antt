-- A book with one call more.
use Rattle.std.proofs.Common.{◌≡◌, ◌⊎◌, ℕ, ◌-◌, ◌<◌, ◌≤◌, List, [], ◌∷◌, ◌++◌, length, get_or, refl}
use Rattle.std.proofs.Common.{sym, subst, inl, inr, arith, length-append, Some}
use Rattle.std.specs.Prelude.{IsTrue}
use Rattle.std.proofs.lemmas.List.{get_or_append_left}
use Rattle.std.proofs.lemmas.List.Elements.{All-push}
use Rattle.std.proofs.Math.Seq.{get_or-append_seam}
use Rattle.stamp_core.specs.LockEvent.{LockEvent}
use Rattle.stamp_core.specs.Word.{LockWord, Represents, IsAdmitted}
use Rattle.stamp_core.specs.Call.{is_lock_call, call_suits}
use Rattle.stamp_core.specs.Decision.{IsTransition}
use Rattle.stamp_core.specs.History.{Replies}
use Rattle.stamp_core.specs.Record.{EntrySuits}
use Rattle.stamp_core.specs.Linearized.{IsAnswered, MayFollow}
use Rattle.stamp_core.specs.declared.call.Call.{Call}
use Rattle.stamp_core.specs.declared.call.Call.TheVariants.{TryWrite, TryRead, WriteLock, ReadLock}
use Rattle.stamp_core.specs.declared.call.Call.TheVariants.{Optimistic, Validate, UnlockWrite}
use Rattle.stamp_core.specs.declared.call.Call.TheVariants.{UnlockRead, Unlock, ToWrite, ToRead}
use Rattle.stamp_core.specs.declared.call.Call.TheVariants.{ToOptimistic, TryUnlockWrite}
use Rattle.stamp_core.specs.declared.call.Call.TheVariants.{TryUnlockRead, IsWriteLocked}
use Rattle.stamp_core.specs.declared.call.Call.TheVariants.{IsReadLocked, ReadCount, Get, Put}
use Rattle.stamp_core.specs.declared.call.Call.TheVariants.{PutIf}
use Rattle.stamp_core.specs.declared.reply.Reply.{Reply}
use Rattle.stamp_core.specs.declared.entry.Entry.{Entry}
use Rattle.stamp_core.proofs.Linearizing.{events_push, linearized_more}
use Rattle.stamp_threads.specs.Book.{Booked, past_of, transition_in, entry_made_at, with_call, IsEntryAt}
use Rattle.stamp_threads.specs.Book.{AreInPlace, IsBook, HasWord}

pub admitted : (b : Booked) (word : LockWord) → HasWord b word → IsAdmitted b.limits word
admitted b word kept = record { events = past_of b; represented = kept.represented }

-- a call of the lock needs no record
lock_suits : (call : Call) → IsTrue (is_lock_call call) → IsTrue (call_suits 0 call)
lock_suits Get lock = cc
lock_suits (Put words) lock = cc
lock_suits (PutIf expected words) lock = cc
lock_suits TryWrite lock = lock
lock_suits TryRead lock = lock
lock_suits WriteLock lock = lock
lock_suits ReadLock lock = lock
lock_suits Optimistic lock = lock
lock_suits (Validate s) lock = lock
lock_suits (UnlockWrite s) lock = lock
lock_suits (UnlockRead s) lock = lock
lock_suits (Unlock s) lock = lock
lock_suits (ToWrite s) lock = lock
lock_suits (ToRead s) lock = lock
lock_suits (ToOptimistic s) lock = lock
lock_suits TryUnlockWrite lock = lock
lock_suits TryUnlockRead lock = lock
lock_suits IsWriteLocked lock = lock
lock_suits IsReadLocked lock = lock
lock_suits ReadCount lock = lock

placed_more : (xs : List Entry) (e : Entry) → AreInPlace xs → IsEntryAt (length xs) e → AreInPlace (xs ++ e ∷ [])
placed_more xs e placed stands k d lt = by (either k (length xs))
  where
    either : (n m : ℕ) → (n < m) ⊎ (m ≤ n)
    either n m = grind arith

    by : (k < length xs) ⊎ (length xs ≤ k) → IsEntryAt k (get_or (xs ++ e ∷ []) k d)
    by (inl before) = subst (λ (x : Entry). IsEntryAt k x) (sym (get_or_append_left xs (e ∷ []) d k before))
        (placed k d before)
    by (inr end) =
        let here : length xs ≡ k = omega (arith, length-append xs (e ∷ [])) in
        subst (λ (n : ℕ). IsEntryAt n (get_or (xs ++ e ∷ []) n d)) here
        (subst (λ (x : Entry). IsEntryAt (length xs) x) (sym (get_or-append_seam xs e [] d)) stands)

-- the book with one more call, and the word that it leaves
module _ (b : Booked) (thread : ℕ) (call : Call) (is_book : IsBook b) (lock : IsTrue (is_lock_call call)) where
  answered : (reply : Reply) → Replies (transition_in b call) reply →
      IsAnswered b.limits 0 b.entries (entry_made_at (length b.entries) thread call reply)
  answered reply replies = rw lock replies

  fits : (reply : Reply) → Replies (transition_in b call) reply →
      MayFollow b.limits 0 b.entries (entry_made_at (length b.entries) thread call reply)
  fits reply replies = record {
    within = record { begun = omega arith; ended = omega arith };
    rises = λ d some.
        let before : length b.entries - 1 < length b.entries = omega arith in
        let stands = (is_book.entries.placed (length b.entries - 1) d before).point in
        omega (arith, stands);
    follows = λ k d lt same. let stands = (is_book.entries.placed k d lt).last in omega (arith, stands);
    answered = answered reply replies;
  }

  pub kept_more : (word : LockWord) (found : LockWord × Reply) → thread < 64 → length b.entries < b.most →
      Represents b.limits word (past_of b) → IsTransition b.limits word call (Some found) →
      HasWord (with_call b thread call found.1) found.0
  kept_more word found small room represented made =
      let s = made.after (past_of b) represented in
      let e : Entry = entry_made_at (length b.entries) thread call found.1 in
      record {
        book = record {
          in_range = is_book.in_range;
          most = is_book.most;
          room = omega (arith, length-append b.entries (e ∷ []));
          entries = record {
            suit = All-push (EntrySuits 0) b.entries e is_book.entries.suit
                (record { thread = small; call = lock_suits call lock });
            placed = placed_more b.entries e is_book.entries.placed
                (record { first = refl; point = refl; last = refl });
            linearized = linearized_more b.limits 0 b.entries e is_book.entries.linearized (fits found.1 s.1);
          };
        };
        represented = subst (λ (es : List LockEvent). Represents b.limits found.0 es)
            (sym (events_push b.limits b.entries e)) s.0;
      }
