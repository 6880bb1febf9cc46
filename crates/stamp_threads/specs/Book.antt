-- The book of a lock: calls that were made one at a time, each entered with its reply.
use Rattle.std.specs.Prelude.{ℕ, ◌≡◌, ◌≤◌, ◌<◌, List, [], ◌∷◌, ◌++◌, length, slice_index_or}
use Rattle.std.specs.Prelude.{Option, None, IsSome, Result, Ok, Err, IfOk, OnErr}
use Rattle.std.specs.List.{All}
use Rattle.stamp_core.specs.LockEvent.{LockEvent}
use Rattle.stamp_core.specs.Limits.{Bounds, AreInRange}
use Rattle.stamp_core.specs.Word.{LockWord, Represents}
use Rattle.stamp_core.specs.Transition.{Transition, transition}
use Rattle.stamp_core.specs.History.{Replies, events_of}
use Rattle.stamp_core.specs.Record.{Recorded, EntrySuits}
use Rattle.stamp_core.specs.Linearized.{history_of, AreLinearized}
use Rattle.stamp_core.specs.declared.call.Call.{Call}
use Rattle.stamp_core.specs.declared.reply.Reply.{Reply}
use Rattle.stamp_core.specs.declared.entry.Entry.{Entry}
use Rattle.stamp_threads.specs.declared.book_error.BookError.{BookError}
use Rattle.stamp_threads.specs.declared.book_error.BookError.TheVariants.{Full, Memory, Waits}

-- the limits of its lock, how many entries it may have, and those that it has, the oldest first
pub record Booked : Type 0 where
  pub limits : Bounds
  pub most : ℕ
  pub entries : List Entry

abbrev pub booked : Bounds → ℕ → List Entry → Booked
booked limits most entries = record { limits = limits; most = most; entries = entries }

-- the events of its history
abbrev pub past_of : Booked → List LockEvent
past_of b = events_of b.limits (history_of b.entries)

-- the call's transition after its history; none where it waits
abbrev pub transition_in : Booked → Call → Option Transition
transition_in b call = transition b.limits (past_of b) call

-- a call that begins, takes effect and ends at this position
abbrev pub entry_made_at : ℕ → ℕ → Call → Reply → Entry
entry_made_at position thread call reply = record {
  thread = thread;
  call = call;
  reply = reply;
  first = position;
  point = position;
  last = position;
}

-- the book with one more call, which stands at the number of entries before it
abbrev pub with_call : Booked → ℕ → Call → Reply → Booked
with_call b thread call reply =
    record b { entries = b.entries ++ entry_made_at (length b.entries) thread call reply ∷ [] }

-- the answer to a call: that it waits where it has no transition, that the book is full where it has
-- one and there is no room, and else the transition's reply, or that memory was refused
abbrev pub IsDue : Booked → Call → Result Reply BookError → Type 0
IsDue b call (Ok reply) = Replies (transition_in b call) reply × (length b.entries < b.most)
IsDue b call (Err Waits) = transition_in b call ≡ None
IsDue b call (Err Full) = IsSome (transition_in b call) × (length b.entries ≡ b.most)
IsDue b call (Err Memory) = IsSome (transition_in b call) × (length b.entries < b.most)

-- b' is the book b after this call: the answer was due, and the call is entered where it was made; where
-- it was refused, the book is as before
pub record Acted (b : Booked) (thread : ℕ) (call : Call) (answer : Result Reply BookError) (b' : Booked) : Type 0 where
  pub due : IsDue b call answer
  pub ok : IfOk answer (λ reply. b' ≡ with_call b thread call reply)
  pub err : OnErr answer (b' ≡ b)

-- the entry begins, takes effect and ends at this number
pub record IsEntryAt (k : ℕ) (e : Entry) : Type 0 where
  pub first : e.first ≡ k
  pub point : e.point ≡ k
  pub last : e.last ≡ k

-- each at the number of entries before it
abbrev pub AreInPlace : List Entry → Type 0
AreInPlace entries = (k : ℕ) (d : Entry) → k < length entries → IsEntryAt k (slice_index_or entries k d)

-- calls of a lock by 64 threads, each in its place, and linearized
pub record AreBooked (limits : Bounds) (entries : List Entry) : Type 0 where
  pub suit : All (EntrySuits 0) entries
  pub placed : AreInPlace entries
  pub linearized : AreLinearized limits 0 entries

-- so it is in each book; its entries are no more than it may have
pub record IsBook (b : Booked) : Type 0 where
  pub in_range : AreInRange b.limits
  pub most : b.most ≤ 640000
  pub room : length b.entries ≤ b.most
  pub entries : AreBooked b.limits b.entries

-- the word that is kept beside it represents the events of its history
pub record HasWord (b : Booked) (word : LockWord) : Type 0 where
  pub book : IsBook b
  pub represented : Represents b.limits word (past_of b)

-- the recorded history of a book: of a lock alone, and without a report
pub record IsOfBook (r : Recorded) : Type 0 where
  pub width : r.width ≡ 0
  pub report : r.report ≡ []
  pub entries : AreBooked r.limits r.entries

-- the answer that is due to the call in some book, and not that it waits
pub record IsBookAnswer (call : Call) (answer : Result Reply BookError) : Type 0 where
  pub book : Booked
  pub is_book : IsBook book
  pub due : IsDue book call answer
  pub made : answer ≡ Err Waits → ⊥
