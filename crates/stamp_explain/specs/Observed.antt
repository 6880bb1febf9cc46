-- Observed histories: what each call was, when it began and, unless it is under way, when it returned and what.
use Rattle.std.specs.Prelude.{ℕ, ◌≡◌, ◌≤◌, ◌<◌, ◌⊎◌, List, length, slice_get, Some, MatchOption, IsTrue, Bool}
use Rattle.std.specs.Prelude.{filter, not}
use Rattle.std.specs.List.{All, AllPairs}
use Rattle.stamp_core.specs.Call.{call_suits, is_lock_call}
use Rattle.stamp_core.specs.Limits.{Bounds}
use Rattle.stamp_core.specs.declared.reply.Reply.{Reply}
use Rattle.stamp_explain.specs.declared.observed.Observation.{Observation}
use Rattle.stamp_explain.specs.declared.observed.Returned.{Returned}

pub record ObservedHistory : Type 0 where
  pub limits : Bounds
  pub width : ℕ
  pub entries : List Observation

abbrev pub observed_as : Bounds → ℕ → List Observation → ObservedHistory
observed_as limits width entries = record { limits = limits; width = width; entries = entries }

-- positions are below 2 to the 58, so that 64 points fit in each
pub record IsLow (e : Observation) : Type 0 where
  pub first : e.first < 288230376151711744
  pub last : MatchOption e.returned (Unit {0}) (λ (r : Returned). r.last < 288230376151711744)

-- at most 640,000 calls at such positions, beside a record of at most 16 words
pub record IsSmall (h : ObservedHistory) : Type 0 where
  pub width : h.width ≤ 16
  pub entries : length h.entries ≤ 640000
  pub positions : All IsLow h.entries

-- the one had returned when the other began
abbrev pub IsBefore : Observation → Observation → Type 0
IsBefore a b = MatchOption a.returned ⊥ (λ (r : Returned). r.last < b.first)

-- the reply is that of the return; a call that is under way may have any
abbrev pub AllowsReply : Observation → Reply → Type 0
AllowsReply e reply = MatchOption e.returned (Unit {0}) (λ (r : Returned). r.reply ≡ reply)

abbrev pub HasReturned : Observation → Type 0
HasReturned e = (r : Returned) × (e.returned ≡ Some r)

-- the call of this entry has returned
pub record IsReturnAt (entries : List Observation) (i : ℕ) : Type 0 where
  pub entry : Observation
  pub return : Returned
  pub is_entry : slice_get entries i ≡ Some entry
  pub returned : entry.returned ≡ Some return

-- the call is of the lock, or of the record
abbrev pub is_of_lock : Observation → Bool
is_of_lock e = is_lock_call e.call

abbrev pub is_of_record : Observation → Bool
is_of_record e = not (is_lock_call e.call)

-- the history of the lock's calls alone, and that of the record's
abbrev pub of_lock : ObservedHistory → ObservedHistory
of_lock h = record h { entries = filter is_of_lock h.entries }

abbrev pub of_record : ObservedHistory → ObservedHistory
of_record h = record h { entries = filter is_of_record h.entries }

-- a call is not over before it began
abbrev pub IsInterval : Observation → Type 0
IsInterval e = MatchOption e.returned (Unit {0}) (λ (r : Returned). e.first ≤ r.last)

-- calls of one thread do not overlap, in whichever order they are listed; so one that is under way is its
-- thread's last
abbrev pub DoNotOverlap : Observation → Observation → Type 0
DoNotOverlap a b = a.thread ≡ b.thread → IsBefore a b ⊎ IsBefore b a

-- what an observer may tell
pub record IsObserved (h : ObservedHistory) : Type 0 where
  pub intervals : All IsInterval h.entries
  pub apart : AllPairs DoNotOverlap h.entries
  pub threads : All (λ (e : Observation). e.thread < 64) h.entries
  pub suit : All (λ (e : Observation). IsTrue (call_suits h.width e.call)) h.entries
