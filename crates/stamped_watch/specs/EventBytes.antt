-- The bytes of an event: its kind, its lane, six zeros and its number, and behind them the words of its contents. The
-- lowest byte of a number comes first.
use Rattle.std.specs.Prelude.{ℕ, ◌≡◌, ◌≢◌, ◌+◌, ◌*◌, ◌≤◌, ◌++◌, Bool, true, false, List, [], ◌∷◌, length, take, drop}
use Rattle.std.specs.Prelude.{slice_index, zero, suc, Option, Some, None}
use Rattle.std.specs.Int.{from_le_bytes, w64}
use Rattle.std.specs.List.{All}
use Rattle.stamp_core.specs.Call.{is_lock_call}
use Rattle.stamp_core.specs.declared.call.Call.{Call}
use Rattle.stamp_core.specs.declared.call.Call.TheVariants.{TryWrite, TryRead, WriteLock, ReadLock, Optimistic}
use Rattle.stamp_core.specs.declared.call.Call.TheVariants.{Validate, UnlockWrite, UnlockRead, Unlock, ToWrite, ToRead}
use Rattle.stamp_core.specs.declared.call.Call.TheVariants.{ToOptimistic, TryUnlockWrite, TryUnlockRead, IsWriteLocked}
use Rattle.stamp_core.specs.declared.call.Call.TheVariants.{IsReadLocked, ReadCount, Get, Put, PutIf}
use Rattle.stamp_core.specs.declared.reply.Reply.{Reply}
use Rattle.stamp_core.specs.declared.reply.Reply.TheVariants.{Stamp, Yes, No, Done, Mismatch, Count, Content}
use Rattle.stamp_runs.specs.Run.{lane_of}
use Rattle.stamp_runs.specs.declared.event.Event.{Event}
use Rattle.stamp_runs.specs.declared.event.Event.TheVariants.{Begins, Returns, Withdraws}
use Rattle.stamp_watch.specs.Names.{IsWide}
use Rattle.stamped_watch.specs.declared.event_bytes.BadEvent.{BadEvent}
use Rattle.stamped_watch.specs.declared.event_bytes.BadEvent.TheVariants as bad
use Rattle.std.specs.Prelude.{ℕ, ◌≡◌, ◌≢◌, ◌+◌, ◌≤◌, List, [], Option, Some, None, MatchOption, true, ⊤}
use Rattle.stamp_core.specs.declared.reply.Reply.TheVariants.{Content}
use Rattle.stamp_runs.specs.Names.{EachOfEvent, Names, event_by}
use Rattle.stamp_watch.specs.Names.{IsNamed}
use Rattle.stamped_watch.specs.declared.event_bytes.Front.{Front}
use Rattle.stamped_watch.specs.declared.event_bytes.Front.TheVariants.{Whole, Longer}

-- a record has 1 to 16 words, if there is one
abbrev pub IsWidth : Option ℕ → Type 0
IsWidth width = MatchOption width ⊤ (λ (n : ℕ). (1 ≤ n) × (n ≤ 16))

-- the kind of a call's beginning
abbrev pub call_kind : Call → ℕ
call_kind TryWrite = 0
call_kind TryRead = 1
call_kind WriteLock = 2
call_kind ReadLock = 3
call_kind Optimistic = 4
call_kind (Validate s) = 5
call_kind (UnlockWrite s) = 6
call_kind (UnlockRead s) = 7
call_kind (Unlock s) = 8
call_kind (ToWrite s) = 9
call_kind (ToRead s) = 10
call_kind (ToOptimistic s) = 11
call_kind TryUnlockWrite = 12
call_kind TryUnlockRead = 13
call_kind IsWriteLocked = 14
call_kind IsReadLocked = 15
call_kind ReadCount = 16
call_kind Get = 17
call_kind (Put words) = 18
call_kind (PutIf expected words) = 19

-- of a return with this reply
abbrev pub reply_kind : Reply → ℕ
reply_kind (Stamp s) = 32
reply_kind Yes = 33
reply_kind No = 34
reply_kind Done = 35
reply_kind Mismatch = 36
reply_kind (Count n) = 37
reply_kind (Content words) = 38

abbrev pub kind_of : Event → ℕ
kind_of (Begins lane call) = call_kind call
kind_of (Returns lane reply) = reply_kind reply
kind_of (Withdraws lane) = 48

-- the stamp with which the call is made, or 0
abbrev pub call_number : Call → ℕ
call_number (Validate s) = s
call_number (UnlockWrite s) = s
call_number (UnlockRead s) = s
call_number (Unlock s) = s
call_number (ToWrite s) = s
call_number (ToRead s) = s
call_number (ToOptimistic s) = s
call_number _ = 0

-- the stamp or the count that is returned, or 0
abbrev pub reply_number : Reply → ℕ
reply_number (Stamp s) = s
reply_number (Count n) = n
reply_number _ = 0

abbrev pub number_of : Event → ℕ
number_of (Begins lane call) = call_number call
number_of (Returns lane reply) = reply_number reply
number_of (Withdraws lane) = 0

-- what stands at which places
abbrev pub kind_in : List ℕ → ℕ
kind_in bytes = slice_index bytes 0

abbrev pub lane_in : List ℕ → ℕ
lane_in bytes = slice_index bytes 1

abbrev pub HasZeros : List ℕ → Type 0
HasZeros bytes = All (λ byte. byte ≡ 0) (take 6 (drop 2 bytes))

abbrev pub number_in : List ℕ → ℕ
number_in bytes = from_le_bytes w64 (take 8 (drop 8 bytes))

-- the words of the contents that it tells, one behind the other
abbrev pub words_of_call : Call → List ℕ
words_of_call (Put words) = words
words_of_call (PutIf expected words) = expected ++ words
words_of_call call = []

abbrev pub words_of_reply : Reply → List ℕ
words_of_reply (Content words) = words
words_of_reply reply = []

abbrev pub words_of : Event → List ℕ
words_of (Begins lane call) = words_of_call call
words_of (Returns lane reply) = words_of_reply reply
words_of (Withdraws lane) = []

-- the event tells no content: it is the same by any names
pub record IsPlain (e : Event) : Type 0 where
  pub no_words : words_of e ≡ []
  pub by_name : (names : Names) → event_by names e ≡ e
  pub named : (contents : List (List ℕ)) → EachOfEvent (IsNamed contents) e

-- so many words, of eight bytes each
abbrev pub words_in : ℕ → List ℕ → List ℕ
words_in zero bytes = []
words_in (suc n) bytes = from_le_bytes w64 (take 8 bytes) ∷ words_in n (drop 8 bytes)

-- the event is none of a record's
abbrev pub is_of_lock : Event → Bool
is_of_lock (Begins lane call) = is_lock_call call
is_of_lock (Returns lane (Content words)) = false
is_of_lock event = true

-- a stream without data has no event of a record; one with data tells contents of the width of its record
abbrev pub IsOfWidth : Option ℕ → Event → Type 0
IsOfWidth None e = is_of_lock e ≡ true
IsOfWidth (Some width) e = EachOfEvent (IsWide width) e

-- the first 16 bytes of the event, in a stream whose record has this width
pub record HasFront (width : Option ℕ) (e : Event) (bytes : List ℕ) : Type 0 where
  pub fits : IsOfWidth width e
  pub kind : kind_of e ≡ kind_in bytes
  pub lane : lane_of e ≡ lane_in bytes
  pub zeros : HasZeros bytes
  pub number : number_of e ≡ number_in bytes

-- how many bytes the event has
abbrev pub size_of : Event → ℕ
size_of e = 16 + 8 * length (words_of e)

-- the bytes are the first ones of events that are so long
pub record IsLongerIn (width : Option ℕ) (bytes : List ℕ) (many : ℕ) : Type 0 where
  pub one : Event
  pub front : HasFront width one bytes
  pub some : 1 ≤ many
  pub each : (e : Event) → HasFront width e bytes → size_of e ≡ 16 + many

abbrev pub IsFrontIn : Option ℕ → List ℕ → Front → Type 0
IsFrontIn width bytes (Whole e) = HasFront width e bytes × IsPlain e
IsFrontIn width bytes (Longer words many) = (width ≡ Some words) × IsLongerIn width bytes many

-- these are the bytes of the event
pub record HasBytes (width : Option ℕ) (e : Event) (bytes : List ℕ) : Type 0 where
  pub many : length bytes ≡ size_of e
  pub front : HasFront width e (take 16 bytes)
  pub words : words_in (length (words_of e)) (drop 16 bytes) ≡ words_of e

-- some event has this kind
pub record IsKind (width : Option ℕ) (kind : ℕ) : Type 0 where
  pub event_of : Event
  pub fits : IsOfWidth width event_of
  pub has : kind_of event_of ≡ kind

-- no event of this kind has this number
abbrev pub IsNumberOfNone : Option ℕ → ℕ → ℕ → Type 0
IsNumberOfNone width kind number =
    (e : Event) → IsOfWidth width e → kind_of e ≡ kind → number_of e ≢ number

-- this is the first thing that is wrong with 16 bytes that are no event's first ones
abbrev pub IsNoEvent : Option ℕ → BadEvent → List ℕ → Type 0
IsNoEvent width bad.Kind bytes = ¬ IsKind width (kind_in bytes)
IsNoEvent width bad.Zeros bytes = IsKind width (kind_in bytes) × (¬ HasZeros bytes)
IsNoEvent width bad.Number bytes =
    IsKind width (kind_in bytes) × HasZeros bytes × IsNumberOfNone width (kind_in bytes) (number_in bytes)
