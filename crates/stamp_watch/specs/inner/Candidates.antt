-- What the events of a run tell of the reply that an open call may be given next.
use Rattle.std.specs.Prelude.{ℕ, ◌≡◌, ◌⊎◌, ◌≤◌, ◌<◌, ◌-◌, ◌++◌, List, [], ◌∷◌, ◌+◌, length, map, take}
use Rattle.std.specs.Prelude.{Option, Some, None, MatchOption, ⊤}
use Rattle.std.specs.List.{Contains}
use Rattle.stamp_core.specs.Limits.{Bounds, units}
use Rattle.stamp_core.specs.Stamp.{IsStamp, optimistic_stamp, read_stamp, write_stamp}
use Rattle.stamp_core.specs.declared.call.Call.{Call}
use Rattle.stamp_core.specs.declared.call.Call.TheVariants.{TryWrite, TryRead, WriteLock, ReadLock, Optimistic}
use Rattle.stamp_core.specs.declared.call.Call.TheVariants.{ToWrite, ToRead, ToOptimistic, Put, PutIf}
use Rattle.stamp_core.specs.declared.reply.Reply.{Reply}
use Rattle.stamp_core.specs.declared.reply.Reply.TheVariants.{Stamp}
use Rattle.stamp_runs.specs.declared.event.Event.{Event}
use Rattle.stamp_runs.specs.declared.event.Event.TheVariants.{Begins, Returns}
use Rattle.stamp_runs.specs.Own.{open_after}
use Rattle.stamp_runs.specs.Run.{lane_of}
use Rattle.stamp_sets.specs.SmallCall.{call_of, reply_of}
use Rattle.stamp_sets.specs.declared.small_call.SmallReply.{SmallReply}
use Rattle.stamp_sets.specs.declared.small_call.SmallReply.TheVariants.{Content, OfLock}
use Rattle.stamp_core.specs.declared.lock_decision.LockReply.TheVariants as own
use Rattle.stamp_watch.specs.Ahead.{IsSpared}
use Rattle.stamp_watch.specs.Possible.{plain_replies}
use Rattle.stamp_watch.specs.declared.candidates.BegunCall.{BegunCall}
use Rattle.stamp_watch.specs.declared.candidates.Issued.{Issued}
use Rattle.stamp_watch.specs.declared.candidates.Window.{Window}
use Rattle.stamp_watch.specs.declared.candidates.Issued.TheVariants.{OfWriter, OfReader, OfNone}

-- the last event of the lane begins this call
pub record IsOpen (events : List Event) (lane : ℕ) (call : Call) : Type 0 where
  pub before : List Event
  pub behind : List Event
  pub events_are : events ≡ before ++ Begins lane call ∷ behind
  pub spared : IsSpared behind lane

-- and it has this place
pub record IsOpenAt (events : List Event) (lane : ℕ) (begun : BegunCall) : Type 0 where
  pub there : IsOpen events lane (call_of begun.call)
  pub place_is : begun.place ≡ length there.before

-- the call that is open in the lane, if one is
abbrev pub IsOpenIn : List Event → ℕ → Option BegunCall → Type 0
IsOpenIn events lane None = open_after events lane ≡ None
IsOpenIn events lane (Some begun) = IsOpenAt events lane begun

-- the event returns a stamp of this version
pub record Tells (limits : Bounds) (version : ℕ) (event : Event) : Type 0 where
  pub lane : ℕ
  pub stamp : ℕ
  pub returns : event ≡ Returns lane (Stamp stamp)
  pub is_of : IsStamp (units limits) version stamp

-- one of the events does
pub record AreTelling (limits : Bounds) (version : ℕ) (events : List Event) : Type 0 where
  pub event : Event
  pub among : Contains events event
  pub tells : Tells limits version event

-- the newest version of which a stamp is returned; 0 where none is
pub record IsNewestTold (limits : Bounds) (events : List Event) (newest : ℕ) : Type 0 where
  pub told : (newest ≡ 0) ⊎ AreTelling limits newest events
  pub most : (version : ℕ) → AreTelling limits version events → version ≤ newest

-- the stamps that a call is given: of a writer, of a reader, or of an optimistic read
abbrev pub stamps_given : Call → Option Issued
stamps_given TryWrite = Some OfWriter
stamps_given WriteLock = Some OfWriter
stamps_given (ToWrite s) = Some OfWriter
stamps_given TryRead = Some OfReader
stamps_given ReadLock = Some OfReader
stamps_given (ToRead s) = Some OfReader
stamps_given Optimistic = Some OfNone
stamps_given (ToOptimistic s) = Some OfNone
stamps_given _ = None

-- the stamp that a call converts
abbrev pub converted : Call → Option ℕ
converted (ToWrite s) = Some s
converted (ToRead s) = Some s
converted (ToOptimistic s) = Some s
converted _ = None

-- a stamp of this version for such a call, which a lock with these limits gives
abbrev pub IsGiven : Bounds → Issued → ℕ → ℕ → Type 0
IsGiven limits OfWriter version s = s ≡ write_stamp (units limits) version
IsGiven limits OfReader version s =
    (nth : ℕ) × (1 ≤ nth) × (nth ≤ limits.readers) × (s ≡ read_stamp (units limits) version nth)
IsGiven limits OfNone version s = s ≡ optimistic_stamp (units limits) version

-- a call that acquires write mode makes a version; others leave what there was, or convert
abbrev pub MayBeNow : Issued → ℕ → ℕ → Type 0
MayBeNow OfWriter old version = old < version
MayBeNow _ old version = old ≤ version

-- what a call may be given where the lock has the one version before it and the other then: no stamp, the one that it
-- converts, or one of the version then
abbrev pub MayBeGiven : Bounds → Call → ℕ → ℕ → ℕ → Type 0
MayBeGiven limits call old version s = (s ≡ 0) ⊎ (converted call ≡ Some s) ⊎
    MatchOption (stamps_given call) ⊥ (λ kind. MayBeNow kind old version × IsGiven limits kind version s)

-- a reply of those that a call has where these are neither stamps nor contents
abbrev pub IsPlain : Bounds → Call → Reply → Type 0
IsPlain limits call reply = MatchOption (plain_replies limits call) ⊤ (λ rs. Contains (map reply_of rs) reply)

-- all such stamps of these versions are among the numbers
abbrev pub AreAllGiven : Bounds → Issued → ℕ → ℕ → List ℕ → Type 0
AreAllGiven limits kind low high stamps =
    (version s : ℕ) → low ≤ version → version ≤ high → IsGiven limits kind version s → Contains stamps s

-- the event begins a call that may acquire write mode
pub record BeginsWriting (event : Event) : Type 0 where
  pub lane : ℕ
  pub call : Call
  pub begins : event ≡ Begins lane call
  pub writes : stamps_given call ≡ Some OfWriter

-- each lane is there with an open call that may acquire write mode
abbrev pub AreWriting : List Event → List ℕ → Type 0
AreWriting events lanes =
    (lane : ℕ) (call : Call) → IsOpen events lane call → stamps_given call ≡ Some OfWriter → Contains lanes lane

-- the version before is no older than the newest one that is told before this place; and behind the newest one that is
-- told there were no more acquisitions than calls are open that may have made them
pub record IsBetween (limits : Bounds) (events : List Event) (place old version : ℕ) : Type 0 where
  pub least : (told : ℕ) → IsNewestTold limits (take place events) told → told ≤ old
  pub most : (told : ℕ) (lanes : List ℕ) → IsNewestTold limits events told → AreWriting events lanes →
      version ≤ told + length lanes
  pub within : version ≤ limits.versions

-- these are all versions of which such a call may be given stamps, with others
pub record IsWindow (limits : Bounds) (events : List Event) (place : ℕ) (kind : Issued) (window : Window) : Type 0
  where
    pub whole : (old version : ℕ) → IsBetween limits events place old version → MayBeNow kind old version →
        (window.low ≤ version) × (version ≤ window.high)
    pub within : window.high ≤ limits.versions

-- all of these numbers are among the new ones, and so are the old ones
pub record AreAdded (P : ℕ → Type 0) (old new : List ℕ) : Type 0 where
  pub added : (n : ℕ) → P n → Contains new n
  pub kept : (n : ℕ) → Contains old n → Contains new n

-- among the replies are all stamps that the call may be given where the lock has one of these versions
abbrev pub AreAllStamps : Bounds → List Event → ℕ → Call → List SmallReply → Type 0
AreAllStamps limits events place call replies =
    (old version s : ℕ) → IsBetween limits events place old version → MayBeGiven limits call old version s →
    Contains (map reply_of replies) (Stamp s)

-- the call leaves this content, if it changes the record
abbrev pub Leaves : Call → List ℕ → Type 0
Leaves (Put words) content = content ≡ words
Leaves (PutIf expected words) content = content ≡ words
Leaves _ content = ⊥

-- the event begins such a call
pub record BeginsLeaving (content : List ℕ) (event : Event) : Type 0 where
  pub lane : ℕ
  pub call : Call
  pub begins : event ≡ Begins lane call
  pub leaves : Leaves call content

-- a call leaves the content that begins among the events, and did not end before this place
pub record IsLeftSince (events : List Event) (from : ℕ) (content : List ℕ) : Type 0 where
  pub before : List Event
  pub event : Event
  pub behind : List Event
  pub events_are : events ≡ before ++ event ∷ behind
  pub leaves : BeginsLeaving content event
  pub still : IsSpared (take (from - (length before + 1)) behind) (lane_of event)

-- so it is where a put is known that began at this place and returned; else the content may be that of the record at
-- first, too
abbrev pub MayBeLeft : Option ℕ → List Event → List ℕ → Type 0
MayBeLeft None events content = (content ≡ 0 ∷ []) ⊎ IsLeftSince events 0 content
MayBeLeft (Some from) events content = IsLeftSince events from content

-- a put begins by the event, and returns among those behind it
pub record IsReturnedPut (event : Event) (behind : List Event) : Type 0 where
  pub lane : ℕ
  pub words : List ℕ
  pub reply : Reply
  pub between : List Event
  pub rest : List Event
  pub begins : event ≡ Begins lane (Put words)
  pub behind_is : behind ≡ between ++ Returns lane reply ∷ rest
  pub spared : IsSpared between lane

-- so it is with the event at this place
pub record ReturnsAt (events : List Event) (place : ℕ) : Type 0 where
  pub before : List Event
  pub event : Event
  pub behind : List Event
  pub events_are : events ≡ before ++ event ∷ behind
  pub place_is : place ≡ length before
  pub is : IsReturnedPut event behind

-- such a put is known, or none is
abbrev pub IsKnownPut : List Event → Option ℕ → Type 0
IsKnownPut events since = MatchOption since ⊤ (λ place. ReturnsAt events place)

-- a get that began at this place may be given the content, whatever put is known that returned before
abbrev pub IsReadable : List Event → ℕ → List ℕ → Type 0
IsReadable events place content =
    (since : Option ℕ) → IsKnownPut (take place events) since → MayBeLeft since events content

-- the number of the content that is left by the call that the event begins, where none of those behind it is of its
-- lane
abbrev pub IsStillLeft : Event → List Event → Option ℕ → Type 0
IsStillLeft event behind None =
    (content : List ℕ) → BeginsLeaving content event → ¬ IsSpared behind (lane_of event)
IsStillLeft event behind (Some n) = (content : List ℕ) → BeginsLeaving content event → content ≡ n ∷ []

-- the number of the content that is left by the call that the event begins, if it leaves one
abbrev pub IsLeftBy : Event → Option ℕ → Type 0
IsLeftBy event None = (content : List ℕ) → ¬ BeginsLeaving content event
IsLeftBy event (Some n) = (content : List ℕ) → BeginsLeaving content event → content ≡ n ∷ []

-- the content has one word, which is among the numbers
abbrev pub IsAmong : List ℕ → List ℕ → Type 0
IsAmong numbers content = (n : ℕ) × (content ≡ n ∷ []) × Contains numbers n

-- a stamp, and a content, as a reply
abbrev pub as_stamp : ℕ → SmallReply
as_stamp s = OfLock (own.Stamp s)

abbrev pub as_content : ℕ → SmallReply
as_content n = Content n
