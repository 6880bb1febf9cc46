-- Which stamps calls issue that begin and return among events.
use Rattle.std.specs.Prelude.{ℕ, ◌≡◌, ◌⊎◌, ◌<◌, ◌++◌, List, ◌∷◌}
use Rattle.stamp_core.specs.Limits.{Bounds, units}
use Rattle.stamp_core.specs.Stamp.{IsStamp}
use Rattle.stamp_core.specs.declared.call.Call.{Call}
use Rattle.stamp_core.specs.declared.call.Call.TheVariants.{Optimistic, ReadLock, TryRead, TryWrite, WriteLock}
use Rattle.stamp_core.specs.declared.reply.Reply.TheVariants.{Stamp}
use Rattle.stamp_runs.specs.declared.event.Event.{Event}
use Rattle.stamp_runs.specs.declared.event.Event.TheVariants.{Begins, Returns}
use Rattle.stamp_runs.specs.Run.{lane_of}
use Rattle.stamp_watch.specs.Ahead.{IsSpared}

-- the call acquires write mode
abbrev pub IsWriting : Call → Type 0
IsWriting call = (call ≡ WriteLock) ⊎ (call ≡ TryWrite)

-- the call acquires read mode, or reads optimistically
abbrev pub IsReading : Call → Type 0
IsReading call = (call ≡ Optimistic) ⊎ (call ≡ TryRead) ⊎ (call ≡ ReadLock)

-- the call issues a stamp, and takes none
abbrev pub IssuesStamp : Call → Type 0
IssuesStamp call = IsWriting call ⊎ IsReading call

-- the call that begins by the one event returns by the other, with a stamp of this version that it issues
pub record IssuesOf (limits : Bounds) (version : ℕ) (begun end : Event) : Type 0 where
  pub lane : ℕ
  pub call : Call
  pub stamp : ℕ
  pub begins : begun ≡ Begins lane call
  pub returns : end ≡ Returns lane (Stamp stamp)
  pub issues : IssuesStamp call
  pub is_of : IsStamp (units limits) version stamp

-- the call that begins by the event returns so among those behind it, and the stamp is of an older version than this
-- one
pub record IssuesOlder (limits : Bounds) (version : ℕ) (begun : Event) (behind : List Event) : Type 0 where
  pub between : List Event
  pub end : Event
  pub rest : List Event
  pub of : ℕ
  pub behind_is : behind ≡ between ++ end ∷ rest
  pub spared : IsSpared between (lane_of begun)
  pub issues : IssuesOf limits of begun end
  pub older : of < version

-- such a call is among these events
pub record ReturnsOlder (limits : Bounds) (version : ℕ) (events : List Event) : Type 0 where
  pub before : List Event
  pub begun : Event
  pub behind : List Event
  pub events_are : events ≡ before ++ begun ∷ behind
  pub one : IssuesOlder limits version begun behind

-- these events, the last before the call ends, show that nothing is lost if it begins late, before them
pub record LosesNothing (limits : Bounds) (begun end : Event) (waiting : List Event) : Type 0 where
  pub version : ℕ
  pub issues : IssuesOf limits version begun end
  pub older : ReturnsOlder limits version waiting
