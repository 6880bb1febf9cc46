-- When nothing is lost by a call that begins later.
use Rattle.std.specs.Prelude.{ℕ, ◌≡◌, ◌<◌, ◌≤◌, ◌++◌, false, List, ◌∷◌}
use Rattle.stamp_core.specs.LockEvent.{LockEvent, write_count}
use Rattle.stamp_core.specs.Limits.{AreInRange, Bounds, units}
use Rattle.stamp_core.specs.Stamp.{IsStamp}
use Rattle.stamp_core.specs.declared.call.Call.{Call}
use Rattle.stamp_core.specs.declared.reply.Reply.{Reply}
use Rattle.stamp_core.specs.declared.reply.Reply.TheVariants.{Stamp}
use Rattle.stamp_runs.specs.declared.event.Event.{Event}
use Rattle.stamp_runs.specs.declared.event.Event.TheVariants.{Begins, Returns}
use Rattle.stamp_runs.specs.Run.{EndsBy, EndsNever, Lanes, Survives}
use Rattle.stamp_runs.specs.Object.{LockStep}
use Rattle.stamp_runs.specs.BothRun.{AreExplained, Both, State}
use Rattle.stamp_watch.specs.Form.{is_busy_after}
use Rattle.stamp_watch.specs.Issued.{IssuesStamp, ReturnsOlder}

-- with this reply the call has taken effect where no fewer acquisitions of write mode were made
abbrev pub TellsAtLeast : Bounds → Call → Reply → ℕ → Type 0
TellsAtLeast limits call reply version =
    (u v : State) → Both limits u call reply v → version ≤ write_count v.0

-- and here where fewer were made
abbrev pub TellsLess : Bounds → Call → Reply → ℕ → Type 0
TellsLess limits call reply version =
    (u v : State) → Both limits u call reply v → write_count v.0 < version

-- a call begins among these events and returns among them, and its reply tells an older version than this one
pub record TellsOlder (limits : Bounds) (version : ℕ) (events : List Event) : Type 0 where
  pub before : List Event
  pub behind : List Event
  pub lane : ℕ
  pub call : Call
  pub reply : Reply
  pub events_are : events ≡ before ++ Begins lane call ∷ behind
  pub tells : EndsBy lane (Returns lane reply) behind
  pub older : TellsLess limits call reply version

-- Such events go on only from an older version, since versions never fall.
abbrev pub OlderIsTold : Type 0
OlderIsTold =
    (limits : Bounds) (version : ℕ) (events : List Event) (s : State) (lanes : Lanes) →
    TellsOlder limits version events → Survives (Both limits) events s lanes → write_count s.0 < version

-- So nothing is lost if a call begins later, before events that tell an older version than its own reply tells.
abbrev pub LateLosesNothing : Type 0
LateLosesNothing =
    (limits : Bounds) (lane : ℕ) (call : Call) (reply : Reply) (version : ℕ) (past between rest : List Event) →
    is_busy_after past lane ≡ false → EndsNever lane between → EndsBy lane (Returns lane reply) rest →
    TellsAtLeast limits call reply version → TellsOlder limits version rest →
    AreExplained limits (past ++ (Begins lane call ∷ between ++ rest)) →
    AreExplained limits (past ++ (between ++ Begins lane call ∷ rest))

-- A stamp that a call issues is of the version that the lock has once the call has taken effect.
abbrev pub StampTellsVersion : Type 0
StampTellsVersion =
    (limits : Bounds) (call : Call) (stamp version : ℕ) (u v : List LockEvent) → AreInRange limits → IssuesStamp call →
    IsStamp (units limits) version stamp → LockStep limits u call (Stamp stamp) v → write_count v ≡ version

-- So nothing is lost if a call that issues a stamp begins later, before events among which a stamp of an older version
-- is issued.
abbrev pub LateStampLosesNothing : Type 0
LateStampLosesNothing =
    (limits : Bounds) (lane : ℕ) (call : Call) (stamp version : ℕ) (past between rest : List Event) →
    AreInRange limits → IssuesStamp call → IsStamp (units limits) version stamp → is_busy_after past lane ≡ false →
    EndsNever lane between → EndsBy lane (Returns lane (Stamp stamp)) rest → ReturnsOlder limits version rest →
    AreExplained limits (past ++ (Begins lane call ∷ between ++ rest)) →
    AreExplained limits (past ++ (between ++ Begins lane call ∷ rest))
