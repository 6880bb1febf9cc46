-- What a watch of a lock and its record keeps after the events of a run, and what its answers mean.
use Rattle.std.specs.Prelude.{ℕ, ◌≡◌, ◌≢◌, ◌⊎◌, ◌<◌, ◌≤◌, ◌++◌, Bool, List, [], ◌∷◌, Option, Some, None, option_map}
use Rattle.std.specs.Prelude.{if◌then◌else◌}
use Rattle.std.specs.Option.{option_or}
use Rattle.stamp_core.specs.Call.{is_lock_call}
use Rattle.stamp_core.specs.Limits.{Bounds}
use Rattle.stamp_core.specs.declared.call.Call.{Call}
use Rattle.stamp_core.specs.declared.reply.Reply.{Reply}
use Rattle.stamp_runs.specs.BothRun.{AreExplained}
use Rattle.stamp_runs.specs.Own.{AreInForm, open_after, own_events}
use Rattle.stamp_runs.specs.Pairs.{not_of}
use Rattle.stamp_runs.specs.declared.event.Event.{Event}
use Rattle.stamp_runs.specs.declared.event.Event.TheVariants.{Begins, Returns, Withdraws}
use Rattle.stamp_sets.specs.Half.{HasMore, IsSameHalf, KeepsRun}
use Rattle.stamp_sets.specs.SmallCall.{call_of, reply_of}
use Rattle.stamp_sets.specs.Told.{ComesAsTold, IsTold, open_at}
use Rattle.stamp_sets.specs.declared.ending.Ending.{Ending}
use Rattle.stamp_sets.specs.declared.ending.Ending.TheVariants as ending
use Rattle.stamp_sets.specs.declared.half.Half.{Half}
use Rattle.stamp_sets.specs.declared.object.Object.TheVariants.{Lock, Record}
use Rattle.stamp_sets.specs.declared.open_call.OpenCall.{OpenCall}
use Rattle.stamp_sets.specs.declared.progress.Progress.{Progress}
use Rattle.stamp_sets.specs.declared.progress.Progress.TheVariants.{Going, Dead, TooMany, Refused}
use Rattle.stamp_sets.specs.declared.small_call.SmallReply.{SmallReply}
use Rattle.stamp_sets.specs.declared.watch.Watch.{Watch}

-- the calls of the lock, and those of the record
abbrev pub is_record_call : Call → Bool
is_record_call = not_of is_lock_call

-- the open call of a lane: the lock's, or else the record's
abbrev pub open_of : Watch → ℕ → Option OpenCall
open_of watch lane = option_or (open_at watch.lock.table.items lane) (open_at watch.record.table.items lane)

-- the call, if it is one of these
abbrev pub own_open : (Call → Bool) → Option Call → Option Call
own_open mine None = None
own_open mine (Some call) = if mine call then Some call else None

-- a half keeps the events of its own calls among all of these, and has open what is open of those
pub record KeepsOwn (mine : Call → Bool) (past : List Event) (last : ℕ) (half : Half) : Type 0 where
  pub keeps : KeepsRun (own_events mine past) last half
  pub opens : (lane : ℕ) → option_map (λ (b : OpenCall). call_of b.asks) (open_at half.table.items lane) ≡
      own_open mine (open_after past lane)

-- what a watch keeps after these events
pub record IsWatching (past : List Event) (watch : Watch) : Type 0 where
  pub form : AreInForm past
  pub lock_is : watch.lock.object ≡ Lock watch.limits
  pub record_is : watch.record.object ≡ Record
  pub lock : KeepsOwn is_lock_call past watch.last watch.lock
  pub «record» : KeepsOwn is_record_call past watch.last watch.record

-- so it is after some events
pub record IsWatched (watch : Watch) : Type 0 where
  pub past : List Event
  pub watching : IsWatching past watch

-- nothing has begun, and nothing is told
pub record IsUntold (watch : Watch) (limits : Bounds) : Type 0 where
  pub limits_are : watch.limits ≡ limits
  pub idle : (lane : ℕ) → open_of watch lane ≡ None
  pub last : watch.last ≡ 0

-- nothing that comes as was told is explained
pub record IsHopeless (past : List Event) (watch : Watch) : Type 0 where
  pub none : (future : List Event) → ComesAsTold (open_of watch) watch.last future →
      ¬ AreExplained watch.limits (past ++ future)

-- more different positions of the lock, or of the record, than so many are possible after these events
abbrev pub MoreArePossible : List Event → ℕ → Watch → Type 0
MoreArePossible past most watch =
    HasMore (own_events is_lock_call past) most watch.lock ⊎
    HasMore (own_events is_record_call past) most watch.record

-- a return in this lane, with this reply, was told of an open call, at no lower place than the last one
pub record IsToldReturn (watch : Watch) (lane : ℕ) (reply : Reply) : Type 0 where
  pub begun : OpenCall
  pub told : SmallReply
  pub place : ℕ
  pub is_open : open_of watch lane ≡ Some begun
  pub ends : begun.ends ≡ ending.Returns told place
  pub same : reply_of told ≡ reply
  pub due : watch.last ≤ place

-- the event may come next: a call begins in a lane that is free; or a call ends as was told of it
abbrev pub MayComeAsTold : Watch → Event → Type 0
MayComeAsTold watch (Begins lane call) = (lane < 64) × (open_of watch lane ≡ None)
MayComeAsTold watch (Returns lane reply) = IsToldReturn watch lane reply
MayComeAsTold watch (Withdraws lane) = IsTold (open_of watch) lane ending.Withdraws

-- one lane's open call becomes this
pub record SetsOpen (old new : ℕ → Option OpenCall) (lane : ℕ) (slot : Option OpenCall) : Type 0 where
  pub here : new lane ≡ slot
  pub others : (other : ℕ) → other ≢ lane → new other ≡ old other

-- what is told after a beginning, a return and a withdrawal
pub record BeginsTold (old new : Watch) (lane : ℕ) (call : Call) (ends : Ending) : Type 0 where
  pub begun : OpenCall
  pub asks : call_of begun.asks ≡ call
  pub told : begun.ends ≡ ends
  pub opens : SetsOpen (open_of old) (open_of new) lane (Some begun)
  pub last : new.last ≡ old.last
  pub limits : new.limits ≡ old.limits

pub record ReturnsTold (old new : Watch) (lane : ℕ) (reply : Reply) : Type 0 where
  pub was : IsToldReturn old lane reply
  pub opens : SetsOpen (open_of old) (open_of new) lane None
  pub last : new.last ≡ was.place
  pub limits : new.limits ≡ old.limits

pub record WithdrawsTold (old new : Watch) (lane : ℕ) : Type 0 where
  pub opens : SetsOpen (open_of old) (open_of new) lane None
  pub last : new.last ≡ old.last
  pub limits : new.limits ≡ old.limits

-- what an answer means: some position of each is kept, and the run is explained so far; none is of one, and nothing
-- that comes as was told is explained; so many were possible before the event; the event may not come next
abbrev pub IsProgress : List Event → Event → ℕ → Watch → Watch → Progress → Type 0
IsProgress past event most old new Going =
    IsWatching (past ++ event ∷ []) new × AreExplained new.limits (past ++ event ∷ [])
IsProgress past event most old new Dead = IsWatching (past ++ event ∷ []) new × IsHopeless (past ++ event ∷ []) new
IsProgress past event most old new TooMany = MoreArePossible past most old × (new ≡ old)
IsProgress past event most old new Refused = (¬ MayComeAsTold old event) × (new ≡ old)

-- the event was taken
abbrev pub IsTaken : Progress → Type 0
IsTaken Going = Unit {0}
IsTaken Dead = Unit {0}
IsTaken TooMany = ⊥
IsTaken Refused = ⊥

-- the same watch, in memory of its own
pub record IsCopy (watch copy : Watch) : Type 0 where
  pub limits : copy.limits ≡ watch.limits
  pub lock : IsSameHalf watch.lock copy.lock
  pub «record» : IsSameHalf watch.record copy.record
  pub last : copy.last ≡ watch.last
