-- Which stamps were issued, and what stays where versions are left out.
use Rattle.std.specs.Prelude.{ℕ, ◌≡◌, ◌≢◌, ◌≤◌, ◌<◌, List, length, filter}
use Rattle.std.specs.Prelude.{Option, None, Some, MatchOption, Any, Bool, true, false}
use Rattle.stamp_core.specs.Layout.{Units}
use Rattle.stamp_core.specs.Limits.{units}
use Rattle.stamp_core.specs.declared.call.Call.{Call}
use Rattle.stamp_core.specs.declared.call.Call.TheVariants.{TryWrite, WriteLock, Validate, UnlockWrite, UnlockRead}
use Rattle.stamp_core.specs.declared.call.Call.TheVariants.{Unlock, ToWrite, ToRead, ToOptimistic}
use Rattle.stamp_core.specs.declared.reply.Reply.{Reply}
use Rattle.stamp_core.specs.declared.reply.Reply.TheVariants.{Stamp}
use Rattle.stamp_explain.specs.declared.observed.Observation.{Observation}
use Rattle.stamp_explain.specs.declared.observed.Returned.{Returned}
use Rattle.stamp_explain.specs.Cut.{begun_by}
use Rattle.stamp_explain.specs.Observed.{ObservedHistory}
use Rattle.stamp_observed.specs.Renumbering.{renumbered_stamp, renumbered_reply}

-- the stamp that the call takes, if it takes one
abbrev pub stamp_taken : Call → Option ℕ
stamp_taken (Validate s) = Some s
stamp_taken (UnlockWrite s) = Some s
stamp_taken (UnlockRead s) = Some s
stamp_taken (Unlock s) = Some s
stamp_taken (ToWrite s) = Some s
stamp_taken (ToRead s) = Some s
stamp_taken (ToOptimistic s) = Some s
stamp_taken call = None

-- the call is one of this thread; or, with none, of any
abbrev pub IsBy : Option ℕ → Observation → Type 0
IsBy None e = Unit {0}
IsBy (Some thread) e = e.thread ≡ thread

-- the call, of this thread or of any, had returned before this position, and was answered this stamp
abbrev pub Issues : Option ℕ → ℕ → ℕ → Observation → Type 0
Issues by position stamp e =
    IsBy by e × MatchOption e.returned ⊥ (λ (r : Returned). (r.last < position) × (r.reply ≡ Stamp stamp))

-- the call acquires write mode, if anything
abbrev pub asks_to_write : Call → Bool
asks_to_write TryWrite = true
asks_to_write WriteLock = true
asks_to_write (ToWrite s) = true
asks_to_write call = false

-- how many calls that acquire write mode, if anything, had begun by this position
abbrev pub writes_by : ℕ → List Observation → ℕ
writes_by last es = length (filter (λ (e : Observation). asks_to_write e.call) (begun_by last es))

-- with so many versions left out the reply is 0 only where it was
abbrev pub StaysAnswered : Units → ℕ → Reply → Type 0
StaysAnswered u k reply = renumbered_reply u k reply ≡ Stamp 0 → reply ≡ Stamp 0

-- with so many versions left out the stamp isn't 0, and one of these calls, of this thread or of any, which had
-- returned before this position, was answered it
pub record IsStillIssued (u : Units) (k : ℕ) (es : List Observation) (by : Option ℕ) (position stamp : ℕ) : Type 0
  where
    pub some : renumbered_stamp u k stamp ≢ 0
    pub issued : Any (Issues by position (renumbered_stamp u k stamp)) es

-- what a call shows isn't lost with the versions that are left out. These are no more than the calls that had begun
-- by its return and acquire write mode, if anything. A stamp that it was answered stays one. Where it takes a stamp
-- that a call before it was answered, one of a small history was, before this position there; and one of its own
-- thread, if one of this was
pub record AreStampsKept (h : ObservedHistory) (e : Observation) (r : Returned) (k : ℕ) (small : List Observation)
    (position : ℕ) : Type 0 where
  pub few : k ≤ writes_by r.last h.entries
  pub answer : StaysAnswered (units h.limits) k r.reply
  pub issued : (stamp : ℕ) → stamp_taken e.call ≡ Some stamp → stamp ≢ 0 → (by : Option ℕ) → IsBy by e →
      Any (Issues by e.first stamp) h.entries → IsStillIssued (units h.limits) k small by position stamp
