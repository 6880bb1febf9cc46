-- Which replies were possible in a run in which calls may begin late, and what is kept of it for that.
use Rattle.std.specs.Prelude.{ℕ, ◌≡◌, ◌<◌, ◌≤◌, ◌++◌, ⊤, List, length, take, Option, Some, None, MatchOption}
use Rattle.stamp_core.specs.Limits.{Bounds}
use Rattle.stamp_core.specs.declared.call.Call.{Call}
use Rattle.stamp_core.specs.declared.reply.Reply.{Reply}
use Rattle.stamp_runs.specs.declared.event.Event.{Event}
use Rattle.stamp_sets.specs.declared.small_call.SmallReply.{SmallReply}
use Rattle.stamp_watch.specs.declared.delay.Delay.{Delay}
use Rattle.stamp_watch.specs.declared.late.LateJudge.{LateJudge}
use Rattle.stamp_watch.specs.Possible.{AreTooManyWith, ArePossibleAmong, CanTell, KeepsBase, plain_replies}
use Rattle.stamp_watch.specs.Verdict.{IsOpenFor}

-- a judge was given the first events of the run; or the same events up to the first call that was put aside
abbrev pub AreSameUntil : List Event → List Event → Option ℕ → Type 0
AreSameUntil run given None = (more : List Event) × (run ≡ given ++ more)
AreSameUntil run given (Some first) =
    (first ≤ length given) × (first ≤ length run) × (take first given ≡ take first run)

-- of those events its judge keeps some, with a base; that first call is open for as many events as may wait
pub record KeepsDelayed (limits : Bounds) (run : List Event) (delay : Delay) : Type 0 where
  pub given : List Event
  pub keeps : KeepsBase limits given delay.judge
  pub same : AreSameUntil run given delay.first_late
  pub long : MatchOption delay.first_late ⊤ (λ first. IsOpenFor run first delay.ahead)

abbrev pub KeepsLater : Bounds → List Event → LateJudge → Type 0
KeepsLater limits run judge = KeepsDelayed limits run judge.delay

-- of some run
pub record KeepsSomeLater (judge : LateJudge) : Type 0 where
  pub limits : Bounds
  pub run : List Event
  pub keeps : KeepsLater limits run judge

-- the judge can tell of the event, and no call before it was put aside
pub record CanTellLater (judge : LateJudge) (k : ℕ) : Type 0 where
  pub can : CanTell judge.delay.judge k
  pub before : MatchOption judge.delay.first_late ⊤ (λ first. k < first)

-- which of the replies that were tried are possible at the event; or it can't be told
abbrev pub IsToldLater : LateJudge → ℕ → List SmallReply → Option (List Reply) → Type 0
IsToldLater judge k tried (Some found) = (limits : Bounds) (run : List Event) → KeepsLater limits run judge →
    ArePossibleAmong limits run k tried found
IsToldLater judge k tried None = CanTellLater judge k → (limits : Bounds) (run : List Event) →
    KeepsLater limits run judge → AreTooManyWith limits run k judge.delay.judge.most tried

-- which of those are possible that the call may be given; or it can't be told, or it is given stamps
abbrev pub IsToldLaterOf : LateJudge → ℕ → Call → Option (List Reply) → Type 0
IsToldLaterOf judge k call told = MatchOption (plain_replies judge.delay.judge.course.base.limits call) (told ≡ None)
    (λ tried. IsToldLater judge k tried told)
