-- How a run is judged whose events are known.
use Rattle.std.specs.Prelude.{ℕ, ◌≡◌, ◌<◌, ◌≤◌, ◌↔◌, ◌++◌, true, List, Option, Some}
use Rattle.std.specs.Int.{bit_at}
use Rattle.stamp_core.specs.Limits.{Bounds}
use Rattle.stamp_runs.specs.declared.event.Event.{Event}
use Rattle.stamp_runs.specs.BothRun.{AreExplained}
use Rattle.stamp_sets.specs.declared.open_call.OpenCall.{OpenCall}
use Rattle.stamp_watch.specs.declared.verdict.Verdict.{Verdict}
use Rattle.stamp_sets.specs.declared.watch.Watch.{Watch}
use Rattle.stamp_watch.specs.AsObserved.{ending_of}
use Rattle.stamp_watch.specs.Foretold.{told_as}
use Rattle.stamp_watch.specs.Form.{is_busy_after}
use Rattle.stamp_watch.specs.Verdict.{AreOfLanes, IsVerdict}
use Rattle.stamp_sets.specs.Watch.{IsWatching, open_of}

-- the lanes of this number are those with an open call
pub record AreBusyLanes (past : List Event) (busy : ℕ) : Type 0 where
  pub same : (lane : ℕ) → lane < 64 → (is_busy_after past lane ≡ true) ↔ (bit_at busy lane ≡ 1)

-- the whole run is in form, and what comes is as was told of each open call; the first event of it has this number
pub record IsFollowed (n : ℕ) (past future : List Event) (watch : Watch) : Type 0 where
  pub whole : AreOfLanes (past ++ future)
  pub told : (lane : ℕ) (begun : OpenCall) → open_of watch lane ≡ Some begun →
      told_as begun.ends ≡ ending_of lane n future
  pub last : watch.last ≤ n

-- the events before the one with this number are explained, and the others come as was told
pub record IsJudging (limits : Bounds) (n : ℕ) (past future : List Event) (watch : Watch) : Type 0 where
  pub limits_are : watch.limits ≡ limits
  pub watching : IsWatching past watch
  pub explained : AreExplained limits past
  pub followed : IsFollowed n past future watch

-- a verdict, whatever comes later
abbrev pub IsFound : Bounds → List Event → ℕ → Option ℕ → Verdict → Type 0
IsFound limits events most ahead verdict = (more : List Event) →
    IsVerdict limits (events ++ more) most ahead verdict
