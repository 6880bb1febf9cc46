use Rattle.std.proofs.Common.{ℕ, ◌++◌, ◌-◌, List, length}
use Rattle.std.specs.Prelude.{take}
use Rattle.stamp_core.specs.Limits.{Bounds}
use Rattle.stamp_runs.specs.declared.event.Event.{Event}
use Rattle.stamp_watch.specs.Judge.{IsJudge, IsJudgeOfSome}
use Rattle.stamp_watch.specs.Possible.{KeepsBase}
use Rattle.stamp_watch.specs.inner.Delay.{HasRoomFor}
use Rattle.stamp_watch.proofs.delay.give.Given as goal

abbrev pub invariant-loop-event : goal.invariant-loop-event
invariant-loop-event l = record {
  given : (limits : Bounds) (most ahead : ℕ) (run : List Event) → IsJudge limits most ahead run l.fn.judge →
      IsJudge limits most ahead (run ++ take l.event-index l.events) l.judge;
  kept : (limits : Bounds) (most ahead : ℕ) (run : List Event) → IsJudge limits most ahead run l.fn.judge →
      KeepsBase limits run l.fn.judge → KeepsBase limits (run ++ take l.event-index l.events) l.judge;
  known : IsJudgeOfSome l.judge;
  room : HasRoomFor (length l.events - l.event-index) l.judge;
}
