use Rattle.std.proofs.Common.{ℕ, ◌≡◌, ◌+◌, ◌≤◌, List, length, None}
use Rattle.stamp_core.specs.Limits.{Bounds}
use Rattle.stamp_runs.specs.declared.event.Event.{Event}
use Rattle.stamp_watch.specs.Delay.{IsDelayed}
use Rattle.stamp_watch.proofs.delay.Delay.hand_all_on.Given as goal

abbrev pub invariant-waiting : goal.invariant-waiting
invariant-waiting l = record {
  delayed : (limits : Bounds) (most ahead : ℕ) (run : List Event) → IsDelayed limits most ahead run l.fn.self →
      IsDelayed limits most ahead run l.self;
  going : l.self.judge.found ≡ None;
  long : l.self.passed + length l.self.waiting.events.items ≡ l.fn.self.passed + length l.fn.self.waiting.events.items;
  ahead : l.self.ahead ≡ l.fn.self.ahead;
  few : length l.self.waiting.events.items ≤ length l.fn.self.waiting.events.items;
}

abbrev pub decreases-waiting : goal.decreases-waiting
decreases-waiting l = length l.self.waiting.events.items
