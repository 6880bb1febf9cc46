-- How many events of each lane wait.
use Rattle.std.specs.Prelude.{ℕ, ◌≡◌, ◌<◌, ◌==◌, List, length, slice_index_or}
use Rattle.std.specs.List.{All, count_by}
use Rattle.stamp_runs.specs.Run.{lane_of}
use Rattle.stamp_runs.specs.declared.event.Event.{Event}
use Rattle.stamp_watch.specs.declared.waiting.Waiting.{Waiting}

-- so many of these events are of the lane
abbrev pub count_of : ℕ → List Event → ℕ
count_of lane events = count_by (λ e. lane_of e == lane) events

-- each lane is one of 64, and its events are counted
pub record IsCounted (waiting : Waiting) : Type 0 where
  pub lanes : All (λ e. lane_of e < 64) waiting.events.items
  pub many : length waiting.counts ≡ 64
  pub counts : (lane : ℕ) (d : ℕ) → lane < 64 →
      slice_index_or waiting.counts lane d ≡ count_of lane waiting.events.items
