-- Whether a lane has an open call.
use Rattle.std.specs.Prelude.{ℕ, Bool, List, is_some}
use Rattle.stamp_runs.specs.declared.event.Event.{Event}
use Rattle.stamp_runs.specs.Own.{open_after}

-- so it is after these events
abbrev pub is_busy_after : List Event → ℕ → Bool
is_busy_after events lane = is_some (open_after events lane)
