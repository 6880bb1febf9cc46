-- What the events that are ahead tell of a lane and its call.
use Rattle.std.specs.Prelude.{ℕ, ◌≢◌, List}
use Rattle.std.specs.List.{All}
use Rattle.stamp_runs.specs.declared.event.Event.{Event}
use Rattle.stamp_runs.specs.Run.{lane_of}

-- none of these events is of the lane
abbrev pub IsSpared : List Event → ℕ → Type 0
IsSpared events lane = All (λ (e : Event). lane_of e ≢ lane) events
