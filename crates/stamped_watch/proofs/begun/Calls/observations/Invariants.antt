use Rattle.std.specs.Prelude.{◌≡◌, ◌++◌, filter_map, option_map, None}
use Rattle.std.specs.List.{range_with_len}
use Rattle.stamped_watch.specs.Calls.{observed, open_in}
use Rattle.stamped_watch.proofs.begun.Calls.observations.Given as goal

abbrev pub invariant-loop-lane : goal.invariant-loop-lane
invariant-loop-lane l = l.all.items ≡ l.self.returned.items
    ++ filter_map (λ lane. option_map (observed lane None) (open_in l.self.lanes.items lane)) (range_with_len 0 l.lane)
