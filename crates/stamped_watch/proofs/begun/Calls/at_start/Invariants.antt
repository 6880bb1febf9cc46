use Rattle.std.specs.Prelude.{◌≡◌, map, option_map}
use Rattle.std.specs.List.{range_with_len}
use Rattle.stamp_watch.specs.Start.{waiting_of}
use Rattle.stamped_watch.specs.Calls.{begun}
use Rattle.stamped_watch.proofs.begun.Calls.at_start.Given as goal

abbrev pub invariant-loop-lane : goal.invariant-loop-lane
invariant-loop-lane l = l.lanes.items
    ≡ map (λ lane. option_map (begun 0) (waiting_of l.judge.course.base l.start lane)) (range_with_len 0 l.lane)
