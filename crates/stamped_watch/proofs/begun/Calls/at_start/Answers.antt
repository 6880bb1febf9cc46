use Rattle.std.proofs.Common.{ℕ, ◌≡◌, ◌++◌, ◌∷◌, [], Option, List, ap, arith, rules, sym, ◌∙◌}
use Rattle.std.specs.Prelude.{map, option_map}
use Rattle.std.specs.List.{range_with_len}
use Rattle.std.proofs.lemmas.List.FromFn.{map-range_with_len_more}
use Rattle.stamp_watch.specs.Start.{waiting_of}
use Rattle.stamped_watch.specs.Calls.{begun}
use Rattle.stamped_watch.specs.declared.begun.Begun.{Begun}
use Rattle.stamped_watch.proofs.begun.Calls.at_start.Goals as goal
use Rattle.stamped_watch.proofs.begun.Calls.at_start.Goals.{in-Some, in-None}

pub loop-lane-preserved : goal.loop-lane-preserved
loop-lane-preserved c =
    let of : ℕ → Option Begun =
    λ (lane : ℕ). option_map (begun 0) (waiting_of c.args.judge.now.course.base c.args.start lane) in
    let value : c.match-waiting_at.begun ≡ of c.loop-lane.lane =
    elim c.match-waiting_at.branch [ in-Some w ↦ search rules | in-None w ↦ search rules ] in
    c.in_ok-push.ensures.items ∙
    ap (λ (xs : List (Option Begun)). xs ++ c.match-waiting_at.begun ∷ []) c.loop-lane.invariant ∙
    ap (λ (x : Option Begun). map of (range_with_len 0 c.loop-lane.lane) ++ x ∷ []) value ∙
    sym (map-range_with_len_more of 0 c.loop-lane.lane c.loop-lane.lane (omega arith))
