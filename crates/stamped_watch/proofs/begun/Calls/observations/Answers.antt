use Rattle.std.proofs.Common.{ℕ, ◌≡◌, ◌++◌, [], Option, None, List, ap, arith, rules, subst, sym, ◌∙◌, append_assoc}
use Rattle.std.specs.Prelude.{filter_map, option_map}
use Rattle.std.specs.List.{cons_option, range_with_len}
use Rattle.stamp_explain.specs.declared.observed.Observation.{Observation}
use Rattle.stamped_watch.specs.Calls.{observed, open_in}
use Rattle.stamped_watch.proofs.CallsTold.{told_more}
use Rattle.stamped_watch.proofs.begun.Calls.observations.Goals as goal
use Rattle.stamped_watch.proofs.begun.Calls.observations.Goals.{in-Some+in_ok-push, in_default}

pub loop-lane-preserved : goal.loop-lane-preserved
loop-lane-preserved c =
    let of : ℕ → Option Observation =
    λ (lane : ℕ). option_map (observed lane None) (open_in c.args.self.now.lanes.items lane) in
    let lane = c.loop-lane.lane in
    let returned = c.args.self.now.returned.items in
    let more : c.match-open_in.all.items ≡ c.loop-lane.all.items ++ cons_option (of lane) [] =
    elim c.match-open_in.branch [ in-Some+in_ok-push w ↦ search rules | in_default w ↦ search rules ] in
    more ∙ ap (λ (xs : List Observation). xs ++ cons_option (of lane) []) c.loop-lane.invariant ∙
    append_assoc returned (filter_map of (range_with_len 0 lane)) (cons_option (of lane) []) ∙
    ap (λ (xs : List Observation). returned ++ xs) (sym (told_more of lane))

pub returns : goal.returns
returns c =
    let of : ℕ → Option Observation =
    λ (lane : ℕ). option_map (observed lane None) (open_in c.args.self.now.lanes.items lane) in
    let all : c.loop-lane.lane ≡ 64 = omega (arith, c.loop-lane.auto, c.loop-lane-test.false) in
    subst (λ (n : ℕ). c.loop-lane.all.items ≡ c.args.self.now.returned.items ++ filter_map of (range_with_len 0 n)) all
    c.loop-lane.invariant
