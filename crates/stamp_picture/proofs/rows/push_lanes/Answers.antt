use Rattle.std.proofs.Common.{◌∙◌, ℕ, ap}
use Rattle.std.specs.Prelude.{Result}
use Rattle.stamp_picture.specs.declared.picture.Fault.{Fault}
use Rattle.stamp_picture.specs.Rows.{lane_text}
use Rattle.stamp_picture.proofs.Appending.{turn_written}
use Rattle.stamp_picture.proofs.rows.push_lanes.Goals as goal

pub loop-lane-preserved : goal.loop-lane-preserved
loop-lane-preserved c =
    let drawn = c.lane_sign.ensures ∙ ap
    (λ (verdict : Result ℕ Fault). lane_text verdict c.args.position c.args.there.now c.loop-lane.lane)
    c.verdict.ensures in
    turn_written (lane_text c.args.picture.now.verdict c.args.position c.args.there.now) c.loop-lane.lane _ _ _
    c.loop-lane.invariant (rw drawn at c.in_ok-push_text.ensures)
