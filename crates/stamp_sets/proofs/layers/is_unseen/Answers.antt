use Rattle.stamp_sets.specs.Judged.{judged}
use Rattle.stamp_sets.proofs.CountingLanes.{lanes_in_less}
use Rattle.stamp_sets.proofs.Effects.{unseen_all, unseen_more, unseen_none}
use Rattle.stamp_sets.proofs.layers.is_unseen.Goals as goal

pub loop-rest-init : goal.loop-rest-init
loop-rest-init c = unseen_none (judged c.args.object.now) c.args.table.now c.args.awaited c.args.in_effect c.args.state
    c.args.busy c.requires.busy

pub loop-rest-preserved : goal.loop-rest-preserved
loop-rest-preserved c = unseen_more (judged c.args.object.now) c.args.table.now c.args.awaited c.args.in_effect
    c.args.state c.loop-rest.rest c.without_lane-rest.result c.first_lane-lane.result c.without_lane-rest.ensures
    (c.is_lane_passed_over.ensures c.if-not-is_lane_passed_over.false) c.loop-rest.invariant

pub loop-rest-smaller : goal.loop-rest-smaller
loop-rest-smaller c = lanes_in_less c.loop-rest.rest c.without_lane-rest.result c.first_lane-lane.result
    c.first_lane-lane.ensures.within c.without_lane-rest.ensures c.first_lane-lane.ensures.among

pub returns : goal.returns
returns c is = unseen_all (judged c.args.object.now) c.args.table.now c.args.awaited c.args.in_effect c.args.state
    c.loop-rest.rest c.loop-rest-test.false c.loop-rest.invariant
