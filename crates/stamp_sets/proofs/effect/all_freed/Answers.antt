use Rattle.stamp_sets.specs.Judged.{judged}
use Rattle.stamp_sets.proofs.CountingLanes.{lanes_in_less}
use Rattle.stamp_sets.proofs.Freeing.{frees_all, frees_more, frees_none}
use Rattle.stamp_sets.proofs.effect.all_freed.Goals as goal

pub loop-rest-init : goal.loop-rest-init
loop-rest-init c = frees_none (judged c.args.object.now) c.args.table.now c.args.awaited c.args.position.in_effect
    c.args.busy c.args.position.free c.requires

pub loop-rest-preserved : goal.loop-rest-preserved
loop-rest-preserved c = frees_more (judged c.args.object.now) c.args.table.now c.args.awaited
    c.args.position.in_effect c.loop-rest.rest c.without_lane-rest.result c.first_lane-lane.result
    c.args.position.free c.loop-rest.freed c.with_freed-freed.result c.without_lane-rest.ensures
    c.loop-rest.invariant c.with_freed-freed.ensures

pub loop-rest-smaller : goal.loop-rest-smaller
loop-rest-smaller c = lanes_in_less c.loop-rest.rest c.without_lane-rest.result c.first_lane-lane.result
    c.first_lane-lane.ensures.within c.without_lane-rest.ensures c.first_lane-lane.ensures.among

pub returns : goal.returns
returns c = frees_all (judged c.args.object.now) c.args.table.now c.args.awaited c.args.position.in_effect
    c.loop-rest.rest c.args.position.free c.loop-rest.freed c.loop-rest-test.false c.loop-rest.invariant
