use Rattle.std.proofs.Common.{◌≡◌}
use Rattle.stamp_sets.specs.declared.position.Position.{Position}
use Rattle.stamp_sets.specs.Judged.{judged}
use Rattle.stamp_sets.proofs.CountingLanes.{lanes_in_less}
use Rattle.stamp_sets.proofs.Expanding.{expands_start, expands_next, expands_all}
use Rattle.stamp_sets.proofs.Trailing.{noted_none, noted_then}
use Rattle.stamp_sets.proofs.layers.expand.Goals as goal

pub loop-rest-init : goal.loop-rest-init
loop-rest-init c = (
  expands_start (judged c.args.object.now) c.args.table.now c.args.awaited c.args.position c.args.busy
      c.args.next.now.items c.requires.busy,
  noted_none (judged c.args.object.now) c.args.table.now (λ (p : Position). p ≡ c.args.position) c.args.trail.now
      c.args.next.now.items,
)

pub loop-rest-preserved : goal.loop-rest-preserved
loop-rest-preserved c = (
  expands_next (judged c.args.object.now) c.args.table.now c.args.awaited c.args.position c.loop-rest.rest
      c.without_lane-rest.result c.first_lane-lane.result c.args.next.now.items c.loop-rest.next.items
      c.expand_lane.new.next.items c.without_lane-rest.ensures c.loop-rest.invariant.0
      c.in_ok-expand_lane.ensures.expands,
  noted_then (judged c.args.object.now) c.args.table.now (λ (p : Position). p ≡ c.args.position) c.args.trail.now
      c.loop-rest.trail c.expand_lane.new.trail c.args.next.now.items c.loop-rest.next.items
      c.expand_lane.new.next.items c.loop-rest.invariant.1 c.in_ok-expand_lane.ensures.noted,
)

pub loop-rest-smaller : goal.loop-rest-smaller
loop-rest-smaller c = lanes_in_less c.loop-rest.rest c.without_lane-rest.result c.first_lane-lane.result
    c.first_lane-lane.ensures.within c.without_lane-rest.ensures c.first_lane-lane.ensures.among

pub returns-clause-expands : goal.returns-clause-expands
returns-clause-expands c = expands_all (judged c.args.object.now) c.args.table.now c.args.awaited c.args.position
    c.loop-rest.rest
    c.args.next.now.items c.loop-rest.next.items c.loop-rest-test.false c.loop-rest.invariant.0

pub returns-clause-noted : goal.returns-clause-noted
returns-clause-noted c = c.loop-rest.invariant.1
