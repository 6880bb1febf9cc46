use Rattle.std.proofs.Common.{◌≡◌}
use Rattle.stamp_sets.specs.declared.position.Position.{Position}
use Rattle.stamp_sets.specs.Judged.{judged}
use Rattle.stamp_sets.proofs.CountingLanes.{lanes_in_less, within_itself, within_less}
use Rattle.stamp_sets.proofs.Starting.{hides_all, hides_next, hides_start}
use Rattle.stamp_sets.proofs.Trailing.{noted_none, noted_then}
use Rattle.stamp_sets.proofs.start.hide_sources.Goals as goal

pub loop-rest-init : goal.loop-rest-init
loop-rest-init c = (
  within_itself c.args.position.free,
  hides_start (judged c.args.object.now) c.args.table.now c.args.lane c.args.position c.args.first.now.items,
  noted_none (judged c.args.object.now) c.args.table.now (λ (p : Position). p ≡ c.args.position) c.args.trail.now
      c.args.first.now.items,
)

pub hide_source-requires-clause-free : goal.hide_source-requires-clause-free
hide_source-requires-clause-free c = c.loop-rest.invariant.0 c.first_lane-source.result
    c.first_lane-source.ensures.among

pub loop-rest-preserved : goal.loop-rest-preserved
loop-rest-preserved c = (
  within_less c.loop-rest.rest c.without_lane-rest.result c.args.position.free c.first_lane-source.result
      c.without_lane-rest.ensures c.loop-rest.invariant.0,
  hides_next (judged c.args.object.now) c.args.table.now c.args.lane c.args.position c.loop-rest.rest
      c.without_lane-rest.result c.first_lane-source.result c.args.first.now.items c.loop-rest.first.items
      c.hide_source.new.first.items c.without_lane-rest.ensures c.loop-rest.invariant.1
      c.in_ok-hide_source.ensures.hides,
  noted_then (judged c.args.object.now) c.args.table.now (λ (p : Position). p ≡ c.args.position) c.args.trail.now
      c.loop-rest.trail c.hide_source.new.trail c.args.first.now.items c.loop-rest.first.items
      c.hide_source.new.first.items c.loop-rest.invariant.2 c.in_ok-hide_source.ensures.noted,
)

pub loop-rest-smaller : goal.loop-rest-smaller
loop-rest-smaller c = lanes_in_less c.loop-rest.rest c.without_lane-rest.result c.first_lane-source.result
    c.first_lane-source.ensures.within c.without_lane-rest.ensures c.first_lane-source.ensures.among

pub returns-clause-hides : goal.returns-clause-hides
returns-clause-hides c = hides_all (judged c.args.object.now) c.args.table.now c.args.lane c.args.position
    c.loop-rest.rest
    c.args.first.now.items c.loop-rest.first.items c.loop-rest-test.false c.loop-rest.invariant.1

pub returns-clause-noted : goal.returns-clause-noted
returns-clause-noted c = c.loop-rest.invariant.2
