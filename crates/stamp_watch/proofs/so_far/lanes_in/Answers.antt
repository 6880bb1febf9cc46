use Rattle.std.proofs.Common.{◌≡◌, ◌+◌, ◌≤◌, arith, ap, ◌∙◌}
use Rattle.stamp_sets.specs.inner.Lanes.{lanes_in}
use Rattle.stamp_sets.proofs.CountingLanes.{lanes_in_le, lanes_in_less, lanes_in_none, lanes_in_one}
use Rattle.stamp_watch.proofs.so_far.lanes_in.Goals as goal

pub overflow_add-count : goal.overflow_add-count
overflow_add-count c =
    let all : lanes_in c.args.lanes ≤ 64 = lanes_in_le c.args.lanes in
    let is : lanes_in c.args.lanes ≡ c.loop-rest.count + lanes_in c.loop-rest.rest = c.loop-rest.invariant in
    omega (arith, all, is)

pub loop-rest-smaller : goal.loop-rest-smaller
loop-rest-smaller c = lanes_in_less c.loop-rest.rest c.without_lane-rest.result c.first_lane-lane.result
    c.first_lane-lane.ensures.within c.without_lane-rest.ensures c.first_lane-lane.ensures.among

pub loop-rest-preserved : goal.loop-rest-preserved
loop-rest-preserved c =
    let is : lanes_in c.args.lanes ≡ c.loop-rest.count + lanes_in c.loop-rest.rest = c.loop-rest.invariant in
    let one : lanes_in c.loop-rest.rest ≡ lanes_in c.without_lane-rest.result + 1 =
    lanes_in_one c.loop-rest.rest c.without_lane-rest.result c.first_lane-lane.result
    c.first_lane-lane.ensures.within c.without_lane-rest.ensures c.first_lane-lane.ensures.among in
    omega (arith, is, one)

pub returns : goal.returns
returns c =
    let is : lanes_in c.args.lanes ≡ c.loop-rest.count + lanes_in c.loop-rest.rest = c.loop-rest.invariant in
    let none : lanes_in c.loop-rest.rest ≡ 0 = ap lanes_in c.loop-rest-test.false ∙ lanes_in_none in
    omega (arith, is, none)
