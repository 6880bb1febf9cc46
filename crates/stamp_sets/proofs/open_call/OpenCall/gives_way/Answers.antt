use Rattle.std.proofs.Common.{sym, ◌∙◌}
use Rattle.stamp_sets.proofs.CountingLanes.{bit_free, lanes_in_less, within_itself, within_less}
use Rattle.stamp_sets.proofs.open_call.OpenCall.gives_way.Goals as goal

pub loop-rest-init : goal.loop-rest-init
loop-rest-init c = within_itself c.args.lanes

pub loop-rest-preserved : goal.loop-rest-preserved
loop-rest-preserved c = within_less c.loop-rest.rest c.without_lane-rest.result c.args.lanes c.first_lane-other.result
    c.without_lane-rest.ensures c.loop-rest.invariant

pub returns-then-not-is_unchanging : goal.returns-then-not-is_unchanging
returns-then-not-is_unchanging c is = record {
  way = record {
    first_lane = c.first_lane-other.result;
    first = c.in-Some.first;
    is_first = sym c.open_in.ensures ∙ c.in-Some.is;
    free = bit_free c.args.in_effect c.first_lane-other.result c.has_lane.result c.has_lane.ensures
        c.if-not-has_lane.true;
    changes = sym (c.is_unchanging.ensures.value) ∙ c.if-not-is_unchanging.true;
    goes = c.goes_before.ensures c.if-goes_before.true;
  };
  among = c.loop-rest.invariant c.first_lane-other.result c.first_lane-other.ensures.among;
}

pub loop-rest-smaller : goal.loop-rest-smaller
loop-rest-smaller c = lanes_in_less c.loop-rest.rest c.without_lane-rest.result c.first_lane-other.result
    c.first_lane-other.ensures.within c.without_lane-rest.ensures c.first_lane-other.ensures.among
