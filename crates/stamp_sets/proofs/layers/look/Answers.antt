use Rattle.std.proofs.Common.{◌≡◌, refl}
use Rattle.std.proofs.lemmas.Result.{on_ok_weaker}
use Rattle.stamp_sets.specs.declared.position.Position.{Position}
use Rattle.stamp_sets.specs.Judged.{judged}
use Rattle.stamp_sets.proofs.CountingLanes.{bit_free}
use Rattle.stamp_sets.proofs.Layering.{look_returned, look_expanded}
use Rattle.stamp_sets.proofs.Trailing.{noted_none}
use Rattle.stamp_sets.proofs.layers.look.Goals as goal

pub returns-then-has_lane-clause-looks : goal.returns-then-has_lane-clause-looks
returns-then-has_lane-clause-looks c = on_ok_weaker c.add.result (λ adds. look_returned (judged c.args.object.now)
    c.args.table.now
    c.args.lane c.args.position (record {
      state = c.args.position.state;
      in_effect = c.without_lane.result;
      free =
          c.args.position.free;
    })
    c.args.done.now.items c.add.new.list.items c.args.next.now.items
    (record {
      taken = c.has_lane.ensures.0 c.if-has_lane.true;
      state = refl;
      clears = c.without_lane.ensures;
      free =
          refl;
    }) adds)
    c.add.ensures

pub returns-else-has_lane-clause-looks : goal.returns-else-has_lane-clause-looks
returns-else-has_lane-clause-looks c = on_ok_weaker c.expand.result (λ expands. look_expanded (judged
    c.args.object.now)
    c.args.table.now c.args.lane c.args.position c.args.done.now.items c.args.next.now.items
    c.expand.new.next.items
    (bit_free c.args.position.in_effect c.args.lane c.has_lane.result c.has_lane.ensures c.if-has_lane.false)
    expands) c.expand.ensures.expands

pub returns-then-has_lane-clause-noted : goal.returns-then-has_lane-clause-noted
returns-then-has_lane-clause-noted c = on_ok_weaker c.add.result (λ adds. noted_none (judged c.args.object.now)
    c.args.table.now
    (λ (p : Position). p ≡ c.args.position) c.args.trail.now c.args.next.now.items) c.add.ensures
