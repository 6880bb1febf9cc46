use Rattle.std.proofs.Common.{◌≡◌, sym, ◌∙◌, subst}
use Rattle.std.specs.Int.{bit_at}
use Rattle.stamp_sets.specs.declared.position.Position.{Position}
use Rattle.stamp_sets.specs.Judged.{judged}
use Rattle.stamp_sets.proofs.CountingLanes.{lanes_in_less}
use Rattle.stamp_sets.proofs.Effects.{SettledSoFar, so_far_settled_all, so_far_settled_idle, so_far_settled_none}
use Rattle.stamp_sets.proofs.Effects.{so_far_settled_one, state_settled}
use Rattle.stamp_sets.proofs.effect.settled.Goals as goal
use Rattle.stamp_sets.proofs.effect.settled.Goals.{in-Some, in_default}

pub loop-rest-init : goal.loop-rest-init
loop-rest-init c = so_far_settled_none (judged c.args.object.now) c.args.table.now c.args.lanes c.args.position

pub at_once-settled-requires-clause-state : goal.at_once-settled-requires-clause-state
at_once-settled-requires-clause-state c = state_settled (judged c.args.object.now) c.args.table.now
    (λ l. bit_at c.args.lanes l ≡ 1) c.args.position c.loop-rest.settled c.requires c.loop-rest.invariant.settles

pub loop-rest-preserved : goal.loop-rest-preserved
loop-rest-preserved c = elim c.match-open_in.branch [
  | in-Some w ↦ subst (λ (p : Position). SettledSoFar (judged c.args.object.now) c.args.table.now c.args.lanes
      c.without_lane-rest.result c.args.position p) (sym w.settled-is)
      (so_far_settled_one (judged c.args.object.now) c.args.table.now c.args.lanes c.args.position c.loop-rest.rest
      c.without_lane-rest.result c.first_lane-lane.result c.loop-rest.settled w.at_once-settled.result
      c.first_lane-lane.ensures.among c.without_lane-rest.ensures c.loop-rest.invariant w.in-Some.begun
      (sym c.open_in.ensures ∙ w.in-Some.is) w.at_once-settled.ensures)
  | in_default w ↦ so_far_settled_idle (judged c.args.object.now) c.args.table.now c.args.lanes c.args.position
      c.loop-rest.rest c.without_lane-rest.result c.first_lane-lane.result c.loop-rest.settled _
      c.first_lane-lane.ensures.among c.without_lane-rest.ensures c.loop-rest.invariant
      (sym c.open_in.ensures ∙ w.in_default.is) w.settled-is
]

pub loop-rest-smaller : goal.loop-rest-smaller
loop-rest-smaller c = lanes_in_less c.loop-rest.rest c.without_lane-rest.result c.first_lane-lane.result
    c.first_lane-lane.ensures.within c.without_lane-rest.ensures c.first_lane-lane.ensures.among

pub returns : goal.returns
returns c = so_far_settled_all (judged c.args.object.now) c.args.table.now c.args.lanes c.args.position c.loop-rest.rest
    c.loop-rest.settled c.loop-rest-test.false c.loop-rest.invariant
