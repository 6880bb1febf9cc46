use Rattle.std.proofs.Common.{refl, sym, ◌∙◌, arith, eqb-true}
use Rattle.std.proofs.lemmas.List.{nil_from_length}
use Rattle.stamp_sets.specs.Judged.{judged}
use Rattle.stamp_sets.proofs.Layering.{first_layer, layer_states, next_layer, too_many, under_way_end, under_way_deep}
use Rattle.stamp_sets.proofs.Starting.{states_start}
use Rattle.stamp_sets.proofs.Trailing.{trailing_first, trailing_next}
use Rattle.stamp_sets.proofs.layers.returned.Goals as goal

pub loop-depth-init : goal.loop-depth-init
loop-depth-init c = (
  first_layer (judged c.args.object.now) c.args.table.now c.args.lane c.take_up_each.new.first.items
      c.new-done.result.items c.take_up_each.new.first.items c.new-done.ensures.items refl,
  trailing_first (judged c.args.object.now) c.args.table.now c.args.lane c.args.start.now c.args.trail.now
      c.take_up_each.new.trail c.new-layer.result.items c.new-done.result.items c.take_up_each.new.first.items
      c.new-layer.ensures.items c.new-done.ensures.items c.in_ok-take_up_each.ensures.noted,
)

pub returns-then-is_empty-clause-done : goal.returns-then-is_empty-clause-done
returns-then-is_empty-clause-done c = record {
  first = c.take_up_each.new.first.items;
  starts = c.in_ok-take_up_each.ensures.starts c.new-layer.ensures.items;
  under = under_way_end (judged c.args.object.now) c.args.table.now c.args.lane c.take_up_each.new.first.items
      c.loop-depth.done.items c.loop-depth.layer.items c.loop-depth.depth
      (nil_from_length c.loop-depth.layer.items (omega (
        arith,
        c.loop-depth.layer.ok.0,
        eqb-true _ 0 (sym c.is_empty.ensures ∙ c.if-is_empty.true),
      ))) c.loop-depth.invariant.0;
}

pub look_through-requires-clause-states : goal.look_through-requires-clause-states
look_through-requires-clause-states c = layer_states (judged c.args.object.now) c.args.table.now c.args.lane
    c.take_up_each.new.first.items c.loop-depth.done.items c.loop-depth.layer.items c.as_slice.result.now
    c.loop-depth.depth c.loop-depth.invariant.0 c.as_slice.ensures.value
    (states_start (judged c.args.object.now) c.args.table.now c.args.lane c.args.start.now
    c.take_up_each.new.first.items (c.in_ok-take_up_each.ensures.starts c.new-layer.ensures.items) c.requires.states)

pub returns-then-not-branch-clause-done : goal.returns-then-not-branch-clause-done
returns-then-not-branch-clause-done c = record {
  first = c.take_up_each.new.first.items;
  starts = c.in_ok-take_up_each.ensures.starts c.new-layer.ensures.items;
  more = too_many (judged c.args.object.now) c.args.table.now c.args.lane c.take_up_each.new.first.items
      c.loop-depth.done.items c.loop-depth.layer.items c.as_slice.result.now c.look_through.new.done.items
      c.new-next.result.items c.look_through.new.next.items c.loop-depth.depth c.args.most
      c.in_ok-look_through.field-0 c.loop-depth.invariant.0 c.as_slice.ensures.value c.new-next.ensures.items
      c.in_ok-look_through.ensures.looks c.if-not-branch.true;
}

pub loop-depth-preserved : goal.loop-depth-preserved
loop-depth-preserved c = (
  next_layer (judged c.args.object.now) c.args.table.now c.args.lane c.take_up_each.new.first.items
      c.loop-depth.done.items c.loop-depth.layer.items c.as_slice.result.now c.look_through.new.done.items
      c.new-next.result.items c.look_through.new.next.items c.loop-depth.depth c.args.most
      c.in_ok-look_through.field-0 c.loop-depth.invariant.0 c.as_slice.ensures.value c.new-next.ensures.items
      c.in_ok-look_through.ensures.looks c.if-not-branch.false,
  trailing_next (judged c.args.object.now) c.args.table.now c.args.lane c.args.start.now c.args.trail.now
      c.loop-depth.trail c.look_through.new.trail c.loop-depth.done.items c.loop-depth.layer.items
      c.as_slice.result.now c.look_through.new.done.items c.new-next.result.items c.look_through.new.next.items
      c.args.most c.in_ok-look_through.field-0 c.as_slice.ensures.value c.new-next.ensures.items
      c.in_ok-look_through.ensures.noted c.in_ok-look_through.ensures.looks c.if-not-branch.false
      c.loop-depth.invariant.1,
)

pub returns-clause-done : goal.returns-clause-done
returns-clause-done c = record {
  first = c.take_up_each.new.first.items;
  starts = c.in_ok-take_up_each.ensures.starts c.new-layer.ensures.items;
  under = under_way_deep (judged c.args.object.now) c.args.table.now c.args.lane c.take_up_each.new.first.items
      c.loop-depth.done.items c.loop-depth.layer.items c.loop-depth.depth c.loop-depth-test.false
      c.loop-depth.invariant.0;
}

pub returns-then-is_empty-clause-noted : goal.returns-then-is_empty-clause-noted
returns-then-is_empty-clause-noted c = c.loop-depth.invariant.1.returns

pub returns-clause-noted : goal.returns-clause-noted
returns-clause-noted c = c.loop-depth.invariant.1.returns
