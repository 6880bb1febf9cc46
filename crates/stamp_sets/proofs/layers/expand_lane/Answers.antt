use Rattle.std.proofs.Common.{◌≡◌, sym, ◌∙◌}
use Rattle.std.proofs.lemmas.Result.{on_ok_weaker}
use Rattle.stamp_sets.specs.declared.position.Position.{Position}
use Rattle.stamp_sets.specs.Judged.{judged}
use Rattle.stamp_sets.proofs.Expanding.{expands_dead, expands_one, expands_way}
use Rattle.stamp_sets.proofs.Overwriting.{judged_lawful}
use Rattle.stamp_sets.proofs.Trailing.{effect_noted, noted_none}
use Rattle.stamp_sets.proofs.layers.expand_lane.Goals as goal

pub returns-in_default-after_effect-clause-expands : goal.returns-in_default-after_effect-clause-expands
returns-in_default-after_effect-clause-expands c = expands_dead (judged c.args.object.now) c.args.table.now
    c.args.awaited
    c.args.position c.args.lane
    c.args.next.now.items c.in-Some.begun (sym c.open_in.ensures ∙ c.in-Some.is) c.in_default-after_effect.ensures

pub returns-then-is_left_out-clause-expands : goal.returns-then-is_left_out-clause-expands
returns-then-is_left_out-clause-expands c = expands_way (judged c.args.object.now) c.args.table.now c.args.awaited
    c.args.position
    c.args.lane
    c.args.next.now.items c.in-Some.begun (sym c.open_in.ensures ∙ c.in-Some.is)
    c.if-lane-awaited.false (c.is_left_out.ensures c.if-is_left_out.true)

pub returns-clause-expands : goal.returns-clause-expands
returns-clause-expands c = on_ok_weaker c.add_by-2.result (λ adds. expands_one (judged c.args.object.now)
    c.args.table.now c.args.awaited
    c.args.position c.args.lane c.args.next.now.items c.add_by-2.new.list.items c.in-Some-after_effect.after
    c.requires.lane c.in-Some-after_effect.ensures adds) c.add_by-2.ensures.adds

pub returns-then-lane-awaited-clause-expands : goal.returns-then-lane-awaited-clause-expands
returns-then-lane-awaited-clause-expands c = on_ok_weaker c.add_by.result (λ adds. expands_one (judged
    c.args.object.now)
    c.args.table.now c.args.awaited
    c.args.position c.args.lane c.args.next.now.items c.add_by.new.list.items c.in-Some-after_effect.after
    c.requires.lane c.in-Some-after_effect.ensures adds) c.add_by.ensures.adds

pub returns-in_default-after_effect-clause-noted : goal.returns-in_default-after_effect-clause-noted
returns-in_default-after_effect-clause-noted c = noted_none (judged c.args.object.now) c.args.table.now
    (λ (p : Position). p ≡ c.args.position) c.args.trail.now c.args.next.now.items

pub returns-then-is_left_out-clause-noted : goal.returns-then-is_left_out-clause-noted
returns-then-is_left_out-clause-noted c = noted_none (judged c.args.object.now) c.args.table.now
    (λ (p : Position). p ≡ c.args.position) c.args.trail.now c.args.next.now.items

pub returns-clause-noted : goal.returns-clause-noted
returns-clause-noted c = on_ok_weaker c.add_by-2.result (λ adds. effect_noted (judged c.args.object.now)
    c.args.table.now
    (judged_lawful c.args.object.now) c.args.lane c.args.awaited c.args.position c.in-Some-after_effect.after
    c.in-Some.begun c.way_of_effect.result (sym c.open_in.ensures ∙ c.in-Some.is) c.way_of_effect.ensures
    c.in-Some-after_effect.ensures c.args.trail.now c.add_by-2.new.trail c.args.next.now.items
    c.add_by-2.new.list.items adds)
    c.add_by-2.ensures.noted

pub returns-then-lane-awaited-clause-noted : goal.returns-then-lane-awaited-clause-noted
returns-then-lane-awaited-clause-noted c = on_ok_weaker c.add_by.result (λ adds. effect_noted (judged
    c.args.object.now) c.args.table.now
    (judged_lawful c.args.object.now) c.args.lane c.args.awaited c.args.position c.in-Some-after_effect.after
    c.in-Some.begun c.way_of_effect.result (sym c.open_in.ensures ∙ c.in-Some.is) c.way_of_effect.ensures
    c.in-Some-after_effect.ensures c.args.trail.now c.add_by.new.trail c.args.next.now.items c.add_by.new.list.items
    adds)
    c.add_by.ensures.noted
