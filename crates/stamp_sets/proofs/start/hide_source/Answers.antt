use Rattle.std.proofs.Common.{◌≡◌, inr, sym, ◌∙◌}
use Rattle.std.proofs.lemmas.Result.{on_ok_weaker}
use Rattle.stamp_sets.specs.declared.position.Position.{Position}
use Rattle.stamp_sets.specs.Judged.{judged}
use Rattle.stamp_sets.proofs.CountingLanes.{bit_free}
use Rattle.stamp_sets.proofs.Overwriting.{judged_lawful}
use Rattle.stamp_sets.proofs.Starting.{hides_added, hides_idle, hides_other, hides_vain, hides_way}
use Rattle.stamp_sets.proofs.Trailing.{hide_noted, noted_none}
use Rattle.stamp_sets.proofs.start.hide_source.Goals as goal

pub returns-in_default-clause-hides : goal.returns-in_default-clause-hides
returns-in_default-clause-hides c = hides_idle (judged c.args.object.now) c.args.table.now c.args.lane
    c.args.position c.args.source
    c.args.first.now.items (sym c.open_in.ensures ∙ c.in_default.is)

pub returns-in_default-overwrites-clause-hides : goal.returns-in_default-overwrites-clause-hides
returns-in_default-overwrites-clause-hides c = hides_other (judged c.args.object.now) c.args.table.now c.args.lane
    c.args.position
    c.args.source c.in-Some.begun (sym c.open_in.ensures ∙ c.in-Some.is) c.args.first.now.items
    (sym c.overwrites.ensures.value ∙ c.in_default-overwrites.is)

pub returns-then-gives_way-clause-hides : goal.returns-then-gives_way-clause-hides
returns-then-gives_way-clause-hides c = hides_way (judged c.args.object.now) c.args.table.now c.args.lane
    c.args.position
    c.args.source c.in-Some.begun (sym c.open_in.ensures ∙ c.in-Some.is) c.args.first.now.items
    (c.gives_way.ensures c.if-gives_way.true)

pub returns-then-not-has_lane-clause-hides : goal.returns-then-not-has_lane-clause-hides
returns-then-not-has_lane-clause-hides c = hides_vain (judged c.args.object.now) c.args.table.now c.args.lane
    c.args.position
    c.args.source c.in-Some.begun (sym c.open_in.ensures ∙ c.in-Some.is) c.in-Some-overwrites.left
    (sym c.overwrites.ensures.value ∙ c.in-Some-overwrites.is) c.hidden-then.result c.hidden-then.ensures
    c.args.first.now.items (bit_free c.hidden-then.result.in_effect c.args.lane c.has_lane.result c.has_lane.ensures
    c.if-not-has_lane.true)

pub returns-clause-hides : goal.returns-clause-hides
returns-clause-hides c = on_ok_weaker c.add_by.result (λ adds. hides_added (judged c.args.object.now)
    c.args.table.now c.args.lane
    c.args.position c.args.source c.in-Some.begun (sym c.open_in.ensures ∙ c.in-Some.is) c.in-Some-overwrites.left
    (sym c.overwrites.ensures.value ∙ c.in-Some-overwrites.is) c.hidden-then.result c.hidden-then.ensures
    c.args.first.now.items c.add_by.new.list.items c.requires.free (c.has_lane.ensures.0 c.if-not-has_lane.false) adds)
    c.add_by.ensures.adds

pub returns-in_default-clause-noted : goal.returns-in_default-clause-noted
returns-in_default-clause-noted c = noted_none (judged c.args.object.now) c.args.table.now
    (λ (p : Position). p ≡ c.args.position) c.args.trail.now c.args.first.now.items

pub returns-in_default-overwrites-clause-noted : goal.returns-in_default-overwrites-clause-noted
returns-in_default-overwrites-clause-noted c = noted_none (judged c.args.object.now) c.args.table.now
    (λ (p : Position). p ≡ c.args.position) c.args.trail.now c.args.first.now.items

pub returns-then-gives_way-clause-noted : goal.returns-then-gives_way-clause-noted
returns-then-gives_way-clause-noted c = noted_none (judged c.args.object.now) c.args.table.now
    (λ (p : Position). p ≡ c.args.position) c.args.trail.now c.args.first.now.items

pub returns-then-not-has_lane-clause-noted : goal.returns-then-not-has_lane-clause-noted
returns-then-not-has_lane-clause-noted c = noted_none (judged c.args.object.now) c.args.table.now
    (λ (p : Position). p ≡ c.args.position) c.args.trail.now c.args.first.now.items

pub returns-clause-noted : goal.returns-clause-noted
returns-clause-noted c = on_ok_weaker c.add_by.result (λ adds. hide_noted (judged c.args.object.now) c.args.table.now
    (judged_lawful c.args.object.now) c.args.source c.args.lane c.args.position c.hidden-then.result (record {
      begun = c.in-Some.begun;
      number = c.in-Some-overwrites.left;
      is_open = sym c.open_in.ensures ∙ c.in-Some.is;
      overwrites = sym c.overwrites.ensures.value ∙ c.in-Some-overwrites.is;
      free = c.requires.free;
      hidden = c.hidden-then.ensures;
      answers = inr (c.has_lane.ensures.0 c.if-not-has_lane.false);
    }) c.args.trail.now c.add_by.new.trail c.args.first.now.items c.add_by.new.list.items adds) c.add_by.ensures.noted
